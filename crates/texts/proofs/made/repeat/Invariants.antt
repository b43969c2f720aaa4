-- `made::repeat` reads below what the text has already: it grows by a byte each time. Assumes nothing.
use Rattle.std.proofs.Common.{◌≡◌, ◌+◌, length}
use Rattle.texts.proofs.made.repeat.Given as goal

abbrev pub invariant-loop-i : goal.invariant-loop-i
invariant-loop-i l = length l.text.items ≡ length l.initial.text.items + l.i
