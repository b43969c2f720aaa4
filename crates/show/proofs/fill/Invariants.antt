-- `show::fill` meets its contract: each place that was passed has its index. Assumes nothing.
use Rattle.std.proofs.Common.{◌≡◌, ℕ, ◌<◌, get_or}
use Rattle.show.specs.Lists.{moved_up}
use Rattle.show.proofs.fill.Given as goal

abbrev pub invariant-loop-i : goal.invariant-loop-i
invariant-loop-i l = (k : ℕ) → k < l.i → get_or l.terms k 0 ≡ moved_up l.shift k
