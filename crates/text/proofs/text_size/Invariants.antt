-- `text_size` meets its contract: each term takes its bytes and the one behind it. Assumes nothing.
use Rattle.text.proofs.Writing.{Sized}
use Rattle.text.proofs.text_size.Given as goal

abbrev pub invariant-loop-term : goal.invariant-loop-term
invariant-loop-term l = Sized l.terms l.size l.term-index
