-- `put_terms` meets its contract: the terms are stored one behind the other, each with the byte behind it. Assumes nothing.
use Rattle.text.proofs.Writing.{Storing}
use Rattle.text.proofs.put_terms.Given as goal

abbrev pub invariant-loop-term : goal.invariant-loop-term
invariant-loop-term l = Storing l.terms l.initial.out l.out l.at l.term-index
