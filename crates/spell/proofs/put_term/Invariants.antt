-- `put_term` meets its contract: the names are stored one behind the other, from the lowest variable on. Assumes nothing.
use Rattle.spell.proofs.Spelling.{Writing}
use Rattle.spell.proofs.put_term.Given as goal

abbrev pub invariant-loop-variable : goal.invariant-loop-variable
invariant-loop-variable l = Writing l.initial.out l.from l.term l.out l.end l.yielded l.variable-iterator.0
