-- `run` counts the first terms that differ little from the first. Each answer is a law of Counting. Assumes nothing.
use Rattle.unions.proofs.Counting.{Near}
use Rattle.unions.proofs.run.Given as goal

abbrev pub invariant-loop-i : goal.invariant-loop-i
invariant-loop-i g l = Near (g.T.Term.numbers l.a) (g.T.Term.value l.d) l.i
