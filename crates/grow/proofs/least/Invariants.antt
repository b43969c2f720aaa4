-- `grow::least` goes through the terms. The invariant: the least difference among those passed (Differences). Assumes nothing.
use Rattle.grow.proofs.Differences.{Seen}
use Rattle.grow.proofs.least.Given as goal

abbrev pub invariant-loop-i : goal.invariant-loop-i
invariant-loop-i g l = Seen (g.T.Term.numbers l.f) (g.T.Term.value l.y) (g.T.Term.value l.w) (g.T.Term.value l.on) (g.T.Term.value l.t) l.i (g.T.Term.value l.d)
