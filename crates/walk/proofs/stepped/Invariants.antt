-- `stepped` walks a row beside the list. The invariant: the walk of the whole row is that of what is left of it. Assumes nothing.
use Prim.Native.Nat.{◌≤◌, ◌+◌}
use Rattle.walk.proofs.Walking.{Left}
use Rattle.walk.proofs.stepped.Given as goal

abbrev pub invariant-loop-i : goal.invariant-loop-i
invariant-loop-i g l = (l.at + l.i ≤ l.m) × Left (g.T.Term.value l.t) (g.T.Term.numbers l.b) (g.T.Term.numbers l.f) l.at l.i
