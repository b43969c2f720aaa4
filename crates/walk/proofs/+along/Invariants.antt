-- `along` walks the product of a list that varies by more with another beside the list f, run by run. The measure is the number of terms
-- of both lists. Assumes nothing.
use Prim.Native.Nat.{◌+◌, ◌≤◌}
use lib.ListN.{length}
use Rattle.walk.proofs.Turns.{Goes}
use Rattle.walk.proofs.+along.Given as goal

abbrev pub decreases-along : goal.decreases-along
decreases-along g l = length (g.T.Term.numbers l.a.now) + length (g.T.Term.numbers l.b.now)

abbrev pub invariant-loop-rest : goal.invariant-loop-rest
invariant-loop-rest g l = (length l.rest ≤ length l.a) × Goes (g.T.Term.numbers l.a) (g.T.Term.numbers l.b) (g.T.Term.numbers l.f) l.start (g.T.Term.numbers l.rest) l.place

abbrev pub decreases-loop-rest : goal.decreases-loop-rest
decreases-loop-rest g l = length (g.T.Term.numbers l.rest)
