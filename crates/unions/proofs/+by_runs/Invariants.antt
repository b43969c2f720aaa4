-- `by_runs` writes the product of a list that varies by more with another, run by run. The measure is the number of terms of both lists.
-- Each answer is a law of Writing at the paths of its need. Assumes nothing.
use Prim.Native.Nat.{◌+◌, ◌-◌, ◌≤◌}
use lib.ListN.{length}
use mathlib.Core.Path.{◌≡◌}
use Rattle.unions.proofs.Writing.{SoFar}
use Rattle.unions.proofs.+by_runs.Given as goal

abbrev pub decreases-by_runs : goal.decreases-by_runs
decreases-by_runs g l = length (g.T.Term.numbers l.a.now) + length (g.T.Term.numbers l.b.now)

abbrev pub invariant-loop-at : goal.invariant-loop-at
invariant-loop-at g l = (l.at ≤ l.m) × (length l.out ≡ length l.initial.out) × SoFar (g.T.Term.numbers l.a) (g.T.Term.numbers l.b) l.n (g.T.Term.numbers l.out) l.at

abbrev pub decreases-loop-at : goal.decreases-loop-at
decreases-loop-at g l = l.m - l.at
