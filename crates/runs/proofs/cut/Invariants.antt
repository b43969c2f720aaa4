-- `runs::cut` halves the range in which the cut lies. The invariant: the cut lies in it. The measure is its length. Assumes nothing.
use Prim.Native.Nat.{◌≤◌, ◌-◌}
use lib.ListN.{length}
use Rattle.ring.specs.Run.{lacking}
use Rattle.runs.proofs.cut.Given as goal

abbrev pub invariant-loop-from : goal.invariant-loop-from
invariant-loop-from g l = (l.from ≤ length (lacking l.k (g.T.Term.numbers l.l))) × (length (lacking l.k (g.T.Term.numbers l.l)) ≤ l.to) × (l.to ≤ length (g.T.Term.numbers l.l))

abbrev pub decreases-loop-from : goal.decreases-loop-from
decreases-loop-from g l = l.to - l.from
