-- `stepped` walks a row beside the list. The invariant: the walk of the whole row is that of what is left of it. Assumes nothing.
use native.Mathlib.Omega.{arith}
use Rattle.walk.proofs.Walking.{row_ends, row_lacks, row_adds, row_on, row_done}
use Rattle.walk.proofs.stepped.Goals as goal
use Rattle.walk.proofs.stepped.Goals.{then-m-place-via-then-m-place, then-m-place-via-else-m-place+then-less}

pub returns-then-m-place : goal.returns-then-m-place
returns-then-m-place g c =
    elim c.then-m-place.branch [
      | then-m-place-via-then-m-place q ↦ search row_ends
      | then-m-place-via-else-m-place+then-less q ↦ search row_lacks
    ]

pub returns-then-less-2 : goal.returns-then-less-2
returns-then-less-2 g c = search row_adds

pub loop-i-preserved : goal.loop-i-preserved
loop-i-preserved g c = (omega arith, search row_on)

pub returns : goal.returns
returns g c = row_done _ _ _ _ c.loop-i.i _ c.count-n.ensures (omega arith) c.loop-i.invariant.1
