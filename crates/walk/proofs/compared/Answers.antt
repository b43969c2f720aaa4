-- `compared` says what the walk of the whole product tells. Assumes nothing.
use mathlib.Core.Path.{ap}
use native.Mathlib.Omega.{arith}
use Rattle.walk.specs.Told.{way}
use Rattle.walk.proofs.Telling.{tells_same, tells_more, tells_difference}
use Rattle.walk.proofs.compared.Goals as goal

pub returns-in-Ok : goal.returns-in-Ok
returns-in-Ok g c = tells_more c.requires c.whole.ensures c.count.ensures (ap (way g.T.Term.value) c.in-Ok.is) (omega arith) c.at.ensures

pub returns-in-Ok-2 : goal.returns-in-Ok-2
returns-in-Ok-2 g c = tells_same c.requires c.whole.ensures c.count.ensures (ap (way g.T.Term.value) c.in-Ok.is) (omega arith)

pub returns-in-Err : goal.returns-in-Err
returns-in-Err g c = tells_difference c.requires c.whole.ensures g.T.Term.value c.in-Err.difference (ap (way g.T.Term.value) c.in-Err.is)
