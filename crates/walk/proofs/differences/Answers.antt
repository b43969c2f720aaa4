-- `differences` collects where a row and a list differ. The invariant: where nothing is collected the first i terms are alike.
-- Assumes nothing.
use Rattle.walk.proofs.Rows.{none_alike, more_alike, all_alike}
use Rattle.walk.proofs.differences.Goals as goal

pub loop-i-init : goal.loop-i-init
loop-i-init g c = search none_alike

pub loop-i-preserved : goal.loop-i-preserved
loop-i-preserved g c = search more_alike

pub returns : goal.returns
returns g c = search all_alike
