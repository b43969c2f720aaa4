-- `runs::turn` holds the first term against the last. Assumes nothing.
use Rattle.runs.proofs.turn.Goals as goal

pub returns : goal.returns
returns g c = cc
