-- `runs::vary` joins what `turn` gives of the four lists. Assumes nothing.
use Rattle.runs.proofs.vary.Goals as goal

pub returns : goal.returns
returns g c = cc
