-- `runs::clash` is what `balance` gives of the first terms. Assumes nothing.
use Rattle.runs.proofs.clash.Goals as goal

pub returns : goal.returns
returns g c = cc
