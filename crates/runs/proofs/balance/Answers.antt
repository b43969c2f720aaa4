-- `runs::balance` joins what stands once and what stands twice. Assumes nothing.
use Rattle.runs.proofs.balance.Goals as goal

pub returns : goal.returns
returns g c = cc
