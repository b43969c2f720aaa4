-- `audit::split` counts what the call split counts. Assumes nothing.
use Rattle.audit.proofs.Judging.{counted_by_split}
use Rattle.audit.proofs.split.Goals as goal

pub returns-clause-splits : goal.returns-clause-splits
returns-clause-splits c = search (counted_by_split, c.split.ensures.ends)
