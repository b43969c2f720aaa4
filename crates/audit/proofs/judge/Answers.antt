-- `audit::judge` splits, and says whether words and lengths agree. Assumes nothing.
use Rattle.audit.proofs.Passing.{split_passed}
use Rattle.audit.proofs.Judging.{judged}
use Rattle.audit.proofs.judge.Goals as goal

pub split-parts-requires : goal.split-parts-requires
split-parts-requires c = search split_passed

pub returns-clause-judged : goal.returns-clause-judged
returns-clause-judged c = search (judged, c.split-parts.ensures.splits)
