-- `finish` meets its contract: nothing may stand behind the line feed. Assumes nothing.
use Rattle.scan.proofs.Sums.{not_the_end, the_end}
use Rattle.scan.proofs.finish.Goals as goal

pub returns-then-at-text : goal.returns-then-at-text
returns-then-at-text c = search not_the_end

pub returns : goal.returns
returns c = search the_end
