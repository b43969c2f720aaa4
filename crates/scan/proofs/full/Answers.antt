-- `full` meets its contract: what begins another term shows TooMany, anything else Sign. Assumes nothing.
use Rattle.scan.proofs.Sums.{one_too_many, none_too_many}
use Rattle.scan.proofs.full.Goals as goal

pub returns-then-begins_term : goal.returns-then-begins_term
returns-then-begins_term c = search one_too_many

pub returns-else-begins_term : goal.returns-else-begins_term
returns-else-begins_term c = search none_too_many
