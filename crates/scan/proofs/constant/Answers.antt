-- `constant` meets its contract: behind `1` stands `+`, a line feed, or nothing that belongs there. Assumes nothing.
use Rattle.scan.proofs.Sums.{constant_ends, constant_goes_on}
use Rattle.scan.proofs.constant.Goals as goal

pub returns-then-ends_term : goal.returns-then-ends_term
returns-then-ends_term c = search constant_ends

pub returns-else-ends_term : goal.returns-else-ends_term
returns-else-ends_term c = search constant_goes_on
