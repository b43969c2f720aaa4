-- `whole` walks a row where a list has one term, and else the list that varies by more by its runs. Assumes nothing.
use Rattle.unions.proofs.Parting.{second_varies}
use Rattle.walk.proofs.Telling.{row_whole, column_whole, second_whole}
use Rattle.walk.proofs.whole.Goals as goal

pub returns-then-count-eq1 : goal.returns-then-count-eq1
returns-then-count-eq1 g c = search row_whole

pub returns-then-count-eq1-2 : goal.returns-then-count-eq1-2
returns-then-count-eq1-2 g c = search column_whole

pub along-requires-2-clause-wider : goal.along-requires-2-clause-wider
along-requires-2-clause-wider g c = second_varies c.requires c.span-x.ensures c.span-y.ensures c.less.ensures c.count.ensures c.if-count-eq1.false c.if-less.false

pub returns : goal.returns
returns g c = search second_whole
