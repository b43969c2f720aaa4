-- `unions` writes a row where a list has one term, and else cuts the list that varies by more. Assumes nothing.
use Rattle.unions.proofs.Parting.{row_room, column_room, row_written, column_written, first_varies, second_varies, second_room, second_written}
use Rattle.unions.proofs.unions.Goals as goal

pub by_runs-requires : goal.by_runs-requires
by_runs-requires g c = record {
  out_len = c.requires.fits;
  wider = first_varies c.requires.factors c.span-x.ensures c.span-y.ensures c.less.ensures c.if-less.true;
}

pub by_runs-requires-else-less : goal.by_runs-requires-else-less
by_runs-requires-else-less g c =
    let wider = second_varies c.requires.factors c.span-x.ensures c.span-y.ensures c.less.ensures in
    record { out_len = second_room c.requires; wider = wider c.count.ensures c.if-count-eq1.false c.if-less.false }

pub row-requires : goal.row-requires
row-requires g c = search row_room

pub returns-then-count-eq1 : goal.returns-then-count-eq1
returns-then-count-eq1 g c = search row_written

pub row-requires-then-count-eq1-2 : goal.row-requires-then-count-eq1-2
row-requires-then-count-eq1-2 g c = search column_room

pub returns-then-count-eq1-2 : goal.returns-then-count-eq1-2
returns-then-count-eq1-2 g c = search column_written

pub returns-else-less : goal.returns-else-less
returns-else-less g c = search second_written
