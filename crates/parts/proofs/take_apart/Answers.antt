-- `parts::take_apart` leaves what acceptance asks. Assumes nothing.
use lib.ListN.{length}
use Rattle.parts.proofs.Passing.{some, list_fits, ready, parts_left}
use Rattle.parts.proofs.take_apart.Goals as goal

pub write_parts-count-requires : goal.write_parts-count-requires
write_parts-count-requires g c =
    let a = c.args in
    let o = a.outputs.now in
    ready 1024 g.T.Term.LINES (g.T.Term.numbers a.list.now) (length (g.T.Term.numbers o.terms.now)) (length o.lengths.now) (length (g.T.Term.numbers o.work.now)) c.requires
    c.count-t.result g.T.Term.LINES c.count-t.ensures (g.T.Term.numbers o.work.now) (g.T.Term.numbers c.put_off.new.room) (g.T.Term.value c.common-held.result)
    c.common-held.ensures (g.T.Term.laws.numbers_fit a.list.now (λ i. (c.type_inv.list i).fits)) c.put_off.ensures
    (g.T.Term.laws.numbers_same_length c.put_off.new.room o.work.now c.put_off.auto.room)

pub returns-clause-splits : goal.returns-clause-splits
returns-clause-splits g c =
    let a = c.args in
    let o = a.outputs.now in
    let words = c.put_off.new.room in
    let used = c.write_parts-count.new.work in
    parts_left 1024 g.T.Term.LINES (g.T.Term.numbers a.list.now) (g.T.Term.numbers o.terms.now) o.lengths.now (g.T.Term.numbers o.work.now) (g.T.Term.numbers words)
    (g.T.Term.numbers c.write_parts-count.new.part_terms) c.write_parts-count.new.part_lengths (g.T.Term.numbers used) (g.T.Term.numbers c.clear.new.work) (g.T.Term.value c.common-held.result)
    c.count-t.result c.write_parts-count.result c.count-t.ensures c.requires c.common-held.ensures c.put_off.ensures
    (g.T.Term.laws.numbers_same_length words o.work.now c.put_off.auto.room) c.write_parts-count.ensures
    (g.T.Term.laws.numbers_same_length used words c.write_parts-count.auto.work) c.clear.ensures

pub common-held-requires : goal.common-held-requires
common-held-requires g c = search some

pub put_off-requires : goal.put_off-requires
put_off-requires g c = search list_fits
