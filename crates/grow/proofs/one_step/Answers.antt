-- `grow::one_step` lays the list out and holds it against the product of what was picked (Standing). Assumes nothing.
use borrow.Author.Tests.{eqb-true, eqb-false}
use mathlib.Core.Path.{sym, ◌∙◌}
use Rattle.grow.proofs.Rooms.{front_lent}
use Rattle.grow.proofs.Standing.{picks_stand, whole_list, whole_if_none, ready_to_count, grows_as_said}
use Rattle.grow.proofs.one_step.Goals as goal

pub returns-then-same : goal.returns-then-same
returns-then-same g c =
    let v = g.T.Term.value in
    let n = g.T.Term.numbers in
    let laid = c.lay_whole in
    let a = c.args in
    let all = eqb-true (v a.y) (v a.all) (sym c.same.ensures ∙ c.if-same.true) in
    whole_list (n a.f.now) (v a.y) (v a.all) c.requires.0 all (n laid.new.inner) (n laid.new.outer) laid.result.part laid.result.rest laid.ensures

pub brought-d-requires : goal.brought-d-requires
brought-d-requires g c =
    let v = g.T.Term.value in
    let n = g.T.Term.numbers in
    let laid = c.lay_out-counts in
    let a = c.args in
    picks_stand (n a.f.now) (v a.y) (v a.all) (v c.off-w.result) c.off-w.ensures c.requires.0 (n laid.new.inner) (n laid.new.outer)
    laid.result.part laid.result.rest laid.ensures _ _
    (front_lent g.T.Term.laws laid.result.part c.words-part.result laid.new.inner c.words-part.ensures)
    (front_lent g.T.Term.laws laid.result.rest c.words-rest.result laid.new.outer c.words-rest.ensures)

pub returns-then-empty : goal.returns-then-empty
returns-then-empty g c =
    let v = g.T.Term.value in
    let n = g.T.Term.numbers in
    let laid = c.lay_out-counts in
    let a = c.args in
    let d = c.brought-d in
    let none = eqb-true (v d.result) 0 (sym c.empty.ensures ∙ c.if-empty.true) in
    whole_if_none (n a.f.now) (v a.y) (v a.all) (v c.off-w.result) c.off-w.ensures c.requires.0 (n laid.new.inner) (n laid.new.outer)
    laid.result.part laid.result.rest laid.ensures (v d.result) d.ensures none

pub counted-more-requires : goal.counted-more-requires
counted-more-requires g c =
    let v = g.T.Term.value in
    let n = g.T.Term.numbers in
    let a = c.args in
    ready_to_count (n a.f.now) (v a.y) (v a.all) (v c.off-w.result) c.off-w.ensures c.requires.0 (v c.brought-d.result) (v c.lowest.result)
    (v c.or.result) (v c.off.result) (n a.alone.now) c.requires.1 c.lowest.ensures c.or.ensures c.off.ensures

pub returns : goal.returns
returns g c =
    let v = g.T.Term.value in
    let a = c.args in
    let d = c.brought-d in
    let some = eqb-false (v d.result) 0 (sym c.empty.ensures ∙ c.if-empty.false) in
    grows_as_said (g.T.Term.numbers a.f.now) (v a.y) (v d.result) (v c.or.result) (v c.counted-more.result) (v c.or-2.result) d.ensures some
    c.or.ensures c.counted-more.ensures c.or-2.ensures
