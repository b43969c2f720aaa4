-- `grow::brought` holds the list against the product of its picks, and asks for the least difference (Bringing). Assumes nothing.
use borrow.Author.Tests.{eqb-true, eqb-false}
use mathlib.Core.Path.{sym, ap, ◌∙◌, subst}
use Rattle.std.specs.Prelude.{Some}
use Rattle.polys.specs.Poly.{times}
use Rattle.walk.specs.Told.{Compared}
use Rattle.polys.specs.List.{Mem}
use Rattle.grow.proofs.Picked.{comparable, first_is_picked_from}
use Rattle.grow.proofs.Bringing.{agrees_if_term, brings_none, agrees_if_missing, brings_if_missing, brings_if_extra, brings_on_the_other_side}
use Rattle.grow.proofs.brought.Goals as goal

pub compared-requires : goal.compared-requires
compared-requires g c =
    let v = g.T.Term.value in
    let n = g.T.Term.numbers in
    let a = c.args in
    comparable (n a.f.now) (v a.y) (v a.w) (n a.inner.now) (n a.outer.now) c.requires

-- a term of the product that the list lacks
pub least-requires : goal.least-requires
least-requires g c =
    let v = g.T.Term.value in
    let n = g.T.Term.numbers in
    let a = c.args in
    let said = subst (Compared v (times (g.T.Term.numbers a.inner.now) (g.T.Term.numbers a.outer.now)) (g.T.Term.numbers a.f.now)) (c.in-Some-Missing.is ∙ ap Some c.in-Some-Missing.field-0-is) c.compared.ensures in
    agrees_if_missing (n a.f.now) (v a.y) (v a.w) (n a.inner.now) (n a.outer.now) c.requires (v c.in-Some-Missing.u) said.0 said.1

pub returns-in-Some-Missing : goal.returns-in-Some-Missing
returns-in-Some-Missing g c =
    let v = g.T.Term.value in
    let n = g.T.Term.numbers in
    let a = c.args in
    let said = subst (Compared v (times (g.T.Term.numbers a.inner.now) (g.T.Term.numbers a.outer.now)) (g.T.Term.numbers a.f.now)) (c.in-Some-Missing.is ∙ ap Some c.in-Some-Missing.field-0-is) c.compared.ensures in
    brings_if_missing (n a.f.now) (v a.y) (v a.w) (n a.inner.now) (n a.outer.now) c.requires (v c.in-Some-Missing.u) said.0 said.1 (v c.least.result) c.least.ensures

-- a term of the list that the product lacks
pub least-d-requires : goal.least-d-requires
least-d-requires g c =
    let v = g.T.Term.value in
    let a = c.args in
    let said = subst (Compared v (times (g.T.Term.numbers a.inner.now) (g.T.Term.numbers a.outer.now)) (g.T.Term.numbers a.f.now)) (c.in-Some-Extra.is ∙ ap Some c.in-Some-Extra.field-0-is) c.compared.ensures in
    agrees_if_term (g.T.Term.numbers a.f.now) (v a.y) (v a.w) c.requires.others (v c.in-Some-Extra.u) said.0

pub returns-then-not-empty : goal.returns-then-not-empty
returns-then-not-empty g c =
    let v = g.T.Term.value in
    let n = g.T.Term.numbers in
    let one = c.least-d in
    let a = c.args in
    let said = subst (Compared v (times (g.T.Term.numbers a.inner.now) (g.T.Term.numbers a.outer.now)) (g.T.Term.numbers a.f.now)) (c.in-Some-Extra.is ∙ ap Some c.in-Some-Extra.field-0-is) c.compared.ensures in
    let some = eqb-false (v one.result) 0 (sym c.empty.ensures ∙ c.if-not-empty.true) in
    brings_if_extra (n a.f.now) (v a.y) (v a.w) (n a.inner.now) (n a.outer.now) c.requires (v c.in-Some-Extra.u) said.0 said.1
    (v c.at-first.result) (v one.result) c.at-first.ensures one.ensures some

pub least-requires-in-Some-Extra : goal.least-requires-in-Some-Extra
least-requires-in-Some-Extra g c =
    let v = g.T.Term.value in
    let n = g.T.Term.numbers in
    let first = c.at-first in
    let a = c.args in
    let f = n a.f.now in
    agrees_if_term f (v a.y) (v a.w) c.requires.others (v first.result)
    (subst (Mem f) (sym first.ensures) (first_is_picked_from f (v a.y) (v a.w) (n a.inner.now) (n a.outer.now) c.requires))

pub returns-else-not-empty : goal.returns-else-not-empty
returns-else-not-empty g c =
    let v = g.T.Term.value in
    let n = g.T.Term.numbers in
    let one = c.least-d in
    let a = c.args in
    let said = subst (Compared v (times (g.T.Term.numbers a.inner.now) (g.T.Term.numbers a.outer.now)) (g.T.Term.numbers a.f.now)) (c.in-Some-Extra.is ∙ ap Some c.in-Some-Extra.field-0-is) c.compared.ensures in
    let none = eqb-true (v one.result) 0 (sym c.empty.ensures ∙ c.if-not-empty.false) in
    brings_on_the_other_side (n a.f.now) (v a.y) (v a.w) (n a.inner.now) (n a.outer.now) c.requires (v c.in-Some-Extra.u) said.0 said.1
    (v c.at-first.result) (v one.result) c.at-first.ensures one.ensures none (v c.least-in-Some-Extra.result) c.least-in-Some-Extra.ensures

-- no difference
pub returns-in-None : goal.returns-in-None
returns-in-None g c =
    let v = g.T.Term.value in
    let n = g.T.Term.numbers in
    let a = c.args in
    brings_none (n a.f.now) (v a.y) (v a.w) (n a.inner.now) (n a.outer.now) c.requires (v c.none.result) c.none.ensures c.in-None.ensures
