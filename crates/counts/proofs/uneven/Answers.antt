-- `counts::uneven` counts the terms with x, and compares with the counts of all (Comparing). Assumes nothing.
use native.Mathlib.Omega.{arith}
use borrow.Author.Tests.{eqb-false}
use mathlib.Core.Path.{sym, ap, ◌∙◌}
use lib.ListN.{length}
use Rattle.masks.proofs.Lowest.{low_is_lowest}
use Rattle.counts.proofs.Comparing.{terms_room, ties, ties_none}
use Rattle.counts.proofs.Words.{empty_planes}
use Rattle.counts.proofs.uneven.Goals as goal

pub returns-then-empty : goal.returns-then-empty
returns-then-empty g c =
    let a = c.args in
    ties_none (g.T.Term.numbers a.f.now) (g.T.Term.value a.x) (g.T.Term.value a.among) (g.T.Term.value c.none.result) c.none.ensures

pub count-requires : goal.count-requires
count-requires g c =
    let a = c.args in
    let none = empty_planes g.T.Term.laws 16 c.words.result 32 c.words.ensures (omega arith) in
    (terms_room (g.T.Term.value a.x) (g.T.Term.numbers a.f.now) _ none c.requires.0, omega (arith, ap length none))

pub uneven_by-ties-requires : goal.uneven_by-ties-requires
uneven_by-ties-requires g c =
    let x = g.T.Term.value c.args.x in
    let some = eqb-false x 0 (sym c.empty.ensures ∙ c.if-empty.false) in
    let w = low_is_lowest x (omega arith) in (
      omega (arith, c.requires.0, c.count-n.ensures),
      c.count.ensures.size ∙ ap length (empty_planes g.T.Term.laws 16 c.words.result 32 c.words.ensures (omega arith)),
      c.requires.1.size,
      (w.0, c.lowest.ensures ∙ w.1),
    )

pub returns : goal.returns
returns g c =
    let a = c.args in
    let value = g.T.Term.value in
    let numbers = g.T.Term.numbers in
    let some = eqb-false (value a.x) 0 (sym c.empty.ensures ∙ c.if-empty.false) in
    ties (numbers a.f.now) (value a.x) (value a.among) c.count-n.result (value c.lowest.result) (value c.uneven_by-ties.result)
    (value c.and.result) _ (numbers c.count.new.planes) (numbers a.alone.now) c.count-n.ensures c.lowest.ensures c.and.ensures
    (empty_planes g.T.Term.laws 16 c.words.result 32 c.words.ensures (omega arith)) (omega arith) c.count.ensures c.requires.1
    c.uneven_by-ties.ensures
