-- `taking::take_next`: the lowest variable is one that every term holds, or the list's part is taken out (Next). Assumes nothing.
use borrow.Author.Tests.{eqb-true, eqb-false}
use mathlib.Core.Path.{sym, ap, subst, ◌∙◌}
use Prim.Native.Nat.{ℕ}
use mathlib.Core.List.{List}
use lib.Dec.{eqb}
use lib.ListN.{take}
use Rattle.masks.proofs.Lowest.{low}
use Rattle.taking.specs.Steps.{TakenNext}
use Rattle.taking.proofs.Next.{next_held, next_found, list_varies}
use Rattle.taking.proofs.take_next.Goals as goal

pub returns-then-same : goal.returns-then-same
returns-then-same g c =
    let v = g.T.Term.value in
    let n = g.T.Term.numbers in
    let a = c.args in
    let x = v c.lowest-x.result in
    let is_lowest = c.lowest-x.ensures ∙ ap low c.or.ensures in
    let asked = c.same.ensures ∙ ap (λ (m : ℕ). eqb m x) c.and.ensures in
    subst (λ (room : List ℕ). TakenNext (v a.held) (take a.n (n a.work.now)) (n a.room.now) room (n a.work.now) a.n (v a.all) x 1 a.n) (sym c.put.ensures)
    (next_held (v a.held) (v a.all) (n a.work.now) a.n c.requires.0 c.requires.1 c.requires.2 x is_lowest
    (eqb-true _ x (sym asked ∙ c.if-same.true)) (n a.room.now) c.requires.3)

pub take_part-requires : goal.take_part-requires
take_part-requires g c =
    let v = g.T.Term.value in
    let a = c.args in
    let x = v c.lowest-x.result in
    let is_lowest = c.lowest-x.ensures ∙ ap low c.or.ensures in
    let asked = c.same.ensures ∙ ap (λ (m : ℕ). eqb m x) c.and.ensures in (
      c.requires.0,
      list_varies (v a.held) (v a.all) (g.T.Term.numbers a.work.now) a.n c.requires.0 c.requires.1 c.requires.2 x is_lowest
          (eqb-false _ x (sym asked ∙ c.if-same.false)),
      c.requires.3,
    )

pub returns : goal.returns
returns g c =
    let v = g.T.Term.value in
    let n = g.T.Term.numbers in
    let a = c.args in
    let x = v c.lowest-x.result in
    let part = c.take_part in
    let is_lowest = c.lowest-x.ensures ∙ ap low c.or.ensures in
    let asked = c.same.ensures ∙ ap (λ (m : ℕ). eqb m x) c.and.ensures in
    next_found (v a.held) (v a.all) (n a.work.now) a.n c.requires.0 c.requires.1 c.requires.2 x is_lowest
    (eqb-false _ x (sym asked ∙ c.if-same.false)) (n a.room.now) (n part.new.room) (n part.new.work) (v part.result.y)
    part.result.counts.part part.result.counts.rest part.ensures
