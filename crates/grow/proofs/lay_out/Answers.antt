-- `grow::lay_out` picks twice, in one pass. The invariant: what the terms passed give stands in the rooms (Laying). Assumes nothing.
use native.Mathlib.Omega.{arith}
use Prim.Native.Nat.{◌+◌}
use mathlib.Core.Path.{◌≡◌, refl, ap, ◌∙◌}
use mathlib.Core.Bool.{true, false}
use mathlib.Core.Logic.{◌⊎◌, inl, inr}
use lib.Bits.{bit_and}
use Rattle.grow.proofs.Laying.{half_none, half_more, laid_out}
use Rattle.grow.proofs.lay_out.Goals as goal
use Rattle.grow.proofs.lay_out.Goals.{then-same, else-same, then-same-2, else-same-2}

pub loop-i-init : goal.loop-i-init
loop-i-init g c =
    let a = c.args in
    let v = g.T.Term.value in
    let f = g.T.Term.numbers a.f.now in (
      refl,
      refl,
      half_none (v a.y) (v a.w) (v c.and-off.result) f (g.T.Term.numbers a.inner.now) c.requires.1,
      half_none (v a.w) (v a.y) (v c.and-on.result) f (g.T.Term.numbers a.outer.now) c.requires.2,
    )

pub loop-i-preserved : goal.loop-i-preserved
loop-i-preserved g c =
    let v = g.T.Term.value in
    let f = g.T.Term.numbers c.args.f.now in
    let here = c.loop-i in
    let a = c.args in
    let part = c.if-same.part in
    let rest = c.if-same-2.rest in
    let came_part : ((c.same.result ≡ true) × (part ≡ here.part + 1)) ⊎ ((c.same.result ≡ false) × (part ≡ here.part)) =
    elim c.if-same.branch [ then-same w ↦ inl (w.if-same.true, w.part-is) | else-same w ↦ inr (w.if-same.false, w.part-is) ]
    in
    let came_rest : ((c.same-in-loop-i.result ≡ true) × (rest ≡ here.rest + 1)) ⊎ ((c.same-in-loop-i.result ≡ false) × (rest ≡ here.rest)) =
    elim c.if-same-2.branch [ then-same-2 w ↦ inl (w.if-same-2.true, w.rest-is) | else-same-2 w ↦ inr (w.if-same-2.false, w.rest-is) ]
    in (
      c.put.auto.words ∙ here.invariant.0,
      c.put-in-loop-i.auto.words ∙ here.invariant.1,
      half_more (v a.y) (v a.w) (v c.and-off.result) f (g.T.Term.numbers here.inner) here.part here.i here.invariant.2 (omega arith)
          (g.T.Term.numbers c.put.new.words) (v c.at-t.result) (v c.and-inside.result) (v c.and-outside.result) part c.same.result
          c.at-t.ensures c.and-inside.ensures c.and-outside.ensures c.put.ensures c.same.ensures came_part,
      half_more (v a.w) (v a.y) (v c.and-on.result) f (g.T.Term.numbers here.outer) here.rest here.i here.invariant.3 (omega arith)
          (g.T.Term.numbers c.put-in-loop-i.new.words) (v c.at-t.result) (v c.and-outside.result) (v c.and-inside.result) rest c.same-in-loop-i.result
          c.at-t.ensures c.and-outside.ensures c.and-inside.ensures c.put-in-loop-i.ensures c.same-in-loop-i.ensures came_rest,
    )

pub returns : goal.returns
returns g c =
    let v = g.T.Term.value in
    let here = c.loop-i in
    let a = c.args in
    laid_out (g.T.Term.numbers a.f.now) (v a.y) (v a.w) (v c.and-on.result) (v c.and-off.result) (g.T.Term.numbers here.inner)
    (g.T.Term.numbers here.outer) here.part here.rest here.i (omega arith) (c.and-on.ensures ∙ ap (λ u. bit_and u (v a.y)) c.at-first.ensures)
    (c.and-off.ensures ∙ ap (λ u. bit_and u (v a.w)) c.at-first.ensures) here.invariant.2 here.invariant.3
