-- `runs::matched` compares two lists term by term. The invariant: at all places passed the two products are one. The measure is what is
-- left of the length. Assumes nothing.
use Prim.Native.Nat.{◌%◌, ◌^◌}
use mathlib.Core.Path.{◌≡◌, sym, ◌∙◌}
use borrow.Author.Count.{below_more}
use borrow.Author.Tests.{eqb-true, eqb-false}
use lib.Dec.{eqb}
use lib.ListN.{get_or}
use Rattle.ring.specs.Ends.{imbalance}
use Rattle.runs.proofs.Facts.{even_by_mask, uneven_by_mask, unmatched_by_length, unmatched_at, matched_everywhere}
use native.Mathlib.Omega.{arith}
use Rattle.runs.proofs.matched.Goals as goal

pub returns-then-n-count : goal.returns-then-n-count
returns-then-n-count g c =
    let a = c.args in
    unmatched_by_length a.k (g.T.Term.value a.u) (g.T.Term.value a.v) (g.T.Term.numbers a.d.now) (g.T.Term.numbers a.c.now)
    (λ e. c.if-n-count.true (cc))

pub loop-i-init : goal.loop-i-init
loop-i-init g c = (omega arith, cc, cc, λ j h. absurd (omega arith))

pub returns-then-not-empty : goal.returns-then-not-empty
returns-then-not-empty g c =
    -- what the test tells: whether anything is left of the mask below bit k
    let told : let a = c.args in let i = c.loop-i.i in c.empty.result ≡ eqb (imbalance (g.T.Term.value a.u) (get_or (g.T.Term.numbers a.d.now) i 0) (g.T.Term.value a.v) (get_or (g.T.Term.numbers a.c.now) i 0) % 2 ^ a.k) 0 = cc in
    let a = c.args in
    let i = c.loop-i.i in
    unmatched_at a.k (g.T.Term.value a.u) (g.T.Term.value a.v) (g.T.Term.numbers a.d.now) (g.T.Term.numbers a.c.now) i (omega arith) (omega arith)
    (uneven_by_mask a.k (g.T.Term.value a.u) (get_or (g.T.Term.numbers a.d.now) i 0) (g.T.Term.value a.v) (get_or (g.T.Term.numbers a.c.now) i 0)
    (eqb-false _ _ (sym told ∙ c.if-not-empty.true)))

pub loop-i-preserved : goal.loop-i-preserved
loop-i-preserved g c =
    -- what the test tells: whether anything is left of the mask below bit k
    let told : let a = c.args in let i = c.loop-i.i in c.empty.result ≡ eqb (imbalance (g.T.Term.value a.u) (get_or (g.T.Term.numbers a.d.now) i 0) (g.T.Term.value a.v) (get_or (g.T.Term.numbers a.c.now) i 0) % 2 ^ a.k) 0 = cc in
    let a = c.args in
    let i = c.loop-i.i in
    let inv = c.loop-i.invariant in (
      omega arith,
      inv.1,
      inv.2,
      below_more _ _ inv.3 (even_by_mask a.k (g.T.Term.value a.u) (get_or (g.T.Term.numbers a.d.now) i 0) (g.T.Term.value a.v) (get_or (g.T.Term.numbers a.c.now) i 0)
          (eqb-true _ _ (sym told ∙ c.if-not-empty.false))),
    )

pub returns : goal.returns
returns g c =
    let inv = c.loop-i.invariant in
    let a = c.args in
    matched_everywhere a.k (g.T.Term.value a.u) (g.T.Term.value a.v) (g.T.Term.numbers a.d.now) (g.T.Term.numbers a.c.now) inv.2 (λ i h. inv.3 i (omega arith))
