-- `runs::alike` compares two lists term by term. The invariant: all terms passed agree below bit k. The measure is what is left of the
-- length. Assumes nothing.
use Prim.Native.Nat.{◌%◌, ◌^◌}
use mathlib.Core.Path.{◌≡◌, sym, ◌∙◌}
use borrow.Author.Count.{below_more}
use borrow.Author.Tests.{eqb-true, eqb-false}
use lib.Dec.{eqb}
use lib.ListN.{get_or}
use Rattle.runs.proofs.Facts.{not_alike_by_length, not_alike_at, alike_everywhere}
use native.Mathlib.Omega.{arith}
use Rattle.runs.proofs.alike.Goals as goal

pub returns-then-n-count : goal.returns-then-n-count
returns-then-n-count g c =
    let a = c.args in
    not_alike_by_length a.k (g.T.Term.numbers a.a.now) (g.T.Term.numbers a.b.now) (λ e. c.if-n-count.true (cc))

pub loop-i-init : goal.loop-i-init
loop-i-init g c = (omega arith, cc, cc, λ j h. absurd (omega arith))

pub returns-then-not-same : goal.returns-then-not-same
returns-then-not-same g c =
    -- what the test of two terms tells
    let told : let a = c.args in let i = c.loop-i.i in c.same.result ≡ eqb (get_or (g.T.Term.numbers a.a.now) i 0 % 2 ^ a.k) (get_or (g.T.Term.numbers a.b.now) i 0 % 2 ^ a.k) = cc in
    let a = c.args in
    not_alike_at a.k (g.T.Term.numbers a.a.now) (g.T.Term.numbers a.b.now) c.loop-i.i (omega arith) (omega arith)
    (eqb-false _ _ (sym told ∙ c.if-not-same.true))

pub loop-i-preserved : goal.loop-i-preserved
loop-i-preserved g c =
    -- what the test of two terms tells
    let told : let a = c.args in let i = c.loop-i.i in c.same.result ≡ eqb (get_or (g.T.Term.numbers a.a.now) i 0 % 2 ^ a.k) (get_or (g.T.Term.numbers a.b.now) i 0 % 2 ^ a.k) = cc in
    let inv = c.loop-i.invariant in
    (omega arith, inv.1, inv.2, below_more _ _ inv.3 (eqb-true _ _ (sym told ∙ c.if-not-same.false)))

pub returns : goal.returns
returns g c =
    let inv = c.loop-i.invariant in
    let a = c.args in
    alike_everywhere a.k (g.T.Term.numbers a.a.now) (g.T.Term.numbers a.b.now) inv.2 (λ i h. inv.3 i (omega arith))
