-- `terms::first_unordered`: the terms passed, and the rise that is left, are the first place out of order. Assumes nothing.
use native.Mathlib.Omega.{arith}
use borrow.Author.Tests.{ltb-true, ltb-false}
use Prim.Native.Nat.{ℕ, ◌≤◌, ◌<◌}
use mathlib.Core.Path.{sym, subst, ◌∙◌}
use Rattle.terms.proofs.Order.{unordered_of_none, unordered_from_first, rising_goes_on, rising_at_end, rising_stops}
use lib.ListN.{get_or}
use Rattle.terms.proofs.first_unordered.Goals as goal

pub returns-then-n-eq0 : goal.returns-then-n-eq0
returns-then-n-eq0 g c = sym (unordered_of_none (g.T.Term.numbers c.args.terms.now) (sym c.count-n.ensures ∙ c.if-n-eq0.true))

pub loop-i-init : goal.loop-i-init
loop-i-init g c =
    let terms = g.T.Term.numbers c.args.terms.now in
    let count = c.count-n.ensures in (
      count,
      omega arith,
      omega arith,
      rw c.at-last.ensures (unordered_from_first terms (omega (arith, count))),
    )

pub loop-i-preserved : goal.loop-i-preserved
loop-i-preserved g c =
    let last = g.T.Term.value c.loop-i.last in
    let terms = g.T.Term.numbers c.args.terms.now in
    let at = c.at-next.ensures in
    let above : last < get_or terms c.loop-i.i 0 =
    subst (λ (t : ℕ). last < t) at (ltb-true last _ (sym c.less.ensures ∙ c.if-not-less.false)) in
    let on = rising_goes_on last terms c.loop-i.i (omega arith) above in
    (c.loop-i.invariant.0, omega arith, omega arith, rw at (omega (arith, c.loop-i.invariant.3, on)))

pub returns-then-n-i : goal.returns-then-n-i
returns-then-n-i g c =
    let here = c.loop-i in
    let terms = g.T.Term.numbers c.args.terms.now in
    omega (arith, here.invariant.3, rising_at_end (g.T.Term.value here.last) terms here.i (omega arith))

pub returns-then-not-less : goal.returns-then-not-less
returns-then-not-less g c =
    let last = g.T.Term.value c.loop-i.last in
    let terms = g.T.Term.numbers c.args.terms.now in
    let low : get_or terms c.loop-i.i 0 ≤ last =
    subst (λ (t : ℕ). t ≤ last) c.at-next.ensures
    (ltb-false last _ (sym c.less.ensures ∙ c.if-not-less.true)) in
    omega (arith, c.loop-i.invariant.3, rising_stops last terms c.loop-i.i (omega arith) low)
