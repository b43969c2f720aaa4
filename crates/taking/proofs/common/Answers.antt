-- `taking::common` keeps what each term passed holds. Assumes nothing.
use native.Mathlib.Omega.{arith}
use borrow.Author.Count.{below_more}
use Prim.Native.Nat.{ℕ, ◌<◌, ◌+◌}
use mathlib.Core.Path.{◌≡◌, sym, ap, subst, ◌∙◌}
use lib.Bits.{bit_and, and_self}
use lib.ListN.{get_or}
use Rattle.masks.proofs.Reflect.{identity, ◌∩◌, ◌⊆◌, ∴◌, ◌⇒◌}
use Rattle.taking.proofs.common.Goals as goal

less : (c t u : ℕ) → bit_and c u ≡ c → bit_and (bit_and c t) u ≡ bit_and c t
less = identity 3 (λ c t u. c ⊆ u ⇒ ∴ c ∩ t ⊆ u) tt

new : (c t : ℕ) → bit_and (bit_and c t) t ≡ bit_and c t
new = identity 2 (λ c t. ∴ c ∩ t ⊆ t) tt

first_only : (k : ℕ) → k < 1 → k ≡ 0
first_only k h = omega arith

pub loop-i-init : goal.loop-i-init
loop-i-init g c k h =
    let list = g.T.Term.numbers c.args.list.now in
    let held = g.T.Term.value c.at-held.result in
    ap (λ (j : ℕ). bit_and held (get_or list j 0)) (first_only k h) ∙ ap (bit_and held) (sym c.at-held.ensures) ∙ and_self held

pub loop-i-preserved : goal.loop-i-preserved
loop-i-preserved g c =
    let here = c.loop-i in
    let list = g.T.Term.numbers c.args.list.now in
    let held = g.T.Term.value here.held in
    let next = get_or list here.i 0 in
    let both : bit_and held next ≡ g.T.Term.value c.and-held.result = sym (c.and-held.ensures ∙ ap (bit_and held) c.at.ensures) in
    subst (λ (h : ℕ). (k : ℕ) → k < here.i + 1 → bit_and h (get_or list k 0) ≡ h) both
    (below_more (λ (k : ℕ). bit_and (bit_and held next) (get_or list k 0) ≡ bit_and held next) here.i
    (λ k h. less held next (get_or list k 0) (here.invariant k h)) (new held next))

pub returns : goal.returns
returns g c k h = c.loop-i.invariant k (omega arith)
