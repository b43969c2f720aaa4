-- A polynomial splits along y exactly if its terms are closed under mixing along y; and what a product with no common variable says of its
-- factors: it is closed along the variables of either.
-- Leans on the laws of members and variables of polys.
use mathlib.Core.Path.{◌≡◌, sym, ap, ap₂, ◌∙◌, subst}
use mathlib.Core.Logic.{◌↔◌}
use mathlib.Core.List.{List}
use Prim.Native.Nat.{ℕ}
use lib.Bits.{bit_and, bit_or}
use Rattle.masks.specs.Bit.{without}
use Rattle.masks.proofs.Reflect.{identity, ◌∩◌, ◌∪◌, ◌∖◌, ◌≐◌, ◌⊆◌, apart, ∴◌, ◌⇒◌}
use Rattle.polys.specs.List.{Mem, Asc}
use Rattle.polys.specs.Poly.{vars, onto, off, times, Apart, SplitsAlong}
use Rattle.polys.proofs.Lists.{mem_subst}
use Rattle.polys.proofs.Polys.{mem_onto, onto_mem, mem_off, off_mem, Union, mem_times, times_mem, times_by_mem, vars_hold}
use Rattle.splitting.specs.Mix.{mix, Closed}
use Rattle.splitting.proofs.Mixing.{mixed}

-- ---- splitting is closure under mixing

union_in_closed : (y : ℕ) (f : List ℕ) → Closed y f → (x : ℕ) → Union (onto y f) (off y f) x → Mem f x
union_in_closed y f closed x u =
    let s = onto_mem y f u.0 u.2 in
    let t = off_mem y f u.1 u.3 in
    mem_subst f (mix y s.0 t.0) x (sym (u.4 ∙ ap₂ bit_or s.2 t.2)) (closed s.0 t.0 s.1 t.1)

pub splits_of_closed : (y : ℕ) (f : List ℕ) → Asc f → Closed y f → SplitsAlong y f
splits_of_closed y f asc closed =
    times_by_mem (onto y f) (off y f) f asc
    (λ x m. (bit_and x y, without y x, mem_onto y f x m, mem_off y f x m, whole y x))
    (union_in_closed y f closed)
  where
    whole : (y x : ℕ) → x ≡ bit_or (bit_and x y) (without y x)
    whole = identity 2 (λ y x. ∴ x ≐ mixed y x x) tt

pub closed_of_splits : (y : ℕ) (f : List ℕ) → SplitsAlong y f → Closed y f
closed_of_splits y f splits s t ms mt =
    subst (λ g. Mem g (mix y s t)) (sym splits)
    (mem_times (onto y f) (off y f) (bit_and s y) (without y t) (mem_onto y f s ms) (mem_off y f t mt))

pub splits_iff_closed : (y : ℕ) (f : List ℕ) → Asc f → SplitsAlong y f ↔ Closed y f
splits_iff_closed y f asc = (closed_of_splits y f, splits_of_closed y f asc)

-- ---- what splits the projection onto y, splits f, as far as it lies in y
pub closed_from_onto : (z y : ℕ) (f : List ℕ) → Closed y f → Closed z (onto y f) → Closed (bit_and z y) f
closed_from_onto z y f whole part s t ms mt =
    let u = onto_mem y f (mix z (bit_and s y) (bit_and t y)) (part (bit_and s y) (bit_and t y) (mem_onto y f s ms) (mem_onto y f t mt)) in
    mem_subst f (mix y u.0 t) (mix (bit_and z y) s t) (same y z s t u.0 u.2) (whole u.0 t u.1 mt)
  where
    same : (y z s t u : ℕ) → mix z (bit_and s y) (bit_and t y) ≡ bit_and u y → mix y u t ≡ mix (bit_and z y) s t
    same = identity 5 (λ y z s t u. mixed z (s ∩ y) (t ∩ y) ≐ u ∩ y ⇒ ∴ mixed y u t ≐ mixed (z ∩ y) s t) tt

-- ---- a product of lists with no common variable

module _ (g h : List ℕ) (no_common : Apart g h) where
  terms_in_place : (s t : ℕ) → Mem g s → Mem h t → (bit_and (bit_or s t) (vars g) ≡ s) × (without (vars g) (bit_or s t) ≡ t)
  terms_in_place s t ms mt = (
    inside s t (vars g) (vars h) (vars_hold g s ms) (vars_hold h t mt) no_common,
    outside s t (vars g) (vars h) (vars_hold g s ms) (vars_hold h t mt) no_common,
  )
    where
      inside : (s t v w : ℕ) → bit_and s v ≡ s → bit_and t w ≡ t → bit_and v w ≡ 0 → bit_and (bit_or s t) v ≡ s
      inside = identity 4 (λ s t v w. s ⊆ v ⇒ t ⊆ w ⇒ apart v w ⇒ ∴ (s ∪ t) ∩ v ≐ s) tt

      outside : (s t v w : ℕ) → bit_and s v ≡ s → bit_and t w ≡ t → bit_and v w ≡ 0 → without v (bit_or s t) ≡ t
      outside = identity 4 (λ s t v w. s ⊆ v ⇒ t ⊆ w ⇒ apart v w ⇒ ∴ (s ∪ t) ∖ v ≐ t) tt

  pub closed_product : Closed (vars g) (times g h)
  closed_product x z mx mz =
      let u = times_mem g h x mx in
      let w = times_mem g h z mz in
      mem_subst (times g h) (bit_or u.0 w.1) (mix (vars g) x z)
      (sym (ap₂ bit_or
      (ap (λ n. bit_and n (vars g)) u.4 ∙ (terms_in_place u.0 u.1 u.2 u.3).0)
      (ap (without (vars g)) w.4 ∙ (terms_in_place w.0 w.1 w.2 w.3).1)))
      (mem_times g h u.0 w.1 u.2 w.3)
