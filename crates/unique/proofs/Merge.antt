-- The parts of a product of two polynomials with no common variable are their parts, put in order of the lowest variable.
-- Leans on the algebra of times, and on the lowest variable of a mask.
use mathlib.Core.Path.{◌≡◌, refl, sym, ap, ◌∙◌, subst}
use mathlib.Core.Bool.{Bool, true, false, not, true≢false}
use mathlib.Core.Logic.{⊎_elim, by_cases}
use mathlib.Core.List.{List, [], ◌∷◌}
use Prim.Native.Nat.{ℕ, ◌^◌, ◌≤◌, ◌<◌}
use native.Mathlib.Nat.{pos_of_ne-zero, lt_of_not-le, le_of_lt, le_trans, lt_of_le_of_lt, not-le_of_lt, eq-or-lt_of_le}
use native.Mathlib.Decide.{dec_le}
use lib.Bits.{bit_and, bit_or}
use lib.Dec.{T, ltb, ltb→lt, nltb→le}
use lib.Pow.{pow_mono, pow-lt}
use Rattle.masks.specs.Bit.{bit}
use Rattle.masks.proofs.Reflect.{identity, ◌∪◌, apart, ∴◌, ◌⇒◌}
use Rattle.masks.proofs.Sets.{bit_of_apart}
use Rattle.masks.proofs.Lowest.{IsLowest, low_is_lowest}
use Rattle.polys.specs.List.{Mem, Asc}
use Rattle.polys.specs.Poly.{vars, times, Apart, Irreducible}
use Rattle.polys.specs.Parts.{product, Each, Lower, AllApart, InOrder, IsParts}
use Rattle.polys.proofs.Polys.{vars_times, times_comm, times_assoc, times_one_left, apart_sym}
use Rattle.splitting.proofs.Products.{each_map, product_asc, product_has_term, product_none, apart_from_each}
use Rattle.unique.specs.Merged.{lowest, either_parts, place, merged}
use Rattle.unique.proofs.First.{rest_is_parts, is_product, apart_rest, vars_of_whole}

-- ---- the order of the lowest variables

lower_from_lowest : (p q : List ℕ) (i k : ℕ) → IsLowest (vars p) i → IsLowest (vars q) k → i < k → Lower p q
lower_from_lowest p q i k a b l = (i, a.0, λ j m. b.1 j (lt_of_le_of_lt m l))

pub lower_trans : (p q r : List ℕ) → Lower p q → Lower q r → Lower p r
lower_trans p q r a b = (a.0, a.1, λ j m. b.2 j (le_trans m (le_of_lt below)))
  where
    below : a.0 < b.0
    below = lt_of_not-le (λ l. true≢false (sym b.1 ∙ a.2 b.0 l))

module _ (p q : List ℕ) (hp : Irreducible p) (hq : Irreducible q) (no_common : Apart p q) where
  low_p : (i : ℕ) × (lowest p ≡ 2 ^ i) × IsLowest (vars p) i
  low_p = low_is_lowest (vars p) (pos_of_ne-zero hp.varies)

  low_q : (i : ℕ) × (lowest q ≡ 2 ^ i) × IsLowest (vars q) i
  low_q = low_is_lowest (vars q) (pos_of_ne-zero hq.varies)

  different : low_q.0 ≡ low_p.0 → ⊥
  different e =
      true≢false (sym low_q.2.0 ∙ ap (bit (vars q)) e ∙ bit_of_apart (vars p) (vars q) low_p.0 no_common low_p.2.0)

  lower_if : lowest p < lowest q → Lower p q
  lower_if l =
      lower_from_lowest p q low_p.0 low_q.0 low_p.2 low_q.2
      (lt_of_not-le (λ m. not-le_of_lt l (subst (λ n. n ≤ lowest p) (sym low_q.1) (subst (λ n. 2 ^ low_q.0 ≤ n) (sym low_p.1) (pow_mono m)))))

  lower_if_not : lowest q ≤ lowest p → Lower q p
  lower_if_not l =
      lower_from_lowest q p low_q.0 low_p.0 low_q.2 low_p.2
      (by_cases (dec_le low_q.0 low_p.0) (λ m. ⊎_elim (λ e. absurd (different e)) (λ k. k) (eq-or-lt_of_le m))
      (λ n. absurd (not-le_of_lt (pow-lt (lt_of_not-le n)) (subst (λ x. 2 ^ low_q.0 ≤ x) low_p.1 (subst (λ x. x ≤ lowest p) low_q.1 l)))))

-- ---- a part put into its place

module _ (p : List ℕ) where
  each_place : (P : List ℕ → Type 0) (qs : List (List ℕ)) → P p → Each P qs → Each P (place p qs)
  unfolding place
  each_place P [] h e = (h, tt)
  each_place P (q ∷ qs) h e = go (ltb (lowest p) (lowest q)) (each_place P qs h e.1)
    where
      go : (b : Bool) → Each P (place p qs) → Each P (either_parts b (p ∷ q ∷ qs) (q ∷ place p qs))
      go true r = (h, e)
      go false r = (e.0, r)

  apart_place : (qs : List (List ℕ)) → Each (Apart p) qs → AllApart qs → AllApart (place p qs)
  unfolding place
  apart_place [] h e = (tt, tt)
  apart_place (q ∷ qs) h e = go (ltb (lowest p) (lowest q)) (apart_place qs h.1 e.1)
    where
      go : (b : Bool) → AllApart (place p qs) → AllApart (either_parts b (p ∷ q ∷ qs) (q ∷ place p qs))
      go true r = (h, e)
      go false r = (each_place (Apart q) qs (apart_sym p q h.0) e.0, r)

  order_place : (qs : List (List ℕ)) → Irreducible p → Each Irreducible qs → Each (Apart p) qs → InOrder qs → InOrder (place p qs)
  unfolding place
  order_place [] hp hq a o = (tt, tt)
  order_place (q ∷ qs) hp hq a o =
      go (ltb (lowest p) (lowest q)) (λ t. lower_if p q hp hq.0 a.0 (ltb→lt (lowest p) (lowest q) t))
      (λ t. lower_if_not p q hp hq.0 a.0 (nltb→le (lowest p) (lowest q) t)) (order_place qs hp hq.1 a.1 o.1)
    where
      go : (b : Bool) → (T b → Lower p q) → (T (not b) → Lower q p) → InOrder (place p qs) → InOrder (either_parts b (p ∷ q ∷ qs) (q ∷ place p qs))
      go true l m r = ((l tt, each_map (Lower q) (Lower p) (λ s k. lower_trans p q s (l tt) k) qs o.0), o)
      go false l m r = (each_place (Lower q) qs (m tt) o.0, r)

  product_place : (qs : List (List ℕ)) → product (place p qs) ≡ times p (product qs)
  unfolding place product
  product_place [] = refl
  product_place (q ∷ qs) = go (ltb (lowest p) (lowest q)) (product_place qs)
    where
      go : (b : Bool) → product (place p qs) ≡ times p (product qs)
          → product (either_parts b (p ∷ q ∷ qs) (q ∷ place p qs)) ≡ times p (times q (product qs))
      go true r = refl
      go false r =
          ap (times q) r ∙ sym (times_assoc q p (product qs)) ∙ ap (λ g. times g (product qs)) (times_comm q p) ∙ times_assoc p q (product qs)

pub place_is_parts : (p : List ℕ) (qs : List (List ℕ)) (h : List ℕ) → Asc p → Irreducible p → IsParts h qs → Apart p h → IsParts (times p h) (place p qs)
place_is_parts p qs h asc i parts a =
    record {
      ascending = each_place p Asc qs asc parts.ascending;
      irreducible = each_place p Irreducible qs i parts.irreducible;
      apart = apart_place p qs each parts.apart;
      multiply = product_place p qs ∙ ap (times p) parts.multiply;
      ordered = order_place p qs i parts.irreducible each parts.ordered;
    }
  where
    each : Each (Apart p) qs
    each = apart_from_each (vars p) qs parts.irreducible (ap (λ g. bit_and (vars p) (vars g)) parts.multiply ∙ a)

-- ---- the parts of a product

pub parts_asc : (h : List ℕ) (qs : List (List ℕ)) → IsParts h qs → Asc h
parts_asc h qs parts = subst Asc parts.multiply (product_asc qs)

pub parts_term : (h : List ℕ) (qs : List (List ℕ)) → IsParts h qs → (t : ℕ) × Mem h t
parts_term h qs parts = subst (λ g. (t : ℕ) × Mem g t) parts.multiply (product_has_term qs parts.irreducible)

pub parts_of_product : (g h : List ℕ) (ps qs : List (List ℕ)) → IsParts g ps → IsParts h qs → Apart g h → IsParts (times g h) (merged ps qs)
unfolding merged
parts_of_product g h [] qs P Q a =
    subst (λ f. IsParts f qs) (sym (ap (λ k. times k h) (sym P.multiply ∙ product_none) ∙ times_one_left h (parts_asc h qs Q))) Q
parts_of_product g h (p ∷ ps) qs P Q a =
    subst (λ f. IsParts f (place p (merged ps qs)))
    (sym (times_assoc p (product ps) h) ∙ ap (λ k. times k h) (is_product p ps g P))
    (place_is_parts p (merged ps qs) (times (product ps) h) P.ascending.0 P.irreducible.0
    (parts_of_product (product ps) h ps qs (rest_is_parts p ps g P) Q
    (right (vars p) (vars (product ps)) (vars h) (ap (λ v. bit_and v (vars h)) (sym (vars_of_whole p ps g P)) ∙ a)))
    (ap (bit_and (vars p)) rest_vars
    ∙ left (vars p) (vars (product ps)) (vars h) (ap (λ v. bit_and v (vars h)) (sym (vars_of_whole p ps g P)) ∙ a) (apart_rest p ps g P)))
  where
    rest_vars : vars (times (product ps) h) ≡ bit_or (vars (product ps)) (vars h)
    rest_vars =
        let s = product_has_term ps P.irreducible.1 in
        let t = parts_term h qs Q in
        vars_times (product ps) h s.0 t.0 s.1 t.1

    right : (v w h : ℕ) → bit_and (bit_or v w) h ≡ 0 → bit_and w h ≡ 0
    right = identity 3 (λ v w h. apart (v ∪ w) h ⇒ ∴ apart w h) tt

    left : (v w h : ℕ) → bit_and (bit_or v w) h ≡ 0 → bit_and v w ≡ 0 → bit_and v (bit_or w h) ≡ 0
    left = identity 3 (λ v w h. apart (v ∪ w) h ⇒ apart v w ⇒ ∴ apart v (w ∪ h)) tt
