-- Products of lists of parts: what holds of each part, the product's terms, order and variables, and the variables of the parts in it.
-- Leans on the laws of times.
use mathlib.Core.Path.{◌≡◌, refl, ap, ◌∙◌}
use mathlib.Core.Logic.{inl}
use mathlib.Core.List.{List, [], ◌∷◌}
use Prim.Native.Nat.{ℕ}
use lib.Bits.{bit_and, bit_or}
use Rattle.masks.proofs.Reflect.{identity, ∅, ◌∩◌, ◌∪◌, ◌≐◌, ◌⊆◌, apart, ∴◌, ◌⇒◌}
use Rattle.masks.proofs.Sets.{subset_or_left}
use Rattle.polys.specs.List.{Mem, Asc}
use Rattle.polys.specs.Poly.{vars, times, Irreducible}
use Rattle.polys.specs.Parts.{product, Each}
use Rattle.polys.proofs.Polys.{mem_times, times_asc, vars_nil, vars_one, vars_times}

-- ---- each part

pub each_map : (P Q : List ℕ → Type 0) → ((p : List ℕ) → P p → Q p) → (ps : List (List ℕ)) → Each P ps → Each Q ps
each_map P Q h [] e = tt
each_map P Q h (p ∷ ps) e = (h p e.0, each_map P Q h ps e.1)

-- ---- a part that varies has a term

pub has_term : (p : List ℕ) → ¬ (vars p ≡ 0) → (t : ℕ) × Mem p t
has_term [] h = absurd (h vars_nil)
has_term (t ∷ p) h = (t, inl refl)

pub part_has_term : (p : List ℕ) → Irreducible p → (t : ℕ) × Mem p t
part_has_term p i = has_term p i.varies

-- ---- the product

pub product_none : product [] ≡ 0 ∷ []
unfolding product
product_none = refl

pub product_cons : (p : List ℕ) (ps : List (List ℕ)) → product (p ∷ ps) ≡ times p (product ps)
unfolding product
product_cons p ps = refl

pub product_asc : (ps : List (List ℕ)) → Asc (product ps)
unfolding product
product_asc [] = (tt, tt)
product_asc (p ∷ ps) = times_asc p (product ps)

pub product_has_term : (ps : List (List ℕ)) → Each Irreducible ps → (t : ℕ) × Mem (product ps) t
unfolding product
product_has_term [] e = (0, inl refl)
product_has_term (p ∷ ps) e =
    let s = part_has_term p e.0 in
    let t = product_has_term ps e.1 in
    (bit_or s.0 t.0, mem_times p (product ps) s.0 t.0 s.1 t.1)

pub vars_product_none : vars (product []) ≡ 0
unfolding product
vars_product_none = vars_one

pub vars_product_cons : (p : List ℕ) (ps : List (List ℕ)) → Irreducible p → Each Irreducible ps
    → vars (product (p ∷ ps)) ≡ bit_or (vars p) (vars (product ps))
unfolding product
vars_product_cons p ps i e =
    let s = part_has_term p i in
    let t = product_has_term ps e in
    vars_times p (product ps) s.0 t.0 s.1 t.1

-- the variables of each part are variables of the product
pub each_in_product : (ps : List (List ℕ)) → Each Irreducible ps → Each (λ p. bit_and (vars p) (vars (product ps)) ≡ vars p) ps
each_in_product [] e = tt
each_in_product (p ∷ ps) e = (
  ap (bit_and (vars p)) (vars_product_cons p ps e.0 e.1) ∙ subset_or_left (vars p) (vars (product ps)),
  each_map (λ q. bit_and (vars q) (vars (product ps)) ≡ vars q) (λ q. bit_and (vars q) (vars (product (p ∷ ps))) ≡ vars q)
      (λ q h. ap (bit_and (vars q)) (vars_product_cons p ps e.0 e.1) ∙ right (vars q) (vars p) (vars (product ps)) h) ps
      (each_in_product ps e.1),
)
  where
    right : (q v w : ℕ) → bit_and q w ≡ q → bit_and q (bit_or v w) ≡ q
    right = identity 3 (λ q v w. q ⊆ w ⇒ ∴ q ⊆ v ∪ w) tt

-- a set apart from each part is apart from the product
pub apart_from_product : (v : ℕ) (ps : List (List ℕ)) → Each Irreducible ps → Each (λ p. bit_and v (vars p) ≡ 0) ps
    → bit_and v (vars (product ps)) ≡ 0
apart_from_product v [] i e = ap (bit_and v) vars_product_none ∙ identity 1 (λ v. ∴ v ∩ ∅ ≐ ∅) tt v
apart_from_product v (p ∷ ps) i e =
    ap (bit_and v) (vars_product_cons p ps i.0 i.1)
    ∙ both v (vars p) (vars (product ps)) e.0 (apart_from_product v ps i.1 e.1)
  where
    both : (v p q : ℕ) → bit_and v p ≡ 0 → bit_and v q ≡ 0 → bit_and v (bit_or p q) ≡ 0
    both = identity 3 (λ v p q. apart v p ⇒ apart v q ⇒ ∴ apart v (p ∪ q)) tt

-- a set apart from the product is apart from each part
pub apart_from_each : (v : ℕ) (ps : List (List ℕ)) → Each Irreducible ps → bit_and v (vars (product ps)) ≡ 0
    → Each (λ p. bit_and v (vars p) ≡ 0) ps
apart_from_each v ps i e =
    each_map (λ p. bit_and (vars p) (vars (product ps)) ≡ vars p) (λ p. bit_and v (vars p) ≡ 0)
    (λ p h. out v (vars p) (vars (product ps)) h e) ps (each_in_product ps i)
  where
    out : (v p q : ℕ) → bit_and p q ≡ p → bit_and v q ≡ 0 → bit_and v p ≡ 0
    out = identity 3 (λ v p q. p ⊆ q ⇒ apart v q ⇒ ∴ apart v p) tt
