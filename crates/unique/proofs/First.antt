-- What the first of the parts of f is: the projection onto the smallest closed set that holds the lowest variable of f.
-- Leans on splitting: a product is closed along the variables of a factor, and projections of closed lists are closed.
use mathlib.Core.Path.{◌≡◌, refl, sym, ap, ap₂, ◌∙◌, subst}
use mathlib.Core.Bool.{Bool, true, false, ◌&&◌, ◌||◌, true≢false}
use mathlib.Core.Logic.{◌⊎◌, inl, inr, ⊎_elim, by_cases}
use mathlib.Core.List.{List, [], ◌∷◌}
use Prim.Native.Nat.{ℕ, ◌≤◌}
use native.Mathlib.Nat.{lt_of_not-le}
use native.Mathlib.Decide.{ℕ_discrete, dec_le}
use lib.Bits.{bit_and, bit_or}
use Rattle.masks.specs.Bit.{bit}
use Rattle.masks.proofs.Bits.{bit_and_lem, bit_or_lem, bit_zero}
use Rattle.masks.proofs.Reflect.{identity, ∅, ◌∪◌, ◌≐◌, ∴◌, ◌⇒◌}
use Rattle.masks.proofs.Lowest.{IsLowest}
use Rattle.polys.specs.List.{Asc}
use Rattle.polys.specs.Poly.{vars, onto, off, times, Apart, Irreducible}
use Rattle.polys.specs.Parts.{product, Each, Lower, IsParts}
use Rattle.splitting.specs.Mix.{Closed}
use Rattle.splitting.proofs.Splits.{splits_of_closed, closed_product}
use Rattle.splitting.proofs.Image.{closed_onto, onto_product, off_product}
use Rattle.splitting.proofs.Products.{each_map, part_has_term, product_asc, product_has_term, product_cons, apart_from_product, vars_product_cons, vars_product_none}

-- ---- a closed set holds all of an irreducible part or nothing of it

pub all_or_nothing : (p : List ℕ) (z : ℕ) → Asc p → Irreducible p → Closed z p → (bit_and z (vars p) ≡ 0) ⊎ (bit_and z (vars p) ≡ vars p)
all_or_nothing p z asc i closed = pick (ℕ_discrete (bit_and z (vars p)) 0) (ℕ_discrete (bit_and z (vars p)) (vars p))
  where
    pick : Dec (bit_and z (vars p) ≡ 0) → Dec (bit_and z (vars p) ≡ vars p) → (bit_and z (vars p) ≡ 0) ⊎ (bit_and z (vars p) ≡ vars p)
    pick (yes e) d = inl e
    pick (no n) (yes e) = inr e
    pick (no n) (no m) = absurd (i.whole z n m (splits_of_closed z p asc closed))

-- ---- a variable that no part has, the product has not

pub bit_of_product : (i : ℕ) (ps : List (List ℕ)) → Each Irreducible ps → Each (λ q. bit (vars q) i ≡ false) ps → bit (vars (product ps)) i ≡ false
bit_of_product i [] e h = ap (λ m. bit m i) vars_product_none ∙ bit_zero i
bit_of_product i (p ∷ ps) e h =
    ap (λ m. bit m i) (vars_product_cons p ps e.0 e.1) ∙ bit_or_lem (vars p) (vars (product ps)) i
    ∙ ap₂ ◌||◌ h.0 (bit_of_product i ps e.1 h.1)

-- ---- the first part and the rest as projections

module _ (p : List ℕ) (ps : List (List ℕ)) (f : List ℕ) (parts : IsParts f (p ∷ ps)) where
  pub rest_is_parts : IsParts (product ps) ps
  rest_is_parts =
      record { ascending = parts.ascending.1; irreducible = parts.irreducible.1; apart = parts.apart.1; multiply = refl; ordered = parts.ordered.1 }

  pub apart_rest : Apart p (product ps)
  apart_rest = apart_from_product (vars p) ps parts.irreducible.1 parts.apart.0

  pub is_product : times p (product ps) ≡ f
  is_product = sym (product_cons p ps) ∙ parts.multiply

  pub first_is_projection : onto (vars p) f ≡ p
  first_is_projection =
      let t = product_has_term ps parts.irreducible.1 in
      ap (onto (vars p)) (sym is_product) ∙ onto_product p (product ps) apart_rest t.0 parts.ascending.0 t.1

  pub rest_is_projection : off (vars p) f ≡ product ps
  rest_is_projection =
      let s = part_has_term p parts.irreducible.0 in
      ap (off (vars p)) (sym is_product) ∙ off_product p (product ps) apart_rest s.0 (product_asc ps) s.1

  pub closed_first : Closed (vars p) f
  closed_first = subst (Closed (vars p)) is_product (closed_product p (product ps) apart_rest)

  -- every closed set that has a variable of the first part holds all of it
  pub first_is_smallest : (z i : ℕ) → Closed z f → bit z i ≡ true → bit (vars p) i ≡ true → bit_and z (vars p) ≡ vars p
  first_is_smallest z i closed hz hp =
      ⊎_elim (λ e. absurd (true≢false (sym both ∙ ap (λ m. bit m i) e ∙ bit_zero i))) (λ e. e)
      (all_or_nothing p z parts.ascending.0 parts.irreducible.0
      (subst (Closed z) first_is_projection (closed_onto z (vars p) f closed)))
    where
      both : bit (bit_and z (vars p)) i ≡ true
      both = bit_and_lem z (vars p) i ∙ ap₂ ◌&&◌ hz hp

  -- ---- the lowest variable of f stands in the first part

  pub vars_of_whole : vars f ≡ bit_or (vars p) (vars (product ps))
  vars_of_whole = ap vars (sym parts.multiply) ∙ vars_product_cons p ps parts.irreducible.0 parts.irreducible.1

  pub whole_varies : ¬ (vars f ≡ 0)
  whole_varies e = parts.irreducible.0.varies (left (vars p) (vars (product ps)) (sym vars_of_whole ∙ e))
    where
      left : (v w : ℕ) → bit_or v w ≡ 0 → v ≡ 0
      left = identity 2 (λ v w. v ∪ w ≐ ∅ ⇒ ∴ v ≐ ∅) tt

  pub lowest_in_first : (i : ℕ) → IsLowest (vars f) i → bit (vars p) i ≡ true
  lowest_in_first i low = go (bit (vars p) i) refl
    where
      in_whole : (k : ℕ) → bit (vars p) k ≡ true → bit (vars f) k ≡ true
      in_whole k h = ap (λ m. bit m k) vars_of_whole ∙ bit_or_lem (vars p) (vars (product ps)) k ∙ ap (λ b. b || bit (vars (product ps)) k) h

      in_product : bit (vars p) i ≡ false → bit (vars (product ps)) i ≡ true
      in_product e =
          sym (sym low.0 ∙ ap (λ m. bit m i) vars_of_whole ∙ bit_or_lem (vars p) (vars (product ps)) i
          ∙ ap (λ b. b || bit (vars (product ps)) i) e)

      refute : Each (λ q. bit (vars q) i ≡ false) ps
      refute = each_map (Lower p) (λ q. bit (vars q) i ≡ false) (λ q l. l.2 i (above l.0 l.1)) ps parts.ordered.0
        where
          above : (k : ℕ) → bit (vars p) k ≡ true → i ≤ k
          above k h = by_cases (dec_le i k) (λ l. l) (λ n. absurd (true≢false (sym (in_whole k h) ∙ low.1 k (lt_of_not-le n))))

      go : (b : Bool) → bit (vars p) i ≡ b → bit (vars p) i ≡ true
      go true e = e
      go false e = absurd (true≢false (sym (in_product e) ∙ bit_of_product i ps parts.irreducible.1 refute))
