-- No part holds both x and y exactly if the polynomial is closed under mixing along some set that holds x and not y. Leans on the theory of
-- parts: a closed set holds all of a part or nothing of it (unique), and a part's variables are a closed set.
use Prim.Native.Nat.{ℕ}
use mathlib.Core.Path.{◌≡◌, refl, sym, ap, ap₂, ◌∙◌, subst}
use mathlib.Core.Bool.{Bool, true, false, ◌&&◌, ◌||◌, true≢false, and-false}
use mathlib.Core.List.{List, [], ◌∷◌}
use lib.Bits.{bit_and, and_comm}
use Rattle.masks.specs.Bit.{bit}
use Rattle.masks.proofs.Bits.{bit_and_lem, bit_or_lem, bit_zero}
use Rattle.masks.proofs.Sets.{bit_of_subset}
use Rattle.polys.specs.Poly.{vars, onto, times, Apart}
use Rattle.polys.specs.Parts.{product, IsParts}
use Rattle.polys.proofs.Polys.{times_comm, apart_sym}
use Rattle.splitting.specs.Mix.{Closed}
use Rattle.splitting.proofs.Splits.{closed_from_onto, closed_product}
use Rattle.splitting.proofs.Image.{closed_off, onto_product}
use Rattle.splitting.proofs.Products.{part_has_term, product_asc, vars_product_none}
use Rattle.unique.proofs.First.{rest_is_parts, apart_rest, is_product, rest_is_projection, closed_first, first_is_smallest, vars_of_whole}
use Rattle.rule.specs.Rule.{Occurs, together}

-- f is closed along a set that holds x and not y
abbrev pub Separated : List ℕ → ℕ → ℕ → Type 0
Separated f x y = (z : ℕ) × Closed z f × (bit z x ≡ true) × (bit z y ≡ false)

-- what is closed in the rest, as far as it lies in its variables, is closed in the whole
closed_from_rest : (p : List ℕ) (ps : List (List ℕ)) (f : List ℕ) → IsParts f (p ∷ ps) → (z : ℕ) → Closed z (product ps)
    → Closed (bit_and z (vars (product ps))) f
closed_from_rest p ps f parts z closed =
    closed_from_onto z (vars (product ps)) f
    (subst (Closed (vars (product ps))) whole (closed_product (product ps) p turned))
    (subst (Closed z) (sym projection) closed)
  where
    turned : Apart (product ps) p
    turned = apart_sym p (product ps) (apart_rest p ps f parts)

    whole : times (product ps) p ≡ f
    whole = times_comm (product ps) p ∙ is_product p ps f parts

    projection : onto (vars (product ps)) f ≡ product ps
    projection =
        let t = part_has_term p parts.irreducible.0 in
        ap (onto (vars (product ps))) (sym whole) ∙ onto_product (product ps) p turned t.0 (product_asc ps) t.1

module _ (x y : ℕ) where
  pub separated_if_not_together : (ps : List (List ℕ)) (f : List ℕ) → IsParts f ps → Occurs x f → together x y ps ≡ false → Separated f x y
  unfolding together
  separated_if_not_together [] f parts occurs none =
      absurd (true≢false (sym occurs ∙ ap (λ m. bit m x) (ap vars (sym parts.multiply) ∙ vars_product_none) ∙ bit_zero x))
  separated_if_not_together (p ∷ ps) f parts occurs none =
      go (bit (vars p) x) refl (bit (vars p) y) refl (separated_if_not_together ps (product ps) (rest_is_parts p ps f parts))
    where
      in_rest : bit (vars p) x ≡ false → Occurs x (product ps)
      in_rest e =
          sym (sym occurs ∙ ap (λ m. bit m x) (vars_of_whole p ps f parts) ∙ bit_or_lem (vars p) (vars (product ps)) x
          ∙ ap (λ b. b || bit (vars (product ps)) x) e)

      go : (a : Bool) → bit (vars p) x ≡ a → (b : Bool) → bit (vars p) y ≡ b
          → (Occurs x (product ps) → together x y ps ≡ false → Separated (product ps) x y) → Separated f x y
      go true e true d later = absurd (true≢false (sym (ap₂ (λ u v. u && v || together x y ps) e d) ∙ none))
      go true e false d later = (vars p, closed_first p ps f parts, e, d)
      go false e b d later =
          let r = later (in_rest e) (sym (ap (λ u. u && bit (vars p) y || together x y ps) e) ∙ none) in (
            bit_and r.0 (vars (product ps)),
            closed_from_rest p ps f parts r.0 r.1,
            bit_and_lem r.0 (vars (product ps)) x ∙ ap₂ ◌&&◌ r.2 (in_rest e),
            bit_and_lem r.0 (vars (product ps)) y ∙ ap (λ u. u && bit (vars (product ps)) y) r.3,
          )

  pub not_together_if_separated : (ps : List (List ℕ)) (f : List ℕ) → IsParts f ps → Separated f x y → together x y ps ≡ false
  unfolding together
  not_together_if_separated [] f parts s = refl
  not_together_if_separated (p ∷ ps) f parts s =
      ap₂ ◌||◌ (go (bit (vars p) x) refl (bit (vars p) y) refl)
      (not_together_if_separated ps (product ps) (rest_is_parts p ps f parts)
      (s.0, subst (Closed s.0) (rest_is_projection p ps f parts) (closed_off s.0 (vars p) f s.1), s.2, s.3))
    where
      go : (a : Bool) → bit (vars p) x ≡ a → (b : Bool) → bit (vars p) y ≡ b → bit (vars p) x && bit (vars p) y ≡ false
      go true e true d =
          let inside : bit_and (vars p) s.0 ≡ vars p = and_comm (vars p) s.0 ∙ first_is_smallest p ps f parts s.0 x s.1 s.2 e in
          absurd (true≢false (sym (bit_of_subset (vars p) s.0 y inside d) ∙ s.3))
      go true e false d = ap (λ b. bit (vars p) x && b) d ∙ and-false (bit (vars p) x)
      go false e b d = ap (λ a. a && bit (vars p) y) e
