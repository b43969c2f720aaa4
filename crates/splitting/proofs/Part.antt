-- The part of a variable: if y is the smallest closed set that holds the variable i, the projection onto y is irreducible; if i is the
-- lowest variable of f, that projection comes first among the parts of f, before the parts of what is left.
-- Leans on Splits and on the laws of products.
use mathlib.Core.Path.{◌≡◌, refl, sym, ap, ◌∙◌, subst}
use mathlib.Core.Bool.{Bool, true, false, not, ◌&&◌, true≢false, false≢true}
use mathlib.Core.Logic.{inl, ⊎_elim}
use mathlib.Core.List.{List, [], ◌∷◌}
use Prim.Native.Nat.{ℕ, ◌^◌, ◌≤◌, ◌<◌}
use native.Mathlib.Nat.{eq-or-lt_of_le}
use lib.Bits.{bit_and}
use Rattle.masks.specs.Bit.{bit, without}
use Rattle.masks.proofs.Bits.{bit_zero, bit_without}
use Rattle.masks.proofs.Reflect.{identity, ∅, ◌∩◌, ◌∖◌, ◌≐◌, ◌⊆◌, apart, ∴◌, ◌⇒◌}
use Rattle.masks.proofs.Sets.{bit_of_subset, bit_of_apart, power_subset}
use Rattle.masks.proofs.Lowest.{IsLowest}
use Rattle.polys.specs.List.{Mem, Asc}
use Rattle.polys.specs.Poly.{vars, onto, off, times, Apart, Irreducible}
use Rattle.polys.specs.Parts.{product, Each, Lower, IsParts}
use Rattle.polys.proofs.Lists.{mem_subst, asc_ext}
use Rattle.polys.proofs.Polys.{onto_asc, vars_hold, vars_onto, vars_off}
use Rattle.splitting.specs.Mix.{Closed}
use Rattle.splitting.proofs.Mixing.{closed_difference}
use Rattle.splitting.proofs.Forced.{Forced}
use Rattle.splitting.proofs.Splits.{closed_of_splits, splits_of_closed, closed_from_onto}
use Rattle.splitting.proofs.Products.{each_map, product_none, each_in_product}

-- ---- the smallest closed set that holds a variable

bit_or_not : (p q : Bool) → p ≡ true → q ≡ false → p && not q ≡ true
bit_or_not true true e f = absurd (true≢false f)
bit_or_not true false e f = refl
bit_or_not false q e f = absurd (false≢true e)

pub not_empty : (y i : ℕ) → bit y i ≡ true → ¬ (y ≡ 0)
not_empty y i h e = true≢false (sym h ∙ ap (λ m. bit m i) e ∙ bit_zero i)

module _ (y i : ℕ) (f : List ℕ) (within : bit_and y (vars f) ≡ y) (holds : bit y i ≡ true) where
  pub vars_of_part : vars (onto y f) ≡ y
  vars_of_part = vars_onto y f ∙ turned y (vars f) within
    where
      turned : (y v : ℕ) → bit_and y v ≡ y → bit_and v y ≡ y
      turned = identity 2 (λ y v. y ⊆ v ⇒ ∴ v ∩ y ≐ y) tt

  -- if y is closed and every closed set that holds i holds y, the projection onto y is irreducible
  pub irreducible_part : Closed y f → Forced i y f → Irreducible (onto y f)
  irreducible_part closed forced =
      record {
        varies = λ e. not_empty y i holds (sym vars_of_part ∙ e);
        whole = λ z some not_all splits.
            refute z (λ e. some (ap (bit_and z) vars_of_part ∙ e)) (λ e. not_all (ap (bit_and z) vars_of_part ∙ e ∙ sym vars_of_part))
            (closed_from_onto z y f closed (closed_of_splits z (onto y f) splits))
            (bit (bit_and z y) i) refl;
      }
    where
      all : (y z : ℕ) → bit_and y (bit_and z y) ≡ y → bit_and z y ≡ y
      all = identity 2 (λ y z. y ⊆ z ∩ y ⇒ ∴ z ∩ y ≐ y) tt

      none : (y z : ℕ) → bit_and y (without (bit_and z y) y) ≡ y → bit_and z y ≡ 0
      none = identity 2 (λ y z. y ⊆ y ∖ (z ∩ y) ⇒ ∴ z ∩ y ≐ ∅) tt

      refute : (z : ℕ) → ¬ (bit_and z y ≡ 0) → ¬ (bit_and z y ≡ y) → Closed (bit_and z y) f → (b : Bool) → bit (bit_and z y) i ≡ b → ⊥
      refute z some not_all part true e = not_all (all y z (forced (bit_and z y) part e))
      refute z some not_all part false e =
          some (none y z (forced (without (bit_and z y) y) (closed_difference f (bit_and z y) y part closed)
          (bit_without (bit_and z y) y i ∙ bit_or_not (bit y i) (bit (bit_and z y) i) holds e)))

-- ---- the part of the lowest variable comes first

module _ (f : List ℕ) (y i : ℕ) (asc : Asc f) (within : bit_and y (vars f) ≡ y) (holds : bit y i ≡ true)
    (lowest : IsLowest (vars f) i) (closed : Closed y f) (forced : Forced i y f) where
  -- with the parts of what is left they are the parts of f
  pub part_and_rest : (ps : List (List ℕ)) → IsParts (off y f) ps → IsParts f (onto y f ∷ ps)
  unfolding product
  part_and_rest ps parts =
      record {
        ascending = (onto_asc y f, parts.ascending);
        irreducible = (irreducible_part y i f within holds closed forced, parts.irreducible);
        apart = (
          each_map Inside (Apart (onto y f)) (λ p h. ap (λ v. bit_and v (vars p)) part_vars ∙ from_rest y (vars p) (vars f) h) ps inside,
          parts.apart,
        );
        multiply = ap (times (onto y f)) parts.multiply ∙ sym (splits_of_closed y f asc closed);
        ordered = (
          each_map Inside (Lower (onto y f))
              (λ p h. (i, ap (λ v. bit v i) part_vars ∙ holds, later p h)) ps inside,
          parts.ordered,
        );
      }
    where
      part_vars : vars (onto y f) ≡ y
      part_vars = vars_of_part y i f within holds

      -- the variables of a later part are variables of f outside y
      Inside : List ℕ → Type 0
      Inside p = bit_and (vars p) (without y (vars f)) ≡ vars p

      inside : Each Inside ps
      inside =
          subst (λ v. Each (λ p. bit_and (vars p) v ≡ vars p) ps) (ap vars parts.multiply ∙ vars_off y f)
          (each_in_product ps parts.irreducible)

      from_rest : (y p v : ℕ) → bit_and p (without y v) ≡ p → bit_and y p ≡ 0
      from_rest = identity 3 (λ y p v. p ⊆ v ∖ y ⇒ ∴ apart y p) tt

      in_all : (y p v : ℕ) → bit_and p (without y v) ≡ p → bit_and p v ≡ p
      in_all = identity 3 (λ y p v. p ⊆ v ∖ y ⇒ ∴ p ⊆ v) tt

      below : (p : List ℕ) → Inside p → (j : ℕ) → j < i → (b : Bool) → bit (vars p) j ≡ b → bit (vars p) j ≡ false
      below p h j l true e =
          absurd (true≢false (sym (bit_of_subset (vars p) (vars f) j (in_all y (vars p) (vars f) h) e) ∙ lowest.1 j l))
      below p h j l false e = e

      later : (p : List ℕ) → Inside p → (j : ℕ) → j ≤ i → bit (vars p) j ≡ false
      later p h j l =
          ⊎_elim (λ e. ap (bit (vars p)) e ∙ bit_of_apart y (vars p) i (from_rest y (vars p) (vars f) h) holds)
          (λ k. below p h j k (bit (vars p) j) refl) (eq-or-lt_of_le l)

-- the constant one has no parts, and is the only polynomial without variables that has a term
pub constant_one : (f : List ℕ) (t : ℕ) → Asc f → Mem f t → vars f ≡ 0 → f ≡ 0 ∷ []
constant_one f t asc m e =
    asc_ext f (0 ∷ []) asc (tt, tt) (λ x mx. inl (only x mx))
    (λ x mx. ⊎_elim (λ p. mem_subst f t x (only t m ∙ sym p) m) absurd mx)
  where
    only : (x : ℕ) → Mem f x → x ≡ 0
    only x mx = nothing x (vars f) (vars_hold f x mx) e
      where
        nothing : (x v : ℕ) → bit_and x v ≡ x → v ≡ 0 → x ≡ 0
        nothing = identity 2 (λ x v. x ⊆ v ⇒ v ≐ ∅ ⇒ ∴ x ≐ ∅) tt

pub no_parts : (f : List ℕ) (t : ℕ) → Asc f → Mem f t → vars f ≡ 0 → IsParts f []
no_parts f t asc m e =
    record { ascending = tt; irreducible = tt; apart = tt; multiply = product_none ∙ sym (constant_one f t asc m e); ordered = tt }

-- ---- the loop that finds the smallest closed set: where it starts

pub forced_start : (i : ℕ) (f : List ℕ) → Forced i (2 ^ i) f
forced_start i f z closed h = power_subset i z h
