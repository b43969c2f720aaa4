-- The search for the part of the lowest variable: a set y that starts from that variable and grows by what belongs to whatever it belongs
-- to, until it is closed; then the projection onto y is the first part, and the parts of what is left are the others. Leans on Part.
use mathlib.Core.Path.{◌≡◌, sym, ap, ◌∙◌, subst}
use mathlib.Core.Bool.{true}
use mathlib.Core.List.{List, ◌∷◌}
use Prim.Native.Nat.{ℕ, ◌+◌, ◌<◌}
use native.Mathlib.Nat.{pos_of_ne-zero}
use native.Mathlib.Omega.{arith}
use lib.Bits.{bit_and, bit_or}
use lib.Count.{ones}
use Rattle.masks.specs.Bit.{bit, without}
use Rattle.masks.proofs.Bits.{bit_power_same}
use Rattle.masks.proofs.Reflect.{identity, ◌∩◌, ◌∪◌, ◌∖◌, ◌≐◌, ◌⊆◌, apart, ∴◌, ◌⇒◌}
use Rattle.masks.proofs.Sets.{power_subset}
use Rattle.masks.proofs.Order.{sum_of_inside_and_outside}
use Rattle.masks.proofs.Lowest.{low, IsLowest, low_is_lowest}
use Rattle.masks.proofs.Number.{ones_disjoint, ones_pos}
use Rattle.polys.specs.List.{Asc}
use Rattle.polys.specs.Poly.{vars, onto, off}
use Rattle.polys.specs.Parts.{IsParts}
use Rattle.polys.proofs.Polys.{vars_off}
use Rattle.splitting.specs.Mix.{Closed}
use Rattle.splitting.proofs.Forced.{Forced}
use Rattle.splitting.proofs.Part.{forced_start, not_empty, part_and_rest}

-- y holds the lowest variable i of f, and nothing that some closed set with i could do without
pub record Growing (f : List ℕ) (i y : ℕ) : Type 0 where
  pub lowest : IsLowest (vars f) i
  pub holds : bit y i ≡ true
  pub within : bit_and y (vars f) ≡ y
  pub forced : Forced i y f

pub growing_start : (f : List ℕ) → ¬ (vars f ≡ 0) → (i : ℕ) × Growing f i (low (vars f))
growing_start f varies =
    let w = low_is_lowest (vars f) (pos_of_ne-zero varies) in (
      w.0,
      record {
        lowest = w.2;
        holds = ap (λ m. bit m w.0) w.1 ∙ bit_power_same w.0;
        within = ap (λ m. bit_and m (vars f)) w.1 ∙ power_subset w.0 (vars f) w.2.0 ∙ sym w.1;
        forced = subst (λ y. Forced w.0 y f) (sym w.1) (forced_start w.0 f);
      },
    )

module _ (f : List ℕ) (i y : ℕ) (growing : Growing f i y) where
  -- the set found is the part's
  pub growing_done : Asc f → Closed y f → (ps : List (List ℕ)) → IsParts (off y f) ps → IsParts f (onto y f ∷ ps)
  growing_done asc closed =
      part_and_rest f y i asc growing.within growing.holds growing.lowest closed growing.forced

  -- ---- why it ends

  not_nothing : ¬ (y ≡ 0)
  not_nothing = not_empty y i growing.holds

  pub rest_falls : vars (off y f) < vars f
  rest_falls =
      let e : vars (off y f) ≡ without y (vars f) = vars_off y f in
      let s : vars f ≡ bit_and (vars f) y + without y (vars f) = sum_of_inside_and_outside y (vars f) in
      let h : 0 < bit_and (vars f) y = subst (λ n. 0 < n) (turned y (vars f) growing.within) (pos_of_ne-zero not_nothing) in
      omega arith
    where
      turned : (y v : ℕ) → bit_and y v ≡ y → y ≡ bit_and v y
      turned = identity 2 (λ y v. y ⊆ v ⇒ ∴ y ≐ v ∩ y) tt

  pub rest_has_fewer : ones (vars (off y f)) < ones (vars f)
  rest_has_fewer =
      let e : ones (vars (off y f)) ≡ ones (without y (vars f)) = ap ones (vars_off y f) in
      let s : ones (vars f) ≡ ones y + ones (without y (vars f)) =
      ap ones (whole y (vars f) growing.within) ∙ ones_disjoint y (without y (vars f)) (outside y (vars f)) in
      let h : 0 < ones y = ones_pos y not_nothing in
      omega arith
    where
      whole : (y v : ℕ) → bit_and y v ≡ y → v ≡ bit_or y (without y v)
      whole = identity 2 (λ y v. y ⊆ v ⇒ ∴ v ≐ y ∪ v ∖ y) tt

      outside : (y v : ℕ) → bit_and y (without y v) ≡ 0
      outside = identity 2 (λ y v. ∴ apart y (v ∖ y)) tt
