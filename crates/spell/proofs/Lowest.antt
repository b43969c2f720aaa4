-- The variables of a term from the lowest on: the lowest is counted by the zeros below it, and without it stand the others. Assumes nothing.
use mathlib.Core.Path.{◌≡◌, refl, sym, ap, ap₂, ◌∙◌, subst}
use mathlib.Core.Bool.{Bool, true, false, not, ◌&&◌}
use mathlib.Core.List.{◌∷◌}
use mathlib.Core.Logic.{inl, inr}
use Prim.Native.Nat.{ℕ, zero, suc, ◌-◌, ◌/◌, ◌%◌, ◌^◌, ◌<◌}
use native.Mathlib.Nat.{not-suc-le-zero, le_of_suc-le-suc}
use native.Mathlib.Numerals.{add-one}
use native.Mathlib.Omega.{arith}
use borrow.Author.Tests.{eqb-true, eqb-false}
use lib.Bits.{bit_and}
use lib.Count.{count_trailing_zeros, under}
use lib.Dec.{eqb}
use lib.Pow.{shr_lt}
use Rattle.masks.specs.Bit.{bit}
use Rattle.masks.proofs.Bits.{mod_two, bit_and_lem, bit_without, bit_power_same, bit_power_other}
use Rattle.masks.proofs.Lowest.{IsLowest, low_is_lowest}
use Rattle.polys.specs.List.{Mem}
use Rattle.polys.proofs.Lists.{above_by_mem, asc_ext}
use Rattle.typed.specs.Says.{held}
use Rattle.typed.proofs.Held.{held_ascends, held_bit}

-- the zeros below the lowest variable count to it
pub trailing_is_lowest : (k m : ℕ) → 0 < m → m < 2 ^ k → IsLowest m (count_trailing_zeros k m)
unfolding count_trailing_zeros bit
trailing_is_lowest zero m p h = absurd (let x : ⊥ = omega arith in x)
trailing_is_lowest (suc k) m p h =
    step m p (count_trailing_zeros k (m / 2)) (λ q. trailing_is_lowest k (m / 2) q (shr_lt k 1 (subst (λ (x : ℕ). m < 2 ^ x) (sym (add-one k)) h))) (m % 2) refl (mod_two m)
  where
    below : (m i : ℕ) → m % 2 ≡ 0 → ((j : ℕ) → j < i → bit (m / 2) j ≡ false) → (j : ℕ) → j < suc i → bit m j ≡ false
    below m i e f zero l = ap (λ (d : ℕ). eqb d 1) e
    below m i e f (suc j) l = f j (le_of_suc-le-suc l)

    step : (m : ℕ) → 0 < m → (t : ℕ) → (0 < m / 2 → IsLowest (m / 2) t) → (d : ℕ) → m % 2 ≡ d → d < 2 → IsLowest m (under d t)
    step m p t half zero e l = let w = half (omega arith) in (w.0, below m t e w.1)
    step m p t half (suc zero) e l = (ap (λ (d : ℕ). eqb d 1) e, λ j k. absurd (not-suc-le-zero k))
    step m p t half (suc (suc d)) e l = absurd (let x : ⊥ = omega arith in x)

-- a set has one lowest variable
lowest_once : (m i j : ℕ) → IsLowest m i → IsLowest m j → ¬ (i < j)
lowest_once m i j a b l = let e : true ≡ false = sym a.0 ∙ b.1 i l in let z : ◌≡◌ {A = ℕ} 0 1 = cc in omega arith

module _ (m v : ℕ) (some : 0 < m) (lowest : IsLowest m v) where
  -- m without the bits of m - 1 is that variable alone
  its_bit : (j : ℕ) → bit m j && not (bit (m - 1) j) ≡ bit (2 ^ v) j
  its_bit j =
      let w = low_is_lowest m some in
      let same : w.0 ≡ v = omega (arith, lowest_once m w.0 v w.2 lowest, lowest_once m v w.0 lowest w.2) in
      sym (bit_without (m - 1) m j) ∙ ap (λ (x : ℕ). bit x j) w.1 ∙ ap (λ (x : ℕ). bit (2 ^ x) j) same

  -- so the others are those that m shares with m - 1
  other : (j : ℕ) → ¬ (v ≡ j) → bit m j ≡ true → bit (bit_and m (m - 1)) j ≡ true
  other j ne e = bit_and_lem m (m - 1) j ∙ by_cases (bit m j) (bit (m - 1) j) e (its_bit j ∙ bit_power_other v j ne)
    where
      by_cases : (a b : Bool) → a ≡ true → a && not b ≡ false → a && b ≡ true
      by_cases true true e f = refl
      by_cases true false e f = sym f
      by_cases false b e f = e

  not_it : (j : ℕ) → bit (bit_and m (m - 1)) j ≡ true → (bit m j ≡ true) × ¬ (v ≡ j)
  not_it j e =
      let both = and_true (bit m j) (bit (m - 1) j) (sym (bit_and_lem m (m - 1) j) ∙ e) in (
        both.0,
        λ q. let f : false ≡ true = sym (ap₂ (λ (a b : Bool). a && not b) both.0 both.1) ∙ its_bit j ∙ ap (λ (x : ℕ). bit (2 ^ x) j) q ∙ bit_power_same j in
            let z : ◌≡◌ {A = ℕ} 0 1 = cc in omega arith,
      )
    where
      and_true : (a b : Bool) → a && b ≡ true → (a ≡ true) × (b ≡ true)
      and_true true b e = (refl, e)
      and_true false b e = absurd (let z : ◌≡◌ {A = ℕ} 0 1 = cc in let x : ⊥ = omega arith in x)

  -- and the variables of m are the lowest and then those
  pub held_from_lowest : held m ≡ v ∷ held (bit_and m (m - 1))
  held_from_lowest =
      asc_ext (held m) (v ∷ held (bit_and m (m - 1))) (held_ascends m) (above_by_mem v (held (bit_and m (m - 1))) above, held_ascends (bit_and m (m - 1))) in_it of_it
    where
      above : (y : ℕ) → Mem (held (bit_and m (m - 1))) y → v < y
      above y h = let w = not_it y ((held_bit (bit_and m (m - 1)) y).0 h) in omega (arith, w.1, not_lower y w.0)
        where
          not_lower : (y : ℕ) → bit m y ≡ true → ¬ (y < v)
          not_lower y e l = let f : true ≡ false = sym e ∙ lowest.1 y l in let z : ◌≡◌ {A = ℕ} 0 1 = cc in omega arith

      in_it : (x : ℕ) → Mem (held m) x → Mem (v ∷ held (bit_and m (m - 1))) x
      in_it x h = found (eqb v x) refl
        where
          found : (t : Bool) → eqb v x ≡ t → Mem (v ∷ held (bit_and m (m - 1))) x
          found true e = inl (sym (eqb-true v x e))
          found false e = inr ((held_bit (bit_and m (m - 1)) x).1 (other x (eqb-false v x e) ((held_bit m x).0 h)))

      of_it : (x : ℕ) → Mem (v ∷ held (bit_and m (m - 1))) x → Mem (held m) x
      of_it x (inl e) = (held_bit m x).1 (ap (bit m) e ∙ lowest.0)
      of_it x (inr h) = (held_bit m x).1 (not_it x ((held_bit (bit_and m (m - 1)) x).0 h)).0
