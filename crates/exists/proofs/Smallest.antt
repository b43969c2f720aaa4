-- The common variables of all closed sets that hold the lowest variable are the smallest such set: the variables of its part.
-- Leans on the laws of closed sets (splitting) and on the tests.
use mathlib.Core.Path.{◌≡◌, refl, sym, subst}
use mathlib.Core.Bool.{Bool, true, false, ◌&&◌}
use mathlib.Core.Logic.{⊎_elim}
use mathlib.Core.List.{List}
use Prim.Native.Nat.{ℕ, zero, suc, ◌≤◌, ◌<◌}
use native.Mathlib.Nat.{lt_irrefl, le_trans, eq-or-lt_of_le, le_of_suc-le-suc, pos_of_ne-zero}
use lib.Bits.{bit_and, and_self}
use lib.Dec.{T, eqb, eqb→eq}
use Rattle.masks.proofs.Reflect.{identity, ◌∩◌, ◌⊆◌, ∴◌, ◌⇒◌}
use Rattle.masks.proofs.Sets.{and_subset, and_subset_right, subset_trans, bit_of_subset}
use Rattle.masks.proofs.Order.{subset_le}
use Rattle.polys.specs.Poly.{vars}
use Rattle.splitting.specs.Mix.{Closed}
use Rattle.splitting.proofs.Mixing.{closed_intersection, closed_in_vars, closed_vars}
use Rattle.splitting.proofs.Forced.{Forced}
use Rattle.splitting.proofs.Part.{not_empty}
use Rattle.splitting.proofs.Growing.{Growing, growing_start}
use Rattle.unique.specs.Merged.{lowest}
use Rattle.exists.specs.PartsOf.{is_closed, narrowed, common, first_vars}
use Rattle.exists.proofs.Tests.{T_and, and_T, eq_eqb, closed_of_test, test_of_closed}

both_hold : (x y z : ℕ) → bit_and x y ≡ x → bit_and x z ≡ x → bit_and x (bit_and y z) ≡ x
both_hold = identity 3 (λ x y z. x ⊆ y ⇒ x ⊆ z ⇒ ∴ x ⊆ (y ∩ z)) tt

module _ (x : ℕ) (f : List ℕ) where
  -- y passes: it holds x and f is closed along it
  abbrev passes : ℕ → Bool
  passes y = eqb (bit_and x y) x && is_closed y f

  -- ---- the common variables are such a set themselves

  record Sound (y : ℕ) : Type 0 where
    within : bit_and y (vars f) ≡ y
    holds : bit_and x y ≡ x
    closed : Closed y f

  sound_narrowed : (b : Bool) (y z : ℕ) → passes y ≡ b → Sound z → Sound (narrowed b y z)
  sound_narrowed false y z e s = s
  sound_narrowed true y z e s =
      let p = and_T (eqb (bit_and x y) x) (is_closed y f) (subst T (sym e) tt) in
      record {
        within = subset_trans (bit_and y z) z (vars f) (and_subset_right y z) s.within;
        holds = both_hold x y z (eqb→eq (bit_and x y) x p.0) s.holds;
        closed = closed_intersection f y z (closed_of_test y f p.1) s.closed;
      }

  sound_common : bit_and x (vars f) ≡ x → (n : ℕ) → Sound (common n x f)
  unfolding common
  sound_common known zero = record { within = and_self (vars f); holds = known; closed = closed_vars f }
  sound_common known (suc n) = sound_narrowed (passes (suc n)) (suc n) (common n x f) refl (sound_common known n)

  -- ---- and every such set holds them

  narrowed_in_passed : (b : Bool) (y z : ℕ) → T b → bit_and (narrowed b y z) y ≡ narrowed b y z
  narrowed_in_passed true y z p = and_subset y z
  narrowed_in_passed false y z p = absurd p

  narrowed_in_rest : (b : Bool) (y z : ℕ) → bit_and (narrowed b y z) z ≡ narrowed b y z
  narrowed_in_rest true y z = and_subset_right y z
  narrowed_in_rest false y z = and_self z

  common_in_passed : (n y : ℕ) → 0 < y → y ≤ n → T (passes y) → bit_and (common n x f) y ≡ common n x f
  unfolding common
  common_in_passed zero y pos l p = absurd (lt_irrefl 0 (le_trans pos l))
  common_in_passed (suc n) y pos l p =
      ⊎_elim
      (λ e.
      subst (λ k. bit_and here k ≡ here) (sym e)
      (narrowed_in_passed (passes (suc n)) (suc n) (common n x f) (subst (λ k. T (passes k)) e p)))
      (λ k.
      subset_trans here (common n x f) y (narrowed_in_rest (passes (suc n)) (suc n) (common n x f))
      (common_in_passed n y pos (le_of_suc-le-suc k) p))
      (eq-or-lt_of_le l)
    where
      here : ℕ
      here = narrowed (passes (suc n)) (suc n) (common n x f)

-- ---- the part of the lowest variable

module _ (f : List ℕ) (varies : ¬ (vars f ≡ 0)) where
  start : (i : ℕ) × Growing f i (lowest f)
  start = growing_start f varies

  sound : Sound (lowest f) f (first_vars f)
  unfolding first_vars
  sound = sound_common (lowest f) f start.1.within (vars f)

  -- a closed set counts by its variables that f has: they are a number at most `vars f`, so they are tried
  first_forced : Forced start.0 (first_vars f) f
  unfolding first_vars
  first_forced z closed h =
      subset_trans (first_vars f) counted z
      (common_in_passed (lowest f) f (vars f) counted
      (pos_of_ne-zero (not_empty counted start.0 (bit_of_subset (lowest f) counted start.0 holds start.1.holds)))
      (subset_le counted (vars f) (and_subset_right z (vars f)))
      (T_and (eqb (bit_and (lowest f) counted) (lowest f)) (is_closed counted f) (eq_eqb (bit_and (lowest f) counted) (lowest f) holds)
      (test_of_closed counted f ((closed_in_vars f z).0 closed))))
      (and_subset z (vars f))
    where
      counted : ℕ
      counted = bit_and z (vars f)

      holds : bit_and (lowest f) counted ≡ lowest f
      holds = both_hold (lowest f) z (vars f) (start.1.forced z closed h) start.1.within

  pub first_closed : Closed (first_vars f) f
  first_closed = sound.closed

  pub first_growing : (i : ℕ) × Growing f i (first_vars f)
  first_growing = (
    start.0,
    record {
      lowest = start.1.lowest;
      holds = bit_of_subset (lowest f) (first_vars f) start.0 sound.holds start.1.holds;
      within = sound.within;
      forced = first_forced;
    },
  )
