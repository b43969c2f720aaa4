-- The lowest variable of a set: m without the bits of m - 1 is a single bit, it lies in m, and m has no lower one.
-- Leans on lib.Bits' laws of halves and last digits.
use mathlib.Core.Path.{◌≡◌, refl, sym, ap, ap₂, ◌∙◌}
use mathlib.Core.Bool.{true, false}
use Prim.Native.Nat.{ℕ, zero, suc, ◌+◌, ◌-◌, ◌*◌, ◌/◌, ◌%◌, ◌^◌, ◌<◌}
use native.Mathlib.Nat.{le_of_suc-le-suc, not-suc-le-zero, div-add-mod', pow-suc, lt_irrefl, add-zero}
use native.Mathlib.Omega.{arith}
use lib.Arith.{bin_ind}
use lib.Bits.{bit_and, bit_xor, and_shr, xor_shr, and_mod, xor_mod, and_self, xor_self}
use lib.Dec.{eqb}
use Rattle.masks.specs.Bit.{bit, without}
use Rattle.masks.proofs.Bits.{mod_two}

-- m without the bits of m - 1
abbrev pub low : ℕ → ℕ
low m = without (m - 1) m

-- i is the lowest variable of m
abbrev pub IsLowest : ℕ → ℕ → Type 0
IsLowest m i = (bit m i ≡ true) × ((j : ℕ) → j < i → bit m j ≡ false)

low_half : (m : ℕ) → low m / 2 ≡ bit_xor (m / 2) (bit_and (m / 2) ((m - 1) / 2))
low_half m = xor_shr m (bit_and m (m - 1)) 1 ∙ ap (bit_xor (m / 2)) (and_shr m (m - 1) 1)

low_last : (m : ℕ) → low m % 2 ≡ bit_xor (m % 2) (bit_and (m % 2) ((m - 1) % 2))
low_last m = xor_mod m (bit_and m (m - 1)) 1 ∙ ap (bit_xor (m % 2)) (and_mod m (m - 1) 1)

low_of_odd : (m : ℕ) → m % 2 ≡ 1 → low m ≡ 1
low_of_odd m h =
    sym (div-add-mod' (low m) 2)
    ∙ ap₂ (λ x y. x * 2 + y)
    (low_half m ∙ ap (λ x. bit_xor (m / 2) (bit_and (m / 2) x)) (omega arith) ∙ ap (bit_xor (m / 2)) (and_self (m / 2)) ∙ xor_self (m / 2))
    (low_last m ∙ ap₂ (λ x y. bit_xor x (bit_and x y)) h last)
  where
    last : (m - 1) % 2 ≡ 0
    last = omega arith

low_of_even : (m : ℕ) → m % 2 ≡ 0 → 0 < m → low m ≡ low (m / 2) * 2
low_of_even m h p =
    sym (div-add-mod' (low m) 2)
    ∙ ap₂ (λ x y. x * 2 + y)
    (low_half m ∙ ap (λ x. bit_xor (m / 2) (bit_and (m / 2) x)) (omega arith))
    (low_last m ∙ ap₂ (λ x y. bit_xor x (bit_and x y)) h last)
    ∙ add-zero (low (m / 2) * 2)
  where
    last : (m - 1) % 2 ≡ 1
    last = omega arith

-- for m > 0: low m is a single bit, and it is the lowest of m
pub low_is_lowest : (m : ℕ) → 0 < m → (i : ℕ) × (low m ≡ 2 ^ i) × IsLowest m i
unfolding bit
low_is_lowest = bin_ind Found (λ h. absurd (lt_irrefl 0 h)) (λ m ih p. step m ih p (m % 2) refl (mod_two m))
  where
    Found : ℕ → Type 0
    Found m = 0 < m → (i : ℕ) × (low m ≡ 2 ^ i) × IsLowest m i

    below : (m i : ℕ) → m % 2 ≡ 0 → ((j : ℕ) → j < i → bit (m / 2) j ≡ false) → (j : ℕ) → j < suc i → bit m j ≡ false
    below m i e h zero l = ap (λ d. eqb d 1) e
    below m i e h (suc j) l = h j (le_of_suc-le-suc l)

    half_pos : (m : ℕ) → m % 2 ≡ 0 → 0 < m → 0 < m / 2
    half_pos m e p = omega arith

    even : (m : ℕ) → m % 2 ≡ 0 → 0 < m → (i : ℕ) × (low (m / 2) ≡ 2 ^ i) × IsLowest (m / 2) i → (i : ℕ) × (low m ≡ 2 ^ i) × IsLowest m i
    even m e p w =
        (suc w.0, low_of_even m e p ∙ ap (λ x. x * 2) w.1 ∙ sym (pow-suc 2 w.0), (w.2.0, below m w.0 e w.2.1))

    step : (m : ℕ) → Found (m / 2) → 0 < m → (d : ℕ) → m % 2 ≡ d → d < 2 → (i : ℕ) × (low m ≡ 2 ^ i) × IsLowest m i
    step m ih p zero e l = even m e p (ih (half_pos m e p))
    step m ih p (suc zero) e l = (0, low_of_odd m e, (ap (λ d. eqb d 1) e, (λ j k. absurd (not-suc-le-zero k))))
    step m ih p (suc (suc d)) e l = absurd (not-suc-le-zero (le_of_suc-le-suc (le_of_suc-le-suc l)))
