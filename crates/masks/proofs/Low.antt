-- The variables of a set below k, as the remainder by 2 ^ k: which bits it has, and how a machine word gives it.
use mathlib.Core.Path.{◌≡◌, sym, ap, ◌∙◌, subst}
use Prim.Native.Nat.{ℕ, zero, suc, ◌-◌, ◌*◌, ◌/◌, ◌%◌, ◌^◌, ◌≤◌, ◌<◌}
use native.Mathlib.Nat.{div-one, mod-lt, mod-eq_of_lt, not-suc-le-zero, le_of_suc-le-suc, one-mul}
use native.Mathlib.Numerals.{add-one, one-add}
use native.Mathlib.Omega.{arith}
use lib.Bits.{bit_and, and_mask}
use lib.Dec.{eqb}
use lib.Pow.{shr-shr, shl_exact, mod-mod-pow, field, pow_pos}
use Rattle.masks.specs.Bit.{bit}

-- bit k is the last digit after k halvings
pub bit_at : (n k : ℕ) → bit n k ≡ eqb (n / 2 ^ k % 2) 1
unfolding bit
bit_at n zero = ap (λ (m : ℕ). eqb (m % 2) 1) (sym (div-one n))
bit_at n (suc k) = bit_at (n / 2) k ∙ ap (λ (m : ℕ). eqb (m % 2) 1) (shr-shr n 1 k ∙ ap (λ (j : ℕ). n / 2 ^ j) (one-add k))

-- as a machine word gives it
pub bit_by_digit : (n k : ℕ) → eqb (bit_and (n / 2 ^ k) 1) 1 ≡ bit n k
bit_by_digit n k = ap (λ (m : ℕ). eqb m 1) (and_mask (n / 2 ^ k) 1) ∙ sym (bit_at n k)

pub low_below : (n k : ℕ) → n % 2 ^ k < 2 ^ k
low_below n k = mod-lt n (pow_pos k)

-- the bits below k are those of the remainder
pub bit_low : (n k i : ℕ) → i < k → bit (n % 2 ^ k) i ≡ bit n i
unfolding bit
bit_low n zero i h = absurd (not-suc-le-zero h)
bit_low n (suc k) zero h =
    ap (λ (m : ℕ). eqb (m % 2) 1) (ap (λ (j : ℕ). n % 2 ^ j) (sym (add-one k))) ∙ ap (λ (m : ℕ). eqb m 1) (mod-mod-pow n k 1)
bit_low n (suc k) (suc i) h =
    ap (λ (j : ℕ). bit (n % 2 ^ j / 2) i) (sym (add-one k))
    ∙ ap (λ (m : ℕ). bit m i) (field n k 1)
    ∙ bit_low (n / 2) k i (le_of_suc-le-suc h)

-- 1 shifted by k in a word of w bits
pub one_shifted : (w k : ℕ) → k < w → (1 * 2 ^ k) % 2 ^ w ≡ 2 ^ k
one_shifted w k h = shl_exact 1 k w (omega arith) (omega arith) ∙ one-mul (2 ^ k)

-- the bits below k by a mask in a word of w bits, and by the word itself where k is w
pub low_by_mask : (w x k : ℕ) → k < w → bit_and x ((1 * 2 ^ k) % 2 ^ w - 1) ≡ x % 2 ^ k
low_by_mask w x k h = ap (λ (m : ℕ). bit_and x (m - 1)) (one_shifted w k h) ∙ and_mask x k

pub mask_not_zero : (w k : ℕ) → k < w → 1 ≤ (1 * 2 ^ k) % 2 ^ w
mask_not_zero w k h = subst (λ (m : ℕ). 1 ≤ m) (sym (one_shifted w k h)) (pow_pos k)

pub low_of_all : (w x k : ℕ) → x < 2 ^ w → k ≤ w → w ≤ k → x ≡ x % 2 ^ k
low_of_all w x k h p q =
    let e : w ≡ k = omega arith in
    sym (mod-eq_of_lt (subst (λ (n : ℕ). x < 2 ^ n) e h))
