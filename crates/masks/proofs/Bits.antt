-- The bits of a number: of the bit operations, of zero and of powers of two; numbers with the same bits are equal, and the
-- bits of a number below 2 ^ k stand below k. Leans on lib.Bits' laws of halves and last digits. Assumes nothing.
use mathlib.Core.Path.{◌≡◌, refl, sym, ap, ap₂, ◌∙◌, subst}
use mathlib.Core.Bool.{Bool, true, false, not, ◌&&◌, ◌||◌, xor, true≢false, false≢true}
use Prim.Native.Nat.{ℕ, zero, suc, ◌+◌, ◌*◌, ◌/◌, ◌%◌, ◌^◌, ◌≤◌, ◌<◌, zero-le, suc-le-suc}
use native.Mathlib.Nat.{le_refl, le_of_suc-le-suc, not-suc-le-zero, mod-lt, zero-lt-suc, div-add-mod', pow-suc, div-lt_iff_lt-mul, mul-div_cancel, mul-mod_left}
use lib.Arith.{bin_ind, lt-one}
use lib.Bits.{bit_and, bit_or, bit_xor, and_shr, or_shr, xor_shr, and_mod, or_mod, xor_mod}
use lib.Dec.{eqb}
use Rattle.masks.specs.Bit.{bit, without}

two_pos : zero < 2
two_pos = zero-lt-suc 1

pub mod_two : (m : ℕ) → m % 2 < 2
mod_two m = mod-lt m two_pos

-- ---- the bit of an operation is the operation on the bits
module _ (op : ℕ → ℕ → ℕ) (fn : Bool → Bool → Bool)
    (half : (a b : ℕ) → op a b / 2 ≡ op (a / 2) (b / 2))
    (last : (a b : ℕ) → op a b % 2 ≡ op (a % 2) (b % 2))
    (digit : (x y : ℕ) → x < 2 → y < 2 → eqb (op x y) 1 ≡ fn (eqb x 1) (eqb y 1)) where
  bit_of_operation : (a b i : ℕ) → bit (op a b) i ≡ fn (bit a i) (bit b i)
  unfolding bit
  bit_of_operation a b zero = ap (λ (n : ℕ). eqb n 1) (last a b) ∙ digit (a % 2) (b % 2) (mod_two a) (mod_two b)
  bit_of_operation a b (suc i) = ap (λ (n : ℕ). bit n i) (half a b) ∙ bit_of_operation (a / 2) (b / 2) i

module _ (P : ℕ → ℕ → Type 0) (p00 : P 0 0) (p01 : P 0 1) (p10 : P 1 0) (p11 : P 1 1) where
  by_digits : (x y : ℕ) → x < 2 → y < 2 → P x y
  by_digits zero zero h k = p00
  by_digits zero (suc zero) h k = p01
  by_digits zero (suc (suc y)) h k = absurd (not-suc-le-zero (le_of_suc-le-suc (le_of_suc-le-suc k)))
  by_digits (suc zero) zero h k = p10
  by_digits (suc zero) (suc zero) h k = p11
  by_digits (suc zero) (suc (suc y)) h k = absurd (not-suc-le-zero (le_of_suc-le-suc (le_of_suc-le-suc k)))
  by_digits (suc (suc x)) y h k = absurd (not-suc-le-zero (le_of_suc-le-suc (le_of_suc-le-suc h)))

pub bit_and_lem : (a b i : ℕ) → bit (bit_and a b) i ≡ bit a i && bit b i
bit_and_lem =
    bit_of_operation bit_and ◌&&◌ (λ a b. and_shr a b 1) (λ a b. and_mod a b 1)
    (by_digits (λ x y. eqb (bit_and x y) 1 ≡ eqb x 1 && eqb y 1) refl refl refl refl)

pub bit_or_lem : (a b i : ℕ) → bit (bit_or a b) i ≡ bit a i || bit b i
bit_or_lem =
    bit_of_operation bit_or ◌||◌ (λ a b. or_shr a b 1) (λ a b. or_mod a b 1)
    (by_digits (λ x y. eqb (bit_or x y) 1 ≡ eqb x 1 || eqb y 1) refl refl refl refl)

pub bit_xor_lem : (a b i : ℕ) → bit (bit_xor a b) i ≡ xor (bit a i) (bit b i)
unfolding xor
bit_xor_lem =
    bit_of_operation bit_xor xor (λ a b. xor_shr a b 1) (λ a b. xor_mod a b 1)
    (by_digits (λ x y. eqb (bit_xor x y) 1 ≡ xor (eqb x 1) (eqb y 1)) refl refl refl refl)

but_not : (p q : Bool) → xor p (p && q) ≡ p && not q
unfolding xor
but_not true true = refl
but_not true false = refl
but_not false q = refl

pub bit_without : (y t i : ℕ) → bit (without y t) i ≡ bit t i && not (bit y i)
bit_without y t i = bit_xor_lem t (bit_and t y) i ∙ ap (xor (bit t i)) (bit_and_lem t y i) ∙ but_not (bit t i) (bit y i)

-- ---- numbers with the same bits are equal

pub bit_zero : (i : ℕ) → bit 0 i ≡ false
unfolding bit
bit_zero zero = refl
bit_zero (suc i) = bit_zero i

digit_from_bit : (x y : ℕ) → x < 2 → y < 2 → eqb x 1 ≡ eqb y 1 → x ≡ y
digit_from_bit =
    by_digits (λ x y. eqb x 1 ≡ eqb y 1 → x ≡ y) (λ e. refl) (λ e. absurd (false≢true e)) (λ e. absurd (true≢false e)) (λ e. refl)

same_digits : (a b : ℕ) → a / 2 ≡ b / 2 → eqb (a % 2) 1 ≡ eqb (b % 2) 1 → a ≡ b
same_digits a b p q =
    sym (div-add-mod' a 2) ∙ ap₂ (λ x y. x * 2 + y) p (digit_from_bit (a % 2) (b % 2) (mod_two a) (mod_two b) q) ∙ div-add-mod' b 2

pub zero_from_bits : (b : ℕ) → ((i : ℕ) → bit b i ≡ false) → b ≡ 0
unfolding bit
zero_from_bits =
    bin_ind (λ (b : ℕ). ((i : ℕ) → bit b i ≡ false) → b ≡ 0) (λ h. refl) (λ b ih h. same_digits b 0 (ih (λ i. h (suc i))) (h zero))

pub bit_ext : (a b : ℕ) → ((i : ℕ) → bit a i ≡ bit b i) → a ≡ b
unfolding bit
bit_ext =
    bin_ind (λ (a : ℕ). (b : ℕ) → ((i : ℕ) → bit a i ≡ bit b i) → a ≡ b)
    (λ b h. sym (zero_from_bits b (λ i. sym (h i) ∙ bit_zero i)))
    (λ a ih b h. same_digits a b (ih (b / 2) (λ i. h (suc i))) (h zero))

-- ---- the bits of a number below 2 ^ k

half_below : {m : ℕ} (k : ℕ) → m < 2 ^ suc k → m / 2 < 2 ^ k
half_below {m} k h = (div-lt_iff_lt-mul two_pos).1 (subst (λ (x : ℕ). m < x) (pow-suc 2 k) h)

twice_below : {m : ℕ} (k : ℕ) → m / 2 < 2 ^ k → m < 2 ^ suc k
twice_below {m} k h = subst (λ (x : ℕ). m < x) (sym (pow-suc 2 k)) ((div-lt_iff_lt-mul two_pos).0 h)

pub bits_above_vanish : (k m i : ℕ) → m < 2 ^ k → k ≤ i → bit m i ≡ false
unfolding bit
bits_above_vanish zero m i h l = ap (λ (n : ℕ). bit n i) (lt-one h) ∙ bit_zero i
bits_above_vanish (suc k) m zero h l = absurd (not-suc-le-zero l)
bits_above_vanish (suc k) m (suc i) h l = bits_above_vanish k (m / 2) i (half_below k h) (le_of_suc-le-suc l)

pub below_from_bits : (k m : ℕ) → ((i : ℕ) → k ≤ i → bit m i ≡ false) → m < 2 ^ k
unfolding bit
below_from_bits zero m h = subst (λ (n : ℕ). n < 1) (sym (zero_from_bits m (λ i. h i zero-le))) (le_refl 1)
below_from_bits (suc k) m h = twice_below k (below_from_bits k (m / 2) (λ i l. h (suc i) (suc-le-suc l)))

-- ---- the bits of a power of two

pub bit_power_same : (i : ℕ) → bit (2 ^ i) i ≡ true
unfolding bit
bit_power_same zero = refl
bit_power_same (suc i) =
    ap (λ (n : ℕ). bit (n / 2) i) (pow-suc 2 i) ∙ ap (λ (n : ℕ). bit n i) (mul-div_cancel (2 ^ i) two_pos) ∙ bit_power_same i

pub bit_power_other : (i j : ℕ) → ¬ (i ≡ j) → bit (2 ^ i) j ≡ false
unfolding bit
bit_power_other zero zero h = absurd (h refl)
bit_power_other zero (suc j) h = bit_zero j
bit_power_other (suc i) zero h =
    ap (λ (n : ℕ). eqb (n % 2) 1) (pow-suc 2 i) ∙ ap (λ (n : ℕ). eqb n 1) (mul-mod_left (2 ^ i) 2)
bit_power_other (suc i) (suc j) h =
    ap (λ (n : ℕ). bit (n / 2) j) (pow-suc 2 i) ∙ ap (λ (n : ℕ). bit n j) (mul-div_cancel (2 ^ i) two_pos)
    ∙ bit_power_other i j (λ e. h (ap suc e))
