-- Fields as bits one by one: the bits of a number in digits are the bits of its digits, and a field is a piece of the row of bits.
-- Leans on the laws of digits and fields. Assumes nothing.
use mathlib.Core.Path.{◌≡◌, refl, sym, ap, ap₂, ◌∙◌, subst}
use mathlib.Core.Bool.{Bool, false}
use mathlib.Core.List.{List, [], ◌∷◌, ◌++◌, append_assoc}
use Prim.Native.Nat.{ℕ, zero, suc, ◌+◌, ◌-◌, ◌*◌, ◌/◌, ◌%◌, ◌^◌, ◌≤◌, ◌<◌}
use native.Mathlib.Nat.{add-zero, add-suc, suc-add, zero-add, mul-zero, mul-suc, add_comm, mod-lt}
use native.Mathlib.Numerals.{add-one}
use native.Mathlib.Omega.{arith}
use lib.Dec.{eqb}
use lib.ListN.{length, take, drop, replicate}
use lib.Seq.{take_at, drop_at}
use lib.Bits.{block_half, block_odd}
use lib.Pow.{pow_pos, split, shr_lt}
use Rattle.masks.specs.Bit.{bit}
use Rattle.masks.proofs.Bits.{bit_zero}
use Rattle.digits.specs.Number.{num, bits, Below}
use Rattle.digits.specs.Bitwise.{bits_of, row}
use Rattle.digits.proofs.Number.{num_below}

-- the bits of a number below 2 ^ k do not touch those above
bit_low : (a k b i : ℕ) → i < k → bit (a * 2 ^ k + b) i ≡ bit b i
unfolding bit
bit_low a zero b i h = absurd (omega arith)
bit_low a (suc k) b zero h = ap (λ (m : ℕ). eqb m 1) (block_odd a k b)
bit_low a (suc k) b (suc i) h = ap (λ (m : ℕ). bit m i) (block_half a k b) ∙ bit_low a k (b / 2) i (omega arith)

bit_high : (a k b i : ℕ) → b < 2 ^ k → bit (a * 2 ^ k + b) (i + k) ≡ bit a i
unfolding bit
bit_high a zero b i h = ap₂ bit {x = a * 2 ^ 0 + b} {y = a} (omega arith) (add-zero i)
bit_high a (suc k) b i h =
    ap (bit (a * 2 ^ suc k + b)) (add-suc i k)
    ∙ ap (λ (m : ℕ). bit m (i + k)) (block_half a k b)
    ∙ bit_high a k (b / 2) i (shr_lt {n = b} k 1 (subst (λ (e : ℕ). b < 2 ^ e) (sym (add-one k)) h))

bits_low : (a k b j : ℕ) → j ≤ k → bits_of j (a * 2 ^ k + b) ≡ bits_of j b
unfolding bits_of
bits_low a k b zero h = refl
bits_low a k b (suc j) h = ap₂ ◌∷◌ (bit_low a k b j h) (bits_low a k b j (omega arith))

-- the bits of a, behind which the k bits of b stand
pub bits_joined : (m k a b : ℕ) → b < 2 ^ k → bits_of (m + k) (a * 2 ^ k + b) ≡ bits_of m a ++ bits_of k b
unfolding bits_of
bits_joined zero k a b h = ap (λ (j : ℕ). bits_of j (a * 2 ^ k + b)) (zero-add k) ∙ bits_low a k b k (omega arith)
bits_joined (suc m) k a b h =
    ap (λ (j : ℕ). bits_of j (a * 2 ^ k + b)) (suc-add m k) ∙ ap₂ ◌∷◌ (bit_high a k b m h) (bits_joined m k a b h)

pub length_bits : (w x : ℕ) → length (bits_of w x) ≡ w
unfolding bits_of
length_bits zero x = refl
length_bits (suc w) x = ap suc (length_bits w x)

-- the bits of the digits are the bits of their number
pub row_of_number : (w : ℕ) (xs : List ℕ) → Below w xs → row w xs ≡ bits_of (w * length xs) (num w xs)
unfolding row num bits_of
row_of_number w [] h = sym (ap (λ (j : ℕ). bits_of j 0) (mul-zero w))
row_of_number w (x ∷ xs) h =
    ap (λ (l : List Bool). bits_of w x ++ l) (row_of_number w xs (λ i. h (suc i)))
    ∙ sym (bits_joined w (w * length xs) x (num w xs) (num_below w xs (λ i. h (suc i))))
    ∙ ap (λ (j : ℕ). bits_of j (x * 2 ^ (w * length xs) + num w xs)) (sym (mul-suc w (length xs) ∙ add_comm (w * length xs) w))

-- a field is the piece of the row of bits that begins at its place
pub field_in_row : (bytes : List ℕ) (o w : ℕ) → Below 8 bytes → o + w ≤ 8 * length bytes
    → bits_of w (bits bytes o w) ≡ take w (drop o (row 8 bytes))
unfolding bits
field_in_row bytes o w h fit =
    sym (ap (λ (l : List Bool). take w (drop o l)) laid ∙ ap (take w) (drop_at (bits_of o A) (bits_of w F ++ bits_of r R) o (length_bits o A)) ∙ take_at (bits_of w F) (bits_of r R) w (length_bits w F))
  where
    N : ℕ
    N = num 8 bytes

    r : ℕ
    r = 8 * length bytes - (o + w)

    A : ℕ
    A = N / 2 ^ r / 2 ^ w

    F : ℕ
    F = N / 2 ^ r % 2 ^ w

    R : ℕ
    R = N % 2 ^ r

    laid : row 8 bytes ≡ bits_of o A ++ (bits_of w F ++ bits_of r R)
    laid =
        row_of_number 8 bytes h
        ∙ ap₂ bits_of {x = 8 * length bytes} {y = o + w + r} (omega arith) (sym (ap (λ (m : ℕ). m * 2 ^ r + R) (split (N / 2 ^ r) w) ∙ split N r))
        ∙ bits_joined (o + w) r (A * 2 ^ w + F) R (mod-lt N (pow_pos r))
        ∙ ap (λ (l : List Bool). l ++ bits_of r R) (bits_joined o w A F (mod-lt (N / 2 ^ r) (pow_pos w)))
        ∙ append_assoc (bits_of o A) (bits_of w F) (bits_of r R)

-- the bits of 0
pub bits_of_zero : (w : ℕ) → bits_of w 0 ≡ replicate w false
unfolding bits_of
bits_of_zero zero = refl
bits_of_zero (suc w) = ap₂ ◌∷◌ (bit_zero w) (bits_of_zero w)
