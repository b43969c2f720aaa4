-- Laws of fields of bits: a field is two fields, a field inside a byte, and a row of fields as digits of one number.
-- Leans on the laws of digits in Number.antt. Assumes nothing.
use mathlib.Core.Path.{◌≡◌, refl, sym, ap, ap₂, ◌∙◌, subst}
use mathlib.Core.List.{List, ◌∷◌}
use Prim.Native.Nat.{ℕ, zero, suc, ◌+◌, ◌-◌, ◌*◌, ◌/◌, ◌%◌, ◌^◌, ◌≤◌, ◌<◌}
use native.Mathlib.Nat.{mul-zero, mul-suc, mul_assoc, add-mul, add_assoc, add_comm, pow-zero, mod-lt, mod-eq_of_lt, div-one, mul-add-mod_self_right, mul-add-div_right, mod-one}
use native.Mathlib.Omega.{arith}
use lib.ListN.{length, get_or, take, drop, length-drop}
use lib.Seq.{split_at, get_or-drop}
use lib.Pow.{pow_pos, pow-add, high, low, mod-pow-add, shr-shr}
use Rattle.digits.specs.Number.{num, bits, fields, Below}
use Rattle.digits.proofs.Number.{num_below, num_append, pow_digit}

-- a field fits its width
pub bits_below : (bytes : List ℕ) (o w : ℕ) → bits bytes o w < 2 ^ w
unfolding bits
bits_below bytes o w = mod-lt (num 8 bytes / 2 ^ (8 * length bytes - (o + w))) (pow_pos w)

-- a field is its first m bits, then the other k
pub bits_add : (bytes : List ℕ) (o m k : ℕ) → o + (m + k) ≤ 8 * length bytes
    → bits bytes o (m + k) ≡ bits bytes o m * 2 ^ k + bits bytes (o + m) k
unfolding bits
bits_add bytes o m k h =
    mod-pow-add (N / 2 ^ (L - (o + (m + k)))) m k
    ∙ ap₂ (λ (a b : ℕ). (a % 2 ^ m) * 2 ^ k + b % 2 ^ k)
    (shr-shr N (L - (o + (m + k))) k ∙ ap (λ (e : ℕ). N / 2 ^ e) (omega arith))
    (ap (λ (e : ℕ). N / 2 ^ (L - e)) (sym (add_assoc o m k)))
  where
    N : ℕ
    N = num 8 bytes

    L : ℕ
    L = 8 * length bytes

-- the two fields that a field is made of, from its number
pub bits_first : (bytes : List ℕ) (o m k a b : ℕ) → o + (m + k) ≤ 8 * length bytes → b < 2 ^ k
    → bits bytes o (m + k) ≡ a * 2 ^ k + b → bits bytes o m ≡ a
bits_first bytes o m k a b h f e =
    sym (high (bits bytes o m) k (bits_below bytes (o + m) k))
    ∙ ap (λ (n : ℕ). n / 2 ^ k) (sym (bits_add bytes o m k h) ∙ e)
    ∙ high a k f

pub bits_second : (bytes : List ℕ) (o m k a b : ℕ) → o + (m + k) ≤ 8 * length bytes → b < 2 ^ k
    → bits bytes o (m + k) ≡ a * 2 ^ k + b → bits bytes (o + m) k ≡ b
bits_second bytes o m k a b h f e =
    sym (low (bits bytes o m) k (bits_below bytes (o + m) k))
    ∙ ap (λ (n : ℕ). n % 2 ^ k) (sym (bits_add bytes o m k h) ∙ e)
    ∙ low a k f

-- the field of all bits is the number of the bytes
pub bits_whole : (bytes : List ℕ) → Below 8 bytes → bits bytes 0 (8 * length bytes) ≡ num 8 bytes
unfolding bits
bits_whole bytes h =
    ap (λ (e : ℕ). (num 8 bytes / 2 ^ e) % 2 ^ (8 * length bytes)) {y = 0} (omega arith)
    ∙ ap (λ (p : ℕ). (num 8 bytes / p) % 2 ^ (8 * length bytes)) (pow-zero 2)
    ∙ ap (λ (n : ℕ). n % 2 ^ (8 * length bytes)) (div-one (num 8 bytes))
    ∙ mod-eq_of_lt (num_below 8 bytes h)

-- no bits
pub bits_none : (bytes : List ℕ) (o : ℕ) → bits bytes o 0 ≡ 0
unfolding bits
bits_none bytes o = ap (λ (p : ℕ). (num 8 bytes / 2 ^ (8 * length bytes - (o + 0))) % p) (pow-zero 2) ∙ mod-one (num 8 bytes / 2 ^ (8 * length bytes - (o + 0)))

-- a row with the digit b behind those of A and before the row R
digit_between : (A b : ℕ) (R : List ℕ) → A * 2 ^ (8 * suc (length R)) + num 8 (b ∷ R) ≡ (A * 2 ^ 8 + b) * 2 ^ (8 * length R) + num 8 R
unfolding num
digit_between A b R =
    ap (λ (n : ℕ). A * n + (b * 2 ^ (8 * length R) + num 8 R)) (pow_digit 8 (length R))
    ∙ ap (λ (n : ℕ). n + (b * 2 ^ (8 * length R) + num 8 R)) (sym (mul_assoc A (2 ^ 8) (2 ^ (8 * length R))))
    ∙ sym (add_assoc (A * 2 ^ 8 * 2 ^ (8 * length R)) (b * 2 ^ (8 * length R)) (num 8 R))
    ∙ ap (λ (n : ℕ). n + num 8 R) (sym (add-mul (A * 2 ^ 8) b (2 ^ (8 * length R))))

pub length_fields : (bytes : List ℕ) (o w k : ℕ) → length (fields bytes o w k) ≡ k
unfolding fields
length_fields bytes o w zero = refl
length_fields bytes o w (suc k) = ap suc (length_fields bytes (o + w) w k)

pub fields_below : (bytes : List ℕ) (o w k : ℕ) → Below w (fields bytes o w k)
unfolding fields
fields_below bytes o w zero i = pow_pos w
fields_below bytes o w (suc k) zero = bits_below bytes o w
fields_below bytes o w (suc k) (suc i) = fields_below bytes (o + w) w k i

-- a field inside a byte: k bits behind the first r bits of byte i
pub bits_in_byte : (bytes : List ℕ) (i r k : ℕ) → Below 8 bytes → i < length bytes → r + k ≤ 8
    → bits bytes (8 * i + r) k ≡ (get_or bytes i 0 / 2 ^ (8 - (r + k))) % 2 ^ k
unfolding bits
bits_in_byte bytes i r k h l f =
    ap₂ (λ (n e : ℕ). (n / 2 ^ e) % 2 ^ k) number left
    ∙ ap (λ (n : ℕ). n % 2 ^ k) (
    sym (shr-shr ((A * 2 ^ 8 + b) * 2 ^ (8 * length R) + num 8 R) (8 * length R) s)
    ∙ ap (λ (n : ℕ). n / 2 ^ s) (high (A * 2 ^ 8 + b) (8 * length R) (num_below 8 R below))
    ∙ ap (λ (n : ℕ). (n + b) / 2 ^ s) byte
    ∙ mul-add-div_right (pow_pos s) (A * 2 ^ r * 2 ^ k) b
    )
    ∙ mul-add-mod_self_right (A * 2 ^ r) (2 ^ k) (b / 2 ^ s)
  where
    A : ℕ
    A = num 8 (take i bytes)

    b : ℕ
    b = get_or bytes i 0

    R : List ℕ
    R = drop (suc i) bytes

    s : ℕ
    s = 8 - (r + k)

    below : Below 8 R
    below j = subst (λ (x : ℕ). x < 2 ^ 8) (sym (get_or-drop (suc i) bytes j 0)) (h (suc i + j))

    number : num 8 bytes ≡ (A * 2 ^ 8 + b) * 2 ^ (8 * length R) + num 8 R
    number =
        ap (num 8) (split_at bytes i 0 l)
        ∙ num_append 8 (take i bytes) (b ∷ R)
        ∙ digit_between A b R

    left : 8 * length bytes - (8 * i + r + k) ≡ 8 * length R + s
    left = omega (arith, length-drop (suc i) bytes)

    byte : A * 2 ^ 8 ≡ A * 2 ^ r * 2 ^ k * 2 ^ s
    byte =
        ap (λ (e : ℕ). A * 2 ^ e) {x = 8} {y = r + (k + s)} (omega arith)
        ∙ ap (λ (n : ℕ). A * n) (pow-add 2 r (k + s) ∙ ap (λ (n : ℕ). 2 ^ r * n) (pow-add 2 k s))
        ∙ sym (mul_assoc (A * 2 ^ r) (2 ^ k) (2 ^ s) ∙ mul_assoc A (2 ^ r) (2 ^ k * 2 ^ s))

-- the number of a row of fields is the field that they make together
pub num_fields : (bytes : List ℕ) (o w k : ℕ) → o + w * k ≤ 8 * length bytes → num w (fields bytes o w k) ≡ bits bytes o (w * k)
unfolding num fields
num_fields bytes o w zero h = sym (ap (bits bytes o) (mul-zero w) ∙ bits_none bytes o)
num_fields bytes o w (suc k) h =
    ap₂ (λ (l n : ℕ). bits bytes o w * 2 ^ (w * l) + n) (length_fields bytes (o + w) w k) (num_fields bytes (o + w) w k within)
    ∙ sym (bits_add bytes o w (w * k) (subst (λ (n : ℕ). o + n ≤ 8 * length bytes) (mul-suc w k ∙ add_comm (w * k) w) h))
    ∙ ap (bits bytes o) (add_comm w (w * k) ∙ sym (mul-suc w k))
  where
    within : o + w + w * k ≤ 8 * length bytes
    within = omega (arith, mul-suc w k)
