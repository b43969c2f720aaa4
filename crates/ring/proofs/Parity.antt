-- Odd and even numbers: the parity of a sum, and parity as the remainder by two.
use mathlib.Core.Path.{◌≡◌, refl, sym, ap, ◌∙◌}
use mathlib.Core.Bool.{Bool, true, false, not, xor}
use Prim.Native.Nat.{ℕ, zero, suc, ◌+◌, ◌%◌}
use native.Mathlib.Nat.{zero-add, suc-add}
use native.Mathlib.Omega.{arith}
use Rattle.ring.specs.Same.{one_if}

unfoldable pub parity : ℕ → Bool
parity zero = false
parity (suc m) = not (parity m)

not_xor : (a b : Bool) → not (xor a b) ≡ xor (not a) b
unfolding xor
not_xor true true = refl
not_xor true false = refl
not_xor false true = refl
not_xor false false = refl

xor_false : (b : Bool) → b ≡ xor false b
unfolding xor
xor_false true = refl
xor_false false = refl

pub parity_add : (m n : ℕ) → parity (m + n) ≡ xor (parity m) (parity n)
unfolding parity
parity_add zero n = ap parity (zero-add n) ∙ xor_false (parity n)
parity_add (suc m) n = ap parity (suc-add m n) ∙ ap not (parity_add m n) ∙ not_xor (parity m) (parity n)

pub parity_one_if : (b : Bool) → parity (one_if b) ≡ b
unfolding parity
parity_one_if true = refl
parity_one_if false = refl

twice_not : (b : Bool) → b ≡ not (not b)
twice_not true = refl
twice_not false = refl

pub remainder_by_two : (m : ℕ) → m % 2 ≡ one_if (parity m)
unfolding parity
remainder_by_two zero = refl
remainder_by_two (suc zero) = refl
remainder_by_two (suc (suc m)) = omega arith ∙ remainder_by_two m ∙ ap one_if (twice_not (parity m))

one_if_injective : (a b : Bool) → one_if a ≡ one_if b → a ≡ b
one_if_injective true true e = refl
one_if_injective true false e = absurd (omega arith)
one_if_injective false true e = absurd (omega arith)
one_if_injective false false e = refl

pub parity_from_remainder : (m n : ℕ) → m % 2 ≡ n % 2 → parity m ≡ parity n
parity_from_remainder m n e = one_if_injective (parity m) (parity n) (sym (remainder_by_two m) ∙ e ∙ remainder_by_two n)

pub remainder_from_parity : (m n : ℕ) → parity m ≡ parity n → m % 2 ≡ n % 2
remainder_from_parity m n e = remainder_by_two m ∙ ap one_if e ∙ sym (remainder_by_two n)
