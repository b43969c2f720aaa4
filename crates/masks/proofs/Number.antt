-- The number of variables of a set, `ones` of lib.Count: of sets with nothing in common it adds up, and it is 0 for the empty set
-- alone. That a number below 2 ^ k has at most k is lib.Count's ones-le.
use mathlib.Core.Path.{◌≡◌, refl, sym, ap, ap₂, ◌∙◌}
use Prim.Native.Nat.{ℕ, ◌+◌, ◌/◌, ◌%◌, ◌<◌}
use native.Mathlib.Nat.{add-zero, pos_of_ne-zero, add_comm}
use native.Mathlib.Omega.{arith}
use lib.Arith.{bin_ind}
use lib.Bits.{bit_and, bit_or, and_shr, or_shr, and_mod, or_mod, or_add_and}
use lib.Count.{ones, ones_step}

ones_of_zero : ones 0 ≡ 0
unfolding ones
ones_of_zero = refl

digit_sum : (a b : ℕ) → bit_or a b % 2 + bit_and a b % 2 ≡ a % 2 + b % 2
digit_sum a b = ap₂ (λ x y. x + y) (or_mod a b 1) (and_mod a b 1) ∙ or_add_and (a % 2) (b % 2)

pub ones_or_and : (a b : ℕ) → ones (bit_or a b) + ones (bit_and a b) ≡ ones a + ones b
ones_or_and =
    bin_ind (λ a. (b : ℕ) → ones (bit_or a b) + ones (bit_and a b) ≡ ones a + ones b)
    (λ b. add_comm (ones b) (ones 0))
    (λ a ih b.
    ap₂ (λ x y. x + y) (ones_step (bit_or a b)) (ones_step (bit_and a b))
    ∙ ap₂ (λ x y. (bit_or a b % 2 + ones x) + (bit_and a b % 2 + ones y)) (or_shr a b 1) (and_shr a b 1)
    ∙ regroup (bit_or a b % 2) (bit_and a b % 2) (a % 2) (b % 2)
    (ones (bit_or (a / 2) (b / 2))) (ones (bit_and (a / 2) (b / 2))) (ones (a / 2)) (ones (b / 2)) (digit_sum a b) (ih (b / 2))
    ∙ sym (ap₂ (λ x y. x + y) (ones_step a) (ones_step b)))
  where
    regroup : (p q r s k l m n : ℕ) → p + q ≡ r + s → k + l ≡ m + n → (p + k) + (q + l) ≡ (r + m) + (s + n)
    regroup p q r s k l m n e f = omega arith

pub ones_disjoint : (a b : ℕ) → bit_and a b ≡ 0 → ones (bit_or a b) ≡ ones a + ones b
ones_disjoint a b h =
    sym (add-zero (ones (bit_or a b))) ∙ ap (λ x. ones (bit_or a b) + x) (sym ones_of_zero ∙ ap ones (sym h)) ∙ ones_or_and a b

empty_from_ones : (m : ℕ) → ones m ≡ 0 → m ≡ 0
empty_from_ones = bin_ind (λ m. ones m ≡ 0 → m ≡ 0) (λ h. refl) (λ m ih h. step m ih h (ones_step m))
  where
    step : (m : ℕ) → (ones (m / 2) ≡ 0 → m / 2 ≡ 0) → ones m ≡ 0 → ones m ≡ m % 2 + ones (m / 2) → m ≡ 0
    step m ih h e =
        let z : m / 2 ≡ 0 = ih (omega arith) in
        omega arith

pub ones_pos : (m : ℕ) → ¬ (m ≡ 0) → 0 < ones m
ones_pos m h = pos_of_ne-zero (λ e. h (empty_from_ones m e))
