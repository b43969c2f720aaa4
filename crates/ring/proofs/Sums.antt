-- A polynomial, a sum of monomials, as a series: products become products, and the series of a list of terms is its value.
use mathlib.Core.Path.{◌≡◌, refl, sym, ap, ap₂, ◌∙◌, fun_ext}
use mathlib.Core.Bool.{true}
use mathlib.Core.List.{List, [], ◌∷◌, ◌++◌, map}
use Prim.Native.Nat.{ℕ, zero, suc, ◌+◌, ◌<◌}
use native.Mathlib.Nat.{le_refl}
use native.Mathlib.Omega.{arith}
use Rattle.masks.specs.Bit.{bit}
use Rattle.ring.specs.Same.{one_if, Monomial, ordinary, multiplied}
use Rattle.ring.proofs.Domain.{mul_zero, add_mul}
use Rattle.ring.proofs.Series.{R, nought, plus, times, laws}
use Rattle.ring.proofs.Value.{odd, value, value_none, value_more}
use Rattle.ring.proofs.Powers.{power, powers_add, value_of_term}

-- the series of a monomial, and of a sum of monomials
abbrev pub single : (n : ℕ) → Monomial → R n
single zero m = true
single (suc n) m = power n (m n) (single n m)

unfoldable pub sum : (n : ℕ) → List Monomial → R n
sum n [] = nought n
sum n (m ∷ g) = plus n (single n m) (sum n g)

-- only the exponents below n are read
pub single_agrees : (n : ℕ) (m k : Monomial) → ((i : ℕ) → i < n → m i ≡ k i) → single n m ≡ single n k
single_agrees zero m k h = refl
single_agrees (suc n) m k h = ap₂ (power n) (h n (le_refl (suc n))) (single_agrees n m k (λ i l. h i (omega arith)))

-- ---- products

pub single_product : (n : ℕ) (s t : Monomial) → single n (λ i. s i + t i) ≡ times n (single n s) (single n t)
single_product zero s t = refl
single_product (suc n) s t =
    ap (power n (s n + t n)) (single_product n s t) ∙ fun_ext (λ k. sym (powers_add n (s n) (t n) (single n s) (single n t) k))

sum_append : (n : ℕ) (g h : List Monomial) → sum n (g ++ h) ≡ plus n (sum n g) (sum n h)
unfolding sum
sum_append n [] h = sym ((laws n).zero_add (sum n h))
sum_append n (m ∷ g) h = ap (plus n (single n m)) (sum_append n g h) ∙ sym ((laws n).add_assoc (single n m) (sum n g) (sum n h))

sum_row : (n : ℕ) (s : Monomial) (h : List Monomial) → sum n (map (λ t i. s i + t i) h) ≡ times n (single n s) (sum n h)
unfolding sum
sum_row n s [] = sym (mul_zero (laws n) (single n s))
sum_row n s (t ∷ h) = ap₂ (plus n) (single_product n s t) (sum_row n s h) ∙ sym ((laws n).mul_add (single n s) (single n t) (sum n h))

pub sum_multiplied : (n : ℕ) (g h : List Monomial) → sum n (multiplied g h) ≡ times n (sum n g) (sum n h)
unfolding sum multiplied
sum_multiplied n [] h = sym ((laws n).zero_mul (sum n h))
sum_multiplied n (s ∷ g) h =
    sum_append n (map (λ t i. s i + t i) h) (multiplied g h)
    ∙ ap₂ (plus n) (sum_row n s h) (sum_multiplied n g h)
    ∙ sym (add_mul (laws n) (single n s) (sum n g) (sum n h))

-- ---- lists of terms

pub single_of_term : (n t : ℕ) → value n (t ∷ []) ≡ single n (λ i. one_if (bit t i))
unfolding value odd
single_of_term zero t = refl
single_of_term (suc n) t = value_of_term n t ∙ ap (power n (one_if (bit t n))) (single_of_term n t)

pub value_is_sum : (n : ℕ) (f : List ℕ) → value n f ≡ sum n (ordinary f)
unfolding sum
value_is_sum n [] = value_none n
value_is_sum n (t ∷ f) = value_more n t f ∙ ap₂ (plus n) (single_of_term n t) (value_is_sum n f)
