-- A domain of characteristic two: what the products of term lists live in. Its equality is stable (not unequal is equal), so that
-- nonzero can be the plain negation. Assumes nothing.
use mathlib.Core.Path.{◌≡◌, sym, ap, ap₂, ◌∙◌}

-- the laws: a commutative ring in which x + x is zero, with stable equality and no zero divisors
pub record Domain (K : Type 0) (o : K) (◌+◌ : K → K → K) (◌*◌ : K → K → K) : Type 0 where
  pub add_comm : (x y : K) → ◌+◌ x y ≡ ◌+◌ y x
  pub add_assoc : (x y z : K) → ◌+◌ (◌+◌ x y) z ≡ ◌+◌ x (◌+◌ y z)
  pub zero_add : (x : K) → ◌+◌ o x ≡ x
  pub double : (x : K) → ◌+◌ x x ≡ o
  pub mul_comm : (x y : K) → ◌*◌ x y ≡ ◌*◌ y x
  pub mul_assoc : (x y z : K) → ◌*◌ (◌*◌ x y) z ≡ ◌*◌ x (◌*◌ y z)
  pub mul_add : (x y z : K) → ◌*◌ x (◌+◌ y z) ≡ ◌+◌ (◌*◌ x y) (◌*◌ x z)
  pub zero_mul : (x : K) → ◌*◌ o x ≡ o
  pub stable : (x y : K) → ¬ ¬ (x ≡ y) → x ≡ y
  pub no_zero_divisors : (x y : K) → ¬ (x ≡ o) → ◌*◌ x y ≡ o → y ≡ o

module _ {K : Type 0} {o : K} {◌+◌ : K → K → K} {◌*◌ : K → K → K} (L : Domain K o ◌+◌ ◌*◌) where
  infixl 65 ◌+◌
  infixl 70 ◌*◌
  pub add_zero : (x : K) → x + o ≡ x
  add_zero x = L.add_comm x o ∙ L.zero_add x

  pub mul_zero : (x : K) → x * o ≡ o
  mul_zero x = L.mul_comm x o ∙ L.zero_mul x

  pub add_mul : (x y z : K) → (x + y) * z ≡ x * z + y * z
  add_mul x y z = L.mul_comm (x + y) z ∙ L.mul_add z x y ∙ ap₂ ◌+◌ (L.mul_comm z x) (L.mul_comm z y)

  -- (x + y) + (z + w) = (x + z) + (y + w)
  pub add_medial : (x y z w : K) → (x + y) + (z + w) ≡ (x + z) + (y + w)
  add_medial x y z w =
      L.add_assoc x y (z + w)
      ∙ ap (λ (u : K). x + u) (sym (L.add_assoc y z w) ∙ ap (λ (u : K). u + w) (L.add_comm y z) ∙ L.add_assoc z y w)
      ∙ sym (L.add_assoc x z (y + w))

  pub mul_medial : (x y z w : K) → (x * y) * (z * w) ≡ (x * z) * (y * w)
  mul_medial x y z w =
      L.mul_assoc x y (z * w)
      ∙ ap (λ (u : K). x * u) (sym (L.mul_assoc y z w) ∙ ap (λ (u : K). u * w) (L.mul_comm y z) ∙ L.mul_assoc z y w)
      ∙ sym (L.mul_assoc x z (y * w))

  -- a sum is zero exactly if its two sides are equal
  pub equal_from_sum : (x y : K) → x + y ≡ o → x ≡ y
  equal_from_sum x y e =
      sym (add_zero x) ∙ ap (λ (u : K). x + u) (sym (L.double y)) ∙ sym (L.add_assoc x y y) ∙ ap (λ (u : K). u + y) e ∙ L.zero_add y

  pub sum_of_equal : (x y : K) → x ≡ y → x + y ≡ o
  sum_of_equal x y e = ap (λ (u : K). u + y) e ∙ L.double y

  -- a factor that is not zero cancels
  pub cancel_right : (x y z : K) → ¬ (z ≡ o) → x * z ≡ y * z → x ≡ y
  cancel_right x y z nz e =
      equal_from_sum x y
      (L.no_zero_divisors z (x + y) nz (L.mul_comm z (x + y) ∙ add_mul x y z ∙ sum_of_equal (x * z) (y * z) e))

  pub product_nonzero : (x y : K) → ¬ (x ≡ o) → ¬ (y ≡ o) → ¬ (x * y ≡ o)
  product_nonzero x y nx ny e = ny (L.no_zero_divisors x y nx e)
