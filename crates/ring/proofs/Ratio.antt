-- Equal products as equal ratios: x w = y z says x / y = z / w, among nonzero elements of a domain an equivalence.
-- What the four-list test asks of halves, and why it may ask in another order or about other pairs. Leans on Domain alone.
use mathlib.Core.Path.{◌≡◌, sym, ap, ap₂, ◌∙◌}
use Rattle.ring.proofs.Domain.{Domain, mul_zero, add_mul, add_medial, mul_medial, sum_of_equal, equal_from_sum, cancel_right, add_zero}

module _ {K : Type 0} {o : K} {◌+◌ : K → K → K} {◌*◌ : K → K → K} (L : Domain K o ◌+◌ ◌*◌) where
  infixl 65 ◌+◌
  infixl 70 ◌*◌
  -- x / y = z / w and z / w = u / v give x / y = u / v
  pub ratio_trans : (x y z w u v : K) → ¬ (w ≡ o) → x * w ≡ y * z → z * v ≡ w * u → x * v ≡ y * u
  ratio_trans x y z w u v nw e f =
      cancel_right L (x * v) (y * u) w nw
      (L.mul_assoc x v w
      ∙ ap (λ (k : K). x * k) (L.mul_comm v w)
      ∙ sym (L.mul_assoc x w v)
      ∙ ap (λ (k : K). k * v) e
      ∙ L.mul_assoc y z v
      ∙ ap (λ (k : K). y * k) (f ∙ L.mul_comm w u)
      ∙ sym (L.mul_assoc y u w))

  -- x / y = z / w read the other way round: z / w = x / y
  pub ratio_sym : (x y z w : K) → x * w ≡ y * z → z * y ≡ w * x
  ratio_sym x y z w e = L.mul_comm z y ∙ sym e ∙ L.mul_comm x w

  -- ---- eight halves: what the middle equation says once the outer two hold
  module _ (a₀ a₁ d₀ d₁ b₀ b₁ c₀ c₁ : K) (high : a₁ * d₁ ≡ b₁ * c₁) (low : a₀ * d₀ ≡ b₀ * c₀) where
    -- (a₁ b₀ + a₀ b₁) (a₁ c₀ + a₀ c₁) vanishes if the middle equation holds
    pub cross_vanishes : a₁ * d₀ + a₀ * d₁ ≡ b₁ * c₀ + b₀ * c₁ → (a₁ * b₀ + a₀ * b₁) * (a₁ * c₀ + a₀ * c₁) ≡ o
    cross_vanishes mid =
        add_mul L (a₁ * b₀) (a₀ * b₁) (a₁ * c₀ + a₀ * c₁)
        ∙ ap₂ ◌+◌ (L.mul_add (a₁ * b₀) (a₁ * c₀) (a₀ * c₁)) (L.mul_add (a₀ * b₁) (a₁ * c₀) (a₀ * c₁))
        ∙ ap₂ ◌+◌
        (ap₂ ◌+◌ (mul_medial L a₁ b₀ a₁ c₀ ∙ ap (λ (k : K). (a₁ * a₁) * k) (sym low) ∙ mul_medial L a₁ a₁ a₀ d₀) (mul_medial L a₁ b₀ a₀ c₁))
        (ap₂ ◌+◌ (mul_medial L a₀ b₁ a₁ c₀ ∙ ap (λ (k : K). k * (b₁ * c₀)) (L.mul_comm a₀ a₁))
        (mul_medial L a₀ b₁ a₀ c₁ ∙ ap (λ (k : K). (a₀ * a₀) * k) (sym high) ∙ mul_medial L a₀ a₀ a₁ d₁ ∙ ap (λ (k : K). k * (a₀ * d₁)) (L.mul_comm a₀ a₁)))
        ∙ ap (λ (k : K). ((a₁ * a₀) * (a₁ * d₀) + (a₁ * a₀) * (b₀ * c₁)) + k)
        (L.add_comm ((a₁ * a₀) * (b₁ * c₀)) ((a₁ * a₀) * (a₀ * d₁)))
        ∙ add_medial L ((a₁ * a₀) * (a₁ * d₀)) ((a₁ * a₀) * (b₀ * c₁)) ((a₁ * a₀) * (a₀ * d₁)) ((a₁ * a₀) * (b₁ * c₀))
        ∙ ap₂ ◌+◌ (sym (L.mul_add (a₁ * a₀) (a₁ * d₀) (a₀ * d₁))) (sym (L.mul_add (a₁ * a₀) (b₀ * c₁) (b₁ * c₀)))
        ∙ sum_of_equal L ((a₁ * a₀) * (a₁ * d₀ + a₀ * d₁)) ((a₁ * a₀) * (b₀ * c₁ + b₁ * c₀))
        (ap (λ (k : K). (a₁ * a₀) * k) (mid ∙ L.add_comm (b₁ * c₀) (b₀ * c₁)))

    -- a₁ / b₁ = a₀ / b₀ or a₁ / c₁ = a₀ / c₀: if the one fails the other holds
    pub cross_from_middle : a₁ * d₀ + a₀ * d₁ ≡ b₁ * c₀ + b₀ * c₁ → ¬ (a₁ * b₀ ≡ a₀ * b₁) → a₁ * c₀ ≡ a₀ * c₁
    cross_from_middle mid n =
        equal_from_sum L (a₁ * c₀) (a₀ * c₁)
        (L.no_zero_divisors (a₁ * b₀ + a₀ * b₁) (a₁ * c₀ + a₀ * c₁)
        (λ e. n (equal_from_sum L (a₁ * b₀) (a₀ * b₁) e)) (cross_vanishes mid))

    -- a₁ / b₁ = a₀ / b₀ makes all four ratios equal, and so gives the middle equation
    pub middle_from_cross : ¬ (b₀ ≡ o) → ¬ (b₁ ≡ o) → a₁ * b₀ ≡ a₀ * b₁ → a₁ * d₀ + a₀ * d₁ ≡ b₁ * c₀ + b₀ * c₁
    middle_from_cross nb₀ nb₁ e =
        ap₂ ◌+◌
        (ratio_trans a₁ b₁ a₀ b₀ c₀ d₀ nb₀ (e ∙ L.mul_comm a₀ b₁) low)
        (ratio_trans a₀ b₀ a₁ b₁ c₁ d₁ nb₁ (sym e ∙ L.mul_comm a₁ b₀) high)

  -- ---- which halves may vanish
  module _ (a₀ a₁ d₀ d₁ b₀ b₁ c₀ c₁ : K) (high : a₁ * d₁ ≡ b₁ * c₁) (mid : a₁ * d₀ + a₀ * d₁ ≡ b₁ * c₀ + b₀ * c₁) where
    -- where the variable stands neither in a nor in d, it does not stand in b, unless c is zero
    pub degree_none : a₁ ≡ o → d₁ ≡ o → ¬ ((c₀ ≡ o) × (c₁ ≡ o)) → b₁ ≡ o
    degree_none ea ed nc =
        L.stable b₁ o
        (λ nb.
        let c₁_zero : c₁ ≡ o = L.no_zero_divisors b₁ c₁ nb (sym high ∙ ap (λ (k : K). k * d₁) ea ∙ L.zero_mul d₁) in
        let mid_zero : b₁ * c₀ + b₀ * c₁ ≡ o =
        sym mid ∙ ap₂ ◌+◌ (ap (λ (k : K). k * d₀) ea ∙ L.zero_mul d₀) (ap (λ (k : K). a₀ * k) ed ∙ mul_zero L a₀) ∙ L.zero_add o in
        let left_zero : b₁ * c₀ ≡ o =
        sym (add_zero L (b₁ * c₀)) ∙ ap (λ (k : K). b₁ * c₀ + k) (sym (ap (λ (k : K). b₀ * k) c₁_zero ∙ mul_zero L b₀)) ∙ mid_zero in
        nc (L.no_zero_divisors b₁ c₀ nb left_zero, c₁_zero))
