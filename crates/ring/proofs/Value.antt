-- The value of a list of terms at k variables: a series with exponents 0 and 1, read variable by variable from the highest.
-- Only the bits below k are read. Products are equal exactly if three equations of halves hold (RULES 3.3).
use mathlib.Core.Path.{◌≡◌, refl, sym, ap, ap₂, ◌∙◌, fun_ext}
use mathlib.Core.Bool.{Bool, true, false, not, xor}
use mathlib.Core.List.{List, [], ◌∷◌}
use Prim.Native.Nat.{ℕ, zero, suc}
use Rattle.masks.specs.Bit.{bit}
use Rattle.polys.specs.List.{either}
use Rattle.ring.specs.Run.{lacking, holding}
use Rattle.ring.proofs.Domain.{mul_zero, add_zero}
use Rattle.ring.proofs.Series.{R, nought, plus, times, laws, conv_zero}

-- x without the next variable and y with it: x + y z
abbrev pub join : (n : ℕ) → R n → R n → ℕ → R n
join n x y zero = x
join n x y (suc zero) = y
join n x y (suc (suc i)) = nought n

-- an odd number of terms
unfoldable pub odd : List ℕ → Bool
odd [] = false
odd (t ∷ l) = not (odd l)

unfoldable pub value : (k : ℕ) → List ℕ → R k
value zero l = odd l
value (suc k) l = join k (value k (lacking k l)) (value k (holding k l))

-- the products of values are equal
abbrev pub Equal : ℕ → List ℕ → List ℕ → List ℕ → List ℕ → Type 0
Equal k a d b c = times k (value k a) (value k d) ≡ times k (value k b) (value k c)

-- ---- the three equations of halves

pub record Equations (n : ℕ) (a₀ a₁ d₀ d₁ b₀ b₁ c₀ c₁ : R n) : Type 0 where
  pub high : times n a₁ d₁ ≡ times n b₁ c₁
  pub low : times n a₀ d₀ ≡ times n b₀ c₀
  pub middle : plus n (times n a₁ d₀) (times n a₀ d₁) ≡ plus n (times n b₁ c₀) (times n b₀ c₁)

module _ (n : ℕ) where
  pub second : (a₀ a₁ d₀ d₁ : R n) → times (suc n) (join n a₀ a₁) (join n d₀ d₁) 2 ≡ times n a₁ d₁
  second a₀ a₁ d₀ d₁ =
      ap₂ (plus n) (mul_zero (laws n) a₀) (ap (λ (u : R n). plus n (times n a₁ d₁) u) ((laws n).zero_mul d₀) ∙ add_zero (laws n) (times n a₁ d₁))
      ∙ (laws n).zero_add (times n a₁ d₁)

  pub beyond : (a₀ a₁ d₀ d₁ : R n) (i : ℕ) → times (suc n) (join n a₀ a₁) (join n d₀ d₁) (suc (suc (suc i))) ≡ nought n
  beyond a₀ a₁ d₀ d₁ i =
      ap₂ (plus n) (mul_zero (laws n) a₀)
      (ap₂ (plus n) (mul_zero (laws n) a₁) (conv_zero (laws n) (join n d₀ d₁) (suc i)) ∙ (laws n).zero_add (nought n))
      ∙ (laws n).zero_add (nought n)

  module _ (a₀ a₁ d₀ d₁ b₀ b₁ c₀ c₁ : R n) where
    pub halves_from_product : times (suc n) (join n a₀ a₁) (join n d₀ d₁) ≡ times (suc n) (join n b₀ b₁) (join n c₀ c₁) → Equations n a₀ a₁ d₀ d₁ b₀ b₁ c₀ c₁
    halves_from_product e = record {
      high = sym (second a₀ a₁ d₀ d₁) ∙ ap (λ (u : R (suc n)). u 2) e ∙ second b₀ b₁ c₀ c₁;
      low = ap (λ (u : R (suc n)). u 0) e;
      middle =
          (laws n).add_comm (times n a₁ d₀) (times n a₀ d₁) ∙ ap (λ (u : R (suc n)). u 1) e ∙ (laws n).add_comm (times n b₀ c₁) (times n b₁ c₀);
    }

    pub product_from_halves : Equations n a₀ a₁ d₀ d₁ b₀ b₁ c₀ c₁ → times (suc n) (join n a₀ a₁) (join n d₀ d₁) ≡ times (suc n) (join n b₀ b₁) (join n c₀ c₁)
    product_from_halves h = fun_ext at
      where
        at : (i : ℕ) → times (suc n) (join n a₀ a₁) (join n d₀ d₁) i ≡ times (suc n) (join n b₀ b₁) (join n c₀ c₁) i
        at zero = h.low
        at (suc zero) = (laws n).add_comm (times n a₀ d₁) (times n a₁ d₀) ∙ h.middle ∙ (laws n).add_comm (times n b₁ c₀) (times n b₀ c₁)
        at (suc (suc zero)) = second a₀ a₁ d₀ d₁ ∙ h.high ∙ sym (second b₀ b₁ c₀ c₁)
        at (suc (suc (suc i))) = beyond a₀ a₁ d₀ d₁ i ∙ sym (beyond b₀ b₁ c₀ c₁ i)

-- ---- the value of a list is the sum of the values of its terms

join_add : (n : ℕ) (x y u v : R n) → join n (plus n x u) (plus n y v) ≡ plus (suc n) (join n x y) (join n u v)
join_add n x y u v = fun_ext at
  where
    at : (i : ℕ) → join n (plus n x u) (plus n y v) i ≡ plus n (join n x y i) (join n u v i)
    at zero = refl
    at (suc zero) = refl
    at (suc (suc i)) = sym ((laws n).zero_add (nought n))

pub join_nought : (k : ℕ) (x y : R k) → x ≡ nought k → y ≡ nought k → (i : ℕ) → join k x y i ≡ nought k
join_nought k x y ex ey zero = ex
join_nought k x y ex ey (suc zero) = ey
join_nought k x y ex ey (suc (suc i)) = refl

pub value_none : (k : ℕ) → value k [] ≡ nought k
unfolding value lacking holding odd
value_none zero = refl
value_none (suc k) = fun_ext (join_nought k (value k []) (value k []) (value_none k) (value_none k))

-- one more term, with variable k or without it
more_by : (k t : ℕ) → ((l : List ℕ) → value k (t ∷ l) ≡ plus k (value k (t ∷ [])) (value k l)) → (b : Bool) (l h : List ℕ)
    → join k (value k (either b l (t ∷ l))) (value k (either b (t ∷ h) h))
    ≡ plus (suc k) (join k (value k (either b [] (t ∷ []))) (value k (either b (t ∷ []) []))) (join k (value k l) (value k h))
more_by k t ih true l h =
    ap₂ (join k) (sym (ap (λ (u : R k). plus k u (value k l)) (value_none k) ∙ (laws k).zero_add (value k l))) (ih h)
    ∙ join_add k (value k []) (value k (t ∷ [])) (value k l) (value k h)
more_by k t ih false l h =
    ap₂ (join k) (ih l) (sym (ap (λ (u : R k). plus k u (value k h)) (value_none k) ∙ (laws k).zero_add (value k h)))
    ∙ join_add k (value k (t ∷ [])) (value k []) (value k l) (value k h)

pub value_more : (k t : ℕ) (l : List ℕ) → value k (t ∷ l) ≡ plus k (value k (t ∷ [])) (value k l)
unfolding value lacking holding odd xor
value_more zero t l = elim (odd l) as (λ b. not b ≡ xor true b) [ true ↦ refl | false ↦ refl ]
value_more (suc k) t l = more_by k t (value_more k t) (bit t k) (lacking k l) (holding k l)
