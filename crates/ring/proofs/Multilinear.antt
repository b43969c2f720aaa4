-- Multilinear polynomials: exponents 0 and 1. M 0 = Bool, M (n + 1) = M n times M n, with the next variable and without
-- it; each has its value in the ring of series.
use mathlib.Core.Path.{◌≡◌, refl, ap, ap₂, ◌∙◌, fun_ext}
use mathlib.Core.Bool.{Bool, true, false}
use Prim.Native.Nat.{ℕ, zero, suc}
use Rattle.ring.proofs.Domain.{add_zero}
use Rattle.ring.proofs.Series.{R, nought, plus, times, laws, conv, conv_zero}
use Rattle.ring.proofs.Value.{join, join_nought, second, beyond}

abbrev pub M : ℕ → Type 0
M zero = Bool
M (suc n) = M n × M n

-- its value: the first part stands with the next variable, the second without it
abbrev pub series_of : (n : ℕ) → M n → R n
series_of zero b = b
series_of (suc n) m = join n (series_of n m.1) (series_of n m.0)

abbrev pub none : (n : ℕ) → M n
none zero = false
none (suc n) = (none n, none n)

abbrev pub one : (n : ℕ) → M n
one zero = true
one (suc n) = (none n, one n)

-- free of the next variable
abbrev pub lift : (n : ℕ) → M n → M (suc n)
lift n m = (none n, m)

pub series_of_none : (n : ℕ) → series_of n (none n) ≡ nought n
series_of_none zero = refl
series_of_none (suc n) = fun_ext (join_nought n (series_of n (none n)) (series_of n (none n)) (series_of_none n) (series_of_none n))

-- ---- the product with what is free of the next variable

pub times_free : (n : ℕ) (x y₀ y₁ : R n) → times (suc n) (join n x (nought n)) (join n y₀ y₁) ≡ join n (times n x y₀) (times n x y₁)
times_free n x y₀ y₁ = fun_ext at
  where
    at : (i : ℕ) → times (suc n) (join n x (nought n)) (join n y₀ y₁) i ≡ join n (times n x y₀) (times n x y₁) i
    at zero = refl
    at (suc zero) = ap (λ (u : R n). plus n (times n x y₁) u) ((laws n).zero_mul y₀) ∙ add_zero (laws n) (times n x y₁)
    at (suc (suc zero)) = second n x (nought n) y₀ y₁ ∙ (laws n).zero_mul y₁
    at (suc (suc (suc i))) = beyond n x (nought n) y₀ y₁ i

pub series_of_lift : (n : ℕ) (m : M n) → series_of (suc n) (lift n m) ≡ join n (series_of n m) (nought n)
series_of_lift n m = ap (λ (u : R n). join n (series_of n m) u) (series_of_none n)

-- m times b, b free of the next variable
pub times_lift : (n : ℕ) (m : M (suc n)) (b : M n) → times (suc n) (series_of (suc n) m) (series_of (suc n) (lift n b))
    ≡ join n (times n (series_of n b) (series_of n m.1)) (times n (series_of n b) (series_of n m.0))
times_lift n m b =
    (laws (suc n)).mul_comm (series_of (suc n) m) (series_of (suc n) (lift n b))
    ∙ ap (λ (u : R (suc n)). times (suc n) u (series_of (suc n) m)) (series_of_lift n b)
    ∙ times_free n (series_of n b) (series_of n m.1) (series_of n m.0)

pub one_times : (n : ℕ) (x : R n) → times n (series_of n (one n)) x ≡ x
one_times zero x = refl
one_times (suc n) f = fun_ext (at (one_times n))
  where
    rest : (j : ℕ) → join n (series_of n (one n)) (series_of n (none n)) (suc j) ≡ nought n
    rest zero = series_of_none n
    rest (suc j) = refl

    at : ((x : R n) → times n (series_of n (one n)) x ≡ x) → (i : ℕ) → times (suc n) (series_of (suc n) (one (suc n))) f i ≡ f i
    at ih zero = ih (f zero)
    at ih (suc i) =
        ap₂ (plus n) (ih (f (suc i))) (ap (λ (g : ℕ → R n). conv (plus n) (times n) g f i) (fun_ext rest) ∙ conv_zero (laws n) f i)
        ∙ add_zero (laws n) (f (suc i))
