-- Refine: if p q = r s for multilinear p, q, r, s, there are multilinear a, b, c, d with p = a b, q = c d, r = a c, s = b d.
-- What it says, its symmetries, and where a factor is zero; the theorem is in Refined. No gcd and no coprimality. Leans on Finite.
use mathlib.Core.Path.{◌≡◌, sym, ap, ◌∙◌}
use Prim.Native.Nat.{ℕ}
use Rattle.ring.proofs.Series.{R, nought, plus, times, laws}
use Rattle.ring.proofs.Multilinear.{M, series_of, none, one, series_of_none, one_times}
use Rattle.ring.proofs.Finite.{Finite, Multi, finite_plus, finite_times, finite_multilinear, finite_zero_or_not, zero_or_not, divisor_multilinear}

-- the value of a multilinear polynomial
abbrev pub σ : (n : ℕ) → M n → R n
σ n m = series_of n m

-- (x y) z = (x z) y
pub swap_right : (n : ℕ) (x y z : R n) → times n (times n x y) z ≡ times n (times n x z) y
swap_right n x y z =
    (laws n).mul_assoc x y z ∙ ap (times n x) ((laws n).mul_comm y z) ∙ sym ((laws n).mul_assoc x z y)

-- if x y w is multilinear and w is not zero, x y is multilinear
pub stays_multilinear : (n : ℕ) (x y w v : M n) → ¬ (σ n w ≡ nought n) → times n (times n (σ n x) (σ n y)) (σ n w) ≡ σ n v → Multi n (times n (σ n x) (σ n y))
stays_multilinear n x y w v =
    divisor_multilinear n (times n (σ n x) (σ n y)) (σ n w) v
    (finite_times n (σ n x) (σ n y) (finite_multilinear n x) (finite_multilinear n y)) (finite_multilinear n w)

-- a sum of two products of multilinear polynomials is zero or not
pub sum_zero_or_not : (n : ℕ) (a b c d : M n) → Dec (plus n (times n (σ n a) (σ n b)) (times n (σ n c) (σ n d)) ≡ nought n)
sum_zero_or_not n a b c d =
    finite_zero_or_not n (plus n (times n (σ n a) (σ n b)) (times n (σ n c) (σ n d)))
    (finite_plus n (times n (σ n a) (σ n b)) (times n (σ n c) (σ n d)) (product a b) (product c d))
  where
    product : (a b : M n) → Finite n (times n (σ n a) (σ n b))
    product a b = finite_times n (σ n a) (σ n b) (finite_multilinear n a) (finite_multilinear n b)

-- ---- the statement

pub record Refined (n : ℕ) (p q r s : M n) : Type 0 where
  pub a : M n
  pub b : M n
  pub c : M n
  pub d : M n
  pub p_is : σ n p ≡ times n (σ n a) (σ n b)
  pub q_is : σ n q ≡ times n (σ n c) (σ n d)
  pub r_is : σ n r ≡ times n (σ n a) (σ n c)
  pub s_is : σ n s ≡ times n (σ n b) (σ n d)

-- ---- symmetries

pub exchange : (n : ℕ) (p q r s : M n) → Refined n p q s r → Refined n p q r s
exchange n p q r s f = record {
  a = f.b;
  b = f.a;
  c = f.d;
  d = f.c;
  p_is = f.p_is ∙ (laws n).mul_comm (σ n f.a) (σ n f.b);
  q_is = f.q_is ∙ (laws n).mul_comm (σ n f.c) (σ n f.d);
  r_is = f.s_is;
  s_is = f.r_is;
}

turn : (n : ℕ) (p q r s : M n) → Refined n q p s r → Refined n p q r s
turn n p q r s f = record {
  a = f.d;
  b = f.c;
  c = f.b;
  d = f.a;
  p_is = f.q_is ∙ (laws n).mul_comm (σ n f.c) (σ n f.d);
  q_is = f.p_is ∙ (laws n).mul_comm (σ n f.a) (σ n f.b);
  r_is = f.s_is ∙ (laws n).mul_comm (σ n f.b) (σ n f.d);
  s_is = f.r_is ∙ (laws n).mul_comm (σ n f.a) (σ n f.c);
}

-- ---- a factor that is zero

times_one : (n : ℕ) (x : R n) → x ≡ times n x (σ n (one n))
times_one n x = sym ((laws n).mul_comm x (σ n (one n)) ∙ one_times n x)

pub none_times : (n : ℕ) (x : R n) → times n (σ n (none n)) x ≡ nought n
none_times n x = ap (λ (u : R n). times n u x) (series_of_none n) ∙ (laws n).zero_mul x

both_zero : (n : ℕ) (p q r s : M n) → σ n p ≡ nought n → σ n r ≡ nought n → Refined n p q r s
both_zero n p q r s zp zr = record {
  a = none n;
  b = s;
  c = q;
  d = one n;
  p_is = zp ∙ sym (none_times n (σ n s));
  q_is = times_one n (σ n q);
  r_is = zr ∙ sym (none_times n (σ n q));
  s_is = times_one n (σ n s);
}

pub zero_first : (n : ℕ) (p q r s : M n) → times n (σ n p) (σ n q) ≡ times n (σ n r) (σ n s) → σ n p ≡ nought n → Refined n p q r s
zero_first n p q r s e zp = go (zero_or_not n r)
  where
    go : Dec (σ n r ≡ nought n) → Refined n p q r s
    go (yes zr) = both_zero n p q r s zp zr
    go (no nr) =
        exchange n p q r s
        (both_zero n p q s r zp
        ((laws n).no_zero_divisors (σ n r) (σ n s) nr (sym e ∙ ap (λ (u : R n). times n u (σ n q)) zp ∙ (laws n).zero_mul (σ n q))))

pub zero_second : (n : ℕ) (p q r s : M n) → times n (σ n p) (σ n q) ≡ times n (σ n r) (σ n s) → σ n q ≡ nought n → Refined n p q r s
zero_second n p q r s e zq =
    turn n p q r s
    (zero_first n q p s r ((laws n).mul_comm (σ n q) (σ n p) ∙ e ∙ (laws n).mul_comm (σ n r) (σ n s)) zq)
