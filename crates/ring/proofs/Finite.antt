-- Polynomials among the series: finitely many exponents of each variable. Zero can be told apart; the highest coefficients multiply; and so what divides a multilinear
-- polynomial is multilinear itself. Leans on Multilinear and Sums.
use mathlib.Core.Path.{◌≡◌, refl, sym, ap, ap₂, ◌∙◌, fun_ext}
use mathlib.Core.Bool.{Bool, true, false, true≢false}
use mathlib.Core.List.{List, [], ◌∷◌}
use mathlib.Core.Logic.{◌⊎◌, inl, inr, ⊎_elim}
use Prim.Native.Nat.{ℕ, zero, suc, ◌+◌, ◌≤◌, ◌<◌}
use native.Mathlib.Nat.{eq-or-lt_of_le}
use native.Mathlib.Numerals.{unary_clauses}
use native.Mathlib.Omega.{arith}
use lib.Dec.{eqb}
use borrow.Author.Tests.{ne_eqb}
use Rattle.ring.specs.Same.{Monomial}
use Rattle.ring.proofs.Domain.{mul_zero, product_nonzero}
use Rattle.ring.proofs.Series.{R, nought, plus, times, laws, conv, conv_zero, constant_times}
use Rattle.ring.proofs.Powers.{scale}
use Rattle.ring.proofs.Sums.{single, sum}
use Rattle.ring.proofs.Multilinear.{M, series_of, none, series_of_none}

-- from some exponent on nothing, and so for the other variables in each coefficient
abbrev pub Finite : (n : ℕ) → R n → Type 0
Finite zero x = Unit {0}
Finite (suc n) f = (d : ℕ) × ((j : ℕ) → d ≤ j → f j ≡ nought n) × ((j : ℕ) → Finite n (f j))

pub finite_nought : (n : ℕ) → Finite n (nought n)
finite_nought zero = tt
finite_nought (suc n) = (0, (λ j l. refl), (λ j. finite_nought n))

pub finite_plus : (n : ℕ) (x y : R n) → Finite n x → Finite n y → Finite n (plus n x y)
finite_plus zero x y p q = tt
finite_plus (suc n) f g p q = (
  p.0 + q.0,
  (λ j l. ap₂ (plus n) (p.1 j (omega arith)) (q.1 j (omega arith)) ∙ (laws n).zero_add (nought n)),
  (λ j. finite_plus n (f j) (g j) (p.2 j) (q.2 j)),
)

conv_vanishes : (n a b : ℕ) (f g : ℕ → R n) → ((j : ℕ) → a ≤ j → f j ≡ nought n) → ((j : ℕ) → b ≤ j → g j ≡ nought n)
    → (k : ℕ) → a + b ≤ k → times (suc n) f g k ≡ nought n
conv_vanishes n zero b f g zf zg k l =
    ap (λ (h : ℕ → R n). times (suc n) h g k) (fun_ext (λ j. zf j (omega arith))) ∙ conv_zero (laws n) g k
conv_vanishes n (suc a) b f g zf zg zero l = absurd (omega arith)
conv_vanishes n (suc a) b f g zf zg (suc k) l =
    ap₂ (plus n) (ap (times n (f 0)) (zg (suc k) (omega arith)) ∙ mul_zero (laws n) (f 0))
    (conv_vanishes n a b (λ j. f (suc j)) g (λ j m. zf (suc j) (omega arith)) zg k (omega arith))
    ∙ (laws n).zero_add (nought n)

conv_finite : (n : ℕ) → ((x y : R n) → Finite n x → Finite n y → Finite n (times n x y)) → (f g : ℕ → R n)
    → ((j : ℕ) → Finite n (f j)) → ((j : ℕ) → Finite n (g j)) → (k : ℕ) → Finite n (times (suc n) f g k)
conv_finite n ih f g p q zero = ih (f 0) (g 0) (p 0) (q 0)
conv_finite n ih f g p q (suc k) =
    finite_plus n (times n (f 0) (g (suc k))) (conv (plus n) (times n) (λ j. f (suc j)) g k) (ih (f 0) (g (suc k)) (p 0) (q (suc k)))
    (conv_finite n ih (λ j. f (suc j)) g (λ j. p (suc j)) q k)

pub finite_times : (n : ℕ) (x y : R n) → Finite n x → Finite n y → Finite n (times n x y)
finite_times zero x y p q = tt
finite_times (suc n) f g p q =
    (p.0 + q.0, conv_vanishes n p.0 q.0 f g p.1 q.1, conv_finite n (finite_times n) f g p.2 q.2)

-- a multilinear polynomial has no exponent above 1
above_one : (n : ℕ) (p : M (suc n)) (k : ℕ) → 2 ≤ k → series_of (suc n) p k ≡ nought n
above_one n p zero l = absurd (omega arith)
above_one n p (suc zero) l = absurd (omega arith)
above_one n p (suc (suc k)) l = refl

pub finite_multilinear : (n : ℕ) (p : M n) → Finite n (series_of n p)
finite_multilinear zero p = tt
finite_multilinear (suc n) p = (2, above_one n p, each (finite_multilinear n p.0) (finite_multilinear n p.1))
  where
    each : Finite n (series_of n p.0) → Finite n (series_of n p.1) → (j : ℕ) → Finite n (series_of (suc n) p j)
    each high low zero = low
    each high low (suc zero) = high
    each high low (suc (suc j)) = finite_nought n

finite_single : (n : ℕ) (m : Monomial) → Finite n (single n m)
unfolding scale
finite_single zero m = tt
finite_single (suc n) m = (
  suc (m n),
  (λ j l. ap (λ (b : Bool). scale n b (single n m)) (ne_eqb (m n) j (λ e. absurd (omega arith)))),
  (λ j. scaled (eqb (m n) j) (finite_single n m)),
)
  where
    scaled : (b : Bool) → Finite n (single n m) → Finite n (scale n b (single n m))
    scaled true p = p
    scaled false p = finite_nought n

pub finite_sum : (n : ℕ) (g : List Monomial) → Finite n (sum n g)
unfolding sum
finite_sum n [] = finite_nought n
finite_sum n (m ∷ g) = finite_plus n (single n m) (sum n g) (finite_single n m) (finite_sum n g)

-- ---- the highest coefficient

-- all coefficients are zero, or one is not and those above it are
abbrev Highest : (n : ℕ) → (ℕ → R n) → Type 0
Highest n f = ((j : ℕ) → f j ≡ nought n) ⊎ ((a : ℕ) × ¬ (f a ≡ nought n) × ((j : ℕ) → a < j → f j ≡ nought n))

highest : (n d : ℕ) (f : ℕ → R n) → ((j : ℕ) → Dec (f j ≡ nought n)) → ((j : ℕ) → d ≤ j → f j ≡ nought n) → Highest n f
highest n zero f dec above = inl (λ j. above j (omega arith))
highest n (suc d) f dec above = go (dec d) (highest n d f dec)
  where
    go : Dec (f d ≡ nought n) → (((j : ℕ) → d ≤ j → f j ≡ nought n) → Highest n f) → Highest n f
    go (yes z) next = next (λ j l. ⊎_elim (λ e. ap f (sym e) ∙ z) (above j) (eq-or-lt_of_le l))
    go (no nz) next = inr (d, nz, above)

pub finite_zero_or_not : (n : ℕ) (x : R n) → Finite n x → Dec (x ≡ nought n)
finite_zero_or_not zero true p = no true≢false
finite_zero_or_not zero false p = yes refl
finite_zero_or_not (suc n) f p =
    ⊎_elim (λ z. yes (fun_ext z)) (λ a. no (λ z. a.1 (ap (λ (u : R (suc n)). u a.0) z)))
    (highest n p.0 f (λ j. finite_zero_or_not n (f j) (p.2 j)) p.1)

pub zero_or_not : (n : ℕ) (p : M n) → Dec (series_of n p ≡ nought n)
zero_or_not n p = finite_zero_or_not n (series_of n p) (finite_multilinear n p)

highest_multiply : (n a b : ℕ) (f g : ℕ → R n) → ((j : ℕ) → a < j → f j ≡ nought n) → ((j : ℕ) → b < j → g j ≡ nought n)
    → times (suc n) f g (b + a) ≡ times n (f a) (g b)
highest_multiply n zero b f g zf zg = simp unary_clauses (constant_times n f g (λ j. zf (suc j) (omega arith)) b)
highest_multiply n (suc a) b f g zf zg =
    simp unary_clauses
    (ap₂ (plus n) (ap (times n (f 0)) (zg (suc (b + a)) (omega arith)) ∙ mul_zero (laws n) (f 0))
    (highest_multiply n a b (λ j. f (suc j)) g (λ j l. zf (suc j) (omega arith)) zg)
    ∙ (laws n).zero_add (times n (f (suc a)) (g b)))

-- ---- what divides a multilinear polynomial

-- x is multilinear
abbrev pub Multi : (n : ℕ) → R n → Type 0
Multi n x = (u : M n) × (x ≡ series_of n u)

abbrev Divides : ℕ → Type 0
Divides n = (x y : R n) (p : M n) → Finite n x → Finite n y → ¬ (y ≡ nought n) → times n x y ≡ series_of n p → Multi n x

module _ (n : ℕ) (ih : Divides n) (f g : ℕ → R n) (p : M (suc n)) (pf : Finite (suc n) f) (pg : Finite (suc n) g)
    (e : (k : ℕ) → times (suc n) f g k ≡ series_of (suc n) p k) where
  linear : Multi n (f 0) → Multi n (f 1) → ((j : ℕ) → 2 ≤ j → f j ≡ nought n) → Multi (suc n) f
  linear low high z = ((high.0, low.0), fun_ext at)
    where
      at : (j : ℕ) → f j ≡ series_of (suc n) (high.0, low.0) j
      at zero = low.1
      at (suc zero) = high.1
      at (suc (suc j)) = z (suc (suc j)) (omega arith)

  -- the variable does not stand in g
  by_constant : ¬ (g 0 ≡ nought n) → ((j : ℕ) → g (suc j) ≡ nought n) → Multi (suc n) f
  by_constant nz z =
      linear (ih (f 0) (g 0) p.1 (pf.2 0) (pg.2 0) nz (at 0)) (ih (f 1) (g 0) p.0 (pf.2 1) (pg.2 0) nz (at 1))
      (λ j l. (laws n).no_zero_divisors (g 0) (f j) nz ((laws n).mul_comm (g 0) (f j) ∙ at j ∙ above_one n p j l))
    where
      at : (k : ℕ) → times n (f k) (g 0) ≡ series_of (suc n) p k
      at k =
          (laws n).mul_comm (f k) (g 0) ∙ sym (constant_times n g f z k)
          ∙ ap (λ (u : R (suc n)). u k) ((laws (suc n)).mul_comm g f) ∙ e k

  -- it stands in g, and so not in f
  by_highest : (a b : ℕ) → ¬ (f a ≡ nought n) → ((j : ℕ) → a < j → f j ≡ nought n) → ¬ (g (suc b) ≡ nought n) → ((j : ℕ) → suc b < j → g j ≡ nought n)
      → Multi (suc n) f
  by_highest zero zero na za nb zb =
      linear (ih (f 0) (g 1) p.0 (pf.2 0) (pg.2 1) nb (sym (constant_times n f g (λ j. za (suc j) (omega arith)) 1) ∙ e 1))
      (none n, za 1 (omega arith) ∙ sym (series_of_none n)) (λ j l. za j (omega arith))
  by_highest (suc a) b na za nb zb = absurd (product_nonzero (laws n) (f (suc a)) (g (suc b)) na nb (sym (highest_multiply n (suc a) (suc b) f g za zb) ∙ e (suc b + suc a) ∙ above_one n p (suc b + suc a) (omega arith)))
  by_highest zero (suc b) na za nb zb = absurd (product_nonzero (laws n) (f 0) (g (suc (suc b))) na nb (sym (highest_multiply n 0 (suc (suc b)) f g za zb) ∙ e (suc (suc b) + 0) ∙ above_one n p (suc (suc b) + 0) (omega arith)))

  by_degrees : ¬ (g ≡ nought (suc n)) → Highest n f → Highest n g → Multi (suc n) f
  by_degrees ng (inl z) d = (none (suc n), fun_ext z ∙ sym (series_of_none (suc n)))
  by_degrees ng (inr a) (inl z) = absurd (ng (fun_ext z))
  by_degrees ng (inr a) (inr b) = go b.0 b.1 b.2
    where
      go : (d : ℕ) → ¬ (g d ≡ nought n) → ((j : ℕ) → d < j → g j ≡ nought n) → Multi (suc n) f
      go zero nz z = by_constant nz (λ j. z (suc j) (omega arith))
      go (suc d) nz z = by_highest a.0 d a.1 a.2 nz z

-- if x y is multilinear and y is not zero, x is multilinear
pub divisor_multilinear : (n : ℕ) → Divides n
divisor_multilinear zero x y p pf pg ny e = (x, refl)
divisor_multilinear (suc n) f g p pf pg ng e =
    by_degrees n (divisor_multilinear n) f g p pf pg (λ k. ap (λ (u : R (suc n)). u k) e) ng (top f pf) (top g pg)
  where
    top : (h : ℕ → R n) → Finite (suc n) h → Highest n h
    top h q = highest n q.0 h (λ j. finite_zero_or_not n (h j) (q.2 j)) q.1
