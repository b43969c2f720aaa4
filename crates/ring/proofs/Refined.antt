-- Refine, the theorem: if p q = r s for multilinear p, q, r, s, there are multilinear a, b, c, d with p = a b, q = c d, r = a c,
-- s = b d. By induction on the number of variables: two factors share the part that holds the next variable, which cancels.
use mathlib.Core.Path.{◌≡◌, refl, sym, ap, ap₂, ◌∙◌, fun_ext}
use mathlib.Core.Bool.{Bool, true, false, true≢false}
use Prim.Native.Nat.{ℕ, zero, suc}
use Rattle.ring.proofs.Domain.{mul_zero, product_nonzero, cancel_right, equal_from_sum}
use Rattle.ring.proofs.Series.{R, nought, plus, times, laws}
use Rattle.ring.proofs.Ratio.{cross_vanishes}
use Rattle.ring.proofs.Value.{join, Equations, halves_from_product}
use Rattle.ring.proofs.Multilinear.{M, none, lift, times_free, times_lift}
use Rattle.ring.proofs.Finite.{Multi, zero_or_not}
use Rattle.ring.proofs.Refine.{σ, swap_right, stays_multilinear, sum_zero_or_not, Refined, exchange, none_times, zero_first, zero_second}

-- ---- no variable

all_one : (p q r s : Bool) → times 0 p q ≡ times 0 r s → ¬ (p ≡ false) → ¬ (q ≡ false) → Refined 0 p q r s
all_one true true true true e np nq = record { a = true; b = true; c = true; d = true; p_is = refl; q_is = refl; r_is = refl; s_is = refl }
all_one true true true false e np nq = absurd (true≢false e)
all_one true true false s e np nq = absurd (true≢false e)
all_one true false r s e np nq = absurd (nq refl)
all_one false q r s e np nq = absurd (np refl)

-- ---- one variable more

module _ (n : ℕ) (p q r s : M (suc n)) (α β γ δ : M n)
    (p₁ : σ n p.0 ≡ times n (σ n α) (σ n β)) (p₀ : σ n p.1 ≡ times n (σ n α) (σ n γ))
    (r₁ : σ n r.0 ≡ times n (σ n β) (σ n δ)) (r₀ : σ n r.1 ≡ times n (σ n γ) (σ n δ)) where
  -- α = g b, δ = g c: the parts of p, q, r, s from those of what was refined without the variable
  assemble : (g b c d e : M n) → ¬ (σ n b ≡ nought n)
      → σ n α ≡ times n (σ n g) (σ n b) → σ n δ ≡ times n (σ n g) (σ n c)
      → σ n q.1 ≡ times n (σ n c) (σ n d) → σ n s.1 ≡ times n (σ n b) (σ n d)
      → σ n q.0 ≡ times n (σ n c) (σ n e) → σ n s.0 ≡ times n (σ n b) (σ n e)
      → Refined (suc n) p q r s
  assemble g b c d e nb α_is δ_is q₀ s₀ q₁ s₁ = record {
    a = (high.0, low.0);
    b = lift n b;
    c = lift n c;
    d = (e, d);
    p_is = ap₂ (join n) (left γ p.1 p₀ low) (left β p.0 p₁ high) ∙ sym (times_lift n (high.0, low.0) b);
    q_is = ap₂ (join n) q₀ q₁ ∙ sym (times_lift n (e, d) c) ∙ (laws (suc n)).mul_comm (σ (suc n) (e, d)) (σ (suc n) (lift n c));
    r_is = ap₂ (join n) (right γ r.1 r₀ low) (right β r.0 r₁ high) ∙ sym (times_lift n (high.0, low.0) c);
    s_is = ap₂ (join n) s₀ s₁ ∙ sym (times_lift n (e, d) b) ∙ (laws (suc n)).mul_comm (σ (suc n) (e, d)) (σ (suc n) (lift n b));
  }
    where
      -- α μ = (g μ) b
      through : (μ x : M n) → σ n x ≡ times n (σ n α) (σ n μ) → times n (times n (σ n g) (σ n μ)) (σ n b) ≡ σ n x
      through μ x h = swap_right n (σ n g) (σ n μ) (σ n b) ∙ ap (λ (u : R n). times n u (σ n μ)) (sym α_is) ∙ sym h

      high : Multi n (times n (σ n g) (σ n β))
      high = stays_multilinear n g β b p.0 nb (through β p.0 p₁)

      low : Multi n (times n (σ n g) (σ n γ))
      low = stays_multilinear n g γ b p.1 nb (through γ p.1 p₀)

      left : (μ x : M n) → σ n x ≡ times n (σ n α) (σ n μ) → (u : Multi n (times n (σ n g) (σ n μ))) → σ n x ≡ times n (σ n b) (σ n u.0)
      left μ x h u = sym (through μ x h) ∙ (laws n).mul_comm (times n (σ n g) (σ n μ)) (σ n b) ∙ ap (times n (σ n b)) u.1

      right : (μ x : M n) → σ n x ≡ times n (σ n μ) (σ n δ) → (u : Multi n (times n (σ n g) (σ n μ))) → σ n x ≡ times n (σ n c) (σ n u.0)
      right μ x h u =
          h ∙ (laws n).mul_comm (σ n μ) (σ n δ) ∙ ap (λ (v : R n). times n v (σ n μ)) δ_is ∙ swap_right n (σ n g) (σ n c) (σ n μ)
          ∙ (laws n).mul_comm (times n (σ n g) (σ n μ)) (σ n c) ∙ ap (times n (σ n c)) u.1

  -- p = α m and r = δ m with one m; it cancels
  m : M (suc n)
  m = (β, γ)

  p_shared : σ (suc n) p ≡ times (suc n) (join n (σ n α) (nought n)) (σ (suc n) m)
  unfolding m
  p_shared = ap₂ (join n) p₀ p₁ ∙ sym (times_free n (σ n α) (σ n γ) (σ n β))

  r_shared : σ (suc n) r ≡ times (suc n) (join n (σ n δ) (nought n)) (σ (suc n) m)
  unfolding m
  r_shared =
      ap₂ (join n) (r₀ ∙ (laws n).mul_comm (σ n γ) (σ n δ)) (r₁ ∙ (laws n).mul_comm (σ n β) (σ n δ)) ∙ sym (times_free n (σ n δ) (σ n γ) (σ n β))

  cancelled : times (suc n) (σ (suc n) p) (σ (suc n) q) ≡ times (suc n) (σ (suc n) r) (σ (suc n) s) → ¬ (σ (suc n) p ≡ nought (suc n))
      → join n (times n (σ n α) (σ n q.1)) (times n (σ n α) (σ n q.0)) ≡ join n (times n (σ n δ) (σ n s.1)) (times n (σ n δ) (σ n s.0))
  cancelled e np =
      sym (times_free n (σ n α) (σ n q.1) (σ n q.0))
      ∙ cancel_right (laws (suc n)) (times (suc n) (join n (σ n α) (nought n)) (σ (suc n) q)) (times (suc n) (join n (σ n δ) (nought n)) (σ (suc n) s)) (σ (suc n) m)
      (λ z. np (p_shared ∙ ap (times (suc n) (join n (σ n α) (nought n))) z ∙ mul_zero (laws (suc n)) (join n (σ n α) (nought n))))
      (swap_right (suc n) (join n (σ n α) (nought n)) (σ (suc n) q) (σ (suc n) m)
      ∙ ap (λ (u : R (suc n)). times (suc n) u (σ (suc n) q)) (sym p_shared)
      ∙ e
      ∙ ap (λ (u : R (suc n)). times (suc n) u (σ (suc n) s)) r_shared
      ∙ swap_right (suc n) (join n (σ n δ) (nought n)) (σ (suc n) m) (σ (suc n) s))
      ∙ times_free n (σ n δ) (σ n s.1) (σ n s.0)

abbrev Refines : ℕ → Type 0
Refines n = (p q r s : M n) → times n (σ n p) (σ n q) ≡ times n (σ n r) (σ n s) → Refined n p q r s

-- a factor of what is not zero is not zero
left_factor : (n : ℕ) (x y z : R n) → x ≡ times n y z → ¬ (x ≡ nought n) → ¬ (y ≡ nought n)
left_factor n x y z e nx ey = nx (e ∙ ap (λ (u : R n). times n u z) ey ∙ (laws n).zero_mul z)

right_factor : (n : ℕ) (x y z : R n) → x ≡ times n y z → ¬ (x ≡ nought n) → ¬ (z ≡ nought n)
right_factor n x y z e nx ez = nx (e ∙ ap (times n y) ez ∙ mul_zero (laws n) y)

module _ (n : ℕ) (ih : Refines n) (p q r s : M (suc n)) (α β γ δ : M n)
    (p₁ : σ n p.0 ≡ times n (σ n α) (σ n β)) (p₀ : σ n p.1 ≡ times n (σ n α) (σ n γ))
    (r₁ : σ n r.0 ≡ times n (σ n β) (σ n δ)) (r₀ : σ n r.1 ≡ times n (σ n γ) (σ n δ))
    (nα : ¬ (σ n α ≡ nought n)) (nδ : ¬ (σ n δ ≡ nought n))
    (low : times n (σ n α) (σ n q.1) ≡ times n (σ n δ) (σ n s.1)) (high : times n (σ n α) (σ n q.0) ≡ times n (σ n δ) (σ n s.0)) where
  -- the variable does not stand in q, and so not in s
  without_variable : σ n q.0 ≡ nought n → Refined (suc n) p q r s
  without_variable zq =
      let f = ih α q.1 δ s.1 low in
      let zs : σ n s.0 ≡ nought n =
      (laws n).no_zero_divisors (σ n δ) (σ n s.0) nδ (sym high ∙ ap (times n (σ n α)) zq ∙ mul_zero (laws n) (σ n α)) in
      let times_none : (x : R n) → nought n ≡ times n x (σ n (none n)) = (λ x. sym ((laws n).mul_comm x (σ n (none n)) ∙ none_times n x)) in
      assemble n p q r s α β γ δ p₁ p₀ r₁ r₀ f.a f.b f.c f.d (none n)
      (right_factor n (σ n α) (σ n f.a) (σ n f.b) f.p_is nα)
      f.p_is f.r_is f.q_is f.s_is (zq ∙ times_none (σ n f.c)) (zs ∙ times_none (σ n f.b))

  -- it stands in q: the halves with it are refined first, then those without it
  module _ (f : Refined n α q.0 δ s.0) where
    rest : times n (σ n f.b) (σ n q.1) ≡ times n (σ n f.c) (σ n s.1)
    rest =
        cancel_right (laws n) (times n (σ n f.b) (σ n q.1)) (times n (σ n f.c) (σ n s.1)) (σ n f.a)
        (left_factor n (σ n α) (σ n f.a) (σ n f.b) f.p_is nα)
        ((laws n).mul_comm (times n (σ n f.b) (σ n q.1)) (σ n f.a)
        ∙ sym ((laws n).mul_assoc (σ n f.a) (σ n f.b) (σ n q.1))
        ∙ ap (λ (u : R n). times n u (σ n q.1)) (sym f.p_is)
        ∙ low
        ∙ ap (λ (u : R n). times n u (σ n s.1)) f.r_is
        ∙ (laws n).mul_assoc (σ n f.a) (σ n f.c) (σ n s.1)
        ∙ (laws n).mul_comm (σ n f.a) (times n (σ n f.c) (σ n s.1)))

    module _ (g : Refined n f.b q.1 f.c s.1) where
      nb : ¬ (σ n g.b ≡ nought n)
      nb =
          right_factor n (σ n f.b) (σ n g.a) (σ n g.b) g.p_is (right_factor n (σ n α) (σ n f.a) (σ n f.b) f.p_is nα)

      nc : ¬ (σ n g.c ≡ nought n)
      nc =
          right_factor n (σ n f.c) (σ n g.a) (σ n g.c) g.r_is (right_factor n (σ n δ) (σ n f.a) (σ n f.c) f.r_is nδ)

      -- x = a y and y = a' z give x = (a a') z
      nested : (x y z : M n) → σ n x ≡ times n (σ n f.a) (σ n y) → σ n y ≡ times n (σ n g.a) (σ n z)
          → σ n x ≡ times n (times n (σ n f.a) (σ n g.a)) (σ n z)
      nested x y z h k = h ∙ ap (times n (σ n f.a)) k ∙ sym ((laws n).mul_assoc (σ n f.a) (σ n g.a) (σ n z))

      outer : Multi n (times n (σ n f.a) (σ n g.a))
      outer = stays_multilinear n f.a g.a g.b α nb (sym (nested α f.b g.b f.p_is g.p_is))

      -- x = y d and y = a' z give x = (a' d) z
      beside : (x y z : M n) → σ n x ≡ times n (σ n y) (σ n f.d) → σ n y ≡ times n (σ n g.a) (σ n z)
          → σ n x ≡ times n (times n (σ n g.a) (σ n f.d)) (σ n z)
      beside x y z h k = h ∙ ap (λ (u : R n). times n u (σ n f.d)) k ∙ swap_right n (σ n g.a) (σ n z) (σ n f.d)

      inner : Multi n (times n (σ n g.a) (σ n f.d))
      inner = stays_multilinear n g.a f.d g.c q.0 nc (sym (beside q.0 f.c g.c f.q_is g.r_is))

      with_inner : (x z : M n) → σ n x ≡ times n (times n (σ n g.a) (σ n f.d)) (σ n z) → σ n x ≡ times n (σ n z) (σ n inner.0)
      with_inner x z h = h ∙ (laws n).mul_comm (times n (σ n g.a) (σ n f.d)) (σ n z) ∙ ap (times n (σ n z)) inner.1

      with_variable : Refined (suc n) p q r s
      with_variable =
          assemble n p q r s α β γ δ p₁ p₀ r₁ r₀ outer.0 g.b g.c g.d inner.0 nb
          (nested α f.b g.b f.p_is g.p_is ∙ ap (λ (u : R n). times n u (σ n g.b)) outer.1)
          (nested δ f.c g.c f.r_is g.r_is ∙ ap (λ (u : R n). times n u (σ n g.c)) outer.1)
          g.q_is g.s_is
          (with_inner q.0 g.c (beside q.0 f.c g.c f.q_is g.r_is))
          (with_inner s.0 g.b (beside s.0 f.b g.b f.s_is g.p_is))

  refine_rest : Refined (suc n) p q r s
  refine_rest = go (zero_or_not n q.0)
    where
      go : Dec (σ n q.0 ≡ nought n) → Refined (suc n) p q r s
      go (yes z) = without_variable z
      go (no nz) = let f = ih α q.0 δ s.0 high in with_variable f (ih f.b q.1 f.c s.1 (rest f))

-- p₁ / p₀ = r₁ / r₀: p and r share the part that holds the variable
refine_shared : (n : ℕ) → Refines n → (p q r s : M (suc n)) → times (suc n) (σ (suc n) p) (σ (suc n) q) ≡ times (suc n) (σ (suc n) r) (σ (suc n) s)
    → ¬ (σ (suc n) p ≡ nought (suc n)) → ¬ (σ (suc n) r ≡ nought (suc n))
    → times n (σ n p.0) (σ n r.1) ≡ times n (σ n p.1) (σ n r.0) → Refined (suc n) p q r s
refine_shared n ih p q r s e np nr x =
    let f = ih p.0 r.1 p.1 r.0 x in
    let c = cancelled n p q r s f.a f.b f.c f.d f.p_is f.r_is f.s_is f.q_is e np in
    refine_rest n ih p q r s f.a f.b f.c f.d f.p_is f.r_is f.s_is f.q_is
    (λ z. np (p_shared n p q r s f.a f.b f.c f.d f.p_is f.r_is f.s_is f.q_is ∙ free_zero n (σ n f.a) (σ (suc n) (m n p q r s f.a f.b f.c f.d f.p_is f.r_is f.s_is f.q_is)) z))
    (λ z. nr (r_shared n p q r s f.a f.b f.c f.d f.p_is f.r_is f.s_is f.q_is ∙ free_zero n (σ n f.d) (σ (suc n) (m n p q r s f.a f.b f.c f.d f.p_is f.r_is f.s_is f.q_is)) z))
    (ap (λ (u : R (suc n)). u 0) c) (ap (λ (u : R (suc n)). u 1) c)
  where
    join_zero : (n : ℕ) (i : ℕ) → join n (nought n) (nought n) i ≡ nought n
    join_zero n zero = refl
    join_zero n (suc zero) = refl
    join_zero n (suc (suc i)) = refl

    free_zero : (n : ℕ) (x : R n) (y : R (suc n)) → x ≡ nought n → times (suc n) (join n x (nought n)) y ≡ nought (suc n)
    free_zero n x y z =
        ap (λ (u : R (suc n)). times (suc n) u y) (ap (λ (u : R n). join n u (nought n)) z ∙ fun_ext (join_zero n)) ∙ (laws (suc n)).zero_mul y

refine_nonzero : (n : ℕ) → Refines n → (p q r s : M (suc n)) → times (suc n) (σ (suc n) p) (σ (suc n) q) ≡ times (suc n) (σ (suc n) r) (σ (suc n) s)
    → ¬ (σ (suc n) p ≡ nought (suc n)) → ¬ (σ (suc n) q ≡ nought (suc n)) → Refined (suc n) p q r s
refine_nonzero n ih p q r s e np nq = go (sum_zero_or_not n p.0 r.1 p.1 r.0)
  where
    eqs : Equations n (σ n p.1) (σ n p.0) (σ n q.1) (σ n q.0) (σ n r.1) (σ n r.0) (σ n s.1) (σ n s.0)
    eqs = halves_from_product n (σ n p.1) (σ n p.0) (σ n q.1) (σ n q.0) (σ n r.1) (σ n r.0) (σ n s.1) (σ n s.0) e

    npq : ¬ (times (suc n) (σ (suc n) r) (σ (suc n) s) ≡ nought (suc n))
    npq z = product_nonzero (laws (suc n)) (σ (suc n) p) (σ (suc n) q) np nq (e ∙ z)

    nr : ¬ (σ (suc n) r ≡ nought (suc n))
    nr = left_factor (suc n) (times (suc n) (σ (suc n) r) (σ (suc n) s)) (σ (suc n) r) (σ (suc n) s) refl npq

    ns : ¬ (σ (suc n) s ≡ nought (suc n))
    ns = right_factor (suc n) (times (suc n) (σ (suc n) r) (σ (suc n) s)) (σ (suc n) r) (σ (suc n) s) refl npq

    go : Dec (plus n (times n (σ n p.0) (σ n r.1)) (times n (σ n p.1) (σ n r.0)) ≡ nought n) → Refined (suc n) p q r s
    go (yes z) = refine_shared n ih p q r s e np nr (equal_from_sum (laws n) (times n (σ n p.0) (σ n r.1)) (times n (σ n p.1) (σ n r.0)) z)
    go (no nz) =
        exchange (suc n) p q r s
        (refine_shared n ih p q s r (e ∙ (laws (suc n)).mul_comm (σ (suc n) r) (σ (suc n) s)) np ns
        (equal_from_sum (laws n) (times n (σ n p.0) (σ n s.1)) (times n (σ n p.1) (σ n s.0))
        ((laws n).no_zero_divisors (plus n (times n (σ n p.0) (σ n r.1)) (times n (σ n p.1) (σ n r.0)))
        (plus n (times n (σ n p.0) (σ n s.1)) (times n (σ n p.1) (σ n s.0))) nz
        (cross_vanishes (laws n) (σ n p.1) (σ n p.0) (σ n q.1) (σ n q.0) (σ n r.1) (σ n r.0) (σ n s.1) (σ n s.0)
        eqs.high eqs.low eqs.middle))))

-- where a factor is zero the witnesses are named
unless_zero : (n : ℕ) (p q r s : M n) → times n (σ n p) (σ n q) ≡ times n (σ n r) (σ n s)
    → (¬ (σ n p ≡ nought n) → ¬ (σ n q ≡ nought n) → Refined n p q r s) → Refined n p q r s
unless_zero n p q r s e rest = go (zero_or_not n p) (zero_or_not n q)
  where
    go : Dec (σ n p ≡ nought n) → Dec (σ n q ≡ nought n) → Refined n p q r s
    go (yes z) d = zero_first n p q r s e z
    go (no np) (yes z) = zero_second n p q r s e z
    go (no np) (no nq) = rest np nq

-- p q = r s: p = a b, q = c d, r = a c, s = b d
pub refine : (n : ℕ) (p q r s : M n) → times n (σ n p) (σ n q) ≡ times n (σ n r) (σ n s) → Refined n p q r s
refine zero p q r s e = unless_zero zero p q r s e (all_one p q r s e)
refine (suc n) p q r s e = unless_zero (suc n) p q r s e (refine_nonzero n (refine n) p q r s e)
