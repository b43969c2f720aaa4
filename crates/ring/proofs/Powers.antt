-- A coefficient times a power of the next variable. In a product the exponents add; and one term, cut at the next variable, is such a power.
use mathlib.Core.Path.{◌≡◌, refl, sym, ap, ap₂, ◌∙◌, fun_ext}
use mathlib.Core.Bool.{Bool, true, false, not}
use mathlib.Core.List.{[], ◌∷◌}
use Prim.Native.Nat.{ℕ, zero, suc, ◌+◌}
use native.Mathlib.Nat.{zero-add, suc-add}
use lib.Dec.{eqb, eqb-zero-suc, eqb-suc-zero, eqb-suc-suc}
use Rattle.masks.specs.Bit.{bit}
use Rattle.polys.specs.List.{either}
use Rattle.ring.specs.Same.{one_if}
use Rattle.ring.specs.Run.{lacking, holding}
use Rattle.ring.proofs.Domain.{mul_zero}
use Rattle.ring.proofs.Series.{R, nought, plus, times, laws, constant_times}
use Rattle.ring.proofs.Value.{join, value, value_none}

-- x, or zero
unfoldable pub scale : (n : ℕ) → Bool → R n → R n
scale n true x = x
scale n false x = nought n

-- x times the a-th power of the next variable
abbrev pub power : (n : ℕ) → ℕ → R n → ℕ → R n
power n a x j = scale n (eqb a j) x

-- the exponents of a product add
pub powers_add : (n a b : ℕ) (x y : R n) (k : ℕ) → times (suc n) (power n a x) (power n b y) k ≡ power n (a + b) (times n x y) k
unfolding scale
powers_add n zero b x y k =
    constant_times n (power n 0 x) (power n b y) (λ j. ap (λ (c : Bool). scale n c x) (eqb-zero-suc j)) k
    ∙ times_scale (eqb b k)
    ∙ ap (λ (d : ℕ). power n d (times n x y) k) (sym (zero-add b))
  where
    times_scale : (c : Bool) → times n x (scale n c y) ≡ scale n c (times n x y)
    times_scale true = refl
    times_scale false = mul_zero (laws n) x
powers_add n (suc a) b x y zero =
    ap (λ (c : Bool). times n (scale n c x) (power n b y 0)) (eqb-suc-zero a)
    ∙ (laws n).zero_mul (power n b y 0)
    ∙ ap (λ (c : Bool). scale n c (times n x y)) (sym (ap (λ (d : ℕ). eqb d 0) (suc-add a b) ∙ eqb-suc-zero (a + b)))
powers_add n (suc a) b x y (suc k) =
    ap₂ (plus n)
    (ap (λ (c : Bool). times n (scale n c x) (power n b y (suc k))) (eqb-suc-zero a) ∙ (laws n).zero_mul (power n b y (suc k)))
    (ap (λ (f : R (suc n)). times (suc n) f (power n b y) k) (fun_ext (λ j. ap (λ (c : Bool). scale n c x) (eqb-suc-suc a j))) ∙ powers_add n a b x y k)
    ∙ (laws n).zero_add (power n (a + b) (times n x y) k)
    ∙ ap (λ (c : Bool). scale n c (times n x y)) (sym (ap (λ (d : ℕ). eqb d (suc k)) (suc-add a b) ∙ eqb-suc-suc (a + b) k))

pub join_power : (n : ℕ) (p : Bool) (x : R n) → join n (scale n (not p) x) (scale n p x) ≡ power n (one_if p) x
unfolding scale
join_power n p x = fun_ext (at p)
  where
    at : (p : Bool) (i : ℕ) → join n (scale n (not p) x) (scale n p x) i ≡ power n (one_if p) x i
    at true zero = refl
    at true (suc zero) = refl
    at true (suc (suc i)) = ap (λ (c : Bool). scale n c x) (sym (eqb-suc-suc 0 (suc i) ∙ eqb-zero-suc i))
    at false zero = refl
    at false (suc zero) = refl
    at false (suc (suc i)) = ap (λ (c : Bool). scale n c x) (sym (eqb-zero-suc (suc i)))

-- the value of one term, cut at the next variable
pub one_term : (n s : ℕ) (b : Bool) → join n (value n (either b [] (s ∷ []))) (value n (either b (s ∷ []) []))
    ≡ join n (scale n (not b) (value n (s ∷ []))) (scale n b (value n (s ∷ [])))
unfolding scale
one_term n s true = ap (λ (u : R n). join n u (value n (s ∷ []))) (value_none n)
one_term n s false = ap (λ (u : R n). join n (value n (s ∷ [])) u) (value_none n)

pub value_of_term : (n s : ℕ) → value (suc n) (s ∷ []) ≡ power n (one_if (bit s n)) (value n (s ∷ []))
unfolding value lacking holding
value_of_term n s = one_term n s (bit s n) ∙ join_power n (bit s n) (value n (s ∷ []))
