-- Polynomials are the same exactly if their series are equal: the coefficient at an assignment of exponents is the parity of the number of
-- monomials that have it, and series with the same coefficients are equal. So AD = BC is equality of the products of values.
use mathlib.Core.Path.{◌≡◌, refl, sym, ap, ap₂, ◌∙◌, fun_ext}
use mathlib.Core.Bool.{Bool, true, false, ◌&&◌, xor}
use mathlib.Core.List.{List, [], ◌∷◌}
use mathlib.Core.Logic.{◌↔◌}
use Prim.Native.Nat.{ℕ, zero, suc, ◌<◌}
use native.Mathlib.Nat.{le_refl}
use native.Mathlib.Omega.{arith}
use lib.Dec.{eqb}
use borrow.Author.Tests.{eq-eqb, ne_eqb}
use Rattle.ring.specs.Same.{one_if, Monomial, ordinary, multiplied, is, count, Same, SameProducts}
use Rattle.ring.proofs.Series.{R, nought, plus, times}
use Rattle.ring.proofs.Value.{value, Equal}
use Rattle.ring.proofs.Parity.{parity, parity_add, parity_one_if, parity_from_remainder, remainder_from_parity}
use Rattle.ring.proofs.Powers.{scale}
use Rattle.ring.proofs.Sums.{single, sum, sum_multiplied, value_is_sum}

-- ---- coefficients

-- the coefficient at the exponents e, the highest variable first
unfoldable pub coef : (n : ℕ) → R n → (ℕ → ℕ) → Bool
coef zero x e = x
coef (suc n) f e = coef n (f (e n)) e

pub coef_plus : (n : ℕ) (x y : R n) (e : ℕ → ℕ) → coef n (plus n x y) e ≡ xor (coef n x e) (coef n y e)
unfolding coef
coef_plus zero x y e = refl
coef_plus (suc n) f g e = coef_plus n (f (e n)) (g (e n)) e

pub coef_nought : (n : ℕ) (e : ℕ → ℕ) → coef n (nought n) e ≡ false
unfolding coef
coef_nought zero e = refl
coef_nought (suc n) e = coef_nought n e

coef_agrees : (n : ℕ) (x : R n) (e f : ℕ → ℕ) → ((i : ℕ) → i < n → e i ≡ f i) → coef n x e ≡ coef n x f
unfolding coef
coef_agrees zero x e f h = refl
coef_agrees (suc n) x e f h =
    ap (λ (j : ℕ). coef n (x j) e) (h n (le_refl (suc n))) ∙ coef_agrees n (x (f n)) e f (λ i l. h i (omega arith))

-- e with the exponent j for variable n
choose : Bool → ℕ → ℕ → ℕ
choose true j k = j
choose false j k = k

put : ℕ → ℕ → (ℕ → ℕ) → ℕ → ℕ
put n j e i = choose (eqb i n) j (e i)

put_same : (n j : ℕ) (e : ℕ → ℕ) → put n j e n ≡ j
unfolding put choose
put_same n j e = ap (λ (b : Bool). choose b j (e n)) (eq-eqb n n refl)

put_below : (n j : ℕ) (e : ℕ → ℕ) (i : ℕ) → i < n → e i ≡ put n j e i
unfolding put choose
put_below n j e i l = ap (λ (b : Bool). choose b j (e i)) (sym (ne_eqb i n (λ q. absurd (omega arith))))

pub equal_by_coefficients : (n : ℕ) (x y : R n) → ((e : ℕ → ℕ) → coef n x e ≡ coef n y e) → x ≡ y
unfolding coef
equal_by_coefficients zero x y h = h (λ i. 0)
equal_by_coefficients (suc n) f g h =
    fun_ext
    (λ j. equal_by_coefficients n (f j) (g j)
    (λ e.
    coef_agrees n (f j) e (put n j e) (put_below n j e)
    ∙ ap (λ (i : ℕ). coef n (f i) (put n j e)) (sym (put_same n j e))
    ∙ h (put n j e)
    ∙ ap (λ (i : ℕ). coef n (g i) (put n j e)) (put_same n j e)
    ∙ sym (coef_agrees n (g j) e (put n j e) (put_below n j e))))

pub coef_scale : (n : ℕ) (b : Bool) (x : R n) (e : ℕ → ℕ) → coef n (scale n b x) e ≡ b && coef n x e
unfolding scale
coef_scale n true x e = refl
coef_scale n false x e = coef_nought n e

coef_single : (n : ℕ) (m e : Monomial) → coef n (single n m) e ≡ is n e m
unfolding coef is
coef_single zero m e = refl
coef_single (suc n) m e = coef_scale n (eqb (m n) (e n)) (single n m) e ∙ ap (λ b. eqb (m n) (e n) && b) (coef_single n m e)

coef_sum : (n : ℕ) (g : List Monomial) (e : Monomial) → coef n (sum n g) e ≡ parity (count n e g)
unfolding sum count parity
coef_sum n [] e = coef_nought n e
coef_sum n (m ∷ g) e =
    coef_plus n (single n m) (sum n g) e
    ∙ ap₂ xor (coef_single n m e ∙ sym (parity_one_if (is n e m))) (coef_sum n g e)
    ∙ sym (parity_add (one_if (is n e m)) (count n e g))

pub same_exactly_if_sums_equal : (n : ℕ) (g h : List Monomial) → Same n g h ↔ (sum n g ≡ sum n h)
same_exactly_if_sums_equal n g h = (
  (λ s. equal_by_coefficients n (sum n g) (sum n h)
      (λ e. coef_sum n g e ∙ parity_from_remainder (count n e g) (count n e h) (s.parity e) ∙ sym (coef_sum n h e))),
  (λ s. record {
    parity = λ e. remainder_from_parity (count n e g) (count n e h) (sym (coef_sum n g e) ∙ ap (λ (u : R n). coef n u e) s ∙ coef_sum n h e);
  }),
)

-- ---- products of lists of terms

pub product_of_values : (n : ℕ) (a d : List ℕ) → sum n (multiplied (ordinary a) (ordinary d)) ≡ times n (value n a) (value n d)
product_of_values n a d = sum_multiplied n (ordinary a) (ordinary d) ∙ sym (ap₂ (times n) (value_is_sum n a) (value_is_sum n d))

-- AD = BC is equality of the two products in the ring
pub same_from_equal : (n : ℕ) (a d b c : List ℕ) → Equal n a d b c → SameProducts n a d b c
same_from_equal n a d b c h = record {
  same =
      (same_exactly_if_sums_equal n (multiplied (ordinary a) (ordinary d)) (multiplied (ordinary b) (ordinary c))).1
      (product_of_values n a d ∙ h ∙ sym (product_of_values n b c));
}

pub equal_from_same : (n : ℕ) (a d b c : List ℕ) → SameProducts n a d b c → Equal n a d b c
equal_from_same n a d b c h =
    sym (product_of_values n a d)
    ∙ (same_exactly_if_sums_equal n (multiplied (ordinary a) (ordinary d)) (multiplied (ordinary b) (ordinary c))).0 h.same
    ∙ product_of_values n b c
