-- A list cut at a variable: its value is that of the terms without the variable plus the variable times the value of the derivative. So AD = BC says that
-- the coefficients of x and of y, multiplied, are those of 1 and of x y, multiplied. Leans on ring's values.
use Prim.Native.Nat.{ℕ, ◌^◌}
use mathlib.Core.Path.{◌≡◌, refl, sym, ap, ap₂, ◌∙◌}
use mathlib.Core.Bool.{Bool, true, false}
use mathlib.Core.List.{List, [], ◌∷◌, map}
use lib.Bits.{bit_and, bit_or}
use Rattle.masks.specs.Bit.{bit, without}
use Rattle.masks.proofs.Reflect.{identity, ∅, ◌∩◌, ◌∪◌, ◌∖◌, ◌≐◌, ◌⊆◌, ∴◌, ◌⇒◌}
use Rattle.masks.proofs.Sets.{power_subset}
use Rattle.polys.specs.List.{either}
use Rattle.polys.specs.Poly.{vars}
use Rattle.polys.proofs.Polys.{times_term}
use Rattle.ring.specs.Run.{lacking, holding}
use Rattle.ring.proofs.Domain.{mul_zero, add_zero, add_mul}
use Rattle.ring.proofs.Series.{R, nought, plus, laws, times as mul}
use Rattle.ring.proofs.Value.{value, value_none, value_more, Equal}
use Rattle.ring.proofs.Built.{value_of_built}
use Rattle.rule.specs.Rule.{derivative, PapersSay}
use Rattle.ring.proofs.Bridge.{equal_from_same}

-- the value of a variable
abbrev pub variable : (n : ℕ) → ℕ → R n
variable n i = value n (2 ^ i ∷ [])

-- a term that holds i is i times the term with i cleared
value_of_term : (n i t : ℕ) → bit t i ≡ true → value n (t ∷ []) ≡ mul n (variable n i) (value n (without (2 ^ i) t ∷ []))
unfolding vars
value_of_term n i t h =
    ap (λ k. value n (k ∷ [])) (sym (whole (2 ^ i) t (power_subset i t h)))
    ∙ ap (value n) (sym (times_term (2 ^ i) (without (2 ^ i) t ∷ []) (tt, tt)))
    ∙ value_of_built n (2 ^ i ∷ []) (without (2 ^ i) t ∷ []) (tt, tt) (tt, tt) (none (2 ^ i) t)
  where
    whole : (p t : ℕ) → bit_and p t ≡ p → bit_or p (without p t) ≡ t
    whole = identity 2 (λ p t. p ⊆ t ⇒ ∴ p ∪ t ∖ p ≐ t) tt

    none : (p t : ℕ) → bit_and (bit_or p 0) (bit_or (without p t) 0) ≡ 0
    none = identity 2 (λ p t. ∴ (p ∪ ∅) ∩ (t ∖ p ∪ ∅) ≐ ∅) tt

-- x + (y + z) = y + (x + z)
second_first : (n : ℕ) (x y z : R n) → plus n x (plus n y z) ≡ plus n y (plus n x z)
second_first n x y z =
    sym ((laws n).add_assoc x y z) ∙ ap (λ (u : R n). plus n u z) ((laws n).add_comm x y) ∙ (laws n).add_assoc y x z

pub value_cut : (n i : ℕ) (l : List ℕ) → value n l ≡ plus n (value n (lacking i l)) (mul n (variable n i) (value n (derivative i l)))
unfolding lacking holding derivative
value_cut n i [] =
    value_none n
    ∙ sym (ap₂ (plus n) (value_none n) (ap (mul n (variable n i)) (value_none n) ∙ mul_zero (laws n) (variable n i)) ∙ (laws n).zero_add (nought n))
value_cut n i (t ∷ l) = value_more n t l ∙ ap (plus n (value n (t ∷ []))) (value_cut n i l) ∙ go (bit t i) refl
  where
    low : R n
    low = value n (lacking i l)

    rest : List ℕ
    rest = map (without (2 ^ i)) (holding i l)

    go : (b : Bool) → bit t i ≡ b → plus n (value n (t ∷ [])) (plus n low (mul n (variable n i) (value n rest)))
        ≡ plus n (value n (either b (lacking i l) (t ∷ lacking i l)))
        (mul n (variable n i) (value n (map (without (2 ^ i)) (either b (t ∷ holding i l) (holding i l)))))
    go true h =
        second_first n (value n (t ∷ [])) low (mul n (variable n i) (value n rest))
        ∙ ap (plus n low)
        (ap (λ (u : R n). plus n u (mul n (variable n i) (value n rest))) (value_of_term n i t h)
        ∙ sym ((laws n).mul_add (variable n i) (value n (without (2 ^ i) t ∷ [])) (value n rest))
        ∙ ap (mul n (variable n i)) (sym (value_more n (without (2 ^ i) t) rest)))
    go false h =
        sym ((laws n).add_assoc (value n (t ∷ [])) low (mul n (variable n i) (value n rest)))
        ∙ ap (λ (u : R n). plus n u (mul n (variable n i) (value n rest))) (sym (value_more n t (lacking i l)))

-- equal sums with one summand in common
add_cancel : (n : ℕ) (x y z : R n) → plus n x z ≡ plus n y z → x ≡ y
add_cancel n x y z e = sym (gone x) ∙ ap (λ (u : R n). plus n u z) e ∙ gone y
  where
    gone : (w : R n) → plus n (plus n w z) z ≡ w
    gone w = (laws n).add_assoc w z z ∙ ap (plus n w) ((laws n).double z) ∙ add_zero (laws n) w

-- (p + v c) d = (q + v d) c says p d = q c
cancelled : (n : ℕ) (p q c d v : R n) → mul n (plus n p (mul n v c)) d ≡ mul n (plus n q (mul n v d)) c → mul n p d ≡ mul n q c
cancelled n p q c d v e =
    add_cancel n (mul n p d) (mul n q c) (mul n (mul n v c) d)
    (sym (add_mul (laws n) p (mul n v c) d) ∙ e ∙ add_mul (laws n) q (mul n v d) c
    ∙ ap (plus n (mul n q c))
    ((laws n).mul_assoc v d c ∙ ap (mul n v) ((laws n).mul_comm d c) ∙ sym ((laws n).mul_assoc v c d)))

-- what the papers ask, in the four coefficients of x and y in f: the one of x times the one of y is the one of 1 times the one of x y
pub coefficients_multiply : (n : ℕ) (f : List ℕ) (x y : ℕ) → PapersSay n f x y
    → Equal n (lacking y (derivative x f)) (derivative y (lacking x f)) (lacking y (lacking x f)) (derivative y (derivative x f))
coefficients_multiply n f x y say =
    cancelled n (value n (lacking y a)) (value n (lacking y b)) (value n (derivative y a)) (value n (derivative y b)) (variable n y)
    (ap (λ (u : R n). mul n u (value n (derivative y b))) (sym (value_cut n y a))
    ∙ equal_from_same n a (derivative y b) b (derivative y a) say
    ∙ ap (λ (u : R n). mul n u (value n (derivative y a))) (value_cut n y b))
  where
    a : List ℕ
    a = derivative x f

    b : List ℕ
    b = lacking x f
