-- A list of terms that is an ordinary product over GF(2), of factors with any exponents, is the product of two lists with no common variable, and these are
-- the two factors. So irreducible by projections is irreducible over GF(2). Leans on ring: what divides a multilinear polynomial is multilinear.
use Prim.Native.Nat.{ℕ, ◌^◌, ◌%◌, ◌<◌}
use mathlib.Core.Path.{◌≡◌, refl, sym, ap, ap₂, ◌∙◌, subst, fun_ext}
use mathlib.Core.List.{List, [], ◌∷◌}
use mathlib.Core.Logic.{◌⊎◌, ◌↔◌, inl, inr, ⊎_elim}
use native.Mathlib.Omega.{arith}
use lib.Bits.{bit_and, bit_or, and_zero_r}
use lib.Pow.{pow_pos}
use Rattle.masks.proofs.Bits.{bit_zero}
use Rattle.masks.proofs.Sets.{bit_of_subset, subset_or_left}
use Rattle.polys.specs.List.{Mem, Asc}
use Rattle.polys.specs.Poly.{vars, times, Apart, Irreducible}
use Rattle.polys.proofs.Polys.{vars_nil, vars_one, vars_hold, times_comm}
use Rattle.ring.specs.Same.{one_if, Monomial, ordinary, multiplied, count, Same}
use Rattle.ring.proofs.Domain.{mul_zero}
use Rattle.ring.proofs.Series.{nought, laws, times as mul}
use Rattle.ring.proofs.Value.{value, value_none}
use Rattle.ring.proofs.Built.{Small, value_of_built, equal_from_values}
use Rattle.ring.proofs.Sums.{sum, sum_multiplied, value_is_sum}
use Rattle.ring.proofs.Bridge.{product_of_values, same_exactly_if_sums_equal}
use Rattle.ring.proofs.Finite.{finite_sum, divisor_multilinear}
use Rattle.rule.specs.Rule.{Below}
use Rattle.rule.proofs.Rule.{small_if_below}
use Rattle.rule.proofs.Listed.{listed}
use Rattle.rule.proofs.Factored.{polynomial, value_is_polynomial, factors_apart, factored}
use Rattle.factors.specs.Ordinary.{Constant, IrreducibleGF2}
use Rattle.factors.proofs.Products.{vars_of_product, no_product_if_irreducible, irreducible_if_no_product}

-- ---- the factors of a list

-- an ascending list of terms that is the polynomial g
abbrev IsList : ℕ → List Monomial → Type 0
IsList n g = (a : List ℕ) × Asc a × Small n a × (value n a ≡ sum n g)

nothing_small : (n : ℕ) → Small n []
nothing_small n t m = absurd m

left_is_list : (n : ℕ) (f : List ℕ) (g h : List Monomial) → Asc f → Small n f → ¬ (f ≡ []) → value n f ≡ mul n (sum n g) (sum n h) → IsList n g
left_is_list n f g h asc small some e =
    let m = divisor_multilinear n (sum n g) (sum n h) (polynomial n f) (finite_sum n g) (finite_sum n h) nonzero (sym e ∙ value_is_polynomial n f) in
    let l = listed n m.0 in
    (l.terms, l.ascending, l.small, l.has_value ∙ sym m.1)
  where
    nonzero : ¬ (sum n h ≡ nought n)
    nonzero z =
        some (equal_from_values n f [] asc tt small (nothing_small n) (e ∙ ap (mul n (sum n g)) z ∙ mul_zero (laws n) (sum n g) ∙ sym (value_none n)))

-- the two factors are lists of terms with no common variable, and f is their product
pub ordinary_factors_are_lists : (n : ℕ) (f : List ℕ) (g h : List Monomial) → Asc f → ¬ (f ≡ []) → Below n f → Same n (ordinary f) (multiplied g h)
    → (a : List ℕ) × (b : List ℕ) × Asc a × Asc b × Same n g (ordinary a) × Same n h (ordinary b) × Apart a b × (f ≡ times a b)
ordinary_factors_are_lists n f g h asc some below e =
    let a = left_is_list n f g h asc small some values in
    let b = left_is_list n f h g asc small some (values ∙ (laws n).mul_comm (sum n g) (sum n h)) in
    let m : value n f ≡ mul n (value n a.0) (value n b.0) = values ∙ sym (ap₂ (mul n) a.3 b.3) in (
      a.0,
      b.0,
      a.1,
      b.1,
      (same_exactly_if_sums_equal n g (ordinary a.0)).1 (sym a.3 ∙ value_is_sum n a.0),
      (same_exactly_if_sums_equal n h (ordinary b.0)).1 (sym b.3 ∙ value_is_sum n b.0),
      factors_apart n f a.0 b.0 asc a.1 b.1 small a.2 b.2 m,
      factored n f a.0 b.0 asc a.1 b.1 small a.2 b.2 m,
    )
  where
    small : Small n f
    small = small_if_below n f below

    values : value n f ≡ mul n (sum n g) (sum n h)
    values = value_is_sum n f ∙ (same_exactly_if_sums_equal n (ordinary f) (multiplied g h)).0 e ∙ sum_multiplied n g h

-- the product of two lists with no common variable is the ordinary one
pub product_is_ordinary : (n : ℕ) (a b : List ℕ) → Asc a → Asc b → Apart a b → Same n (ordinary (times a b)) (multiplied (ordinary a) (ordinary b))
product_is_ordinary n a b pa pb no_common =
    (same_exactly_if_sums_equal n (ordinary (times a b)) (multiplied (ordinary a) (ordinary b))).1
    (sym (value_is_sum n (times a b)) ∙ value_of_built n a b pa pb no_common ∙ sym (product_of_values n a b))

-- ---- constant

abbrev pub one : List ℕ
one = 0 ∷ []

pub one_is_ordinary : ordinary one ≡ (λ i. 0) ∷ []
one_is_ordinary = ap (λ (m : Monomial). m ∷ []) (fun_ext (λ i. ap one_if (bit_zero i)))

pub same_trans : (n : ℕ) (f g h : List Monomial) → Same n f g → Same n g h → Same n f h
same_trans n f g h p q = record { parity = λ e. p.parity e ∙ q.parity e }

pub constant_if_same : (n : ℕ) (f g : List Monomial) → Same n f g → Constant n g → Constant n f
constant_if_same n f g s = ⊎_elim (λ p. inl (same_trans n f g [] s p)) (λ p. inr (same_trans n f g ((λ i. 0) ∷ []) s p))

no_variable_if_constant : (n : ℕ) (a : List ℕ) → Asc a → Small n a → Constant n (ordinary a) → vars a ≡ 0
no_variable_if_constant n a asc small = ⊎_elim (λ p. ap vars (list [] tt (nothing_small n) p) ∙ vars_nil)
    (λ p. ap vars (list one (tt, tt) small_one (subst (Same n (ordinary a)) (sym one_is_ordinary) p)) ∙ vars_one)
  where
    small_one : Small n one
    small_one t m = ⊎_elim (λ d. subst (λ k. k < 2 ^ n) (sym d) (pow_pos n)) absurd m

    list : (b : List ℕ) → Asc b → Small n b → Same n (ordinary a) (ordinary b) → a ≡ b
    list b pb sb p =
        equal_from_values n a b asc pb small sb
        (value_is_sum n a ∙ (same_exactly_if_sums_equal n (ordinary a) (ordinary b)).0 p ∙ sym (value_is_sum n b))

-- a list without variables is 0 or 1
zero_or_one : (a : List ℕ) → Asc a → vars a ≡ 0 → (a ≡ []) ⊎ (a ≡ one)
zero_or_one a asc z = go a asc (λ t m. sym (vars_hold a t m) ∙ ap (bit_and t) z ∙ and_zero_r t)
  where
    go : (l : List ℕ) → Asc l → ((t : ℕ) → Mem l t → t ≡ 0) → (l ≡ []) ⊎ (l ≡ 0 ∷ [])
    go [] p h = inl refl
    go (t ∷ []) p h = inr (ap (λ k. k ∷ []) (h t (inl refl)))
    go (t ∷ u ∷ l) p h = let e : t ≡ 0 = h t (inl refl) in let d : u ≡ 0 = h u (inr (inl refl)) in absurd (omega (arith, p.0.0))

constant_if_no_variable : (n : ℕ) (a : List ℕ) → Asc a → vars a ≡ 0 → Constant n (ordinary a)
constant_if_no_variable n a asc z =
    ⊎_elim (λ e. inl (is [] (ap ordinary e))) (λ e. inr (is ((λ i. 0) ∷ []) (ap ordinary e ∙ one_is_ordinary))) (zero_or_one a asc z)
  where
    is : (g : List Monomial) → ordinary a ≡ g → Same n (ordinary a) g
    is g e = record { parity = λ m. ap (λ (h : List Monomial). count n m h % 2) e }

-- ---- irreducible

-- the variables of a factor are variables of the product
pub factor_below : (n : ℕ) (f g h : List ℕ) → Below n f → vars f ≡ bit_or (vars g) (vars h) → Below n g
factor_below n f g h below e i o =
    below i (bit_of_subset (vars g) (vars f) i (ap (bit_and (vars g)) e ∙ subset_or_left (vars g) (vars h)) o)

-- irreducible by projections is irreducible over GF(2)
pub irreducible_exactly_if_over_gf2 : (n : ℕ) (f : List ℕ) → Asc f → Below n f → Irreducible f ↔ IrreducibleGF2 n (ordinary f)
irreducible_exactly_if_over_gf2 n f asc below = (
  (λ i. record {
    varies = λ c. i.varies (no_variable_if_constant n f asc (small_if_below n f below) c);
    whole = λ g h ng nh e.
        let s = ordinary_factors_are_lists n f g h asc (λ z. i.varies (ap vars z ∙ vars_nil)) below e in
        no_product_if_irreducible f s.0 s.1 asc i s.6 s.7
        (λ z. ng (constant_if_same n g (ordinary s.0) s.4 (constant_if_no_variable n s.0 s.2 z)))
        (λ z. nh (constant_if_same n h (ordinary s.1) s.5 (constant_if_no_variable n s.1 s.3 z)));
  }),
  (λ i.
      irreducible_if_no_product f (λ z. i.varies (constant_if_no_variable n f asc z))
      (λ g h pg ph no_common e ng nh.
      let all = vars_of_product f g h e ng nh in
      let turned = vars_of_product f h g (e ∙ times_comm g h) nh ng in
      i.whole (ordinary g) (ordinary h)
      (λ c. ng (no_variable_if_constant n g pg (small_if_below n g (factor_below n f g h below all)) c))
      (λ c. nh (no_variable_if_constant n h ph (small_if_below n h (factor_below n f h g below turned)) c))
      (subst (λ l. Same n (ordinary l) (multiplied (ordinary g) (ordinary h))) (sym e) (product_is_ordinary n g h pg ph no_common)))),
)
