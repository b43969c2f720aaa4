-- The product of two lists with no common variable has the product of their values, and
-- ascending lists with the same value are equal. Leans on polys' laws of products and on Bridge.
use mathlib.Core.Path.{◌≡◌, refl, sym, ap, ap₂, ◌∙◌, subst, fun_ext}
use mathlib.Core.Bool.{Bool, true, false, ◌||◌, true≢false}
use mathlib.Core.List.{List, [], ◌∷◌, ◌++◌, map, map-append}
use mathlib.Core.Logic.{inl, inr, ⊎_elim}
use Prim.Native.Nat.{ℕ, zero, suc, ◌+◌, ◌^◌, ◌<◌}
use lib.Bits.{bit_and, bit_or, or_lt}
use lib.ListN.{get_or}
use lib.Pow.{pow_pos}
use Rattle.masks.specs.Bit.{bit}
use Rattle.masks.proofs.Bits.{bit_or_lem}
use Rattle.masks.proofs.Sets.{bit_of_apart}
use Rattle.polys.specs.List.{Mem, Asc, insert, collect}
use Rattle.polys.specs.Poly.{unions, times as built, Apart}
use Rattle.polys.proofs.Lists.{insert_cases, collect_mem}
use Rattle.polys.proofs.Counts.{Different, different_of_asc, different_unions}
use Rattle.polys.proofs.Polys.{apart_terms, apart_sub, times_mem}
use Rattle.ring.specs.Same.{one_if, Monomial, ordinary, multiplied}
use Rattle.ring.proofs.Series.{R, plus, times, laws}
use Rattle.ring.proofs.Value.{value, value_more}
use Rattle.ring.proofs.Bridge.{product_of_values}
use Rattle.ring.proofs.Sums.{sum, value_is_sum}
use Rattle.ring.proofs.Runs.{run_of_ascending, lows_of_small}
use Rattle.ring.proofs.Alike.{alike_of_value}

-- ---- lists with nothing twice

pub value_insert : (n x : ℕ) (l : List ℕ) → (Mem l x → ⊥) → value n (insert x l) ≡ plus n (value n (x ∷ [])) (value n l)
unfolding insert
value_insert n x [] h = value_more n x []
value_insert n x (y ∷ l) h =
    ⊎_elim (λ c. ap (value n) c.1 ∙ value_more n x (y ∷ l))
    (⊎_elim (λ c. absurd (h (inl c.0)))
    (λ c.
    ap (value n) c.1
    ∙ value_more n y (insert x l)
    ∙ ap (plus n (value n (y ∷ []))) (value_insert n x l (λ m. h (inr m)))
    ∙ sym ((laws n).add_assoc (value n (y ∷ [])) (value n (x ∷ [])) (value n l))
    ∙ ap (λ (u : R n). plus n u (value n l)) ((laws n).add_comm (value n (y ∷ [])) (value n (x ∷ [])))
    ∙ (laws n).add_assoc (value n (x ∷ [])) (value n (y ∷ [])) (value n l)
    ∙ ap (plus n (value n (x ∷ []))) (sym (value_more n y l))))
    (insert_cases x y l)

-- collecting different numbers keeps the value
value_collect : (n : ℕ) (l : List ℕ) → Different l → value n (collect l) ≡ value n l
unfolding collect
value_collect n [] p = refl
value_collect n (x ∷ l) p =
    value_insert n x (collect l) (λ m. p.0 (collect_mem l x m))
    ∙ ap (plus n (value n (x ∷ []))) (value_collect n l p.1)
    ∙ sym (value_more n x l)

-- ---- unions of terms with no common variable

-- their exponents are the sums
ordinary_row : (s : ℕ) (h : List ℕ) → ((t : ℕ) → Mem h t → bit_and s t ≡ 0)
    → ordinary (map (bit_or s) h) ≡ map (λ (t : Monomial) i. one_if (bit s i) + t i) (ordinary h)
ordinary_row s [] a = refl
ordinary_row s (t ∷ h) a =
    ap₂ ◌∷◌ (fun_ext (λ i. ap one_if (bit_or_lem s t i) ∙ not_both (bit s i) (bit t i) (bit_of_apart s t i (a t (inl refl))))) (ordinary_row s h (λ u m. a u (inr m)))
  where
    not_both : (p q : Bool) → (p ≡ true → q ≡ false) → one_if (p || q) ≡ one_if p + one_if q
    not_both true true h = absurd (true≢false (h refl))
    not_both true false h = refl
    not_both false true h = refl
    not_both false false h = refl

ordinary_unions : (g h : List ℕ) → Apart g h → ordinary (unions g h) ≡ multiplied (ordinary g) (ordinary h)
unfolding unions multiplied
ordinary_unions [] h a = refl
ordinary_unions (s ∷ g) h a =
    map-append (λ t i. one_if (bit t i)) (map (bit_or s) h) (unions g h)
    ∙ ap₂ ◌++◌ (ordinary_row s h (λ t m. apart_terms (s ∷ g) h s t a (inl refl) m))
    (ordinary_unions g h (apart_sub (s ∷ g) h g h (λ x m. inr m) (λ x m. m) a))

-- ---- the built product

-- the list that is built has the product of the values
pub value_of_built : (n : ℕ) (g h : List ℕ) → Asc g → Asc h → Apart g h → value n (built g h) ≡ times n (value n g) (value n h)
unfolding built
value_of_built n g h p q a =
    value_collect n (unions g h) (different_unions h (different_of_asc h q) g (different_of_asc g p) a) ∙ value_is_sum n (unions g h) ∙ ap (sum n) (ordinary_unions g h a) ∙ product_of_values n g h

-- all terms are below 2 ^ n
abbrev pub Small : ℕ → List ℕ → Type 0
Small n l = (t : ℕ) → Mem l t → t < 2 ^ n

pub small_built : (n : ℕ) (g h : List ℕ) → Small n g → Small n h → Small n (built g h)
small_built n g h sg sh t m =
    let u = times_mem g h t m in
    subst (λ (x : ℕ). x < 2 ^ n) (sym u.4) (or_lt n u.0 u.1 (sg u.0 u.2) (sh u.1 u.3))

pub small_at : (n : ℕ) (l : List ℕ) → Small n l → (i : ℕ) → get_or l i 0 < 2 ^ n
small_at n [] s i = pow_pos n
small_at n (t ∷ l) s zero = s t (inl refl)
small_at n (t ∷ l) s (suc i) = small_at n l (λ u m. s u (inr m)) i

-- ascending lists with the same value are equal
pub equal_from_values : (n : ℕ) (a b : List ℕ) → Asc a → Asc b → Small n a → Small n b → value n a ≡ value n b → a ≡ b
equal_from_values n a b pa pb sa sb e =
    sym (lows_of_small n a (small_at n a sa))
    ∙ alike_of_value n a b (run_of_ascending n a (small_at n a sa) pa) (run_of_ascending n b (small_at n b sb) pb) e
    ∙ lows_of_small n b (small_at n b sb)
