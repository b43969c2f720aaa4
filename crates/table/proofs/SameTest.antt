-- Whether AD = BC, by going through the products of pairs of terms: an assignment of exponents that none of them has is counted 0 times on
-- either side, so it is enough to compare the counts at the exponents of each. Slow and plain: a test for examples.
-- Leans on nothing but the definition of same products.
use mathlib.Core.Path.{◌≡◌, refl, sym, ap, ap₂, ◌∙◌, subst}
use mathlib.Core.Bool.{Bool, true, false, ◌&&◌}
use mathlib.Core.Logic.{◌⊎◌, inl, inr, ⊎_elim}
use mathlib.Core.List.{List, [], ◌∷◌}
use Prim.Native.Nat.{ℕ, zero, suc, ◌+◌, ◌%◌}
use native.Mathlib.Omega.{arith}
use lib.Dec.{T, eqb, eqb→eq}
use Rattle.ring.specs.Same.{one_if, Monomial, ordinary, multiplied, is, count, Same, SameProducts}
use Rattle.exists.proofs.Tests.{T_and, and_T, eq_eqb}

-- the counts of e in g and in h have equal parity
abbrev pub even_at : ℕ → List Monomial → List Monomial → Monomial → Bool
even_at n g h e = eqb (count n e g % 2) (count n e h % 2)

-- every monomial of g passes the test
abbrev pub each : (Monomial → Bool) → List Monomial → Bool
each test [] = true
each test (m ∷ g) = test m && each test g

abbrev pub is_same : ℕ → List ℕ → List ℕ → List ℕ → List ℕ → Bool
is_same n a d b c =
    each (even_at n (multiplied (ordinary a) (ordinary d)) (multiplied (ordinary b) (ordinary c))) (multiplied (ordinary a) (ordinary d))
    && each (even_at n (multiplied (ordinary a) (ordinary d)) (multiplied (ordinary b) (ordinary c))) (multiplied (ordinary b) (ordinary c))

-- ---- exponents that m has are, as far as they are read, those of m

is_agrees : (n : ℕ) (e m k : Monomial) → T (is n e m) → is n e k ≡ is n m k
unfolding is
is_agrees zero e m k t = refl
is_agrees (suc n) e m k t =
    let p = and_T (eqb (m n) (e n)) (is n e m) t in
    ap₂ (λ x y. eqb (k n) x && y) (sym (eqb→eq (m n) (e n) p.0)) (is_agrees n e m k p.1)

count_agrees : (n : ℕ) (e m : Monomial) (g : List Monomial) → T (is n e m) → count n e g ≡ count n m g
unfolding count
count_agrees n e m [] t = refl
count_agrees n e m (k ∷ g) t = ap₂ (λ x y. one_if x + y) (is_agrees n e m k t) (count_agrees n e m g t)

-- exponents stand in no monomial of g, or in one that passes the test
none_or_some : (n : ℕ) (e : Monomial) (test : Monomial → Bool) (g : List Monomial) → T (each test g) → (count n e g ≡ 0) ⊎ ((m : Monomial) × T (test m) × T (is n e m))
unfolding count
none_or_some n e test [] t = inl refl
none_or_some n e test (m ∷ g) t = let p = and_T (test m) (each test g) t in by_first (is n e m) refl p.0 (none_or_some n e test g p.1)
  where
    by_first : (b : Bool) → is n e m ≡ b → T (test m) → (count n e g ≡ 0) ⊎ ((k : Monomial) × T (test k) × T (is n e k))
        → (one_if b + count n e g ≡ 0) ⊎ ((k : Monomial) × T (test k) × T (is n e k))
    by_first true q passed later = inr (m, passed, subst T (sym q) tt)
    by_first false q passed (inl z) = inl (omega arith)
    by_first false q passed (inr w) = inr w

-- ---- so the test decides

module _ (n : ℕ) (g h : List Monomial) where
  same_if_even : T (each (even_at n g h) g) → T (each (even_at n g h) h) → Same n g h
  same_if_even p q = record {
    parity = λ e.
        ⊎_elim (λ x. ⊎_elim (λ y. ap (λ k. k % 2) (x ∙ sym y)) (at e) (none_or_some n e (even_at n g h) h q)) (at e)
        (none_or_some n e (even_at n g h) g p);
  }
    where
      at : (e : Monomial) → ((m : Monomial) × T (even_at n g h m) × T (is n e m)) → count n e g % 2 ≡ count n e h % 2
      at e w =
          ap (λ k. k % 2) (count_agrees n e w.0 g w.2)
          ∙ eqb→eq (count n w.0 g % 2) (count n w.0 h % 2) w.1
          ∙ ap (λ k. k % 2) (sym (count_agrees n e w.0 h w.2))

  even_if_same : Same n g h → (k : List Monomial) → T (each (even_at n g h) k)
  even_if_same same [] = tt
  even_if_same same (m ∷ k) =
      T_and (even_at n g h m) (each (even_at n g h) k) (eq_eqb (count n m g % 2) (count n m h % 2) (same.parity m)) (even_if_same same k)

module _ (n : ℕ) (a d b c : List ℕ) where
  abbrev left : List Monomial
  left = multiplied (ordinary a) (ordinary d)

  abbrev right : List Monomial
  right = multiplied (ordinary b) (ordinary c)

  pub same_of_test : T (is_same n a d b c) → SameProducts n a d b c
  same_of_test passed =
      let both = and_T (each (even_at n left right) left) (each (even_at n left right) right) passed in
      record { same = same_if_even n left right both.0 both.1 }

  pub test_of_same : SameProducts n a d b c → T (is_same n a d b c)
  test_of_same s =
      T_and (each (even_at n left right) left) (each (even_at n left right) right) (even_if_same n left right s.same left)
      (even_if_same n left right s.same right)
