-- One-term operands: u D = v C exactly if the terms of D and C match in order. One way by the coefficients of two terms, the other
-- variable by variable. Leans on Bridge, Cases and Runs.
use mathlib.Core.Path.{◌≡◌, refl, sym, ap, ap₂, ◌∙◌, subst}
use mathlib.Core.Bool.{Bool, true, false, not, true≢false, false≢true}
use mathlib.Core.List.{List, [], ◌∷◌, ◌++◌}
use Prim.Native.Nat.{ℕ, zero, suc, ◌+◌, ◌<◌}
use native.Mathlib.Nat.{not-suc-le-zero, le_of_suc-le-suc, zero-lt-suc}
use native.Mathlib.Decide.{dec_lt}
use native.Mathlib.Omega.{arith}
use lib.ListN.{length}
use Rattle.masks.specs.Bit.{bit}
use Rattle.ring.specs.Same.{one_if}
use Rattle.ring.specs.Run.{lacking, holding, Run}
use Rattle.ring.specs.Lone.{exponent, Even, Matched}
use Rattle.ring.proofs.Domain.{mul_zero, add_zero}
use Rattle.ring.proofs.Series.{R, nought, plus, times, laws}
use Rattle.ring.proofs.Value.{join, odd, value, value_none, value_more, Equal, Equations, halves_from_product}
use Rattle.ring.proofs.Cases.{exchange_sides, mirror, free_split}
use Rattle.ring.proofs.Powers.{scale, one_term}
use Rattle.ring.proofs.Sums.{single, single_agrees, single_product, single_of_term}
use Rattle.ring.proofs.Runs.{AllBits, all_lacking, all_holding, run_nonzero}

-- ---- matching terms make equal products

terms_equal : (k u x v y : ℕ) → Even k u x v y → Equal k (u ∷ []) (x ∷ []) (v ∷ []) (y ∷ [])
terms_equal k u x v y h = product u x ∙ single_agrees k (exponent u x) (exponent v y) h ∙ sym (product v y)
  where
    product : (u x : ℕ) → times k (value k (u ∷ [])) (value k (x ∷ [])) ≡ single k (exponent u x)
    product u x =
        ap₂ (times k) (single_of_term k u) (single_of_term k x) ∙ sym (single_product k (λ i. one_if (bit u i)) (λ i. one_if (bit x i)))

one_more : (k u x : ℕ) (d : List ℕ) → times k (value k (u ∷ [])) (value k (x ∷ d))
    ≡ plus k (times k (value k (u ∷ [])) (value k (x ∷ []))) (times k (value k (u ∷ [])) (value k d))
one_more k u x d = ap (times k (value k (u ∷ []))) (value_more k x d) ∙ (laws k).mul_add (value k (u ∷ [])) (value k (x ∷ [])) (value k d)

pub equal_if_matched : (k u v : ℕ) (d c : List ℕ) → Matched k u v d c → Equal k (u ∷ []) d (v ∷ []) c
equal_if_matched k u v [] [] h = nothing u ∙ sym (nothing v)
  where
    nothing : (t : ℕ) → times k (value k (t ∷ [])) (value k []) ≡ nought k
    nothing t = ap (times k (value k (t ∷ []))) (value_none k) ∙ mul_zero (laws k) (value k (t ∷ []))
equal_if_matched k u v [] (y ∷ c) h = absurd h
equal_if_matched k u v (x ∷ d) [] h = absurd h
equal_if_matched k u v (x ∷ d) (y ∷ c) h =
    one_more k u x d ∙ ap₂ (plus k) (terms_equal k u x v y h.0) (equal_if_matched k u v d c h.1) ∙ sym (one_more k v y c)

-- ---- lists of matching terms

matched_turned : (k u v : ℕ) (d c : List ℕ) → Matched k v u c d → Matched k u v d c
matched_turned k u v [] [] h = tt
matched_turned k u v [] (y ∷ c) h = absurd h
matched_turned k u v (x ∷ d) [] h = absurd h
matched_turned k u v (x ∷ d) (y ∷ c) h = ((λ i l. sym (h.0 i l)), matched_turned k u v d c h.1)

matched_append : (k u v : ℕ) (a b c d : List ℕ) → Matched k u v a c → Matched k u v b d → Matched k u v (a ++ b) (c ++ d)
matched_append k u v [] b [] d h g = g
matched_append k u v [] b (y ∷ c) d h g = absurd h
matched_append k u v (x ∷ a) b [] d h g = absurd h
matched_append k u v (x ∷ a) b (y ∷ c) d h g = (h.0, matched_append k u v a b c d h.1 g)

-- one variable more, constant in both lists and equally often on either side
matched_up : (k u v : ℕ) (p q : Bool) (d c : List ℕ) → AllBits k p d → AllBits k q c
    → one_if (bit u k) + one_if p ≡ one_if (bit v k) + one_if q → Matched k u v d c → Matched (suc k) u v d c
matched_up k u v p q [] [] a b e h = tt
matched_up k u v p q [] (y ∷ c) a b e h = absurd h
matched_up k u v p q (x ∷ d) [] a b e h = absurd h
matched_up k u v p q (x ∷ d) (y ∷ c) a b e h = (even, matched_up k u v p q d c a.1 b.1 e h.1)
  where
    here : exponent u x k ≡ exponent v y k
    here =
        ap (λ (t : Bool). one_if (bit u k) + one_if t) a.0 ∙ e ∙ sym (ap (λ (t : Bool). one_if (bit v k) + one_if t) b.0)

    even : Even (suc k) u x v y
    even i l = go (dec_lt i k)
      where
        go : Dec (i < k) → exponent u x i ≡ exponent v y i
        go (yes lt) = h.0 i lt
        go (no n) = let at : i ≡ k = omega arith in subst (λ (j : ℕ). exponent u x j ≡ exponent v y j) (sym at) here

-- ---- equal products have matching terms

empty_run : (k : ℕ) (l : List ℕ) → Run k l → value k l ≡ nought k → l ≡ []
empty_run k [] r e = refl
empty_run k (t ∷ l) r e = absurd (run_nonzero k (t ∷ l) r (zero-lt-suc (length l)) e)

nil_right : (m : List ℕ) → m ++ [] ≡ m
nil_right [] = refl
nil_right (x ∷ m) = ap (λ (r : List ℕ). x ∷ r) (nil_right m)

-- the equations of halves, with u and v cut at variable k
abbrev Cut_equations : (k u v : ℕ) (d c : List ℕ) → Bool → Bool → Type 0
Cut_equations k u v d c p r =
    Equations k (scale k (not p) (value k (u ∷ []))) (scale k p (value k (u ∷ []))) (value k (lacking k d)) (value k (holding k d))
    (scale k (not r) (value k (v ∷ []))) (scale k r (value k (v ∷ []))) (value k (lacking k c)) (value k (holding k c))

cut_equations : (k u v : ℕ) (d c : List ℕ) → Equal (suc k) (u ∷ []) d (v ∷ []) c → Cut_equations k u v d c (bit u k) (bit v k)
unfolding value lacking holding
cut_equations k u v d c e =
    halves_from_product k (scale k (not (bit u k)) (value k (u ∷ []))) (scale k (bit u k) (value k (u ∷ []))) (value k (lacking k d)) (value k (holding k d))
    (scale k (not (bit v k)) (value k (v ∷ []))) (scale k (bit v k) (value k (v ∷ []))) (value k (lacking k c)) (value k (holding k c))
    (sym (ap (λ (f : R (suc k)). times (suc k) f (value (suc k) d)) (one_term k u (bit u k)))
    ∙ e
    ∙ ap (λ (f : R (suc k)). times (suc k) f (value (suc k) c)) (one_term k v (bit v k)))

module _ (k : ℕ) (ih : (u v : ℕ) (d c : List ℕ) → Run k d → Run k c → Equal k (u ∷ []) d (v ∷ []) c → Matched k u v d c)
    (lone : (u : ℕ) → ¬ (value k (u ∷ []) ≡ nought k)) where
  -- the variable stands in both u and v, or in neither
  straight : (u v : ℕ) (b : Bool) (d c : List ℕ) → bit u k ≡ b → bit v k ≡ b → Run (suc k) d → Run (suc k) c
      → Equal k (u ∷ []) (lacking k d) (v ∷ []) (lacking k c) → Equal k (u ∷ []) (holding k d) (v ∷ []) (holding k c) → Matched (suc k) u v d c
  straight u v b d c eu ev rd rc low high =
      let alike : (t : Bool) → one_if (bit u k) + one_if t ≡ one_if (bit v k) + one_if t = (λ t. ap (λ (s : Bool). one_if s + one_if t) (eu ∙ sym ev)) in
      subst (λ (l : List ℕ). Matched (suc k) u v l c) (sym rd.0)
      (subst (λ (l : List ℕ). Matched (suc k) u v (lacking k d ++ holding k d) l) (sym rc.0)
      (matched_append (suc k) u v (lacking k d) (holding k d) (lacking k c) (holding k c)
      (matched_up k u v false false (lacking k d) (lacking k c) (all_lacking k d) (all_lacking k c) (alike false)
      (ih u v (lacking k d) (lacking k c) rd.1 rc.1 low))
      (matched_up k u v true true (holding k d) (holding k c) (all_holding k d) (all_holding k c) (alike true)
      (ih u v (holding k d) (holding k c) rd.2 rc.2 high))))

  -- it stands in v alone: then in all of d and in none of c
  crosswise : (u v : ℕ) (d c : List ℕ) → bit u k ≡ false → bit v k ≡ true → Run (suc k) d → Run (suc k) c → Cut_equations k u v d c false true → Matched (suc k) u v d c
  unfolding scale
  crosswise u v d c eu ev rd rc e =
      let no_low : lacking k d ≡ [] =
      empty_run k (lacking k d) rd.1
      ((laws k).no_zero_divisors (value k (u ∷ [])) (value k (lacking k d)) (lone u) (e.low ∙ (laws k).zero_mul (value k (lacking k c)))) in
      let no_high : holding k c ≡ [] =
      empty_run k (holding k c) rc.2
      ((laws k).no_zero_divisors (value k (v ∷ [])) (value k (holding k c)) (lone v) (sym e.high ∙ (laws k).zero_mul (value k (holding k d)))) in
      let middle : Equal k (u ∷ []) (holding k d) (v ∷ []) (lacking k c) =
      sym ((laws k).zero_add (times k (value k (u ∷ [])) (value k (holding k d))))
      ∙ ap (λ (z : R k). plus k z (times k (value k (u ∷ [])) (value k (holding k d)))) (sym ((laws k).zero_mul (value k (lacking k d))))
      ∙ e.middle
      ∙ ap (plus k (times k (value k (v ∷ [])) (value k (lacking k c)))) ((laws k).zero_mul (value k (holding k c)))
      ∙ add_zero (laws k) (times k (value k (v ∷ [])) (value k (lacking k c))) in
      let all_d : d ≡ holding k d = rd.0 ∙ ap (λ (l : List ℕ). l ++ holding k d) no_low in
      let all_c : c ≡ lacking k c = rc.0 ∙ ap (λ (l : List ℕ). lacking k c ++ l) no_high ∙ nil_right (lacking k c) in
      subst (λ (l : List ℕ). Matched (suc k) u v l c) (sym all_d)
      (subst (λ (l : List ℕ). Matched (suc k) u v (holding k d) l) (sym all_c)
      (matched_up k u v true false (holding k d) (lacking k c) (all_holding k d) (all_lacking k c)
      (ap₂ (λ (s t : Bool). one_if s + 1) eu eu ∙ sym (ap (λ (s : Bool). one_if s + 0) ev))
      (ih u v (holding k d) (lacking k c) rd.2 rc.1 middle)))

  matched_by_bits : (u v : ℕ) (d c : List ℕ) (p r : Bool) → bit u k ≡ p → bit v k ≡ r → Run (suc k) d → Run (suc k) c → Cut_equations k u v d c p r → Matched (suc k) u v d c
  unfolding scale
  matched_by_bits u v d c false false eu ev rd rc e =
      let s = free_split k (value k (u ∷ [])) (nought k) (value k (lacking k d)) (value k (holding k d)) (value k (v ∷ [])) (nought k) (value k (lacking k c)) (value k (holding k c)) refl refl e in
      straight u v false d c eu ev rd rc s.1 s.0
  matched_by_bits u v d c true true eu ev rd rc e =
      let f = mirror k (nought k) (value k (u ∷ [])) (value k (lacking k d)) (value k (holding k d)) (nought k) (value k (v ∷ [])) (value k (lacking k c)) (value k (holding k c)) e in
      let s = free_split k (value k (u ∷ [])) (nought k) (value k (holding k d)) (value k (lacking k d)) (value k (v ∷ [])) (nought k) (value k (holding k c)) (value k (lacking k c)) refl refl f in
      straight u v true d c eu ev rd rc s.0 s.1
  matched_by_bits u v d c false true eu ev rd rc e = crosswise u v d c eu ev rd rc e
  matched_by_bits u v d c true false eu ev rd rc e =
      matched_turned (suc k) u v d c
      (crosswise v u c d ev eu rc rd
      (exchange_sides k (nought k) (value k (u ∷ [])) (value k (lacking k d)) (value k (holding k d)) (value k (v ∷ [])) (nought k) (value k (lacking k c)) (value k (holding k c)) e))

-- one term is not zero
scaled_nonzero : (k : ℕ) (p : Bool) (x : R k) → ¬ (x ≡ nought k) → ¬ (join k (scale k (not p) x) (scale k p x) ≡ nought (suc k))
unfolding scale
scaled_nonzero k true x n z = n (ap (λ (f : R (suc k)). f 1) z)
scaled_nonzero k false x n z = n (ap (λ (f : R (suc k)). f 0) z)

lone_nonzero : (k u : ℕ) → ¬ (value k (u ∷ []) ≡ nought k)
unfolding value lacking holding odd
lone_nonzero zero u e = true≢false e
lone_nonzero (suc k) u e = scaled_nonzero k (bit u k) (value k (u ∷ [])) (lone_nonzero k u) (sym (one_term k u (bit u k)) ∙ e)

pub matched_if_equal : (k u v : ℕ) (d c : List ℕ) → Run k d → Run k c → Equal k (u ∷ []) d (v ∷ []) c → Matched k u v d c
unfolding value odd
matched_if_equal zero u v [] [] rd rc e = tt
matched_if_equal zero u v [] (y ∷ []) rd rc e = absurd (false≢true e)
matched_if_equal zero u v [] (y ∷ z ∷ c) rd rc e = absurd (not-suc-le-zero (le_of_suc-le-suc rc))
matched_if_equal zero u v (x ∷ []) [] rd rc e = absurd (true≢false e)
matched_if_equal zero u v (x ∷ []) (y ∷ []) rd rc e = ((λ i l. absurd (not-suc-le-zero l)), tt)
matched_if_equal zero u v (x ∷ []) (y ∷ z ∷ c) rd rc e = absurd (not-suc-le-zero (le_of_suc-le-suc rc))
matched_if_equal zero u v (x ∷ w ∷ d) c rd rc e = absurd (not-suc-le-zero (le_of_suc-le-suc rd))
matched_if_equal (suc k) u v d c rd rc e =
    matched_by_bits k (matched_if_equal k) (lone_nonzero k) u v d c (bit u k) (bit v k) refl refl rd rc (cut_equations k u v d c e)
