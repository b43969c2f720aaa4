-- Where the value of a list is the product of the values of two lists, the two have no common variable and the list is their product: a
-- product that is multilinear has factors with no common variable. Leans on ring: no zero divisors, and runs that are not
-- empty are not zero.
use Prim.Native.Nat.{ℕ, zero, suc, ◌^◌, ◌<◌}
use mathlib.Core.Path.{◌≡◌, refl, sym, ap, ap₂, ◌∙◌}
use mathlib.Core.Bool.{Bool, true, false, ◌&&◌, true≢false, and-false}
use mathlib.Core.List.{List, [], ◌∷◌}
use native.Mathlib.Nat.{not-suc-le-zero, lt_of_not-le}
use native.Mathlib.Omega.{arith}
use lib.Bits.{bit_and}
use lib.ListN.{length}
use Rattle.masks.specs.Bit.{bit}
use Rattle.masks.proofs.Bits.{bit_and_lem, zero_from_bits, bit_zero, bits_above_vanish}
use Rattle.polys.specs.List.{Mem, Asc}
use Rattle.polys.specs.Poly.{vars, times, Apart}
use Rattle.polys.proofs.Polys.{vars_bit, times_asc}
use Rattle.ring.specs.Run.{lacking, holding, Run}
use Rattle.ring.proofs.Domain.{mul_zero}
use Rattle.ring.proofs.Series.{R, nought, plus, laws, times as mul}
use Rattle.ring.proofs.Value.{join, odd, value, second}
use Rattle.ring.proofs.Runs.{run_nonzero, run_of_ascending}
use Rattle.ring.proofs.Built.{Small, value_of_built, small_built, small_at, equal_from_values}
use Rattle.ring.proofs.Multilinear.{M}
use Rattle.ring.proofs.Refine.{σ}
use Rattle.rule.proofs.Derivative.{mem_lacking, mem_holding}

-- ---- the value of a list is multilinear

pub polynomial : (n : ℕ) → List ℕ → M n
polynomial zero l = odd l
polynomial (suc n) l = (polynomial n (holding n l), polynomial n (lacking n l))

pub value_is_polynomial : (n : ℕ) (l : List ℕ) → value n l ≡ σ n (polynomial n l)
unfolding value polynomial
value_is_polynomial zero l = refl
value_is_polynomial (suc n) l = ap₂ (join n) (value_is_polynomial n (lacking n l)) (value_is_polynomial n (holding n l))

-- ---- no variable stands in both factors

pos_of_mem : (l : List ℕ) (t : ℕ) → Mem l t → 0 < length l
pos_of_mem [] t m = absurd m
pos_of_mem (s ∷ l) t m = omega arith

-- two terms, one of either factor, with the common variable i below n
abbrev NotBoth : ℕ → Type 0
NotBoth n = (u w : List ℕ) (p : M n) → Run n u → Run n w → mul n (value n u) (value n w) ≡ σ n p
    → (s t i : ℕ) → Mem u s → Mem w t → i < n → bit s i ≡ true → bit t i ≡ true → ⊥

module _ (n : ℕ) (ih : NotBoth n) (u w : List ℕ) (p : M (suc n)) (ru : Run (suc n) u) (rw : Run (suc n) w)
    (e : mul (suc n) (join n (value n (lacking n u)) (value n (holding n u))) (join n (value n (lacking n w)) (value n (holding n w))) ≡ σ (suc n) p)
    (s t i : ℕ) (ms : Mem u s) (mt : Mem w t) (l : i < suc n) (hs : bit s i ≡ true) (ht : bit t i ≡ true) where
  below : (r : ℕ) → bit r i ≡ true → bit r n ≡ false → i < n
  below r h k = lt_of_not-le (λ le. let same : i ≡ n = omega arith in true≢false (sym h ∙ ap (bit r) same ∙ k))

  -- variable n stands in s, and so in no term of w
  high : bit s n ≡ true → ⊥
  high a = go (bit t n) refl
    where
      none : value n (holding n w) ≡ nought n
      none =
          (laws n).no_zero_divisors (value n (holding n u)) (value n (holding n w))
          (run_nonzero n (holding n u) ru.2 (pos_of_mem (holding n u) s (mem_holding n u s ms a)))
          (sym (second n (value n (lacking n u)) (value n (holding n u)) (value n (lacking n w)) (value n (holding n w))) ∙ ap (λ (f : R (suc n)). f 2) e)

      go : (b : Bool) → bit t n ≡ b → ⊥
      go true b = run_nonzero n (holding n w) rw.2 (pos_of_mem (holding n w) t (mem_holding n w t mt b)) none
      go false b =
          ih (holding n u) (lacking n w) p.0 ru.2 rw.1
          (sym ((laws n).zero_add (mul n (value n (holding n u)) (value n (lacking n w))))
          ∙ ap (λ (v : R n). plus n v (mul n (value n (holding n u)) (value n (lacking n w))))
          (sym (ap (mul n (value n (lacking n u))) none ∙ mul_zero (laws n) (value n (lacking n u))))
          ∙ ap (λ (f : R (suc n)). f 1) e)
          s t i (mem_holding n u s ms a) (mem_lacking n w t mt b) (below t ht b) hs ht

  low : bit s n ≡ false → bit t n ≡ false → ⊥
  low a b =
      ih (lacking n u) (lacking n w) p.1 ru.1 rw.1 (ap (λ (f : R (suc n)). f 0) e)
      s t i (mem_lacking n u s ms a) (mem_lacking n w t mt b) (below s hs a) hs ht

not_both : (n : ℕ) → NotBoth n
unfolding value
not_both zero u w p ru rw e s t i ms mt l hs ht = not-suc-le-zero l
not_both (suc n) u w p ru rw e s t i ms mt l hs ht = go (not_both n) (bit s n) refl (bit t n) refl
  where
    go : NotBoth n → (a : Bool) → bit s n ≡ a → (b : Bool) → bit t n ≡ b → ⊥
    go ih true a b q = high n ih u w p ru rw e s t i ms mt l hs ht a
    go ih false a true b = high n ih w u p rw ru ((laws (suc n)).mul_comm (value (suc n) w) (value (suc n) u) ∙ e) t s i mt ms l ht hs b
    go ih false a false b = low n ih u w p ru rw e s t i ms mt l hs ht a b

-- lists whose terms have nothing in common have no common variable
pub apart_by_terms : (g h : List ℕ) → ((s t : ℕ) → Mem g s → Mem h t → bit_and s t ≡ 0) → Apart g h
apart_by_terms g h no_common =
    zero_from_bits (bit_and (vars g) (vars h)) (λ i. bit_and_lem (vars g) (vars h) i ∙ go i (bit (vars g) i) refl (bit (vars h) i) refl)
  where
    go : (i : ℕ) (a : Bool) → bit (vars g) i ≡ a → (b : Bool) → bit (vars h) i ≡ b → bit (vars g) i && bit (vars h) i ≡ false
    go i true p true q =
        let s = vars_bit g i p in
        let t = vars_bit h i q in
        absurd (true≢false
        (sym (bit_and_lem s.0 t.0 i ∙ ap₂ ◌&&◌ s.2 t.2) ∙ ap (λ m. bit m i) (no_common s.0 t.0 s.1 t.1) ∙ bit_zero i))
    go i true p false q = ap (λ b. bit (vars g) i && b) q ∙ and-false (bit (vars g) i)
    go i false p b q = ap (λ a. a && bit (vars h) i) p

-- ---- the list is the product of the two

module _ (n : ℕ) (f g h : List ℕ) (pf : Asc f) (pg : Asc g) (ph : Asc h) (sf : Small n f) (sg : Small n g) (sh : Small n h)
    (e : value n f ≡ mul n (value n g) (value n h)) where
  pub factors_apart : Apart g h
  factors_apart =
      apart_by_terms g h
      (λ s t ms mt. zero_from_bits (bit_and s t) (λ i. bit_and_lem s t i ∙ go s t i ms mt (bit s i) refl (bit t i) refl))
    where
      below : (t i : ℕ) → t < 2 ^ n → bit t i ≡ true → i < n
      below t i l h = lt_of_not-le (λ le. true≢false (sym h ∙ bits_above_vanish n t i l le))

      go : (s t i : ℕ) → Mem g s → Mem h t → (a : Bool) → bit s i ≡ a → (b : Bool) → bit t i ≡ b → bit s i && bit t i ≡ false
      go s t i ms mt true p true q =
          absurd (not_both n g h (polynomial n f) (run_of_ascending n g (small_at n g sg) pg) (run_of_ascending n h (small_at n h sh) ph)
          (sym e ∙ value_is_polynomial n f) s t i ms mt (below s i (sg s ms) p) p q)
      go s t i ms mt true p false q = ap (λ b. bit s i && b) q ∙ and-false (bit s i)
      go s t i ms mt false p b q = ap (λ a. a && bit t i) p

  pub factored : f ≡ times g h
  factored =
      equal_from_values n f (times g h) pf (times_asc g h) sf (small_built n g h sg sh) (e ∙ sym (value_of_built n g h pg ph factors_apart))
