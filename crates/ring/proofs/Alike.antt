-- Two lists that agree below 2 ^ k have the same value at k variables; two runs with the same value agree below 2 ^ k. So the
-- value of a run tells its terms, and a question with a list on both sides is one about the other two.
use mathlib.Core.Path.{◌≡◌, refl, sym, ap, ap₂, ◌∙◌}
use mathlib.Core.Bool.{Bool, true, false, true≢false, false≢true}
use mathlib.Core.List.{List, [], ◌∷◌, ◌++◌, map}
use Prim.Native.Nat.{ℕ, zero, suc, ◌+◌, ◌%◌, ◌^◌, ◌<◌}
use native.Mathlib.Nat.{not-suc-le-zero, le_of_suc-le-suc, le_refl, mod-one}
use native.Mathlib.Omega.{arith}
use lib.ListN.{length}
use Rattle.masks.specs.Bit.{bit}
use Rattle.polys.specs.List.{either}
use Rattle.ring.specs.Run.{lacking, holding, Cut, Run, lows}
use Rattle.ring.proofs.Domain.{cancel_right}
use Rattle.ring.proofs.Series.{R, plus, times, laws}
use Rattle.ring.proofs.Value.{join, odd, value, value_more, Equal}
use Rattle.masks.proofs.Low.{bit_low}
use Rattle.ring.proofs.Low.{low_lacking, low_holding}
use Rattle.ring.proofs.Runs.{AllBits, all_lacking, all_holding, run_nonzero}

-- ---- what agrees below 2 ^ k has one value

value_of_term : (k s t : ℕ) → ((i : ℕ) → i < k → bit s i ≡ bit t i) → value k (s ∷ []) ≡ value k (t ∷ [])
unfolding value lacking holding odd
value_of_term zero s t h = refl
value_of_term (suc k) s t h = step (bit s k) (bit t k) (h k (le_refl (suc k))) (value_of_term k s t (λ i l. h i (omega arith)))
  where
    step : (p q : Bool) → p ≡ q → value k (s ∷ []) ≡ value k (t ∷ [])
        → join k (value k (either p [] (s ∷ []))) (value k (either p (s ∷ []) [])) ≡ join k (value k (either q [] (t ∷ []))) (value k (either q (t ∷ []) []))
    step true true e ih = ap (λ (u : R k). join k (value k []) u) ih
    step true false e ih = absurd (true≢false e)
    step false true e ih = absurd (false≢true e)
    step false false e ih = ap (λ (u : R k). join k u (value k [])) ih

value_of_lows : (k : ℕ) (l : List ℕ) → value k l ≡ value k (lows k l)
value_of_lows k [] = refl
value_of_lows k (t ∷ l) =
    value_more k t l
    ∙ ap₂ (plus k) (value_of_term k t (t % 2 ^ k) (λ i h. sym (bit_low t k i h))) (value_of_lows k l)
    ∙ sym (value_more k (t % 2 ^ k) (lows k l))

pub value_of_alike : (k : ℕ) (a b : List ℕ) → lows k a ≡ lows k b → value k a ≡ value k b
value_of_alike k a b e = value_of_lows k a ∙ ap (value k) e ∙ sym (value_of_lows k b)

-- ---- runs with one value agree

lows_append : (k : ℕ) (a b : List ℕ) → lows k (a ++ b) ≡ lows k a ++ lows k b
lows_append k [] b = refl
lows_append k (t ∷ a) b = ap (λ (m : List ℕ). t % 2 ^ k ∷ m) (lows_append k a b)

lows_lacking : (k : ℕ) (l : List ℕ) → AllBits k false l → lows (suc k) l ≡ lows k l
lows_lacking k [] h = refl
lows_lacking k (t ∷ l) h = ap₂ ◌∷◌ (low_lacking t k h.0) (lows_lacking k l h.1)

lows_holding : (k : ℕ) (l : List ℕ) → AllBits k true l → lows (suc k) l ≡ map (λ t. 2 ^ k + t) (lows k l)
lows_holding k [] h = refl
lows_holding k (t ∷ l) h = ap₂ ◌∷◌ (low_holding t k h.0) (lows_holding k l h.1)

lows_of_run : (k : ℕ) (l : List ℕ) → Cut k l → lows (suc k) l ≡ lows k (lacking k l) ++ map (λ t. 2 ^ k + t) (lows k (holding k l))
lows_of_run k l c =
    ap (lows (suc k)) c
    ∙ lows_append (suc k) (lacking k l) (holding k l)
    ∙ ap₂ ◌++◌ (lows_lacking k (lacking k l) (all_lacking k l)) (lows_holding k (holding k l) (all_holding k l))

pub alike_of_value : (k : ℕ) (a b : List ℕ) → Run k a → Run k b → value k a ≡ value k b → lows k a ≡ lows k b
unfolding value odd
alike_of_value zero [] [] r s e = refl
alike_of_value zero [] (u ∷ []) r s e = absurd (false≢true e)
alike_of_value zero [] (u ∷ v ∷ b) r s e = absurd (not-suc-le-zero (le_of_suc-le-suc s))
alike_of_value zero (t ∷ []) [] r s e = absurd (true≢false e)
alike_of_value zero (t ∷ []) (u ∷ []) r s e = ap (λ (n : ℕ). n ∷ []) (mod-one t ∙ sym (mod-one u))
alike_of_value zero (t ∷ []) (u ∷ v ∷ b) r s e = absurd (not-suc-le-zero (le_of_suc-le-suc s))
alike_of_value zero (t ∷ v ∷ a) b r s e = absurd (not-suc-le-zero (le_of_suc-le-suc r))
alike_of_value (suc k) a b r s e =
    lows_of_run k a r.0
    ∙ ap₂ (λ (p q : List ℕ). p ++ map (λ t. 2 ^ k + t) q)
    (alike_of_value k (lacking k a) (lacking k b) r.1 s.1 (ap (λ (u : R (suc k)). u 0) e))
    (alike_of_value k (holding k a) (holding k b) r.2 s.2 (ap (λ (u : R (suc k)). u 1) e))
    ∙ sym (lows_of_run k b s.0)

-- ---- a list on both sides

pub equal_if_alike : (k : ℕ) (a d b c : List ℕ) → lows k a ≡ lows k b → lows k d ≡ lows k c → Equal k a d b c
equal_if_alike k a d b c e f = ap₂ (times k) (value_of_alike k a b e) (value_of_alike k d c f)

pub alike_if_equal : (k : ℕ) (a d b c : List ℕ) → Run k a → 0 < length a → Run k d → Run k c → lows k a ≡ lows k b → Equal k a d b c → lows k d ≡ lows k c
alike_if_equal k a d b c ra pos rd rc e h =
    alike_of_value k d c rd rc
    (cancel_right (laws k) (value k d) (value k c) (value k a) (run_nonzero k a ra pos)
    ((laws k).mul_comm (value k d) (value k a)
    ∙ h
    ∙ ap (λ (u : R k). times k u (value k c)) (sym (value_of_alike k a b e))
    ∙ (laws k).mul_comm (value k a) (value k c)))
