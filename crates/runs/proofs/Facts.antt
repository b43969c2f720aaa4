-- What the tests on runs read: where a run is cut, which terms agree below bit k, which variables a mask holds. Leans on ring's laws
-- of runs and of the bits below k.
use mathlib.Core.Path.{◌≡◌, refl, sym, ap, ◌∙◌, subst}
use mathlib.Core.Bool.{Bool, true, false, true≢false, false≢true}
use mathlib.Core.List.{List, [], ◌∷◌}
use mathlib.Core.Logic.{⊎_elim}
use Prim.Native.Nat.{ℕ, zero, suc, ◌+◌, ◌*◌, ◌%◌, ◌^◌, ◌≤◌, ◌<◌}
use native.Mathlib.Nat.{not-suc-le-zero, le_of_suc-le-suc, div-eq_of_lt-le, pow-suc, one-mul}
use native.Mathlib.Decide.{dec_lt}
use native.Mathlib.Omega.{arith}
use lib.Dec.{eqb}
use lib.ListN.{length, get_or, length-map}
use lib.Seq.{ext_get_or}
use Rattle.masks.specs.Bit.{bit}
use Rattle.masks.proofs.Bits.{bits_above_vanish, bit_zero, zero_from_bits}
use Rattle.masks.specs.Width.{width}
use Rattle.masks.proofs.Width.{Bounds, width_bounds, width_le}
use Rattle.ring.specs.Run.{lacking, Cut, lows}
use Rattle.ring.specs.Ends.{imbalance}
use Rattle.ring.specs.Lone.{Even, Matched}
use Rattle.ring.proofs.Skip.{balanced_at, unbalanced_at}
use Rattle.masks.proofs.Low.{bit_at, bit_low, low_below}
use Rattle.ring.proofs.Runs.{before_cut, from_cut, cut_within}
use Rattle.runs.specs.Read.{Within, Left, shape, Pairing}

-- ---- the cut

module _ (k : ℕ) (l : List ℕ) (c : Cut k l) (mid : ℕ) where
  -- a term that holds the variable stands from the cut on
  pub cut_before_holder : bit (get_or l mid 0) k ≡ true → length (lacking k l) ≤ mid
  cut_before_holder e = go (dec_lt mid (length (lacking k l)))
    where
      go : Dec (mid < length (lacking k l)) → length (lacking k l) ≤ mid
      go (yes h) = absurd (true≢false (sym e ∙ before_cut k l c mid h))
      go (no n) = omega arith

  -- a term that lacks it stands before the cut
  pub cut_after_lacker : mid < length l → bit (get_or l mid 0) k ≡ false → mid < length (lacking k l)
  cut_after_lacker h e = go (dec_lt mid (length (lacking k l)))
    where
      go : Dec (mid < length (lacking k l)) → mid < length (lacking k l)
      go (yes h) = h
      go (no n) = absurd (false≢true (sym e ∙ from_cut k l c mid (omega arith) h))

pub cut_inside : (k : ℕ) (l : List ℕ) → Cut k l → length (lacking k l) ≤ length l
cut_inside k l c = omega (arith, cut_within k l c)

-- ---- terms that agree below bit k

get_or_low : (k : ℕ) (l : List ℕ) (i : ℕ) → i < length l → get_or (lows k l) i 0 ≡ get_or l i 0 % 2 ^ k
get_or_low k [] i h = absurd (not-suc-le-zero h)
get_or_low k (t ∷ l) zero h = refl
get_or_low k (t ∷ l) (suc i) h = get_or_low k l i (le_of_suc-le-suc h)

pub not_alike_by_length : (k : ℕ) (a b : List ℕ) → ¬ (length a ≡ length b) → ¬ (lows k a ≡ lows k b)
not_alike_by_length k a b n e = n (sym (length-map a (λ t. t % 2 ^ k)) ∙ ap length e ∙ length-map b (λ t. t % 2 ^ k))

pub not_alike_at : (k : ℕ) (a b : List ℕ) (i : ℕ) → i < length a → i < length b → ¬ (get_or a i 0 % 2 ^ k ≡ get_or b i 0 % 2 ^ k) → ¬ (lows k a ≡ lows k b)
not_alike_at k a b i ha hb n e = n (sym (get_or_low k a i ha) ∙ ap (λ (m : List ℕ). get_or m i 0) e ∙ get_or_low k b i hb)

pub alike_everywhere : (k : ℕ) (a b : List ℕ) → length a ≡ length b → ((i : ℕ) → i < length a → get_or a i 0 % 2 ^ k ≡ get_or b i 0 % 2 ^ k) → lows k a ≡ lows k b
alike_everywhere k a b e h =
    ext_get_or 0 (lows k a) (lows k b)
    (length-map a (λ t. t % 2 ^ k) ∙ e ∙ sym (length-map b (λ t. t % 2 ^ k)))
    (λ i l.
    let la : i < length a = subst (λ (n : ℕ). i < n) (length-map a (λ t. t % 2 ^ k)) l in
    get_or_low k a i la ∙ h i la ∙ sym (get_or_low k b i (subst (λ (n : ℕ). i < n) e la)))

-- ---- terms that match

-- no bit below k in the mask says that two products are one
pub even_by_mask : (k u x v y : ℕ) → imbalance u x v y % 2 ^ k ≡ 0 → Even k u x v y
even_by_mask k u x v y e i l =
    balanced_at u x v y i (sym (bit_low (imbalance u x v y) k i l) ∙ ap (λ (m : ℕ). bit m i) e ∙ bit_zero i)

pub uneven_by_mask : (k u x v y : ℕ) → ¬ (imbalance u x v y % 2 ^ k ≡ 0) → ¬ Even k u x v y
uneven_by_mask k u x v y n h = n (zero_from_bits (imbalance u x v y % 2 ^ k) none)
  where
    none : (i : ℕ) → bit (imbalance u x v y % 2 ^ k) i ≡ false
    none i = go (dec_lt i k) (bit (imbalance u x v y) i) refl
      where
        go : Dec (i < k) → (b : Bool) → bit (imbalance u x v y) i ≡ b → bit (imbalance u x v y % 2 ^ k) i ≡ false
        go (yes l) false e = bit_low (imbalance u x v y) k i l ∙ e
        go (yes l) true e = absurd (unbalanced_at u x v y i e (h i l))
        go (no l) b e = bits_above_vanish k (imbalance u x v y % 2 ^ k) i (low_below (imbalance u x v y) k) (omega arith)

pub unmatched_by_length : (k u v : ℕ) (d c : List ℕ) → ¬ (length d ≡ length c) → ¬ Matched k u v d c
unmatched_by_length k u v [] [] n h = n refl
unmatched_by_length k u v [] (y ∷ c) n h = h
unmatched_by_length k u v (x ∷ d) [] n h = h
unmatched_by_length k u v (x ∷ d) (y ∷ c) n h = unmatched_by_length k u v d c (λ e. n (ap suc e)) h.1

pub unmatched_at : (k u v : ℕ) (d c : List ℕ) (i : ℕ) → i < length d → i < length c → ¬ Even k u (get_or d i 0) v (get_or c i 0) → ¬ Matched k u v d c
unmatched_at k u v [] c i ld lc n h = not-suc-le-zero ld
unmatched_at k u v (x ∷ d) [] i ld lc n h = not-suc-le-zero lc
unmatched_at k u v (x ∷ d) (y ∷ c) zero ld lc n h = n h.0
unmatched_at k u v (x ∷ d) (y ∷ c) (suc i) ld lc n h = unmatched_at k u v d c i (le_of_suc-le-suc ld) (le_of_suc-le-suc lc) n h.1

pub matched_everywhere : (k u v : ℕ) (d c : List ℕ) → length d ≡ length c → ((i : ℕ) → i < length d → Even k u (get_or d i 0) v (get_or c i 0)) → Matched k u v d c
matched_everywhere k u v [] [] e h = tt
matched_everywhere k u v [] (y ∷ c) e h = absurd (omega arith)
matched_everywhere k u v (x ∷ d) [] e h = absurd (omega arith)
matched_everywhere k u v (x ∷ d) (y ∷ c) e h = (h 0 (omega arith), matched_everywhere k u v d c (omega arith) (λ i l. h (suc i) (omega arith)))

-- ---- the variables of a mask

pub left_by_width : (m k : ℕ) → width m < k → Left m k (width m)
left_by_width m k h = record { within = omega arith; none = λ i wi ik. bits_above_vanish (width m) m i (width_bounds m).above wi }

pub left_all : (m k : ℕ) → Left m k k
left_all m k = record { within = omega arith; none = λ i ki ik. absurd (omega arith) }

-- the highest variable of a mask
top_bit : (m j : ℕ) → 2 ^ suc j ≤ 2 * m + 1 → m < 2 ^ suc j → bit m j ≡ true
top_bit m j near above =
    let one_times : 1 * 2 ^ j ≤ m = omega (arith, pow-suc 2 j, one-mul (2 ^ j)) in
    let two_times : m < (1 + 1) * 2 ^ j = omega (arith, pow-suc 2 j) in
    bit_at m j ∙ ap (λ (n : ℕ). eqb (n % 2) 1) (div-eq_of_lt-le (2 ^ j) one_times two_times)

pub within_by_width : (m w k : ℕ) → w < width (m % 2 ^ k) → Within m w k
within_by_width m w k h = go (width (m % 2 ^ k)) refl h (width_bounds (m % 2 ^ k)) (width_le k (m % 2 ^ k) (low_below m k))
  where
    go : (n : ℕ) → width (m % 2 ^ k) ≡ n → w < n → Bounds (m % 2 ^ k) (width (m % 2 ^ k)) → width (m % 2 ^ k) ≤ k → Within m w k
    go zero e lt b le = absurd (not-suc-le-zero lt)
    go (suc j) e lt b le =
        let jk : j < k = omega arith in (
          j,
          omega arith,
          jk,
          sym (bit_low m k j jk)
              ∙ top_bit (m % 2 ^ k) j (subst (λ (n : ℕ). 2 ^ n ≤ 2 * (m % 2 ^ k) + 1) e b.near) (subst (λ (n : ℕ). m % 2 ^ k < 2 ^ n) e b.above),
        )

pub none_within : (m w k : ℕ) → width (m % 2 ^ k) ≤ w → ¬ Within m w k
none_within m w k h i =
    true≢false
    (sym i.3 ∙ sym (bit_low m k i.0 i.2) ∙ bits_above_vanish (width (m % 2 ^ k)) (m % 2 ^ k) i.0 (width_bounds (m % 2 ^ k)).above (omega (arith, i.1)))

-- ---- shapes

pub shape_divided : (l h : List ℕ) → length l ≡ 0 → 1 ≡ shape l h
unfolding shape
shape_divided [] h e = refl
shape_divided (t ∷ l) h e = absurd (omega arith)

pub shape_free : (l h : List ℕ) → ¬ (length l ≡ 0) → length h ≡ 0 → 0 ≡ shape l h
unfolding shape
shape_free [] h n e = absurd (n refl)
shape_free (t ∷ l) [] n e = refl
shape_free (t ∷ l) (u ∷ h) n e = absurd (omega arith)

pub shape_mixed : (l h : List ℕ) → ¬ (length l ≡ 0) → ¬ (length h ≡ 0) → 2 ≡ shape l h
unfolding shape
shape_mixed [] h n m = absurd (n refl)
shape_mixed (t ∷ l) [] n m = absurd (m refl)
shape_mixed (t ∷ l) (u ∷ h) n m = refl

pub neither_pairing : (s t u v : ℕ) → ¬ ((s ≡ u) × (t ≡ v)) → ¬ ((s ≡ v) × (t ≡ u)) → Pairing 2 s t u v
neither_pairing s t u v n m =
    record { straight = λ e. absurd (omega arith); swapped = λ e. absurd (omega arith); neither = λ p q. ⊎_elim n m }
