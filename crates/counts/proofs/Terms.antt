-- How many terms hold x and a variable: of one term, of a list from a place on, of a list that is over. Leans on Holding.
use mathlib.Core.Path.{◌≡◌, refl, sym, ap, ap₂, ◌∙◌}
use mathlib.Core.Bool.{Bool, true, false, false≢true}
use mathlib.Core.List.{List, [], ◌∷◌}
use Prim.Native.Nat.{ℕ, ◌+◌, ◌^◌, ◌≤◌, ◌<◌}
use native.Mathlib.Omega.{arith}
use native.Mathlib.Numerals.{add-one}
use borrow.Author.Tests.{eq-eqb, ne_eqb, eqb-true, eqb-false}
use lib.Bits.{bit_and, bit_or}
use lib.Dec.{eqb}
use lib.ListN.{length, get_or, drop}
use lib.Seq.{drop-cons, drop-length}
use Rattle.masks.specs.Bit.{bit}
use Rattle.masks.proofs.Reflect.{identity, ∅, ◌∩◌, ◌∪◌, ◌≐◌, ◌⊆◌, ∴◌, ◌⇒◌}
use Rattle.masks.proofs.Sets.{power_subset, bit_of_power_subset}
use Rattle.polys.specs.List.{either}
use Rattle.splitting.proofs.Holding.{having, having_length}
use Rattle.counts.specs.Planes.{one, digit, holding}
use Rattle.counts.proofs.Digits.{digit_none}

-- ---- the terms that hold a set s

module _ (s t : ℕ) where
  pub hit : bit_and t s ≡ s → length (having s (t ∷ [])) ≡ 1
  unfolding having
  hit h = ap (λ (b : Bool). length (either b (t ∷ []) [])) (eq-eqb (bit_and t s) s h)

  pub miss : ¬ (bit_and t s ≡ s) → length (having s (t ∷ [])) ≡ 0
  unfolding having
  miss h = ap (λ (b : Bool). length (either b (t ∷ []) [])) (ne_eqb (bit_and t s) s h)

  having_cons : (f : List ℕ) → length (having s (t ∷ f)) ≡ length (having s (t ∷ [])) + length (having s f)
  unfolding having
  having_cons f = go (eqb (bit_and t s) s) (having s f)
    where
      go : (b : Bool) (l : List ℕ) → length (either b (t ∷ l) l) ≡ length (either b (t ∷ []) []) + length l
      go true l = omega arith
      go false l = omega arith

-- ---- the terms that hold x and a variable

abbrev kept : Bool → ℕ → ℕ
kept true t = t
kept false t = 0

module _ (x t v : ℕ) where
  -- a term that holds x holds x and its own variables
  term_with : bit_and t x ≡ x → digit t v ≡ holding x (t ∷ []) v
  unfolding digit holding
  term_with h = go (bit t v) refl
    where
      joined : (t x p : ℕ) → bit_and t x ≡ x → bit_and p t ≡ p → bit_and t (bit_or x p) ≡ bit_or x p
      joined = identity 3 (λ t x p. t ∩ x ≐ x ⇒ p ⊆ t ⇒ ∴ t ∩ (x ∪ p) ≐ x ∪ p) tt

      second : (t x p : ℕ) → bit_and t (bit_or x p) ≡ bit_or x p → bit_and p t ≡ p
      second = identity 3 (λ t x p. t ∩ (x ∪ p) ≐ x ∪ p ⇒ ∴ p ⊆ t) tt

      go : (b : Bool) → bit t v ≡ b → one b ≡ length (having (bit_or x (2 ^ v)) (t ∷ []))
      go true e = sym (hit (bit_or x (2 ^ v)) t (joined t x (2 ^ v) h (power_subset v t e)))
      go false e = sym (miss (bit_or x (2 ^ v)) t (λ g. false≢true (sym e ∙ bit_of_power_subset v t (second t x (2 ^ v) g))))

  -- a term without x counts nowhere
  term_without : ¬ (bit_and t x ≡ x) → digit 0 v ≡ holding x (t ∷ []) v
  unfolding holding
  term_without h = digit_none v ∙ sym (miss (bit_or x (2 ^ v)) t (λ g. h (first t x (2 ^ v) g)))
    where
      first : (t x p : ℕ) → bit_and t (bit_or x p) ≡ bit_or x p → bit_and t x ≡ x
      first = identity 3 (λ t x p. t ∩ (x ∪ p) ≐ x ∪ p ⇒ ∴ t ∩ x ≐ x) tt

  -- o is what is kept of t, as the test r says
  pub term_held : (s o : ℕ) (r d : Bool) → s ≡ bit_and t x → r ≡ eqb s x → r ≡ d → o ≡ kept d t → digit o v ≡ holding x (t ∷ []) v
  term_held s o r true both test is out = ap (λ n. digit n v) out ∙ term_with (sym both ∙ eqb-true s x (sym test ∙ is))
  term_held s o r false both test is out = ap (λ n. digit n v) out ∙ term_without (λ h. eqb-false s x (sym test ∙ is) (both ∙ h))

module _ (x : ℕ) (f : List ℕ) where
  -- the term t at i, and those from the next place on
  pub one_more : (i j t v : ℕ) → t ≡ get_or f i 0 → i + 1 ≡ j → i < length f → holding x (drop i f) v ≡ holding x (t ∷ []) v + holding x (drop j f) v
  unfolding holding
  one_more i j t v is e h =
      ap (λ l. holding x l v) (drop-cons f i 0 h ∙ ap₂ (λ n k. n ∷ drop k f) (sym is) (sym (add-one i) ∙ e))
      ∙ having_cons (bit_or x (2 ^ v)) t (drop j f)

  -- behind the end there is none
  pub none_left : (i v : ℕ) → i ≡ length f → holding x (drop i f) v ≡ 0
  unfolding holding having
  none_left i v e = ap (λ k. holding x (drop k f) v) e ∙ ap (λ l. holding x l v) (drop-length f)

  -- no more than there are terms
  pub holding_below : (v : ℕ) → holding x f v ≤ length f
  unfolding holding
  holding_below v = having_length (bit_or x (2 ^ v)) f

  -- with a variable of x: those that hold x
  pub holding_own : (v : ℕ) → bit x v ≡ true → holding x f v ≡ length (having x f)
  unfolding holding
  holding_own v e = ap (λ s. length (having s f)) (absorbed x (2 ^ v) (power_subset v x e))
    where
      absorbed : (x p : ℕ) → bit_and p x ≡ p → bit_or x p ≡ x
      absorbed = identity 2 (λ x p. p ⊆ x ⇒ ∴ x ∪ p ≐ x) tt

-- with nothing else: those that hold the variable
pub holding_alone : (f : List ℕ) (v : ℕ) → holding 0 f v ≡ length (having (2 ^ v) f)
unfolding holding
holding_alone f v = ap (λ s. length (having s f)) (none (2 ^ v))
  where
    none : (p : ℕ) → bit_or 0 p ≡ p
    none = identity 1 (λ p. ∴ ∅ ∪ p ≐ p) tt

-- the digit of the plane p, which is plane j, where it is asked by a word of one variable
module _ (by : List ℕ) (j p b w : ℕ) (e : b ≡ 2 ^ w) (there : p ≡ get_or by j 0) where
  asked : digit (get_or by j 0) w ≡ length (having b (p ∷ []))
  asked =
      ap (λ n. digit n w) (sym there) ∙ term_with 0 p w (none p) ∙ holding_alone (p ∷ []) w ∙ ap (λ s. length (having s (p ∷ []))) (sym e)
    where
      none : (p : ℕ) → bit_and p 0 ≡ 0
      none = identity 1 (λ p. ∴ p ∩ ∅ ≐ ∅) tt

  -- r is the answer
  pub plane_says : (s : ℕ) (r d : Bool) → s ≡ bit_and p b → r ≡ eqb s b → r ≡ d → digit (get_or by j 0) w ≡ one d
  plane_says s r true both test is = asked ∙ hit b p (sym both ∙ eqb-true s b (sym test ∙ is))
  plane_says s r false both test is = asked ∙ miss b p (λ h. eqb-false s b (sym test ∙ is) (both ∙ h))
