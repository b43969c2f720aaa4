-- The four lists that are selected are those of the papers: derivative and value at zero, and derivatives of both. They fit into two words
-- a term.
use Prim.Native.Nat.{ℕ, suc, ◌+◌, ◌*◌, ◌^◌, ◌≤◌}
use mathlib.Core.Path.{◌≡◌, refl, sym, ap, ap₂, ◌∙◌}
use mathlib.Core.Bool.{Bool, true, false, true≢false}
use mathlib.Core.List.{List, [], ◌∷◌, map}
use native.Mathlib.Omega.{arith}
use borrow.Author.Tests.{eq-eqb, ne_eqb}
use lib.Bits.{bit_and, bit_or, bit_xor, xor_zero_r}
use lib.ListN.{length, length-map}
use Rattle.masks.specs.Bit.{bit, without}
use Rattle.masks.proofs.Bits.{bit_zero, bit_power_same, bit_power_other}
use Rattle.masks.proofs.Reflect.{identity, ∅, ◌∩◌, ◌∪◌, ◌⊕◌, ◌∖◌, ◌≐◌, ◌⊆◌, apart, ∴◌, ◌⇒◌}
use Rattle.masks.proofs.Sets.{power_subset, bit_of_power_subset}
use Rattle.polys.specs.List.{either}
use Rattle.ring.specs.Run.{lacking, holding}
use Rattle.rule.specs.Rule.{derivative}
use Rattle.rule.proofs.Derivative.{power_apart, kept}
use Rattle.papers.specs.Steps.{selected}

-- one variable lies in a power of two, that is: it is not empty
power_some : (x : ℕ) → 2 ^ x ≡ 0 → ⊥
power_some x e = true≢false (sym (bit_power_same x) ∙ ap (λ m. bit m x) e ∙ bit_zero x)

-- a term that is selected, or is not
module _ (fixed value t : ℕ) (f : List ℕ) where
  takes : bit_and t fixed ≡ value → selected fixed value (t ∷ f) ≡ bit_xor t value ∷ selected fixed value f
  unfolding selected
  takes e = ap (λ b. either b (bit_xor t value ∷ selected fixed value f) (selected fixed value f)) (eq-eqb (bit_and t fixed) value e)

  leaves : (bit_and t fixed ≡ value → ⊥) → selected fixed value (t ∷ f) ≡ selected fixed value f
  unfolding selected
  leaves e = ap (λ b. either b (bit_xor t value ∷ selected fixed value f) (selected fixed value f)) (ne_eqb (bit_and t fixed) value e)

module _ (x : ℕ) where
  p : ℕ
  p = 2 ^ x

  holds : (t : ℕ) → bit t x ≡ true → bit_and t p ≡ p
  unfolding p
  holds t h = identity 2 (λ t p. p ⊆ t ⇒ ∴ t ∩ p ≐ p) tt t p (power_subset x t h)

  lacks : (t : ℕ) → bit t x ≡ false → bit_and t p ≡ 0
  unfolding p
  lacks t h = identity 2 (λ t p. apart p t ⇒ ∴ apart t p) tt t p (power_apart x t h)

  pub derivative_selected : (f : List ℕ) → selected (2 ^ x) (2 ^ x) f ≡ derivative x f
  unfolding derivative holding selected p
  derivative_selected [] = refl
  derivative_selected (t ∷ f) = go (bit t x) refl (derivative_selected f)
    where
      go : (b : Bool) → bit t x ≡ b → selected p p f ≡ map (without p) (holding x f)
          → selected p p (t ∷ f) ≡ map (without p) (either b (t ∷ holding x f) (holding x f))
      go true h later =
          takes p p t f (holds t h) ∙ ap₂ ◌∷◌ (identity 2 (λ t p. t ∩ p ≐ p ⇒ ∴ t ⊕ p ≐ t ∖ p) tt t p (holds t h)) later
      go false h later = leaves p p t f (λ e. power_some x (sym e ∙ lacks t h)) ∙ later

  pub at_zero_selected : (f : List ℕ) → selected (2 ^ x) 0 f ≡ lacking x f
  unfolding lacking selected p
  at_zero_selected [] = refl
  at_zero_selected (t ∷ f) = go (bit t x) refl (at_zero_selected f)
    where
      go : (b : Bool) → bit t x ≡ b → selected p 0 f ≡ lacking x f → selected p 0 (t ∷ f) ≡ either b (lacking x f) (t ∷ lacking x f)
      go true h later = leaves p 0 t f (λ e. power_some x (sym (holds t h) ∙ e)) ∙ later
      go false h later = takes p 0 t f (lacks t h) ∙ ap₂ ◌∷◌ (xor_zero_r t) later

module _ (x y : ℕ) (other : ¬ (x ≡ y)) where
  q : ℕ
  q = 2 ^ y

  powers_apart : bit_and (p x) q ≡ 0
  unfolding p q
  powers_apart = power_apart x (2 ^ y) (bit_power_other y x (λ e. other (sym e)))

  -- a variable that is selected stands in the term
  in_term : (i t : ℕ) → bit_and (2 ^ i) t ≡ 2 ^ i → bit t i ≡ false → ⊥
  in_term i t e h = true≢false (sym (bit_of_power_subset i t e) ∙ h)

  pub mixed_selected : (f : List ℕ) → selected (bit_or (2 ^ x) (2 ^ y)) (bit_or (2 ^ x) (2 ^ y)) f ≡ derivative y (derivative x f)
  unfolding derivative holding selected p q
  mixed_selected [] = refl
  mixed_selected (t ∷ f) = go (bit t x) refl (mixed_selected f)
    where
      both : ℕ
      both = bit_or (2 ^ x) (2 ^ y)

      rest : List ℕ
      rest = map (without (2 ^ x)) (holding x f)

      inner : bit t x ≡ true → (d : Bool) → bit (without (2 ^ x) t) y ≡ d → selected both both f ≡ map (without (2 ^ y)) (holding y rest)
          → selected both both (t ∷ f) ≡ map (without (2 ^ y)) (either d (without (2 ^ x) t ∷ holding y rest) (holding y rest))
      inner h true g later =
          let a = holds x t h in
          let b = holds y t (sym (kept x y t other) ∙ g) in
          takes both both t f (identity 3 (λ t p q. t ∩ p ≐ p ⇒ t ∩ q ≐ q ⇒ ∴ t ∩ (p ∪ q) ≐ p ∪ q) tt t (2 ^ x) (2 ^ y) a b)
          ∙ ap₂ ◌∷◌ (identity 3 (λ t p q. t ∩ p ≐ p ⇒ t ∩ q ≐ q ⇒ ∴ t ⊕ (p ∪ q) ≐ t ∖ p ∖ q) tt t (2 ^ x) (2 ^ y) a b) later
      inner h false g later =
          leaves both both t f
          (λ e. in_term y t (identity 3 (λ t p q. t ∩ (p ∪ q) ≐ p ∪ q ⇒ ∴ q ⊆ t) tt t (2 ^ x) (2 ^ y) e) (sym (kept x y t other) ∙ g))
          ∙ later

      go : (b : Bool) → bit t x ≡ b → selected both both f ≡ map (without (2 ^ y)) (holding y rest)
          → selected both both (t ∷ f) ≡ map (without (2 ^ y)) (holding y (map (without (2 ^ x)) (either b (t ∷ holding x f) (holding x f))))
      go true h later = inner h (bit (without (2 ^ x) t) y) refl later
      go false h later =
          leaves both both t f (λ e. in_term x t (identity 3 (λ t p q. t ∩ (p ∪ q) ≐ p ∪ q ⇒ ∴ p ⊆ t) tt t (2 ^ x) (2 ^ y) e) h) ∙ later

  pub other_selected : (f : List ℕ) → selected (bit_or (2 ^ x) (2 ^ y)) (2 ^ y) f ≡ derivative y (lacking x f)
  unfolding derivative holding lacking selected p q
  other_selected [] = refl
  other_selected (t ∷ f) = go (bit t x) refl (other_selected f)
    where
      both : ℕ
      both = bit_or (2 ^ x) (2 ^ y)

      inner : bit t x ≡ false → (d : Bool) → bit t y ≡ d → selected both (2 ^ y) f ≡ map (without (2 ^ y)) (holding y (lacking x f))
          → selected both (2 ^ y) (t ∷ f) ≡ map (without (2 ^ y)) (either d (t ∷ holding y (lacking x f)) (holding y (lacking x f)))
      inner h true g later =
          let b = holds y t g in
          takes both (2 ^ y) t f (identity 3 (λ t p q. apart t p ⇒ t ∩ q ≐ q ⇒ ∴ t ∩ (p ∪ q) ≐ q) tt t (2 ^ x) (2 ^ y) (lacks x t h) b)
          ∙ ap₂ ◌∷◌ (identity 2 (λ t q. t ∩ q ≐ q ⇒ ∴ t ⊕ q ≐ t ∖ q) tt t (2 ^ y) b) later
      inner h false g later =
          leaves both (2 ^ y) t f (λ e. in_term y t (identity 3 (λ t p q. t ∩ (p ∪ q) ≐ q ⇒ ∴ q ⊆ t) tt t (2 ^ x) (2 ^ y) e) g) ∙ later

      go : (b : Bool) → bit t x ≡ b → selected both (2 ^ y) f ≡ map (without (2 ^ y)) (holding y (lacking x f))
          → selected both (2 ^ y) (t ∷ f) ≡ map (without (2 ^ y)) (holding y (either b (lacking x f) (t ∷ lacking x f)))
      go true h later =
          leaves both (2 ^ y) t f
          (λ e. power_some x (identity 3 (λ t p q. t ∩ p ≐ p ⇒ apart p q ⇒ t ∩ (p ∪ q) ≐ q ⇒ ∴ p ≐ ∅) tt t (2 ^ x) (2 ^ y) (holds x t h) powers_apart e))
          ∙ later
      go false h later = inner h (bit t y) refl later

-- ---- they fit

count_both : (i : ℕ) (f : List ℕ) → length (holding i f) + length (lacking i f) ≡ length f
unfolding holding lacking
count_both i [] = refl
count_both i (t ∷ f) = go (bit t i) (count_both i f)
  where
    go : (b : Bool) → length (holding i f) + length (lacking i f) ≡ length f
        → length (either b (t ∷ holding i f) (holding i f)) + length (either b (lacking i f) (t ∷ lacking i f)) ≡ suc (length f)
    go true e = omega arith
    go false e = omega arith

halves_length : (i : ℕ) (f : List ℕ) → length (derivative i f) + length (lacking i f) ≡ length f
unfolding derivative
halves_length i f = ap (λ n. n + length (lacking i f)) (length-map (holding i f) (without (2 ^ i))) ∙ count_both i f

pub derivative_shorter : (i : ℕ) (f : List ℕ) → length (derivative i f) ≤ length f
derivative_shorter i f = omega (arith, halves_length i f)

pub lacking_shorter : (i : ℕ) (f : List ℕ) → length (lacking i f) ≤ length f
lacking_shorter i f = omega (arith, halves_length i f)

pub four_fit : (f : List ℕ) (x y : ℕ) → length (derivative x f)
    + (length (lacking x f) + (length (derivative y (derivative x f)) + length (derivative y (lacking x f)))) ≤ 2 * length f
four_fit f x y = omega (arith, halves_length x f, halves_length y (derivative x f), halves_length y (lacking x f))
