-- How many bytes a term takes with the byte behind it: three for each of the first ten variables, four for each of the others. Assumes nothing.
use mathlib.Core.Path.{◌≡◌, refl, sym, ap, ap₂, ◌∙◌, subst}
use mathlib.Core.Bool.{Bool, true, false}
use mathlib.Core.List.{List, [], ◌∷◌, ◌++◌}
use mathlib.Core.Logic.{◌⊎◌, inl, inr}
use Prim.Native.Nat.{ℕ, zero, suc, ◌+◌, ◌*◌, ◌/◌, ◌%◌, ◌^◌, ◌<◌, ◌≤◌}
use native.Mathlib.Nat.{mul-add, mul-one, mul-zero, div-one, add-zero, zero-add, add_assoc}
use native.Mathlib.Numerals.{add-one}
use native.Mathlib.Omega.{arith}
use borrow.Author.Tests.{ltb-true, ltb-false, eqb-true, eqb-false}
use lib.Arith.{lt-one}
use lib.Bits.{bit_and, and_mask}
use lib.Count.{ones, ones_in, ones_step, ones-le}
use lib.Dec.{ltb}
use lib.ListN.{length, length-append}
use lib.Pow.{shr_lt, shr-shr}
use Rattle.masks.specs.Bit.{bit}
use Rattle.masks.proofs.Bits.{mod_two, bits_above_vanish}
use Rattle.masks.proofs.Low.{bit_at, bit_low, low_below}
use Rattle.polys.specs.List.{Mem, either}
use Rattle.polys.proofs.Lists.{mem_left, mem_right, mem_append, asc_ext, asc_append}
use Rattle.typed.specs.Form.{star, name, term_text, joined}
use Rattle.typed.specs.Says.{mask, held, held_from}
use Rattle.typed.proofs.Held.{mask_held, held_from_mem, mem_held_from, held_from_asc, held_ascends, held_bit}
use Rattle.spell.specs.Spelled.{named, spelled}
use Rattle.spell.proofs.Spelling.{one_more, short_name, long_name}

-- the bytes of the names of a list, each with one behind it
abbrev sized : List ℕ → ℕ
sized [] = 0
sized (v ∷ vs) = length (named v 0) + sized vs

-- a term that has a variable takes these
term_sized : (v : ℕ) (vs : List ℕ) → length (term_text (v ∷ vs) ++ 0 ∷ []) ≡ sized (v ∷ vs)
unfolding term_text joined
term_sized v [] = sym (add-zero (length (named v 0)))
term_sized v (w ∷ vs) =
    ap length (one_more v 0 w (w ∷ vs) vs refl)
    ∙ length-append (named v star) (term_text (w ∷ vs) ++ 0 ∷ [])
    ∙ ap₂ ◌+◌ (length-append (name v) (star ∷ []) ∙ sym (length-append (name v) (0 ∷ []))) (term_sized w vs)

sized_append : (a b : List ℕ) → sized (a ++ b) ≡ sized a + sized b
sized_append [] b = sym (zero-add (sized b))
sized_append (v ∷ a) b = ap (λ (k : ℕ). length (named v 0) + k) (sized_append a b) ∙ sym (add_assoc (length (named v 0)) (sized a) (sized b))

-- ---- variables of one size

-- each of the variables from i on that stand in t takes s bytes, and there are as many as ones
sized_held : (s i k t : ℕ) → ((v : ℕ) → i ≤ v → v < i + k → length (named v 0) ≡ s) → sized (held_from i k t) ≡ s * ones_in k (t / 2 ^ i)
unfolding held_from ones_in
sized_held s i zero t h = sym (mul-zero s)
sized_held s i (suc k) t h = by_test (bit t i) refl (sized_held s (suc i) k t (λ v l u. h v (omega arith) (omega arith)))
  where
    halved : t / 2 ^ suc i ≡ t / 2 ^ i / 2
    halved = ap (λ (k : ℕ). t / 2 ^ k) (sym (add-one i)) ∙ sym (shr-shr t i 1)

    by_test : (b : Bool) → bit t i ≡ b → sized (held_from (suc i) k t) ≡ s * ones_in k (t / 2 ^ suc i)
        → sized (either b (i ∷ held_from (suc i) k t) (held_from (suc i) k t)) ≡ s * (t / 2 ^ i % 2 + ones_in k (t / 2 ^ i / 2))
    by_test true e ih =
        ap₂ ◌+◌ (h i (omega arith) (omega arith)) (ih ∙ ap (λ (x : ℕ). s * ones_in k x) halved)
        ∙ ap (λ (x : ℕ). x + s * ones_in k (t / 2 ^ i / 2)) (sym (mul-one s) ∙ ap (λ (d : ℕ). s * d) (sym (eqb-true (t / 2 ^ i % 2) 1 (sym (bit_at t i) ∙ e))))
        ∙ sym (mul-add s (t / 2 ^ i % 2) (ones_in k (t / 2 ^ i / 2)))
    by_test false e ih =
        ih ∙ ap (λ (x : ℕ). s * ones_in k x) halved
        ∙ ap (λ (x : ℕ). s * x) (sym (zero-add (ones_in k (t / 2 ^ i / 2))) ∙ ap (λ (d : ℕ). d + ones_in k (t / 2 ^ i / 2)) (sym none))
      where
        none : t / 2 ^ i % 2 ≡ 0
        none = omega (arith, mod_two (t / 2 ^ i), eqb-false (t / 2 ^ i % 2) 1 (sym (bit_at t i) ∙ e))

-- so many digits hold a number below 2 to that power
ones_in_lem : (k n : ℕ) → n < 2 ^ k → ones_in k n ≡ ones n
unfolding ones_in
ones_in_lem zero n h = sym (ap ones (lt-one h) ∙ ones_of_zero)
  where
    ones_of_zero : ones 0 ≡ 0
    ones_of_zero = omega (arith, ones-le 0 0 (omega arith))
ones_in_lem (suc k) n h =
    ap (λ (x : ℕ). n % 2 + x) (ones_in_lem k (n / 2) (shr_lt k 1 (subst (λ (x : ℕ). n < 2 ^ x) (sym (add-one k)) h))) ∙ sym (ones_step n)

-- ---- the first ten variables and the others

mask_none : mask [] ≡ 0
unfolding mask
mask_none = refl

-- only the bits there are looked at
held_low : (i k w t : ℕ) → i + k ≤ w → held_from i k t ≡ held_from i k (t % 2 ^ w)
unfolding held_from
held_low i zero w t h = refl
held_low i (suc k) w t h =
    ap₂ (λ (b : Bool) (l : List ℕ). either b (i ∷ l) l) (sym (bit_low t w i (omega arith))) (held_low (suc i) k w t (omega arith))

module _ (t : ℕ) (fits : t < 2 ^ 64) where
  held_in_two : held t ≡ held_from 0 10 t ++ held_from 10 54 t
  held_in_two =
      asc_ext (held t) (held_from 0 10 t ++ held_from 10 54 t) (held_ascends t)
      (asc_append (held_from 0 10 t) (held_from 10 54 t) (held_from_asc 0 10 t) (held_from_asc 10 54 t)
      (λ x y p q. omega (arith, (held_from_mem 0 10 t x p).1, (held_from_mem 10 54 t y q).0))) in_it of_it
    where
      in_it : (x : ℕ) → Mem (held t) x → Mem (held_from 0 10 t ++ held_from 10 54 t) x
      in_it x m = by_test (ltb x 10) refl (ltb x 64) refl
        where
          b : bit t x ≡ true
          b = (held_bit t x).0 m

          by_test : (p : Bool) → ltb x 10 ≡ p → (q : Bool) → ltb x 64 ≡ q → Mem (held_from 0 10 t ++ held_from 10 54 t) x
          by_test true e q f = mem_left (held_from 0 10 t) (held_from 10 54 t) x (mem_held_from 0 10 t x (omega arith) (omega (arith, ltb-true x 10 e)) b)
          by_test false e true f =
              mem_right (held_from 0 10 t) (held_from 10 54 t) x (mem_held_from 10 54 t x (ltb-false x 10 e) (omega (arith, ltb-true x 64 f)) b)
          by_test false e false f =
              absurd (let c : false ≡ true = sym (bits_above_vanish 64 t x fits (ltb-false x 64 f)) ∙ b in let z : ◌≡◌ {A = ℕ} 0 1 = cc in let x : ⊥ = omega arith in x)

      of_it : (x : ℕ) → Mem (held_from 0 10 t ++ held_from 10 54 t) x → Mem (held t) x
      of_it x m = (held_bit t x).1 (which (mem_append (held_from 0 10 t) (held_from 10 54 t) x m))
        where
          which : Mem (held_from 0 10 t) x ⊎ Mem (held_from 10 54 t) x → bit t x ≡ true
          which (inl p) = (held_from_mem 0 10 t x p).2
          which (inr p) = (held_from_mem 10 54 t x p).2

  sized_in_two : sized (held t) ≡ 3 * ones (bit_and t 1023) + 4 * ones (t / 2 ^ 10)
  sized_in_two =
      ap sized held_in_two
      ∙ sized_append (held_from 0 10 t) (held_from 10 54 t)
      ∙ ap₂ ◌+◌
      (ap sized (held_low 0 10 10 t (omega arith))
      ∙ sized_held 3 0 10 (t % 2 ^ 10) (λ v l u. ap length (short_name v 0 (omega arith)))
      ∙ ap (λ (x : ℕ). 3 * ones_in 10 x) (div-one (t % 2 ^ 10))
      ∙ ap (λ (x : ℕ). 3 * x) (ones_in_lem 10 (t % 2 ^ 10) (low_below t 10) ∙ ap ones (sym (and_mask t 10))))
      (sized_held 4 10 54 t (λ v l u. ap length (long_name v 0 l)) ∙ ap (λ (x : ℕ). 4 * x) (ones_in_lem 54 (t / 2 ^ 10) (shr_lt 54 10 fits)))

  -- the bytes of a term that has a variable
  pub term_takes : 0 < t → 3 * ones (bit_and t 1023) + 4 * ones (t / 2 ^ 10) ≡ length (spelled t 0)
  term_takes h = sym (whole (held t) refl ∙ sized_in_two)
    where
      none : held t ≡ [] → t ≡ 0
      none e = sym (mask_held t) ∙ ap mask e ∙ mask_none

      whole : (vs : List ℕ) → held t ≡ vs → length (spelled t 0) ≡ sized (held t)
      whole [] e = absurd (let z : t ≡ 0 = none e in let x : ⊥ = omega arith in x)
      whole (v ∷ vs) e = ap (λ (l : List ℕ). length (term_text l ++ 0 ∷ [])) e ∙ term_sized v vs ∙ ap sized (sym e)

-- the byte behind it does not matter
pub any_byte : (t b c : ℕ) → length (spelled t b) ≡ length (spelled t c)
any_byte t b c = length-append (term_text (held t)) (b ∷ []) ∙ sym (length-append (term_text (held t)) (c ∷ []))

-- there are ten short names and 54 long ones
pub few_short : (t : ℕ) → ones (bit_and t 1023) ≤ 10
few_short t = ones-le 10 (bit_and t 1023) (subst (λ (x : ℕ). x < 2 ^ 10) (sym (and_mask t 10)) (low_below t 10))

pub few_long : (t : ℕ) → t < 2 ^ 64 → ones (t / 2 ^ 10) ≤ 54
few_long t h = ones-le 54 (t / 2 ^ 10) (shr_lt 54 10 h)
