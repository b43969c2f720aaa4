-- The laws of sets that others cite by name. `bit_and a b ≡ a` says that a lies in b, `bit_and a b ≡ 0` that they have nothing
-- in common. Each is one line of the truth table (Reflect); commutativity stands in lib.Bits.
use mathlib.Core.Path.{◌≡◌, sym, ◌∙◌, ap}
use mathlib.Core.Bool.{Bool, true, false, ◌&&◌, false≢true, and-true}
use Prim.Native.Nat.{ℕ, ◌^◌}
use native.Mathlib.Decide.{ℕ_discrete}
use lib.Bits.{bit_and, bit_or, bit_xor}
use Rattle.masks.specs.Bit.{bit, without}
use Rattle.masks.proofs.Bits.{bit_and_lem, bit_zero, bit_ext, bit_power_same, bit_power_other}
use Rattle.masks.proofs.Reflect.{identity, ∅, ◌∩◌, ◌∪◌, ◌⊕◌, ◌∖◌, ◌≐◌, ◌⊆◌, apart, ∴◌, ◌⇒◌}

-- ---- regrouping

pub or_assoc : (a b c : ℕ) → bit_or (bit_or a b) c ≡ bit_or a (bit_or b c)
or_assoc = identity 3 (λ a b c. ∴ a ∪ b ∪ c ≐ a ∪ (b ∪ c)) tt

pub and_assoc : (a b c : ℕ) → bit_and (bit_and a b) c ≡ bit_and a (bit_and b c)
and_assoc = identity 3 (λ a b c. ∴ a ∩ b ∩ c ≐ a ∩ (b ∩ c)) tt

pub and_or_distrib : (a b c : ℕ) → bit_and (bit_or a b) c ≡ bit_or (bit_and a c) (bit_and b c)
and_or_distrib = identity 3 (λ a b c. ∴ (a ∪ b) ∩ c ≐ a ∩ c ∪ b ∩ c) tt

pub without_or : (y a b : ℕ) → without y (bit_or a b) ≡ bit_or (without y a) (without y b)
without_or = identity 3 (λ y a b. ∴ (a ∪ b) ∖ y ≐ a ∖ y ∪ b ∖ y) tt

pub without_and : (y a b : ℕ) → without y (bit_and a b) ≡ bit_and (without y a) b
without_and = identity 3 (λ y a b. ∴ a ∩ b ∖ y ≐ (a ∖ y) ∩ b) tt

pub without_xor : (y a b : ℕ) → without y (bit_xor a b) ≡ bit_xor (without y a) (without y b)
without_xor = identity 3 (λ y a b. ∴ (a ⊕ b) ∖ y ≐ (a ∖ y) ⊕ (b ∖ y)) tt

pub without_twice : (x y t : ℕ) → without x (without y t) ≡ without (bit_or x y) t
without_twice = identity 3 (λ x y t. ∴ t ∖ y ∖ x ≐ t ∖ (x ∪ y)) tt

pub without_within : (y t w : ℕ) → bit_and t w ≡ t → without y t ≡ bit_and t (without y w)
without_within = identity 3 (λ y t w. t ⊆ w ⇒ ∴ t ∖ y ≐ t ∩ (w ∖ y)) tt

-- ---- lying in

pub subset_trans : (a b c : ℕ) → bit_and a b ≡ a → bit_and b c ≡ b → bit_and a c ≡ a
subset_trans = identity 3 (λ a b c. a ⊆ b ⇒ b ⊆ c ⇒ ∴ a ⊆ c) tt

pub subset_antisym : (a b : ℕ) → bit_and a b ≡ a → bit_and b a ≡ b → a ≡ b
subset_antisym = identity 2 (λ a b. a ⊆ b ⇒ b ⊆ a ⇒ ∴ a ≐ b) tt

pub and_subset : (a b : ℕ) → bit_and (bit_and a b) a ≡ bit_and a b
and_subset = identity 2 (λ a b. ∴ a ∩ b ⊆ a) tt

pub and_subset_right : (a b : ℕ) → bit_and (bit_and a b) b ≡ bit_and a b
and_subset_right = identity 2 (λ a b. ∴ a ∩ b ⊆ b) tt

pub without_subset : (y t : ℕ) → bit_and (without y t) t ≡ without y t
without_subset = identity 2 (λ y t. ∴ t ∖ y ⊆ t) tt

pub subset_or_left : (a b : ℕ) → bit_and a (bit_or a b) ≡ a
subset_or_left = identity 2 (λ a b. ∴ a ⊆ a ∪ b) tt

pub subset_or_right : (a b : ℕ) → bit_and b (bit_or a b) ≡ b
subset_or_right = identity 2 (λ a b. ∴ b ⊆ a ∪ b) tt

pub or_subset : (a b c : ℕ) → bit_and a c ≡ a → bit_and b c ≡ b → bit_and (bit_or a b) c ≡ bit_or a b
or_subset = identity 3 (λ a b c. a ⊆ c ⇒ b ⊆ c ⇒ ∴ a ∪ b ⊆ c) tt

-- ---- having nothing in common

pub apart_sym : (a b : ℕ) → bit_and a b ≡ 0 → bit_and b a ≡ 0
apart_sym = identity 2 (λ a b. apart a b ⇒ ∴ apart b a) tt

pub apart_or : (a b c : ℕ) → bit_and a c ≡ 0 → bit_and b c ≡ 0 → bit_and (bit_or a b) c ≡ 0
apart_or = identity 3 (λ a b c. apart a c ⇒ apart b c ⇒ ∴ apart (a ∪ b) c) tt

pub apart_or_left : (a b c : ℕ) → bit_and (bit_or a b) c ≡ 0 → bit_and a c ≡ 0
apart_or_left = identity 3 (λ a b c. apart (a ∪ b) c ⇒ ∴ apart a c) tt

pub apart_or_right : (a b c : ℕ) → bit_and (bit_or a b) c ≡ 0 → bit_and b c ≡ 0
apart_or_right = identity 3 (λ a b c. apart (a ∪ b) c ⇒ ∴ apart b c) tt

pub apart_within : (a b c d : ℕ) → bit_and a c ≡ a → bit_and b d ≡ b → bit_and c d ≡ 0 → bit_and a b ≡ 0
apart_within = identity 4 (λ a b c d. a ⊆ c ⇒ b ⊆ d ⇒ apart c d ⇒ ∴ apart a b) tt

pub without_apart : (y t : ℕ) → bit_and (without y t) y ≡ 0
without_apart = identity 2 (λ y t. ∴ apart (t ∖ y) y) tt

pub and_apart_without : (y s t : ℕ) → bit_and (bit_and s y) (without y t) ≡ 0
and_apart_without = identity 3 (λ y s t. ∴ apart (s ∩ y) (t ∖ y)) tt

-- a set that lies in another's inside and in its outside is empty
pub subset_of_apart : (a b : ℕ) → bit_and a b ≡ a → bit_and a b ≡ 0 → a ≡ 0
subset_of_apart = identity 2 (λ a b. a ⊆ b ⇒ apart a b ⇒ ∴ a ≐ ∅) tt

-- ---- single variables

pub bit_of_subset : (a b i : ℕ) → bit_and a b ≡ a → bit a i ≡ true → bit b i ≡ true
bit_of_subset a b i h t = second (bit a i) (bit b i) (sym (bit_and_lem a b i) ∙ ap (λ m. bit m i) h ∙ t)
  where
    second : (p q : Bool) → p && q ≡ true → q ≡ true
    second true q e = e
    second false q e = absurd (false≢true e)

pub bit_of_apart : (a b i : ℕ) → bit_and a b ≡ 0 → bit a i ≡ true → bit b i ≡ false
bit_of_apart a b i h t = second (bit a i) (bit b i) (sym (bit_and_lem a b i) ∙ ap (λ m. bit m i) h ∙ bit_zero i) t
  where
    second : (p q : Bool) → p && q ≡ false → p ≡ true → q ≡ false
    second true q e u = e
    second false q e u = absurd (false≢true u)

-- a variable lies in a set exactly if its bit is set
pub power_subset : (i z : ℕ) → bit z i ≡ true → bit_and (2 ^ i) z ≡ 2 ^ i
power_subset i z h = bit_ext (bit_and (2 ^ i) z) (2 ^ i) (λ j. bit_and_lem (2 ^ i) z j ∙ at_bit j (ℕ_discrete i j))
  where
    at_bit : (j : ℕ) → Dec (i ≡ j) → bit (2 ^ i) j && bit z j ≡ bit (2 ^ i) j
    at_bit j (yes e) = ap (λ b. bit (2 ^ i) j && b) (ap (bit z) (sym e) ∙ h) ∙ and-true (bit (2 ^ i) j)
    at_bit j (no n) = ap (λ b. b && bit z j) (bit_power_other i j n) ∙ sym (bit_power_other i j n)

pub bit_of_power_subset : (i z : ℕ) → bit_and (2 ^ i) z ≡ 2 ^ i → bit z i ≡ true
bit_of_power_subset i z h = bit_of_subset (2 ^ i) z i h (bit_power_same i)
