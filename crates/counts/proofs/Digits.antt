-- The digits of a set: the laws of the full and the half adder, by truth table. Leans on the bits of masks.
use mathlib.Core.Path.{◌≡◌, refl, sym, ap, ap₂, ◌∙◌}
use mathlib.Core.Bool.{Bool, true, false, ◌&&◌, ◌||◌, xor}
use Prim.Native.Nat.{ℕ, zero, suc, ◌+◌, ◌*◌, ◌%◌, ◌≤◌, ◌<◌}
use native.Mathlib.Omega.{arith}
use lib.Bits.{bit_and, bit_or, bit_xor}
use lib.Dec.{eqb}
use Rattle.masks.specs.Bit.{bit}
use Rattle.masks.proofs.Bits.{bit_and_lem, bit_or_lem, bit_xor_lem, bit_zero, mod_two}
use Rattle.masks.proofs.Lowest.{low_is_lowest}
use Rattle.counts.specs.Planes.{one, digit}

full_table : (p q r : Bool) → one p + one q + one r ≡ one (xor (xor p q) r) + 2 * one ((p && q) || (xor p q && r))
unfolding xor
full_table true true true = refl
full_table true true false = refl
full_table true false true = refl
full_table true false false = refl
full_table false true true = refl
full_table false true false = refl
full_table false false true = refl
full_table false false false = refl

-- the full adder
pub full_adder : (a b c v : ℕ)
    → digit a v + digit b v + digit c v ≡ digit (bit_xor (bit_xor a b) c) v + 2 * digit (bit_or (bit_and a b) (bit_and (bit_xor a b) c)) v
unfolding digit
full_adder a b c v = full_table (bit a v) (bit b v) (bit c v) ∙ sym (ap₂ (λ p q. one p + 2 * one q) low high)
  where
    low : bit (bit_xor (bit_xor a b) c) v ≡ xor (xor (bit a v) (bit b v)) (bit c v)
    low = bit_xor_lem (bit_xor a b) c v ∙ ap (λ p. xor p (bit c v)) (bit_xor_lem a b v)

    high : bit (bit_or (bit_and a b) (bit_and (bit_xor a b) c)) v ≡ (bit a v && bit b v) || (xor (bit a v) (bit b v) && bit c v)
    high =
        bit_or_lem (bit_and a b) (bit_and (bit_xor a b) c) v
        ∙ ap₂ ◌||◌ (bit_and_lem a b v) (bit_and_lem (bit_xor a b) c v ∙ ap (λ p. p && bit c v) (bit_xor_lem a b v))

half_table : (p q : Bool) → one p + one q ≡ one (xor p q) + 2 * one (p && q)
unfolding xor
half_table true true = refl
half_table true false = refl
half_table false true = refl
half_table false false = refl

-- the half adder
pub half_adder : (a b v : ℕ) → digit a v + digit b v ≡ digit (bit_xor a b) v + 2 * digit (bit_and a b) v
unfolding digit
half_adder a b v = half_table (bit a v) (bit b v) ∙ sym (ap₂ (λ p q. one p + 2 * one q) (bit_xor_lem a b v) (bit_and_lem a b v))

-- ---- single digits

pub digit_none : (v : ℕ) → digit 0 v ≡ 0
unfolding digit
digit_none v = ap one (bit_zero v)

pub digit_first : (m : ℕ) → digit m 0 ≡ m % 2
unfolding digit bit
digit_first m = go (m % 2) (mod_two m)
  where
    go : (n : ℕ) → n < 2 → one (eqb n 1) ≡ n
    go zero h = refl
    go (suc zero) h = refl
    go (suc (suc n)) h = absurd (omega arith)

pub digit_below : (m v : ℕ) → digit m v ≤ 1
unfolding digit
digit_below m v = go (bit m v)
  where
    go : (b : Bool) → one b ≤ 1
    go true = omega arith
    go false = omega arith

-- equal digits are equal bits
pub digits_tell : (a b v : ℕ) → digit a v ≡ digit b v → bit a v ≡ bit b v
unfolding digit
digits_tell a b v = go (bit a v) (bit b v)
  where
    go : (p q : Bool) → one p ≡ one q → p ≡ q
    go true true e = refl
    go true false e = absurd (let z : ◌≡◌ {A = ℕ} 1 0 = e in omega arith)
    go false true e = absurd (let z : ◌≡◌ {A = ℕ} 0 1 = e in omega arith)
    go false false e = refl

-- a set that is not empty has a variable
pub some_digit : (m : ℕ) → ¬ (m ≡ 0) → (v : ℕ) × (digit m v ≡ 1)
unfolding digit
some_digit m some = let w = low_is_lowest m (omega arith) in (w.0, ap one w.2.0)
