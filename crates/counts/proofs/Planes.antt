-- The planes as numbers: a plane written, from a plane on, how far they count, and that they tell numbers apart; and the carry.
use mathlib.Core.Path.{◌≡◌, refl, sym, ap, ◌∙◌}
use mathlib.Core.Bool.{Bool, true, false}
use mathlib.Core.List.{List, [], ◌∷◌}
use Prim.Native.Nat.{ℕ, zero, suc, ◌+◌, ◌*◌, ◌^◌, ◌≤◌, ◌<◌}
use native.Mathlib.Nat.{pow-succ', pow-le-pow_right, lt_of_not-le, not-suc-le-zero, le_of_suc-le-suc}
use native.Mathlib.Omega.{arith}
use native.Mathlib.Numerals.{add-one}
use borrow.Author.Tests.{eqb-true, eqb-false}
use lib.Bits.{bit_and, bit_xor}
use lib.Dec.{eqb}
use lib.ListN.{length, get_or, drop, set, replicate, length-set}
use lib.Seq.{drop-cons}
use Rattle.masks.specs.Bit.{bit}
use Rattle.counts.specs.Planes.{digit, count_at, Room}
use Rattle.counts.proofs.Digits.{half_adder, digit_below, digit_none, digits_tell, some_digit}

-- a plane written
pub count_set : (l : List ℕ) (i w v : ℕ) → i < length l
    → count_at (set l i w) v + 2 ^ i * digit (get_or l i 0) v ≡ count_at l v + 2 ^ i * digit w v
unfolding count_at
count_set [] i w v h = absurd (not-suc-le-zero h)
count_set (p ∷ l) zero w v h = omega arith
count_set (p ∷ l) (suc i) w v h =
    omega (
      arith,
      count_set l i w v (le_of_suc-le-suc h),
      ap (λ k. k * digit (get_or l i 0) v) (pow-succ' 2 i),
      ap (λ k. k * digit w v) (pow-succ' 2 i),
    )

-- k planes count below 2 ^ k
pub count_below : (l : List ℕ) (v : ℕ) → count_at l v < 2 ^ length l
unfolding count_at
count_below [] v = omega arith
count_below (p ∷ l) v = omega (arith, count_below l v, digit_below p v, pow-succ' 2 (length l))

-- from a plane on
pub count_from : (l : List ℕ) (i v : ℕ) → i < length l → count_at (drop i l) v ≡ digit (get_or l i 0) v + 2 * count_at (drop (i + 1) l) v
unfolding count_at
count_from l i v h = ap (λ k. count_at k v) (drop-cons l i 0 h ∙ ap (λ k. get_or l i 0 ∷ drop k l) (sym (add-one i)))

pub power_next : (i : ℕ) → 2 ^ (i + 1) ≡ 2 * 2 ^ i
power_next i = ap (λ k. 2 ^ k) (add-one i) ∙ pow-succ' 2 i

-- empty planes
pub count_zeros : (k v : ℕ) → count_at (replicate k 0) v ≡ 0
unfolding count_at
count_zeros zero v = refl
count_zeros (suc k) v = omega (arith, digit_none v, count_zeros k v)

-- four planes
pub count_four : (a b c d : ℕ) (l : List ℕ) → l ≡ a ∷ b ∷ c ∷ d ∷ []
    → (length l ≡ 4) × ((v : ℕ) → count_at l v ≡ digit a v + 2 * digit b v + 4 * digit c v + 8 * digit d v)
unfolding count_at
count_four a b c d l e = (ap length e, (λ v. omega (arith, ap (λ l. count_at l v) e)))

-- equal counters stand in the same planes
pub same_planes : (p q : List ℕ) (j v : ℕ) → length p ≡ length q → count_at p v ≡ count_at q v → bit (get_or p j 0) v ≡ bit (get_or q j 0) v
unfolding count_at
same_planes [] [] j v e h = refl
same_planes [] (y ∷ q) j v e h = absurd (omega arith)
same_planes (x ∷ p) [] j v e h = absurd (omega arith)
same_planes (x ∷ p) (y ∷ q) zero v e h = digits_tell x y v (omega (arith, digit_below x v, digit_below y v))
same_planes (x ∷ p) (y ∷ q) (suc j) v e h = same_planes p q j v (omega arith) (omega (arith, digit_below x v, digit_below y v))

-- ---- the carry

-- it goes on by one plane
carried : (l : List ℕ) (j c v : ℕ) → j < length l
    → count_at (set l j (bit_xor (get_or l j 0) c)) v + 2 ^ (j + 1) * digit (bit_and (get_or l j 0) c) v ≡ count_at l v + 2 ^ j * digit c v
carried l j c v h =
    omega (
      arith,
      count_set l j (bit_xor (get_or l j 0) c) v h,
      ap (λ n. 2 ^ j * n) (half_adder (get_or l j 0) c v),
      ap (λ k. k * digit (bit_and (get_or l j 0) c) v) (power_next j),
    )

-- where c is not empty, as the test r says, it stays in the planes while they have room
pub carry_within : (l : List ℕ) (j c : ℕ) (r : Bool) → r ≡ eqb c 0 → r ≡ false → Room l (λ (v : ℕ). 2 ^ j * digit c v) → j < length l
carry_within l j c r test is room =
    let w = some_digit c (eqb-false c 0 (sym test ∙ is)) in
    lt_of_not-le
    (λ (h : length l ≤ j).
    let far = pow-le-pow_right {n = 2} (omega arith) h in
    let here = room w.0 in
    omega (arith, ap (λ k. 2 ^ j * k) w.1))

-- where p stands in plane j and s is written there, with k to carry on, the room is left, and the counters gain as much
pub carry_step : (l after : List ℕ) (j c p s k : ℕ) → p ≡ get_or l j 0 → s ≡ bit_xor p c → k ≡ bit_and p c → after ≡ set l j s → j < length l
    → Room l (λ (v : ℕ). 2 ^ j * digit c v)
    → (length after ≡ length l) × Room after (λ (v : ℕ). 2 ^ (j + 1) * digit k v)
    × ((v : ℕ) → count_at after v + 2 ^ (j + 1) * digit k v ≡ count_at l v + 2 ^ j * digit c v)
carry_step l after j c p s k there low high written within room =
    (size, (λ v. omega (arith, gained v, room v, ap (λ n. 2 ^ n) size)), gained)
  where
    size : length after ≡ length l
    size = ap length written ∙ length-set l j s

    gained : (v : ℕ) → count_at after v + 2 ^ (j + 1) * digit k v ≡ count_at l v + 2 ^ j * digit c v
    gained v = cc (carried l j c v within)

-- nothing is left to carry, as the test r says
pub carry_over : (j c v : ℕ) (r : Bool) → r ≡ eqb c 0 → r ≡ true → 2 ^ j * digit c v ≡ 0
carry_over j c v r test is = omega (arith, ap (λ k. 2 ^ j * digit k v) (eqb-true c 0 (sym test ∙ is)), ap (λ k. 2 ^ j * k) (digit_none v))
