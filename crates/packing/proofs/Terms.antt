-- The terms of a block, one by one: where each stands, the order check over them, and what stands behind them.
-- Leans on the laws of fields and of term lists. Assumes nothing.
use mathlib.Core.Path.{◌≡◌, refl, sym, ap, ◌∙◌, subst}
use mathlib.Core.List.{List, [], ◌∷◌, ◌++◌}
use Prim.Native.Nat.{ℕ, zero, suc, ◌+◌, ◌-◌, ◌*◌, ◌^◌, ◌≤◌, ◌<◌}
use native.Mathlib.Nat.{mul-le-mul, mul-le-mul_left, mul-suc, mul-zero}
use native.Mathlib.Numerals.{add-one}
use native.Mathlib.Omega.{arith}
use lib.ListN.{length, get_or, take, drop, set}
use Rattle.terms.specs.Order.{unordered, rising}
use Rattle.terms.proofs.Order.{unordered_from_first, rising_at_end, rising_stops, rising_goes_on}
use Rattle.digits.specs.Number.{bits, fields}
use Rattle.digits.proofs.Bits.{length_fields}
use Rattle.packing.specs.Format.{size, spare_in}

-- the terms of a block whose header is read fit well below a word
pub few_bits : (n t : ℕ) → n ≤ 64 → t < 2 ^ 13 → n * t ≤ 524288
few_bits n t h k = mul-le-mul {n₁ = n} {m₁ = t} {n₂ = 64} {m₂ = 8192} h (omega arith)

-- a field before the t-th ends before it
pub within : (n i t : ℕ) → i < t → 24 + n * i + n ≤ 24 + n * t
within n i t h = omega (arith, mul-le-mul_left {m = suc i} {n = t} n h, mul-suc n i)

-- one field behind the other
pub next_place : (n i : ℕ) → 24 + n * i + n ≡ 24 + n * (i + 1)
next_place n i = omega (arith, mul-suc n i, ap (λ (k : ℕ). n * k) (add-one i))

-- the term at index i
pub field_at : (bytes : List ℕ) (o n t i : ℕ) → i < t → get_or (fields bytes o n t) i 0 ≡ bits bytes (o + n * i) n
unfolding fields
field_at bytes o n zero i h = absurd (omega arith)
field_at bytes o n (suc t) zero h = ap (λ (e : ℕ). bits bytes e n) {x = o} {y = o + n * 0} (omega (arith, mul-zero n))
field_at bytes o n (suc t) (suc i) h =
    field_at bytes (o + n) n t i (omega arith) ∙ ap (λ (e : ℕ). bits bytes e n) {x = o + n + n * i} {y = o + n * suc i} (omega (arith, mul-suc n i))

-- the bits behind the terms of a block of the right length
pub behind_terms : (bytes : List ℕ) (n t found : ℕ) → length bytes ≡ size n t → found ≡ bits bytes (24 + n * t) (8 * length bytes - (24 + n * t))
    → found ≡ spare_in bytes n t
behind_terms bytes n t found e f = f ∙ ap (λ (k : ℕ). bits bytes (24 + n * t) (8 * k - (24 + n * t))) e

-- the order check begins at the second term
pub order_begins : (bytes : List ℕ) (n t first : ℕ) → 0 < t → first ≡ bits bytes 24 n
    → 1 + rising first (drop 1 (fields bytes 24 n t)) ≡ unordered (fields bytes 24 n t)
order_begins bytes n t first h e =
    ap (λ (x : ℕ). 1 + rising x (drop 1 (fields bytes 24 n t))) (e ∙ sym (field_at bytes 24 n t 0 h ∙ ap (λ (o : ℕ). bits bytes o n) {y = 24} (omega (arith, mul-zero n))))
    ∙ unordered_from_first (fields bytes 24 n t) (omega (arith, length_fields bytes 24 n t))

-- it goes on where a term is above the last one
pub order_goes_on : (bytes : List ℕ) (n t i last next : ℕ) → i < t → next ≡ bits bytes (24 + n * i) n → last < next
    → i + rising last (drop i (fields bytes 24 n t)) ≡ unordered (fields bytes 24 n t)
    → i + 1 + rising next (drop (i + 1) (fields bytes 24 n t)) ≡ unordered (fields bytes 24 n t)
order_goes_on bytes n t i last next h e l inv =
    ap (λ (x : ℕ). i + 1 + rising x (drop (i + 1) all)) found
    ∙ omega (arith, rising_goes_on last all i (omega (arith, length_fields bytes 24 n t)) (subst (λ (x : ℕ). last < x) found l))
  where
    all : List ℕ
    all = fields bytes 24 n t

    found : next ≡ get_or all i 0
    found = e ∙ sym (field_at bytes 24 n t i h)

-- it stops where one is not
pub order_stops : (bytes : List ℕ) (n t i last next : ℕ) → i < t → next ≡ bits bytes (24 + n * i) n → next ≤ last
    → i + rising last (drop i (fields bytes 24 n t)) ≡ unordered (fields bytes 24 n t) → i ≡ unordered (fields bytes 24 n t)
order_stops bytes n t i last next h e l inv =
    omega (arith, rising_stops last all i (omega (arith, length_fields bytes 24 n t)) (subst (λ (x : ℕ). x ≤ last) (e ∙ sym (field_at bytes 24 n t i h)) l))
  where
    all : List ℕ
    all = fields bytes 24 n t

-- or at the end
pub order_ends : (bytes : List ℕ) (n t i last : ℕ) → t ≤ i → i ≤ t
    → i + rising last (drop i (fields bytes 24 n t)) ≡ unordered (fields bytes 24 n t) → t ≡ unordered (fields bytes 24 n t)
order_ends bytes n t i last h k inv =
    omega (arith, rising_at_end last (fields bytes 24 n t) i (omega (arith, length_fields bytes 24 n t)))

-- one term more is written
pub fill_more : (src dst : List ℕ) (i : ℕ) → i < length src → i < length dst
    → set (take i src ++ drop i dst) i (get_or src i 0) ≡ take (suc i) src ++ drop (suc i) dst
fill_more [] dst i h k = absurd (omega arith)
fill_more (x ∷ xs) [] i h k = absurd (omega arith)
fill_more (x ∷ xs) (y ∷ ys) zero h k = refl
fill_more (x ∷ xs) (y ∷ ys) (suc i) h k = ap (λ (l : List ℕ). x ∷ l) (fill_more xs ys i (omega arith) (omega arith))
