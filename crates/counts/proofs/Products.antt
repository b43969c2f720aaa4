-- Planes added to planes, once and as often as a counter says; and the digits of a number. Leans on Planes.
use mathlib.Core.Path.{◌≡◌, refl, sym, ap, ap₂, ◌∙◌}
use mathlib.Core.List.{List, ◌∷◌}
use Prim.Native.Nat.{ℕ, zero, suc, ◌+◌, ◌-◌, ◌*◌, ◌/◌, ◌^◌, ◌≤◌, ◌<◌}
use native.Mathlib.Nat.{zero-add, pow-succ'}
use native.Mathlib.Numerals.{add-one}
use native.Mathlib.Omega.{arith}
use lib.ListN.{length, get_or, drop, set, replicate}
use lib.Seq.{drop-length, drop-cons, paste, paste-suc}
use Rattle.counts.specs.Planes.{digit, count_at, halves}
use Rattle.counts.proofs.Digits.{digit_none, digit_first}
use Rattle.counts.proofs.Planes.{count_set, count_from, power_next}

-- the plane q, which is plane j, and the carry c are added to the plane p, and it all comes to the same
pub plane_added : (sum planes after : List ℕ) (at j p q c low high total v : ℕ) → p ≡ get_or sum (at + j) 0 → q ≡ get_or planes j 0
    → after ≡ set sum (at + j) low → at + j < length sum → j < length planes
    → digit p v + digit q v + digit c v ≡ digit low v + 2 * digit high v
    → count_at sum v + 2 ^ (at + j) * (digit c v + count_at (drop j planes) v) ≡ total
    → count_at after v + 2 ^ (at + (j + 1)) * (digit high v + count_at (drop (j + 1) planes) v) ≡ total
plane_added sum planes after at j p q c low high total v is is' written within more adds so_far =
    let rest = count_at (drop (j + 1) planes) v in
    let put : count_at after v + 2 ^ (at + j) * digit p v ≡ count_at sum v + 2 ^ (at + j) * digit low v = cc (count_set sum (at + j) low v within) in
    let from : digit q v + 2 * rest ≡ count_at (drop j planes) v = cc (count_from planes j v more) in
    let next : at + (j + 1) ≡ at + j + 1 = omega arith in
    omega (
      arith,
      ap (λ n. 2 ^ (at + j) * n) from,
      ap (λ n. 2 ^ (at + j) * n) adds,
      ap (λ m. m * (digit high v + rest)) (ap (λ k. 2 ^ k) next ∙ power_next (at + j)),
    )

-- behind the last plane only the carry is left
pub planes_over : (planes : List ℕ) (j v : ℕ) → j ≡ length planes → count_at (drop j planes) v ≡ 0
unfolding count_at
planes_over planes j v e = ap (λ k. count_at (drop k planes) v) e ∙ ap (λ l. count_at l v) (drop-length planes)

pub planes_start : (sum planes : List ℕ) (at c : ℕ) → c ≡ 0
    → (v : ℕ) → count_at sum v + 2 ^ (at + 0) * (digit c v + count_at planes v) ≡ count_at sum v + 2 ^ at * count_at planes v
planes_start sum planes at c e v =
    let here : at + 0 ≡ at = omega arith in
    let none : digit c v + count_at planes v ≡ count_at planes v = omega (arith, ap (λ n. digit n v) e, digit_none v) in
    ap₂ (λ (k d : ℕ). count_at sum v + 2 ^ k * d) here none

pub carry_left : (planes : List ℕ) (at j n c v : ℕ) → j ≡ n → n ≡ length planes
    → 2 ^ (at + j) * (digit c v + count_at (drop j planes) v) ≡ 2 ^ (at + n) * digit c v
carry_left planes at j n c v e all =
    let none : digit c v + count_at (drop j planes) v ≡ digit c v = omega (arith, planes_over planes j v (e ∙ all)) in
    ap₂ (λ k d. 2 ^ (at + k) * d) e none

-- ---- planes as often as a counter says, by the planes of that counter

-- the plane j is done with, where its digit is d
pub times_step : (by : List ℕ) (j w k d : ℕ) → j < length by → digit (get_or by j 0) w ≡ d
    → 2 ^ j * (count_at (drop j by) w * k) ≡ 2 ^ (j + 1) * (count_at (drop (j + 1) by) w * k) + d * (2 ^ j * k)
times_step by j w k d h e =
    let rest = count_at (drop (j + 1) by) w in
    let here : count_at (drop j by) w ≡ 2 * rest + d = omega (arith, count_from by j w h, e) in
    omega (arith, ap (λ n. 2 ^ j * (n * k)) here, ap (λ m. m * (rest * k)) (power_next j))

-- behind the last plane there is none
pub times_over : (by : List ℕ) (j w k : ℕ) → j ≡ length by → 2 ^ j * (count_at (drop j by) w * k) ≡ 0
times_over by j w k e = omega (arith, ap (λ n. 2 ^ j * (n * k)) (planes_over by j w e))

-- ---- the digits of a number

count_halves : (k n : ℕ) → n < 2 ^ k → count_at (halves k n) 0 ≡ n
unfolding count_at
count_halves zero n h = omega arith
count_halves (suc k) n h = let half : n / 2 < 2 ^ k = omega (arith, pow-succ' 2 k) in omega (arith, digit_first n, count_halves k (n / 2) half)

length_halves : (k n : ℕ) → length (halves k n) ≡ k
length_halves zero n = refl
length_halves (suc k) n = ap suc (length_halves k (n / 2))

-- sixteen planes in place of empty ones
pub sixteen_halves : (n : ℕ) (none digits : List ℕ) → none ≡ replicate 16 0 → digits ≡ halves (length none) n → n ≤ 65535
    → (length digits ≡ 16) × (count_at digits 0 ≡ n)
sixteen_halves n none digits is e small =
    let sixteen = e ∙ ap (λ l. halves (length l) n) is in
    (ap length sixteen ∙ length_halves 16 n, ap (λ l. count_at l 0) sixteen ∙ count_halves 16 n (omega arith))

-- the number that is next, and what comes behind it
pub next_half : (k n i m : ℕ) → i < k → drop i (halves k n) ≡ halves (k - i) m
    → (get_or (halves k n) i 0 ≡ m) × (drop (i + 1) (halves k n) ≡ halves (k - (i + 1)) (m / 2))
next_half k n i m within e =
    let one : k - i ≡ suc (k - (i + 1)) = omega arith in
    let here : get_or (halves k n) i 0 ∷ drop (suc i) (halves k n) ≡ m ∷ halves (k - (i + 1)) (m / 2) =
    sym (drop-cons (halves k n) i 0 (omega (arith, length_halves k n))) ∙ e ∙ ap (λ (j : ℕ). halves j m) one
    in (
      ap (λ (l : List ℕ). get_or l 0 0) here,
      ap (λ (j : ℕ). drop j (halves k n)) (add-one i) ∙ ap (drop 1) here,
    )

-- written so far, and one more
pub halves_more : (out : List ℕ) (n i m : ℕ) → i < length out → get_or (halves (length out) n) i 0 ≡ m
    → set (paste out 0 (halves (length out) n) i) i m ≡ paste out 0 (halves (length out) n) (i + 1)
halves_more out n i m within is =
    let h = halves (length out) n in
    ap₂ (λ (j v : ℕ). set (paste out 0 h i) j v) (sym (zero-add i)) (sym is)
    ∙ paste-suc out 0 h i 0 (omega arith) (omega (arith, length_halves (length out) n)) ∙ ap (paste out 0 h) (sym (add-one i))
