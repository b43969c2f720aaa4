-- Two words read as one number, the high one in front: bit operations word by word, comparison, single bits, the lowest and the highest, and the words
-- of a list of terms. Leans on lib.Bits' laws of blocks. Assumes nothing.
use mathlib.Core.Path.{◌≡◌, refl, sym, ap, ap₂, ◌∙◌, subst}
use mathlib.Core.Bool.{Bool, true, false, ◌&&◌}
use Rattle.std.specs.Prelude.{Some, cond}
use Rattle.std.specs.Ordering.{is_lt, is_some_and, partial_ordering_then, nat_cmp}
use Rattle.std.proofs.Common.{Less, Equal, Greater}
use mathlib.Core.List.{List, [], ◌∷◌}
use Prim.Native.Nat.{ℕ, zero, suc, ◌+◌, ◌-◌, ◌*◌, ◌/◌, ◌%◌, ◌^◌, ◌≤◌, ◌<◌}
use native.Mathlib.Nat.{not-suc-le-zero, le_of_suc-le-suc, le_of_lt, le_of_eq, le_trans, add-zero, zero-add, add_comm, zero-mul, mul_assoc, mul-le-mul_right, pow-suc}
use native.Mathlib.Omega.{arith}
use borrow.Author.Tests.{lt-ltb, le-ltb, ltb-true, ltb-false, eq-eqb, ne_eqb, eqb-true, eqb-false}
use lib.Arith.{digits_lt, mul_pred, lt_of_le-ne}
use lib.Bits.{bit_and, bit_xor, and_block, xor_block, and_lt, and_self, xor_self, and_zero_l, xor_zero_l}
use lib.Dec.{ltb, eqb}
use lib.ListN.{length, get_or, set}
use lib.Pow.{pow_pos, pow-add, ones_lt, high, low, shr-shr, mod-pow-add, mod-mod-pow}
use Rattle.masks.specs.Bit.{bit, without}
use Rattle.masks.specs.Width.{width}
use Rattle.masks.proofs.Low.{bit_at, bit_low}
use Rattle.masks.proofs.Width.{width_bounds, width_unique}
use Rattle.wide.specs.Numbers.{two, numbers}

-- clearing bits, block by block
pub off_block : (k a b r s : ℕ) → r < 2 ^ k → s < 2 ^ k
    → without (b * 2 ^ k + s) (a * 2 ^ k + r) ≡ without b a * 2 ^ k + without s r
off_block k a b r s hr hs =
    ap (bit_xor (a * 2 ^ k + r)) (and_block k a b r s hr hs) ∙ xor_block k a (bit_and a b) r (bit_and r s) hr (and_lt k r s hr hs)

less_one : (p l : ℕ) → 0 < l → (p + l) - 1 ≡ p + (l - 1)
less_one p l h = omega arith

-- the lowest bit lies in the low block if that has one
pub lowest_low : (k h l : ℕ) → l < 2 ^ k → 0 < l
    → without (h * 2 ^ k + l - 1) (h * 2 ^ k + l) ≡ 0 * 2 ^ k + without (l - 1) l
lowest_low k h l fits some =
    ap (λ (n : ℕ). without n (h * 2 ^ k + l)) (less_one (h * 2 ^ k) l some)
    ∙ off_block k h h l (l - 1) fits (before (2 ^ k) l fits)
    ∙ ap (λ (n : ℕ). n * 2 ^ k + without (l - 1) l) (ap (bit_xor h) (and_self h) ∙ xor_self h)
  where
    before : (p l : ℕ) → l < p → l - 1 < p
    before p l f = omega arith

-- else in the high block
pub lowest_high : (k h : ℕ) → 0 < h → without (h * 2 ^ k + 0 - 1) (h * 2 ^ k + 0) ≡ without (h - 1) h * 2 ^ k + 0
lowest_high k h some =
    ap (λ (n : ℕ). without n (h * 2 ^ k + 0)) (ap (λ (n : ℕ). n - 1) (add-zero (h * 2 ^ k)) ∙ mul_pred {p = h} {c = 2 ^ k} some (pow_pos k))
    ∙ off_block k h (h - 1) 0 (2 ^ k - 1) (pow_pos k) (ones_lt k)
    ∙ ap (λ (n : ℕ). without (h - 1) h * 2 ^ k + n) (ap (bit_xor 0) (and_zero_l (2 ^ k - 1)) ∙ xor_zero_l 0)

-- tests that hold together have one outcome
same_ltb : (a b c d : ℕ) → (a < b → c < d) → (b ≤ a → d ≤ c) → ltb a b ≡ ltb c d
same_ltb a b c d holds fails = by (ltb a b) refl
  where
    by : (t : Bool) → ltb a b ≡ t → ltb a b ≡ ltb c d
    by true e = e ∙ sym (lt-ltb c d (holds (ltb-true a b e)))
    by false e = e ∙ sym (le-ltb c d (fails (ltb-false a b e)))

same_eqb : (a b c d : ℕ) → (a ≡ b → c ≡ d) → (c ≡ d → a ≡ b) → eqb a b ≡ eqb c d
same_eqb a b c d holds fails = by (eqb a b) refl
  where
    by : (t : Bool) → eqb a b ≡ t → eqb a b ≡ eqb c d
    by true e = e ∙ sym (eq-eqb c d (holds (eqb-true a b e)))
    by false e = e ∙ sym (ne_eqb c d (λ q. eqb-false a b e (fails q)))

-- of two numbers with one high block the low blocks tell
pub less_low : (k h l m : ℕ) → ltb l m ≡ ltb (h * 2 ^ k + l) (h * 2 ^ k + m)
less_low k h l m = same_ltb l m (h * 2 ^ k + l) (h * 2 ^ k + m) (more (h * 2 ^ k)) (least (h * 2 ^ k))
  where
    more : (p : ℕ) → l < m → p + l < p + m
    more p f = omega arith

    least : (p : ℕ) → m ≤ l → p + m ≤ p + l
    least p f = omega arith

below : (k g h l m : ℕ) → l < 2 ^ k → g < h → g * 2 ^ k + l < h * 2 ^ k + m
below k g h l m f less = far (g * 2 ^ k + l) (h * 2 ^ k) (digits_lt less f)
  where
    far : (x y : ℕ) → x < y → x < y + m
    far x y e = omega arith

-- else the high blocks
pub less_high : (k g h l m : ℕ) → l < 2 ^ k → m < 2 ^ k → (g ≡ h → ⊥) → ltb g h ≡ ltb (g * 2 ^ k + l) (h * 2 ^ k + m)
less_high k g h l m f e other =
    same_ltb g h (g * 2 ^ k + l) (h * 2 ^ k + m) (below k g h l m f) (λ a. le_of_lt (below k h g m l e (lt_of_le-ne a (λ q. other (sym q)))))

-- the same number has the same blocks
pub same_low : (k h l m : ℕ) → eqb l m ≡ eqb (h * 2 ^ k + l) (h * 2 ^ k + m)
same_low k h l m = same_eqb l m (h * 2 ^ k + l) (h * 2 ^ k + m) (ap (λ (n : ℕ). h * 2 ^ k + n)) (cancel (h * 2 ^ k))
  where
    cancel : (p : ℕ) → p + l ≡ p + m → l ≡ m
    cancel p e = omega arith

pub same_high : (k g h l m : ℕ) → l < 2 ^ k → m < 2 ^ k → (g ≡ h → ⊥) → false ≡ eqb (g * 2 ^ k + l) (h * 2 ^ k + m)
same_high k g h l m f e other =
    sym (ne_eqb (g * 2 ^ k + l) (h * 2 ^ k + m) (λ q. other (sym (high g k f) ∙ ap (λ (n : ℕ). n / 2 ^ k) q ∙ high h k e)))

-- both words the same: the numbers are
pub same_words : (k g h l m : ℕ) → l < 2 ^ k → m < 2 ^ k → (eqb g h && eqb l m) ≡ eqb (g * 2 ^ k + l) (h * 2 ^ k + m)
same_words k g h l m fl fm = by (eqb g h) refl
  where
    by : (t : Bool) → eqb g h ≡ t → (t && eqb l m) ≡ eqb (g * 2 ^ k + l) (h * 2 ^ k + m)
    by true e = same_low k g l m ∙ ap (λ (n : ℕ). eqb (g * 2 ^ k + l) (n * 2 ^ k + m)) (eqb-true g h e)
    by false e = same_high k g h l m fl fm (eqb-false g h e)

-- the derived order, high word first, is the order of the numbers
pub less_words : (k g h l m : ℕ) → l < 2 ^ k → m < 2 ^ k
    → is_some_and is_lt (partial_ordering_then (Some (nat_cmp g h)) (Some (nat_cmp l m))) ≡ ltb (g * 2 ^ k + l) (h * 2 ^ k + m)
less_words k g h l m fl fm = by (ltb g h) (eqb g h) refl refl
  where
    low_only : (s t : Bool) → is_lt (cond s Less (cond t Equal Greater)) ≡ s
    low_only true t = refl
    low_only false true = refl
    low_only false false = refl

    by : (s t : Bool) → ltb g h ≡ s → eqb g h ≡ t
        → is_some_and is_lt (partial_ordering_then (Some (cond s Less (cond t Equal Greater))) (Some (nat_cmp l m))) ≡ ltb (g * 2 ^ k + l) (h * 2 ^ k + m)
    by true t e f = sym (lt-ltb (g * 2 ^ k + l) (h * 2 ^ k + m) (below k g h l m fl (ltb-true g h e)))
    by false true e f =
        low_only (ltb l m) (eqb l m) ∙ less_low k g l m ∙ ap (λ (n : ℕ). ltb (g * 2 ^ k + l) (n * 2 ^ k + m)) (eqb-true g h f)
    by false false e f =
        let other = eqb-false g h f in
        let above : h < g = omega (arith, ltb-false g h e, other) in
        sym (le-ltb (g * 2 ^ k + l) (h * 2 ^ k + m) (le_of_lt (below k h g m l fm above)))

-- nothing in the high block
pub low_alone : (k h l : ℕ) → h ≡ 0 → l ≡ h * 2 ^ k + l
low_alone k h l none = sym (ap (λ (n : ℕ). n * 2 ^ k + l) none ∙ ap (λ (n : ℕ). n + l) (zero-mul (2 ^ k)) ∙ zero-add l)

-- a bit of the low block, and one of the high block
pub bit_of_low : (k h l i : ℕ) → l < 2 ^ k → i < k → bit l i ≡ bit (h * 2 ^ k + l) i
bit_of_low k h l i fits f = ap (λ (n : ℕ). bit n i) (sym (low h k fits)) ∙ bit_low (h * 2 ^ k + l) k i f

pub bit_of_high : (k h l i : ℕ) → l < 2 ^ k → k ≤ i → bit h (i - k) ≡ bit (h * 2 ^ k + l) i
bit_of_high k h l i fits f =
    let all : k + (i - k) ≡ i = omega arith in
    bit_at h (i - k)
    ∙ ap (λ (n : ℕ). eqb (n % 2) 1) (
    ap (λ (n : ℕ). n / 2 ^ (i - k)) (sym (high h k fits)) ∙ shr-shr (h * 2 ^ k + l) k (i - k) ∙ ap (λ (j : ℕ). (h * 2 ^ k + l) / 2 ^ j) all
    )
    ∙ sym (bit_at (h * 2 ^ k + l) i)

-- the bits below one of the low block, and below one of the high block
pub low_of_low : (k h l i : ℕ) → l < 2 ^ k → i ≤ k → 0 * 2 ^ k + l % 2 ^ i ≡ (h * 2 ^ k + l) % 2 ^ i
low_of_low k h l i fits f =
    let all : k ≡ (k - i) + i = omega arith in
    sym (low_alone k 0 (l % 2 ^ i) refl)
    ∙ ap (λ (n : ℕ). n % 2 ^ i) (sym (low h k fits))
    ∙ ap (λ (j : ℕ). (h * 2 ^ k + l) % 2 ^ j % 2 ^ i) all
    ∙ mod-mod-pow (h * 2 ^ k + l) (k - i) i

pub low_of_high : (k h l i : ℕ) → l < 2 ^ k → k ≤ i → h % 2 ^ (i - k) * 2 ^ k + l ≡ (h * 2 ^ k + l) % 2 ^ i
low_of_high k h l i fits f =
    let all : (i - k) + k ≡ i = omega arith in
    sym (ap₂ (λ (p q : ℕ). p % 2 ^ (i - k) * 2 ^ k + q) (high h k fits) (low h k fits))
    ∙ sym (mod-pow-add (h * 2 ^ k + l) (i - k) k)
    ∙ ap (λ (j : ℕ). (h * 2 ^ k + l) % 2 ^ j) all

-- the highest bit lies in the high block if that has one
pub width_high : (k h l : ℕ) → l < 2 ^ k → 0 < h → k + width h ≡ width (h * 2 ^ k + l)
width_high k h l fits some =
    width_unique (h * 2 ^ k + l) (k + width h) record {
      above = subst (λ (p : ℕ). h * 2 ^ k + l < p) whole (digits_lt (width_bounds h).above fits);
      near = subst (λ (p : ℕ). p ≤ 2 * (h * 2 ^ k + l) + 1) whole (
          far (2 ^ width h * 2 ^ k) (h * 2 ^ k)
          (le_trans (mul-le-mul_right (2 ^ k) (twice (width h) (width_bounds h).near)) (le_of_eq (mul_assoc 2 h (2 ^ k))))
          );
    }
  where
    whole : 2 ^ width h * 2 ^ k ≡ 2 ^ (k + width h)
    whole = sym (pow-add 2 (width h) k) ∙ ap (λ (j : ℕ). 2 ^ j) (add_comm (width h) k)

    twice : (j : ℕ) → 2 ^ j ≤ 2 * h + 1 → 2 ^ j ≤ 2 * h
    twice zero e = omega arith
    twice (suc j) e = omega (arith, pow-suc 2 j)

    far : (x y : ℕ) → x ≤ 2 * y → x ≤ 2 * (y + l) + 1
    far x y e = omega arith

first_of : (i : ℕ) → 2 * suc i ≡ suc (suc (2 * i))
first_of i = omega arith

second_of : (i : ℕ) → 2 * suc i + 1 ≡ suc (suc (2 * i + 1))
second_of i = omega arith

-- the term at place i is in words 2 * i and 2 * i + 1
pub element : (ws : List ℕ) (i : ℕ) → i < length (numbers ws) → two (get_or ws (2 * i) 0) (get_or ws (2 * i + 1) 0) ≡ get_or (numbers ws) i 0
unfolding numbers
element [] i h = absurd (not-suc-le-zero h)
element (x ∷ []) i h = absurd (not-suc-le-zero h)
element (x ∷ (y ∷ ws)) zero h = refl
element (x ∷ (y ∷ ws)) (suc i) h =
    ap₂ (λ (p q : ℕ). two (get_or (x ∷ (y ∷ ws)) p 0) (get_or (x ∷ (y ∷ ws)) q 0)) (first_of i) (second_of i)
    ∙ element ws i (le_of_suc-le-suc h)

-- and is written there
pub written : (ws : List ℕ) (i l h : ℕ) → i < length (numbers ws)
    → numbers (set (set ws (2 * i) l) (2 * i + 1) h) ≡ set (numbers ws) i (two l h)
unfolding numbers
written [] i l h f = absurd (not-suc-le-zero f)
written (x ∷ []) i l h f = absurd (not-suc-le-zero f)
written (x ∷ (y ∷ ws)) zero l h f = refl
written (x ∷ (y ∷ ws)) (suc i) l h f =
    ap₂ (λ (p q : ℕ). numbers (set (set (x ∷ (y ∷ ws)) p l) q h)) (first_of i) (second_of i)
    ∙ ap (λ (r : List ℕ). two x y ∷ r) (written ws i l h (le_of_suc-le-suc f))
