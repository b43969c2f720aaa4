-- A row that stands in the list from a place on: no difference anywhere, and then the walk goes on behind it. Leans on Walking and on
-- masks by truth table. Assumes nothing.
use Prim.Native.Nat.{ℕ, suc, ◌+◌, ◌-◌, ◌<◌, ◌≤◌}
use native.Mathlib.Nat.{add-zero}
use native.Mathlib.Omega.{arith}
use mathlib.Core.Path.{◌≡◌, sym, ap, ◌∙◌, subst}
use mathlib.Core.List.{List, [], ◌∷◌, map}
use borrow.Author.Count.{below_more}
use lib.Bits.{bit_or, bit_xor}
use lib.ListN.{length, get_or, take, drop, length-drop}
use lib.Seq.{get_or-take, get_or-drop, length-take-le}
use Rattle.term.specs.Laws.{Laws}
use Rattle.term.proofs.Places.{part_at}
use Rattle.masks.proofs.Reflect.{∅, ◌∪◌, ◌⊕◌, ◌≐◌, ◌⇒◌, ∴◌, identity}
use Rattle.walk.specs.Walk.{on, Alike, walked}
use Rattle.walk.proofs.Walking.{walked_on, walked_none}

pub none_alike : (t : ℕ) (b f : List ℕ) → Alike t b f 0
none_alike t b f k h = absurd (let c : ⊥ = omega arith in c)

-- one more place, at which v stands in b and y in f
pub more_alike : (t : ℕ) (b f : List ℕ) (i all : ℕ) {u v x y next : ℕ} → (all ≡ 0 → Alike t b f i) → v ≡ get_or b i 0 → u ≡ bit_or t v → y ≡ get_or f i 0
    → x ≡ bit_xor u y → next ≡ bit_or all x → next ≡ 0 → Alike t b f (i + 1)
more_alike t b f i all {u = u} {y = y} so_far at_b union at_f differ more e =
    below_more (λ (k : ℕ). get_or f k 0 ≡ bit_or t (get_or b k 0)) i
    (so_far (identity 3 (λ a u v. a ∪ (u ⊕ v) ≐ ∅ ⇒ ∴ a ≐ ∅) tt all u y none))
    (sym at_f ∙ identity 3 (λ a u v. a ∪ (u ⊕ v) ≐ ∅ ⇒ ∴ v ≐ u) tt all u y none ∙ union ∙ ap (bit_or t) at_b)
  where
    none : bit_or all (bit_xor u y) ≡ 0
    none = ap (bit_or all) (sym differ) ∙ sym more ∙ e

pub all_alike : (t : ℕ) (b f : List ℕ) (i n all : ℕ) → n ≡ length b → i ≤ n → n ≤ i → (all ≡ 0 → Alike t b f i) → all ≡ 0 → Alike t b f (length b)
all_alike t b f i n all count h l same e = let k : i ≡ length b = omega arith in subst (Alike t b f) k (same e)

-- a walk along a row that stands there
walked_along : (t : ℕ) (b f : List ℕ) (at : ℕ) → at + length b ≤ length f
    → ((k : ℕ) → k < length b → get_or f (at + k) 0 ≡ bit_or t (get_or b k 0)) → walked (map (bit_or t) b) f at ≡ on (at + length b)
walked_along t [] f at h same = walked_none f at ∙ ap on (sym (add-zero at))
walked_along t (x ∷ b) f at h same =
    walked_on (bit_or t x) (map (bit_or t) b) f at (omega arith) (ap (λ (k : ℕ). get_or f k 0) (sym (add-zero at)) ∙ same 0 (omega arith))
    ∙ walked_along t b f (at + 1) (omega arith)
    (λ k l. ap (λ (j : ℕ). get_or f j 0) (let e : at + 1 + k ≡ at + suc k = omega arith in e) ∙ same (suc k) (omega arith))
    ∙ ap on (let e : at + 1 + length b ≡ at + length (x ∷ b) = omega arith in e)

-- ---- a part of the list as it is lent between words

module _ {numbers : List ℕ → List ℕ} {room : ℕ → ℕ} {lines : ℕ} (laws : Laws numbers room lines) (f : List ℕ) (at n : ℕ) (inside : at + n ≤ length (numbers f)) where
  -- it lies in the words
  pub lies : (room at ≤ room (at + n)) × (room (at + n) ≤ length f)
  lies = (laws.room_mono at (at + n) (omega arith), laws.room_within f (at + n) inside)

  module _ {x y : ℕ} (ex : x ≡ room at) (ey : y ≡ room (at + n)) where
    -- so many terms stand in it
    pub part_length : length (numbers (take (y - x) (drop x f))) ≡ n
    part_length =
        omega (arith, ap length (part_at laws at (at + n) x y f ex ey), length-take-le (at + n - at) (drop at (numbers f)) (omega (arith, length-drop at (numbers f))))

    -- what `differences` tells of it
    pub row_along : (t : ℕ) (b : List ℕ) (all : ℕ) → n ≡ length b → (all ≡ 0 → Alike t b (numbers (take (y - x) (drop x f))) (length b)) → all ≡ 0
        → on (at + n) ≡ walked (map (bit_or t) b) (numbers f) at
    row_along t b all count same none =
        ap (λ (k : ℕ). on (at + k)) count
        ∙ sym (walked_along t b (numbers f) at (omega arith)
        (λ k m. sym (ap (λ (l : List ℕ). get_or l k 0) (part_at laws at (at + n) x y f ex ey) ∙ get_or-take (at + n - at) (drop at (numbers f)) k 0 (omega arith) ∙ get_or-drop at (numbers f) k 0) ∙ same none k m))
