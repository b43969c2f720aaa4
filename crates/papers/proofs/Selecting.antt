-- Selecting terms one after the other, each written behind those before it at the start of the room. Assumes nothing.
use Prim.Native.Nat.{ℕ, suc, ◌+◌, ◌≤◌, ◌<◌}
use mathlib.Core.Path.{◌≡◌, refl, sym, ap, ap₂, ◌∙◌}
use mathlib.Core.Bool.{Bool, true, false}
use mathlib.Core.List.{List, [], ◌∷◌, ◌++◌, append-nil, append_assoc}
use native.Mathlib.Omega.{arith}
use native.Mathlib.Numerals.{add-one}
use borrow.Author.Tests.{eq-eqb, ne_eqb}
use lib.Bits.{bit_and, bit_xor}
use lib.Dec.{eqb}
use lib.ListN.{length, get_or, take, drop, set, length-append, take-append-drop}
use lib.Seq.{take-suc, drop-cons, set_at}
use Rattle.polys.specs.List.{either}
use Rattle.answer.specs.Ends.{over}
use Rattle.papers.specs.Steps.{selected}

module _ (fixed value : ℕ) where
  selected_append : (a b : List ℕ) → selected fixed value (a ++ b) ≡ selected fixed value a ++ selected fixed value b
  unfolding selected
  selected_append [] b = refl
  selected_append (t ∷ a) b =
      go (eqb (bit_and t fixed) value) (selected fixed value (a ++ b)) (selected fixed value a) (selected_append a b)
    where
      go : (c : Bool) (ab pa : List ℕ) → ab ≡ pa ++ selected fixed value b
          → either c (bit_xor t value ∷ ab) ab ≡ either c (bit_xor t value ∷ pa) pa ++ selected fixed value b
      go true ab pa e = ap (◌∷◌ (bit_xor t value)) e
      go false ab pa e = e

  module _ (l : List ℕ) (i : ℕ) (h : i < length l) where
    next : List ℕ
    next = selected fixed value (get_or l i 0 ∷ [])

    selected_next : selected fixed value (take (i + 1) l) ≡ selected fixed value (take i l) ++ next
    unfolding next
    selected_next = rw (add-one, take-suc l i 0 h) (selected_append (take i l) (get_or l i 0 ∷ []))

    next_taken : bit_and (get_or l i 0) fixed ≡ value → next ≡ bit_xor (get_or l i 0) value ∷ []
    unfolding next selected
    next_taken e = ap (λ (c : Bool). either c (bit_xor (get_or l i 0) value ∷ []) []) (eq-eqb (bit_and (get_or l i 0) fixed) value e)

    next_left : (bit_and (get_or l i 0) fixed ≡ value → ⊥) → next ≡ []
    unfolding next selected
    next_left e = ap (λ (c : Bool). either c (bit_xor (get_or l i 0) value ∷ []) []) (ne_eqb (bit_and (get_or l i 0) fixed) value e)

    -- a term that is selected has its place among all that are
    pub has_its_place : bit_and (get_or l i 0) fixed ≡ value → length (selected fixed value (take i l)) < length (selected fixed value l)
    unfolding next
    has_its_place e =
        let front = selected fixed value (take i l) in
        let rest = selected fixed value (drop (suc i) l) in
        let all : selected fixed value l ≡ front ++ (next ++ rest) =
        ap (selected fixed value) (sym (take-append-drop i l))
        ∙ selected_append (take i l) (drop i l)
        ∙ ap (λ (k : List ℕ). front ++ selected fixed value k) (drop-cons l i 0 h)
        ∙ ap (◌++◌ front) (selected_append (get_or l i 0 ∷ []) (drop (suc i) l))
        in
        omega (arith, ap length all, length-append front (next ++ rest), length-append next rest, ap length (next_taken e))

-- a list at the start of the room, and one word more
over_one_more : (p d : List ℕ) (v : ℕ) → length p < length d → set (over p d) (length p) v ≡ over (p ++ (v ∷ [])) d
over_one_more p d v h =
    let n = length p in
    let more : length (p ++ (v ∷ [])) ≡ suc n = omega (arith, length-append p (v ∷ [])) in
    ap (λ (l : List ℕ). set (p ++ l) n v) (drop-cons d n 0 h)
    ∙ set_at p (get_or d n 0) (drop (suc n) d) v n refl
    ∙ sym (append_assoc p (v ∷ []) (drop (suc n) d))
    ∙ ap (λ (j : ℕ). (p ++ (v ∷ [])) ++ drop j d) (sym more)

-- where the selecting stands after the first i terms of l: those selected stand at the start of the room, and `end` counts them
pub record Selecting (fixed value : ℕ) (l old : List ℕ) (i : ℕ) (room : List ℕ) (end : ℕ) : Type 0 where
  pub counted : end ≡ length (selected fixed value (take i l))
  pub stands : room ≡ over (selected fixed value (take i l)) old

pub selecting_none : (fixed value : ℕ) (l room : List ℕ) → Selecting fixed value l room 0 room 0
unfolding selected
selecting_none fixed value l room = record { counted = refl; stands = refl }

module _ (fixed value : ℕ) (l old : List ℕ) (i : ℕ) (room : List ℕ) (end : ℕ) (s : Selecting fixed value l old i room end) (h : i < length l)
    (fits : length (selected fixed value l) ≤ length old) where
  -- there is room for a term that is selected
  pub room_for_one : bit_and (get_or l i 0) fixed ≡ value → end < length old
  room_for_one e = omega (arith, s.counted, has_its_place fixed value l i h e)

  pub selecting_taken : bit_and (get_or l i 0) fixed ≡ value
      → Selecting fixed value l old (i + 1) (set room end (bit_xor (get_or l i 0) value)) (end + 1)
  selecting_taken e =
      let now = selected fixed value (take i l) in
      let v = bit_xor (get_or l i 0) value in
      let more : selected fixed value (take (i + 1) l) ≡ now ++ (v ∷ []) = selected_next fixed value l i h ∙ ap (◌++◌ now) (next_taken fixed value l i h e) in
      record {
        counted = omega (arith, s.counted, ap length more, length-append now (v ∷ []));
        stands =
            ap₂ (λ (r : List ℕ) (j : ℕ). set r j v) s.stands s.counted
            ∙ over_one_more now old v (omega (arith, s.counted, room_for_one e))
            ∙ ap (λ (k : List ℕ). over k old) (sym more);
      }

  pub selecting_left : (bit_and (get_or l i 0) fixed ≡ value → ⊥) → Selecting fixed value l old (i + 1) room end
  selecting_left e =
      let now = selected fixed value (take i l) in
      let same_now : selected fixed value (take (i + 1) l) ≡ now =
      selected_next fixed value l i h ∙ ap (◌++◌ now) (next_left fixed value l i h e) ∙ append-nil now
      in
      record {
        counted = s.counted ∙ ap length (sym same_now);
        stands = s.stands ∙ ap (λ (k : List ℕ). over k old) (sym same_now);
      }
