-- The four lists laid out one behind another, and read back as parts of the room. Assumes nothing.
use Prim.Native.Nat.{ℕ, ◌+◌, ◌-◌, ◌≤◌}
use mathlib.Core.Path.{◌≡◌, sym, ap, ap₂, ◌∙◌}
use mathlib.Core.List.{List, [], ◌++◌, append-nil, append_assoc}
use native.Mathlib.Omega.{arith}
use borrow.Rule.Slice.PartMut.{mid_of, post_of, put_mid}
use lib.Bits.{bit_or}
use lib.ListN.{length, take, drop, length-append, length-drop}
use lib.Seq.{take_at, drop_at, drop-drop}
use Rattle.std.proofs.lemmas.List.{take_all, drop_all}
use Rattle.answer.specs.Ends.{over}
use Rattle.papers.specs.Steps.{selected, four_selected, Laid}

-- p stands at the start of the room and ends at `end`; behind it all is as it was
pub record Laying (p old room : List ℕ) (end : ℕ) : Type 0 where
  pub counted : end ≡ length p
  pub stands : room ≡ over p old

-- the first list
pub laying_first : {p old room : List ℕ} {end : ℕ} → (end ≡ length p) × (room ≡ over p old) → Laying p old room end
laying_first h = record { counted = h.0; stands = h.1 }

module _ {p old room : List ℕ} {end : ℕ} (s : Laying p old room end) where
  front : take end room ≡ p
  front = ap (take end) s.stands ∙ take_at p (drop (length p) old) end (sym s.counted)

  -- the room from `end` on, which is lent for the next list
  rest : mid_of end (length room - end) room ≡ drop (length p) old
  rest =
      take_all (length room - end) (drop end room) (omega (arith, length-drop end room))
      ∙ ap (drop end) s.stands
      ∙ drop_at p (drop (length p) old) end (sym s.counted)

  nothing_behind : post_of end (length room - end) room ≡ []
  nothing_behind = drop_all (length room - end) (drop end room) (omega (arith, length-drop end room))

  -- there is room for the next list
  pub room_for_more : (q : List ℕ) → end + length q ≤ length old → length q ≤ length (mid_of end (length room - end) room)
  room_for_more q h = omega (arith, s.counted, ap length rest, length-drop (length p) old)

  -- with q at the start of what was lent, p and q stand at the start of the room
  pub laying_more : (q : List ℕ) {now : List ℕ} {n : ℕ} → (n ≡ length q) × (now ≡ over q (mid_of end (length room - end) room))
      → Laying (p ++ q) old (put_mid end (length room - end) room now) (end + n)
  laying_more q {now} {n} h = record {
    counted = omega (arith, s.counted, h.0, length-append p q);
    stands =
        ap₂ ◌++◌ front (ap₂ ◌++◌ (h.1 ∙ ap (over q) rest) nothing_behind ∙ append-nil (over q (drop (length p) old)))
        ∙ ap (λ (l : List ℕ). p ++ (q ++ l)) (drop-drop (length q) (length p) old)
        ∙ sym (append_assoc p q (drop (length p + length q) old))
        ∙ ap (λ (k : ℕ). (p ++ q) ++ drop k old) (sym (length-append p q));
  }

-- the words from i to j of a room in which p, q and r lie one behind another, p up to i and q up to j
part_of : (room p q r : List ℕ) (i j : ℕ) → room ≡ p ++ (q ++ r) → i ≡ length p → j ≡ i + length q → take (j - i) (drop i room) ≡ q
part_of room p q r i j e ei ej =
    ap (λ l. take (j - i) (drop i l)) e ∙ ap (take (j - i)) (drop_at p (q ++ r) i (sym ei)) ∙ take_at q r (j - i) (omega (arith, ej))

module _ (x y : ℕ) (f : List ℕ) where
  abbrev A : List ℕ
  A = selected x x f

  abbrev B : List ℕ
  B = selected x 0 f

  abbrev C : List ℕ
  C = selected (bit_or x y) (bit_or x y) f

  abbrev D : List ℕ
  D = selected (bit_or x y) y f

  pub four_length : length (four_selected x y f)
      ≡ length (selected x x f) + (length (selected x 0 f) + (length (selected (bit_or x y) (bit_or x y) f) + length (selected (bit_or x y) y f)))
  unfolding four_selected
  four_length = omega (arith, length-append A (B ++ (C ++ D)), length-append B (C ++ D), length-append C D)

  -- the four lists, each behind the last one
  pub laid_out : {old new : List ℕ} {a b c d : ℕ} → a ≡ length (selected x x f) → b ≡ length (selected x 0 f)
      → c ≡ length (selected (bit_or x y) (bit_or x y) f) → d ≡ length (selected (bit_or x y) y f)
      → Laying (((selected x x f ++ selected x 0 f) ++ selected (bit_or x y) (bit_or x y) f) ++ selected (bit_or x y) y f) old new (a + b + c + d)
      → Laid x y f old new a (a + b) (a + b + c) (a + b + c + d)
  unfolding four_selected
  laid_out {old} {new} {a} {b} {c} {d} ea eb ec ed s = record {
    stands = s.stands ∙ ap (λ l. over l old) (append_assoc (A ++ B) C D ∙ append_assoc A B (C ++ D));
    end_a = ea;
    end_b = omega arith;
    end_c = omega arith;
    end_d = omega arith;
    within =
        let p = ((A ++ B) ++ C) ++ D in
        omega (arith, s.counted, ap length s.stands, length-append p (drop (length p) old));
  }

module _ {x y : ℕ} {f old new : List ℕ} {a b c d : ℕ} (laid : Laid x y f old new a b c d) where
  behind : List ℕ
  behind = drop (length (four_selected x y f)) old

  from_a : new ≡ A x y f ++ (B x y f ++ (C x y f ++ (D x y f ++ behind)))
  unfolding four_selected behind
  from_a = simp append_assoc at laid.stands

  pub part_a : take a new ≡ selected x x f
  part_a = ap (take a) from_a ∙ take_at (A x y f) (B x y f ++ (C x y f ++ (D x y f ++ behind))) a (sym laid.end_a)

  pub part_b : take (b - a) (drop a new) ≡ selected x 0 f
  part_b = part_of new (A x y f) (B x y f) (C x y f ++ (D x y f ++ behind)) a b from_a laid.end_a laid.end_b

  from_c : new ≡ (A x y f ++ B x y f) ++ (C x y f ++ (D x y f ++ behind))
  from_c = from_a ∙ sym (append_assoc (A x y f) (B x y f) (C x y f ++ (D x y f ++ behind)))

  end_of_b : b ≡ length (A x y f ++ B x y f)
  end_of_b = omega (arith, laid.end_a, laid.end_b, length-append (A x y f) (B x y f))

  pub part_c : take (c - b) (drop b new) ≡ selected (bit_or x y) (bit_or x y) f
  part_c = part_of new (A x y f ++ B x y f) (C x y f) (D x y f ++ behind) b c from_c end_of_b laid.end_c

  pub part_d : take (d - c) (drop c new) ≡ selected (bit_or x y) y f
  part_d =
      part_of new ((A x y f ++ B x y f) ++ C x y f) (D x y f) behind c d
      (from_c ∙ sym (append_assoc (A x y f ++ B x y f) (C x y f) (D x y f ++ behind)))
      (omega (arith, end_of_b, laid.end_c, length-append (A x y f ++ B x y f) (C x y f)))
      laid.end_d
