-- One turn of `by_runs` as the code sees it: lists stand in words, and a run and its room are lent between words. Leans on Writing.
use Prim.Native.Nat.{ℕ, ◌+◌, ◌-◌, ◌*◌, ◌≤◌, ◌<◌}
use native.Mathlib.Omega.{arith}
use mathlib.Core.Path.{◌≡◌, sym, ap, ◌∙◌, subst}
use mathlib.Core.List.{List, ◌++◌}
use lib.ListN.{length, take, drop, length-drop}
use Rattle.term.specs.Laws.{Laws}
use Rattle.term.proofs.Places.{part_at, rest_at, part_at_written}
use Rattle.polys.specs.Poly.{times}
use Rattle.unions.specs.Unions.{Run, Wider}
use Rattle.unions.proofs.Steps.{Turn, turn}
use Rattle.unions.proofs.Writing.{SoFar, Lent, lent, length_back}

module _ {numbers : List ℕ → List ℕ} {room : ℕ → ℕ} {lines : ℕ} (laws : Laws numbers room lines) where
  -- the room is as long as it was
  pub room_kept : (a b out first : List ℕ) {n : ℕ} → length (numbers first) ≡ length (numbers a) * length (numbers b)
      → n ≡ length (numbers b) → length out ≡ length first → length (numbers out) ≡ length (numbers a) * n
  room_kept a b out first whole count same =
      laws.numbers_same_length out first same ∙ whole ∙ ap (λ (k : ℕ). length (numbers a) * k) (sym count)

  module _ {a b : List ℕ} {d at x r : ℕ} (wider : Wider (numbers a) (numbers b) d) (inside : at < length (numbers a)) (ex : x ≡ room at)
      (cut : Run (numbers (take (length a - x) (drop x a))) d r) where
    -- the run as the theory sees it
    run_here : Run (drop at (numbers a)) d r
    run_here = subst (λ (v : List ℕ). Run v d r) (rest_at laws at x a ex) cut

    run_ends : at + r ≤ length (numbers a)
    run_ends = omega (arith, run_here.within, length-drop at (numbers a))

    -- the run lies in a
    pub ends : (at + r ≤ length (numbers a)) × (x ≤ room (at + r)) × (room (at + r) ≤ length a)
    ends =
        let before = laws.room_mono at (at + r) (omega arith) in
        (run_ends, omega (arith, before), laws.room_within a (at + r) run_ends)

    -- what is known of it
    pub turn_here : {y : ℕ} → y ≡ room (at + r) → Turn (numbers a) (numbers b) at r (numbers (take (y - x) (drop x a)))
    turn_here {y} ey = turn (numbers a) (numbers b) d at r wider inside run_here (numbers (take (y - x) (drop x a))) (part_at laws at (at + r) x y a ex ey)

    module _ {y n : ℕ} (out first : List ℕ) (ey : y ≡ room (at + r)) (count : n ≡ length (numbers b))
        (same : length out ≡ length first) (whole : length (numbers first) ≡ length (numbers a) * length (numbers b)) where
      -- what is known of its product's room
      pub lent_here : Lent (numbers a) (numbers b) n at r (numbers (take (y - x) (drop x a))) (numbers out)
      lent_here =
          lent (numbers a) (numbers b) n at r (numbers (take (y - x) (drop x a))) (numbers out) (turn_here ey) count (
          room_kept a b out first whole count same)

      -- that room lies in what was lent
      pub fits : (at * n ≤ (at + r) * n) × (room (at * n) ≤ room ((at + r) * n)) × (room ((at + r) * n) ≤ length out)
      fits = (
        lent_here.start,
        laws.room_mono (at * n) ((at + r) * n) lent_here.start,
        laws.room_within out ((at + r) * n) lent_here.end,
      )

      -- the run's product comes back
      pub comes_back : {lo hi : ℕ} → lo ≡ room (at * n) → hi ≡ room ((at + r) * n) → (new : List ℕ)
          → length new ≡ length (take (hi - lo) (drop lo out))
          → numbers new ≡ times (numbers (take (y - x) (drop x a))) (numbers b)
          → SoFar (numbers a) (numbers b) n (numbers out) at
          → (length (take lo out ++ (new ++ drop (hi - lo) (drop lo out))) ≡ length first)
          × SoFar (numbers a) (numbers b) n (numbers (take lo out ++ (new ++ drop (hi - lo) (drop lo out)))) (at + r)
      comes_back {lo} {hi} elo ehi new kept wrote before = (
        length_back lo hi out new (omega (arith, fits)) kept ∙ same,
        subst (λ (o : List ℕ). SoFar (numbers a) (numbers b) n o (at + r))
            (sym (part_at_written laws (at * n) ((at + r) * n) lo hi out new lent_here.start lent_here.end elo ehi kept))
            (lent_here.next (numbers new) wrote before),
      )
