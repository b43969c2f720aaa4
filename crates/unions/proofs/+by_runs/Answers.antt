-- `by_runs` writes the product of a list that varies by more with another, run by run. The measure is the number of terms of both lists.
-- Each answer is a law of Here at the facts of its turn. Assumes nothing.
use native.Mathlib.Omega.{arith}
use Prim.Native.Nat.{ℕ, ◌+◌, ◌-◌, ◌*◌}
use lib.Bits.{bit_or, bit_xor}
use lib.ListN.{length, take, drop, length-drop}
use lib.Seq.{take_all}
use mathlib.Core.Path.{◌≡◌, refl, sym, ap, ap₂, ◌∙◌, subst₂}
use mathlib.Core.List.{List, map}
use Rattle.term.proofs.Places.{part_at, rest_at}
use Rattle.polys.specs.Poly.{times}
use Rattle.polys.proofs.Polys.{times_comm}
use Rattle.unions.specs.Unions.{Wider}
use Rattle.unions.proofs.Writing.{none_so_far, all_so_far}
use Rattle.unions.proofs.Here.{room_kept, ends, turn_here, lent_here, fits, comes_back}
use Rattle.unions.proofs.+by_runs.Goals as goal

pub loop-at-init : goal.loop-at-init
loop-at-init g t c = (
  omega arith,
  refl,
  none_so_far (g.T.Term.numbers c.args.a.now) (g.T.Term.numbers c.args.b.now) c.count-n.result (g.T.Term.numbers c.args.out.now),
)

pub words-from-requires : goal.words-from-requires
words-from-requires g t c = omega (arith, g.T.Term.laws.room_within c.args.a.now c.loop-at.at (omega arith))

pub offset_bounds-a-from : goal.offset_bounds-a-from
offset_bounds-a-from g t c = omega (arith, g.T.Term.laws.room_within c.args.a.now c.loop-at.at (omega arith))

pub slice_bounds-run-count : goal.slice_bounds-run-count
slice_bounds-run-count g t c = omega (arith, g.T.Term.laws.room_within c.args.a.now c.loop-at.at (omega arith))

pub slice_bounds-run-start : goal.slice_bounds-run-start
slice_bounds-run-start g t c = omega (arith, g.T.Term.laws.room_within c.args.a.now c.loop-at.at (omega arith))

pub slice_bounds-run-end : goal.slice_bounds-run-end
slice_bounds-run-end g t c = omega (arith, g.T.Term.laws.room_within c.args.a.now c.loop-at.at (omega arith))

pub run-count-requires : goal.run-count-requires
run-count-requires g t c =
    let rest = rest_at g.T.Term.laws c.loop-at.at c.words-from.result c.args.a.now c.words-from.ensures in
    omega (arith, ap length rest, length-drop c.loop-at.at (g.T.Term.numbers c.args.a.now))

pub overflow_add-to : goal.overflow_add-to
overflow_add-to g t c =
    omega (arith, ends g.T.Term.laws c.requires.wider (omega arith) c.words-from.ensures c.run-count.ensures, g.T.Term.laws.room_least (c.loop-at.at + c.run-count.result))

pub words-upto-requires : goal.words-upto-requires
words-upto-requires g t c = omega (arith, ends g.T.Term.laws c.requires.wider (omega arith) c.words-from.ensures c.run-count.ensures)

-- a run of one term
pub row-requires : goal.row-requires
row-requires g t c =
    let at = c.loop-at.at in
    let to = at + c.run-count.result in
    let n = c.count-n.result in
    let lent = lent_here g.T.Term.laws c.requires.wider (omega arith) c.words-from.ensures c.run-count.ensures c.loop-at.out c.args.out.now c.words-upto.ensures c.count-n.ensures c.loop-at.invariant.1 c.requires.out_len in
    ap length (part_at g.T.Term.laws (at * n) (to * n) c.words-start.result c.words-end.result c.loop-at.out c.words-start.ensures c.words-end.ensures)
    ∙ lent.lone_room c.if-count-eq1.true

pub loop-at-preserved-then-count-eq1 : goal.loop-at-preserved-then-count-eq1
loop-at-preserved-then-count-eq1 g t c =
    let this = turn_here g.T.Term.laws c.requires.wider (omega arith) c.words-from.ensures c.run-count.ensures c.words-upto.ensures in
    let back = comes_back g.T.Term.laws c.requires.wider (omega arith) c.words-from.ensures c.run-count.ensures c.loop-at.out c.args.out.now c.words-upto.ensures c.count-n.ensures c.loop-at.invariant.1 c.requires.out_len c.words-start.ensures c.words-end.ensures c.row.new.out c.row.auto.out (
    c.row.ensures ∙ ap (λ (x : ℕ). map (bit_or x) (g.T.Term.numbers c.args.b.now)) c.at.ensures ∙ sym (this.lone c.if-count-eq1.true)) c.loop-at.invariant.2 in
    (omega (arith, this.within), back.0, back.1)

-- a run of more terms; b is lent whole
pub by_runs-requires : goal.by_runs-requires
by_runs-requires g t c =
    let b = c.args.b.now in
    let at = c.loop-at.at in
    let to = at + c.run-count.result in
    let n = c.count-n.result in
    let this = turn_here g.T.Term.laws c.requires.wider (omega arith) c.words-from.ensures c.run-count.ensures c.words-upto.ensures in
    let lent = lent_here g.T.Term.laws c.requires.wider (omega arith) c.words-from.ensures c.run-count.ensures c.loop-at.out c.args.out.now c.words-upto.ensures c.count-n.ensures c.loop-at.invariant.1 c.requires.out_len in
    let part : List ℕ = g.T.Term.numbers (take (c.words-upto.result - c.words-from.result) (drop c.words-from.result c.args.a.now)) in
    let all_of_b : g.T.Term.numbers (take (length b - 0) b) ≡ g.T.Term.numbers b = ap g.T.Term.numbers (take_all (length b - 0) b (omega arith)) in
    let less = c.xor-less.ensures ∙ ap₂ bit_xor c.at-in-loop-at.ensures c.at-in-loop-at-2.ensures in
    let room = part_at g.T.Term.laws (at * n) (to * n) c.words-start.result c.words-end.result c.loop-at.out c.words-start.ensures c.words-end.ensures in
    λ κs lives. (
      omega (arith, this.shorter, c.requires.out_len, ap length all_of_b),
      (
        lives,
        (
          ap length room ∙ lent.room ∙ ap (λ (b : List ℕ). length b * length part) (sym all_of_b),
          subst₂ (λ (b : List ℕ) (d : ℕ). Wider b part d) (sym all_of_b) (sym less) (this.wider c.if-count-eq1.false),
        ),
      ),
    )

pub loop-at-preserved : goal.loop-at-preserved
loop-at-preserved g t c =
    let b = c.args.b.now in
    let part : List ℕ = g.T.Term.numbers (take (c.words-upto.result - c.words-from.result) (drop c.words-from.result c.args.a.now)) in
    let this = turn_here g.T.Term.laws c.requires.wider (omega arith) c.words-from.ensures c.run-count.ensures c.words-upto.ensures in
    let all_of_b : g.T.Term.numbers (take (length b - 0) b) ≡ g.T.Term.numbers b = ap g.T.Term.numbers (take_all (length b - 0) b (omega arith)) in
    let back = comes_back g.T.Term.laws c.requires.wider (omega arith) c.words-from.ensures c.run-count.ensures c.loop-at.out c.args.out.now c.words-upto.ensures c.count-n.ensures c.loop-at.invariant.1 c.requires.out_len c.words-start.ensures c.words-end.ensures c.by_runs.new.out c.by_runs.auto.out (
    c.by_runs.ensures ∙ ap (λ (l : List ℕ). times l part) all_of_b ∙ times_comm (g.T.Term.numbers b) part) c.loop-at.invariant.2 in
    (omega (arith, this.within), back.0, back.1)

pub shape_of-out : goal.shape_of-out
shape_of-out g t c = c.loop-at.invariant.1

pub returns : goal.returns
returns g t c =
    all_so_far (g.T.Term.numbers c.args.a.now) (g.T.Term.numbers c.args.b.now) c.count-n.result (g.T.Term.numbers c.loop-at.out) c.loop-at.at (
    room_kept g.T.Term.laws c.args.a.now c.args.b.now c.loop-at.out c.args.out.now c.requires.out_len c.count-n.ensures c.loop-at.invariant.1) (omega arith) c.loop-at.invariant.2

pub overflow_mul-at : goal.overflow_mul-at
overflow_mul-at g t c = omega (arith, fits g.T.Term.laws c.requires.wider (omega arith) c.words-from.ensures c.run-count.ensures c.loop-at.out c.args.out.now c.words-upto.ensures c.count-n.ensures c.loop-at.invariant.1 c.requires.out_len, g.T.Term.laws.room_least (c.loop-at.at * c.count-n.result))

pub words-start-requires : goal.words-start-requires
words-start-requires g t c = omega (arith, fits g.T.Term.laws c.requires.wider (omega arith) c.words-from.ensures c.run-count.ensures c.loop-at.out c.args.out.now c.words-upto.ensures c.count-n.ensures c.loop-at.invariant.1 c.requires.out_len)

pub overflow_mul-to : goal.overflow_mul-to
overflow_mul-to g t c = omega (arith, fits g.T.Term.laws c.requires.wider (omega arith) c.words-from.ensures c.run-count.ensures c.loop-at.out c.args.out.now c.words-upto.ensures c.count-n.ensures c.loop-at.invariant.1 c.requires.out_len, g.T.Term.laws.room_least ((c.loop-at.at + c.run-count.result) * c.count-n.result))

pub words-end-requires : goal.words-end-requires
words-end-requires g t c = omega (arith, fits g.T.Term.laws c.requires.wider (omega arith) c.words-from.ensures c.run-count.ensures c.loop-at.out c.args.out.now c.words-upto.ensures c.count-n.ensures c.loop-at.invariant.1 c.requires.out_len)

pub offset_bounds-out-start : goal.offset_bounds-out-start
offset_bounds-out-start g t c = omega (arith, fits g.T.Term.laws c.requires.wider (omega arith) c.words-from.ensures c.run-count.ensures c.loop-at.out c.args.out.now c.words-upto.ensures c.count-n.ensures c.loop-at.invariant.1 c.requires.out_len)

pub slice_bounds-row-count : goal.slice_bounds-row-count
slice_bounds-row-count g t c = omega (arith, fits g.T.Term.laws c.requires.wider (omega arith) c.words-from.ensures c.run-count.ensures c.loop-at.out c.args.out.now c.words-upto.ensures c.count-n.ensures c.loop-at.invariant.1 c.requires.out_len)

pub slice_bounds-row-start : goal.slice_bounds-row-start
slice_bounds-row-start g t c = omega (arith, fits g.T.Term.laws c.requires.wider (omega arith) c.words-from.ensures c.run-count.ensures c.loop-at.out c.args.out.now c.words-upto.ensures c.count-n.ensures c.loop-at.invariant.1 c.requires.out_len)

pub slice_bounds-row-end : goal.slice_bounds-row-end
slice_bounds-row-end g t c = omega (arith, fits g.T.Term.laws c.requires.wider (omega arith) c.words-from.ensures c.run-count.ensures c.loop-at.out c.args.out.now c.words-upto.ensures c.count-n.ensures c.loop-at.invariant.1 c.requires.out_len)

pub offset_bounds-out-start-in-loop-at : goal.offset_bounds-out-start-in-loop-at
offset_bounds-out-start-in-loop-at g t c = omega (arith, fits g.T.Term.laws c.requires.wider (omega arith) c.words-from.ensures c.run-count.ensures c.loop-at.out c.args.out.now c.words-upto.ensures c.count-n.ensures c.loop-at.invariant.1 c.requires.out_len)

pub slice_bounds-by_runs-count-in-loop-at-2 : goal.slice_bounds-by_runs-count-in-loop-at-2
slice_bounds-by_runs-count-in-loop-at-2 g t c = omega (arith, fits g.T.Term.laws c.requires.wider (omega arith) c.words-from.ensures c.run-count.ensures c.loop-at.out c.args.out.now c.words-upto.ensures c.count-n.ensures c.loop-at.invariant.1 c.requires.out_len)

pub slice_bounds-by_runs-start-in-loop-at-2 : goal.slice_bounds-by_runs-start-in-loop-at-2
slice_bounds-by_runs-start-in-loop-at-2 g t c = omega (arith, fits g.T.Term.laws c.requires.wider (omega arith) c.words-from.ensures c.run-count.ensures c.loop-at.out c.args.out.now c.words-upto.ensures c.count-n.ensures c.loop-at.invariant.1 c.requires.out_len)

pub slice_bounds-by_runs-end-in-loop-at-2 : goal.slice_bounds-by_runs-end-in-loop-at-2
slice_bounds-by_runs-end-in-loop-at-2 g t c = omega (arith, fits g.T.Term.laws c.requires.wider (omega arith) c.words-from.ensures c.run-count.ensures c.loop-at.out c.args.out.now c.words-upto.ensures c.count-n.ensures c.loop-at.invariant.1 c.requires.out_len)

pub at-requires-in-loop-at-2 : goal.at-requires-in-loop-at-2
at-requires-in-loop-at-2 g t c = omega (arith, ends g.T.Term.laws c.requires.wider (omega arith) c.words-from.ensures c.run-count.ensures)

pub offset_bounds-a-from-in-loop-at : goal.offset_bounds-a-from-in-loop-at
offset_bounds-a-from-in-loop-at g t c = omega (arith, ends g.T.Term.laws c.requires.wider (omega arith) c.words-from.ensures c.run-count.ensures)

pub slice_bounds-by_runs-count-in-loop-at : goal.slice_bounds-by_runs-count-in-loop-at
slice_bounds-by_runs-count-in-loop-at g t c = omega (arith, ends g.T.Term.laws c.requires.wider (omega arith) c.words-from.ensures c.run-count.ensures)

pub slice_bounds-by_runs-start-in-loop-at : goal.slice_bounds-by_runs-start-in-loop-at
slice_bounds-by_runs-start-in-loop-at g t c = omega (arith, ends g.T.Term.laws c.requires.wider (omega arith) c.words-from.ensures c.run-count.ensures)

pub slice_bounds-by_runs-end-in-loop-at : goal.slice_bounds-by_runs-end-in-loop-at
slice_bounds-by_runs-end-in-loop-at g t c = omega (arith, ends g.T.Term.laws c.requires.wider (omega arith) c.words-from.ensures c.run-count.ensures)
