-- `deploy::in_turn`: between two boards it stands as Standing says, and each turn is one board more. What it
-- promises stands first, so that of a program that stops early this is refused. Assumes nothing.
use native.Mathlib.Omega.{arith}
use borrow.Author.Rules.{rules}
use Prim.Native.Nat.{◌*◌}
use mathlib.Core.Path.{ap}
use lib.ListN.{length, length-drop}
use Rattle.narrow.specs.Numbers.{lines}
use Rattle.narrow.specs.Laws.{numbers_rest, numbers_rest_written}
use Rattle.lists.proofs.Counting.{added_from}
use Rattle.deploy.proofs.Passing.{few, whole, roomy}
use Rattle.deploy.proofs.Turns.{standing_first, standing_on, standing_last}
use Rattle.deploy.proofs.in_turn.Goals as goal

pub returns-clause-deployed : goal.returns-clause-deployed
returns-clause-deployed c =
    let a = c.args in
    let here = c.loop-i in
    standing_last 1024 lines a.lists.words.now a.lists.lengths.now a.answers.now _ here.i here.rest.now here.filled here.answers _ here.invariant.stands (omega arith)

pub loop-i-init : goal.loop-i-init
loop-i-init c =
    let a = c.args in record {
      left = whole _ (length a.lists.words.now) a.lists.lengths.now (length a.answers.now) c.requires;
      terms_fit = omega arith;
      parts_fit = omega arith;
      loans = search rules;
      stands = standing_first 1024 lines a.lists.words.now a.lists.lengths.now a.answers.now _;
    }

pub offset_bounds-answers-i : goal.offset_bounds-answers-i
offset_bounds-answers-i c =
    let a = c.args in
    omega (arith, few _ (length a.lists.words.now) a.lists.lengths.now (length a.answers.now) c.requires)

pub slice_bounds-room-count : goal.slice_bounds-room-count
slice_bounds-room-count c =
    let a = c.args in
    omega (arith, roomy _ (length a.lists.words.now) a.lists.lengths.now (length a.answers.now) c.requires)

pub slice_bounds-room-start : goal.slice_bounds-room-start
slice_bounds-room-start c =
    let a = c.args in
    omega (arith, roomy _ (length a.lists.words.now) a.lists.lengths.now (length a.answers.now) c.requires)

pub board-filled-requires : goal.board-filled-requires
board-filled-requires c =
    let a = c.args in
    let here = c.loop-i in (
      omega (
        arith,
        roomy _ (length a.lists.words.now) a.lists.lengths.now (length a.answers.now) c.requires,
        ap length (numbers_rest (4 * here.i) here.answers),
        length-drop (4 * here.i) here.answers,
      ),
      here.invariant.terms_fit,
      here.invariant.parts_fit,
    )

pub loop-i-preserved : goal.loop-i-preserved
loop-i-preserved c =
    let a = c.args in
    let here = c.loop-i in
    let cut_off = c.split_at.ensures in
    let next = c.board-filled in record {
      left = omega (arith, here.invariant.left, added_from a.lists.lengths.now here.i (omega arith), cut_off.back_len);
      terms_fit = next.ensures.turned.terms_fit;
      parts_fit = next.ensures.turned.parts_fit;
      loans = search rules;
      stands =
          standing_on 1024 lines a.lists.words.now a.lists.lengths.now a.answers.now _ here.i here.rest.now here.filled here.answers _ here.invariant.stands (omega arith)
          _ _ cut_off.front cut_off.back _ next.new.room _ (numbers_rest (4 * here.i) here.answers)
          (numbers_rest_written (4 * here.i) here.answers next.new.room
          (omega (arith, roomy _ (length a.lists.words.now) a.lists.lengths.now (length a.answers.now) c.requires)))
          _ next.result next.ensures.turned;
    }
