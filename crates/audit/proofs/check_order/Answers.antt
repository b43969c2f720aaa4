-- `audit::check_order`: what is answered from the present part on is the answer, and the lengths from there on add to the words that are left.
-- Assumes nothing.
use native.Mathlib.Omega.{arith}
use Rattle.answer.proofs.Checking.{came}
use Rattle.lists.proofs.Counting.{added_from}
use Rattle.audit.proofs.Listed.{approved_out, order_from_first, given_out, order_goes_on, none_out}
use Rattle.audit.proofs.check_order.Goals as goal

pub returns-in_err-check_order : goal.returns-in_err-check_order
returns-in_err-check_order c =
    let a = c.args in
    rw (came c.from_residual.result c.in_err-check_order.field-0.0 c.from_residual.ensures.1)
    (approved_out a.list.now a.given.words.now a.given.lengths.now _ c.in_err-check_order.ensures)

pub loop-i-init : goal.loop-i-init
loop-i-init c =
    let a = c.args in record {
      left = omega (arith, c.requires.1);
      from = order_from_first a.list.now a.given.words.now a.given.lengths.now c.in_ok-check_order.ensures;
    }

pub returns-then-place-part : goal.returns-then-place-part
returns-then-place-part c =
    let a = c.args in
    given_out a.list.now a.given.words.now a.given.lengths.now c.loop-i.i c.loop-i.rest.now _ _ (omega arith) c.split_at.ensures.front c.split_at.ensures.back
    _ (omega (arith, c.first_unordered-place.ensures)) (omega (arith, c.if-place-part.true)) c.loop-i.invariant.from

pub loop-i-preserved : goal.loop-i-preserved
loop-i-preserved c =
    let a = c.args in record {
      left = omega (arith, c.loop-i.invariant.left, added_from a.given.lengths.now c.loop-i.i (omega arith), c.split_at.ensures.back_len);
      from = order_goes_on a.list.now a.given.words.now a.given.lengths.now c.loop-i.i c.loop-i.rest.now _ _ (omega arith) c.split_at.ensures.front c.split_at.ensures.back
          c.first_unordered-place.result c.first_unordered-place.ensures (omega arith) c.loop-i.invariant.from;
    }

pub returns : goal.returns
returns c =
    let a = c.args in
    none_out a.list.now a.given.words.now a.given.lengths.now c.loop-i.i c.loop-i.rest.now (omega arith) c.loop-i.invariant.from
