-- `lists::check_lent`: what is left of the words, and the lengths that are left, stand as the words to all lengths. Assumes nothing.
use native.Mathlib.Omega.{arith}
use Rattle.answer.specs.declared.Refusal.TheVariants.{Short}
use Rattle.answer.proofs.Checking.{refused_if_none}
use Rattle.lists.proofs.Counting.{too_many, too_few_left, words_behind, words_match, left_behind}
use Rattle.lists.proofs.check_lent.Goals as goal

pub returns-then-most-lengths : goal.returns-then-most-lengths
returns-then-most-lengths c = search too_many

pub returns-in_err-left : goal.returns-in_err-left
returns-in_err-left c =
    let a = c.args in
    let told = c.in_err-left.ensures in
    let less = rw told.ok_part at c.checked_sub.ensures in
    rw (refused_if_none c.checked_sub.result c.from_residual.result c.in_err-left.field-0.0 (Short 0) c.from_residual.ensures.1 told.value told.ok_part)
    (too_few_left a.most a.words a.lengths.now c.loop-length.length-index c.loop-length.left c.loop-length.invariant.few c.loop-length.invariant.rest
    c.loop-length-test.true (omega (arith, less)))

pub returns-then-left-gt0 : goal.returns-then-left-gt0
returns-then-left-gt0 c =
    let a = c.args in
    let all = left_behind a.words a.lengths.now c.loop-length.length-index c.loop-length.left c.loop-length.invariant.rest c.loop-length-test.false in
    words_behind a.most a.words a.lengths.now c.loop-length.invariant.few (omega (arith, all))

pub returns : goal.returns
returns c =
    let a = c.args in
    let all = left_behind a.words a.lengths.now c.loop-length.length-index c.loop-length.left c.loop-length.invariant.rest c.loop-length-test.false in
    words_match a.most a.words a.lengths.now c.loop-length.invariant.few (omega (arith, all))
