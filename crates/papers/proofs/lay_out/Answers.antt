-- `papers::lay_out` selects four times, each behind the last; together that is the layout (Laid). Assumes nothing.
use native.Mathlib.Omega.{arith}
use Rattle.papers.proofs.Laid.{laying_first, laying_more, room_for_more, four_length, laid_out}
use Rattle.papers.proofs.lay_out.Goals as goal

pub select-a-requires : goal.select-a-requires
select-a-requires c =
    let a = c.args in
    omega (arith, four_length a.x a.y a.list.now)

pub select-requires : goal.select-requires
select-requires c =
    let a = c.args in
    let one = laying_first c.select-a.ensures in
    room_for_more one _ (omega (arith, four_length a.x a.y a.list.now))

pub select-requires-2 : goal.select-requires-2
select-requires-2 c =
    let a = c.args in
    let one = laying_first c.select-a.ensures in
    let two = laying_more one _ c.select.ensures in
    room_for_more two _ (omega (arith, four_length a.x a.y a.list.now))

pub select-requires-3 : goal.select-requires-3
select-requires-3 c =
    let a = c.args in
    let one = laying_first c.select-a.ensures in
    let two = laying_more one _ c.select.ensures in
    let three = laying_more two _ c.select-2.ensures in
    room_for_more three _ (omega (arith, four_length a.x a.y a.list.now))

pub returns : goal.returns
returns c =
    let a = c.args in
    let one = laying_first c.select-a.ensures in
    let two = laying_more one _ c.select.ensures in
    let three = laying_more two _ c.select-2.ensures in
    let four = laying_more three _ c.select-3.ensures in
    laid_out a.x a.y a.list.now c.select-a.ensures.0 c.select.ensures.0 c.select-2.ensures.0 c.select-3.ensures.0 four
