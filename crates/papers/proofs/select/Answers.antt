-- `papers::select`: what is selected of the terms so far stands at the start of the room, and behind it all is as it was. Assumes nothing.
use native.Mathlib.Omega.{arith}
use Rattle.papers.proofs.Selecting.{selecting_none, selecting_taken, selecting_left, room_for_one}
use Rattle.papers.proofs.select.Goals as goal
use Rattle.papers.proofs.select.Goals.{then-t-fixed, else-t-fixed}

pub loop-t-init : goal.loop-t-init
loop-t-init c = search selecting_none

pub bounds-room-end : goal.bounds-room-end
bounds-room-end c =
    let a = c.args in
    let here = c.loop-t in
    omega (arith, here.auto.room, room_for_one a.fixed a.value a.list.now a.room.now here.t-index here.room here.end here.invariant (omega arith) c.requires c.if-t-fixed.true)

pub loop-t-preserved : goal.loop-t-preserved
loop-t-preserved c =
    let a = c.args in
    let here = c.loop-t in
    elim c.if-t-fixed.branch [
      | then-t-fixed w ↦ rw (w.room-is, w.end-is)
          (selecting_taken a.fixed a.value a.list.now a.room.now here.t-index here.room here.end here.invariant (omega arith) c.requires w.if-t-fixed.true)
      | else-t-fixed w ↦ rw (w.room-is, w.end-is)
          (selecting_left a.fixed a.value a.list.now a.room.now here.t-index here.room here.end here.invariant (omega arith) c.requires w.if-t-fixed.false)
    ]
