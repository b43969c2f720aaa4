-- `papers::select`: what is selected of the terms so far stands at the start of the room, and behind it all is as it was. Assumes nothing.
use Rattle.papers.proofs.Selecting.{Selecting}
use Rattle.papers.proofs.select.Given as goal

abbrev pub invariant-loop-t : goal.invariant-loop-t
invariant-loop-t l = Selecting l.fixed l.value l.list l.initial.room l.t-index l.room l.end
