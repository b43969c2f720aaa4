-- `write_left` ends as what is left of the terms and the room say. Assumes nothing.
use lib.ListN.{take}
use Rattle.text.proofs.Reading.{no_room, written_out}
use Rattle.text.proofs.write_left.Goals as goal

pub returns : goal.returns
returns c =
    let it = c.keep_left-left in
    written_out (take c.args.count c.args.words.now) it.new.words c.args.out.now c.copy_from_slice.new.self it.result it.ensures.0
    it.ensures.1 c.if-out-left.false c.copy_from_slice.ensures.after

pub returns-then-out-left : goal.returns-then-out-left
returns-then-out-left c = search no_room
