-- `read` checks, then writes the terms. Assumes nothing.
use Rattle.answer.proofs.Checking.{came, refusal_handed_on, work_done}
use Rattle.block.proofs.Reading.{room_counted}
use Rattle.block.proofs.read.Goals as goal

pub returns-in_err-read_checks : goal.returns-in_err-read_checks
returns-in_err-read_checks c =
    rw (came c.from_residual.result c.in_err-read_checks.field-0.0 c.from_residual.ensures.1)
    (search (refusal_handed_on, room_counted, c.in_err-read_checks.ensures))

pub returns : goal.returns
returns c = search (work_done, room_counted, c.in_ok-read_checks.ensures)
