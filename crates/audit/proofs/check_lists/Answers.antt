-- `audit::check_lists`: its own check, those of the order, those of the room. Assumes nothing.
use Rattle.answer.proofs.Checking.{checking, said_so, said_not, came}
use Rattle.audit.proofs.Passing.{out_of_order, in_order}
use Rattle.audit.proofs.check_lists.Goals as goal

pub returns-then-is_empty : goal.returns-then-is_empty
returns-then-is_empty c = search (checking, said_so)

pub returns-in_err-check_order : goal.returns-in_err-check_order
returns-in_err-check_order c =
    rw (came c.from_residual.result c.in_err-check_order.field-0.0 c.from_residual.ensures.1) (search (out_of_order, said_not, c.in_err-check_order.ensures))

pub returns : goal.returns
returns c = search (in_order, said_not, c.in_ok-check_order.ensures)
