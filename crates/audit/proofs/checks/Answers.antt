-- `audit::checks`: those of the given words and lengths, those of the numbers of terms, the others. Assumes nothing.
use Rattle.answer.proofs.Checking.{came, checks_passed}
use Rattle.lists.proofs.Counting.{few_lists, words_all}
use Rattle.audit.proofs.Passing.{approved_fits, not_whole, too_long, long_passed}
use Rattle.audit.proofs.checks.Goals as goal

pub returns-in_err-check_lent : goal.returns-in_err-check_lent
returns-in_err-check_lent c =
    rw (came c.from_residual.result c.in_err-check_lent.field-0.0 c.from_residual.ensures.1) (search (not_whole, c.in_err-check_lent.ensures))

pub check_long-requires : goal.check_long-requires
check_long-requires c = search (few_lists, checks_passed, c.in_ok-check_lent.ensures)

pub returns-in_err-check_long : goal.returns-in_err-check_long
returns-in_err-check_long c =
    rw (came c.from_residual-in_err-check_long.result c.in_err-check_long.field-0.0 c.from_residual-in_err-check_long.ensures.1)
    (search (too_long, c.in_ok-check_lent.ensures, c.in_err-check_long.ensures))

pub check_lists-requires : goal.check_lists-requires
check_lists-requires c =
    search (approved_fits, few_lists, words_all, checks_passed, c.in_ok-check_lent.ensures, c.in_ok-check_long.ensures)

pub returns : goal.returns
returns c = search (long_passed, c.in_ok-check_lent.ensures, c.in_ok-check_long.ensures)
