-- `deploy::checks`: there are few lists where the first checks pass. Assumes nothing.
use native.Mathlib.Omega.{arith}
use Rattle.answer.proofs.Checking.{checks_passed}
use Rattle.lists.proofs.Counting.{few_lists}
use Rattle.deploy.proofs.checks.Goals as goal

pub overflow_mul-lengths : goal.overflow_mul-lengths
overflow_mul-lengths c =
    let a = c.args in
    omega (arith, few_lists _ a.words a.lengths.now (checks_passed _ c.in_ok-check_lent.ensures))
