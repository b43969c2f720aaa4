-- `together` checks, then asks. Assumes nothing.
use lib.ListN.{length}
use Rattle.answer.proofs.Checking.{checks_passed}
use Rattle.terms.proofs.Vars.{vars_below}
use Rattle.papers.proofs.Passing.{askable}
use Rattle.papers.proofs.together.Goals as goal

pub ask-requires : goal.ask-requires
ask-requires c =
    let a = c.args in
    askable 1024 64 a.list.now a.x a.y (length a.room.now) (checks_passed _ c.in_ok-checks.ensures) (vars_below 64 a.list.now (λ i. (c.type_inv.list i).fits))
