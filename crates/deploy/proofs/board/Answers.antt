-- `deploy::board`: a split, its answer written, and what it filled counted. Assumes nothing.
use native.Mathlib.Omega.{arith}
use Rattle.deploy.proofs.Turns.{behind_fits, lent_fits, turn_done}
use Rattle.deploy.proofs.board.Goals as goal

pub overflow_add-parts : goal.overflow_add-parts
overflow_add-parts c = omega (arith, (behind_fits c.split-said.ensures.behind c.requires).0)

pub total-requires : goal.total-requires
total-requires c =
    let fit = behind_fits c.split-said.ensures.behind c.requires in
    (omega arith, fit.0, omega (arith, lent_fits c.split-said.ensures.behind c.requires))

pub overflow_add-result : goal.overflow_add-result
overflow_add-result c = omega (arith, c.total.ensures, lent_fits c.split-said.ensures.behind c.requires)

pub returns-clause-turned : goal.returns-clause-turned
returns-clause-turned c = turn_done c.split-said.ensures.behind c.requires c.tell.ensures c.total.ensures
