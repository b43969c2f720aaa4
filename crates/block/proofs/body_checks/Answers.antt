-- `body_checks` asks for the polynomial's n where the terms ascend. Assumes nothing.
use Rattle.answer.proofs.Checking.{found_not_below}
use Rattle.block.proofs.Reading.{terms_ascend}
use Rattle.block.proofs.body_checks.Goals as goal

pub polynomial_n-own-requires : goal.polynomial_n-own-requires
polynomial_n-own-requires c = terms_ascend c.args.bytes.now c.args.n c.args.t (search found_not_below)
