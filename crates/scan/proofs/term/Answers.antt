-- `term` meets its contract: a term begins with `x` or is `1`. Assumes nothing.
use native.Mathlib.Omega.{arith}
use Rattle.scan.proofs.Sums.{begins_with_x, begins_with_1, begins_with_none}
use Rattle.scan.proofs.term.Goals as goal

pub returns-in-120 : goal.returns-in-120
returns-in-120 c = begins_with_x _ _ _ _ c.byte_at.ensures c.in-120.is _ c.product.ensures

pub returns-in-49 : goal.returns-in-49
returns-in-49 c = begins_with_1 _ _ _ _ c.byte_at.ensures c.in-49.is _ c.constant.ensures

pub returns-in_default : goal.returns-in_default
returns-in_default c =
    begins_with_none _ _ _ _ c.byte_at.ensures _ c.requires (λ e. omega arith) (λ e. omega arith) c.sign.ensures
