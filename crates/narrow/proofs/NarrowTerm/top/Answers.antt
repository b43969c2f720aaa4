-- `narrow::top` meets its contract: 64 digits are the leading zeros and the width. Assumes nothing.
use native.Mathlib.Omega.{arith}
use borrow.Author.Rules.{rules}
use lib.Count.{leading_le}
use Rattle.masks.proofs.Width.{leading_and_width}
use Rattle.narrow.proofs.NarrowTerm.top.Goals as goal

pub overflow_cast-result : goal.overflow_cast-result
overflow_cast-result c = omega (arith, leading_le 64 c.args.self.bits)

pub overflow_sub-result : goal.overflow_sub-result
overflow_sub-result c = omega (arith, leading_le 64 c.args.self.bits)

pub returns : goal.returns
returns c = leading_and_width 64 c.args.self.bits (search rules)
