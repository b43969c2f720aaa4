-- `narrow::low` meets its contract: a mask where k is below 64, the word itself where it is 64. Assumes nothing.
use native.Mathlib.Omega.{arith}
use borrow.Author.Rules.{rules}
use Rattle.masks.proofs.Low.{low_by_mask, mask_not_zero, low_of_all}
use Rattle.narrow.proofs.NarrowTerm.low.Goals as goal

pub returns : goal.returns
returns c = low_of_all 64 c.args.self.bits c.args.k (search rules) c.requires (omega arith)

pub overflow_sub-result : goal.overflow_sub-result
overflow_sub-result c = mask_not_zero 64 c.args.k (omega arith)

pub returns-then-k-lt64 : goal.returns-then-k-lt64
returns-then-k-lt64 c = low_by_mask 64 c.args.self.bits c.args.k (omega arith)
