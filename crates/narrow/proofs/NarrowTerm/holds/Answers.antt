-- `narrow::holds` meets its contract: the digit that is tested is the bit. Assumes nothing.
use Rattle.masks.proofs.Low.{bit_by_digit}
use Rattle.narrow.proofs.NarrowTerm.holds.Goals as goal

pub returns : goal.returns
returns c = bit_by_digit c.args.self.bits c.args.k
