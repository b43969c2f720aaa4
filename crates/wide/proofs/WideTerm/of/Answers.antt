-- `wide::of` meets its contract: the high word is 0. Assumes nothing.
use native.Mathlib.Nat.{zero-add}
use Rattle.wide.specs.Numbers.{value}
use Rattle.wide.proofs.WideTerm.of.Goals as goal

pub returns : goal.returns
unfolding value
returns c = zero-add c.args.word
