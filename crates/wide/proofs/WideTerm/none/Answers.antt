-- `wide::none` meets its contract: both words are 0. Assumes nothing.
use mathlib.Core.Path.{refl}
use Rattle.wide.specs.Numbers.{value}
use Rattle.wide.proofs.WideTerm.none.Goals as goal

pub returns : goal.returns
unfolding value
returns c = refl
