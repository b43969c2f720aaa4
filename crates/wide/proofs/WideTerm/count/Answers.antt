-- `wide::count` meets its contract: two words a term. Assumes nothing.
use mathlib.Core.Path.{sym}
use Rattle.wide.specs.Laws.{length_half}
use Rattle.wide.proofs.WideTerm.count.Goals as goal

pub returns : goal.returns
returns c = sym (length_half c.args.words.now)
