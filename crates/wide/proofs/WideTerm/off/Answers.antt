-- `wide::off` meets its contract: word by word. Assumes nothing.
use borrow.Author.Rules.{rules}
use mathlib.Core.Path.{sym}
use Rattle.wide.proofs.Blocks.{off_block}
use Rattle.wide.specs.Numbers.{value}
use Rattle.wide.proofs.WideTerm.off.Goals as goal

pub returns : goal.returns
unfolding value
returns c =
    let t = c.args in
    sym (off_block 64 t.self.high t.b.high t.self.low t.b.low (search rules) (search rules))
