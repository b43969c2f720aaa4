-- `wide::and` meets its contract: word by word. Assumes nothing.
use borrow.Author.Rules.{rules}
use mathlib.Core.Path.{sym}
use lib.Bits.{and_block}
use Rattle.wide.specs.Numbers.{value}
use Rattle.wide.proofs.WideTerm.and.Goals as goal

pub returns : goal.returns
unfolding value
returns c =
    let t = c.args in
    sym (and_block 64 t.self.high t.b.high t.self.low t.b.low (search rules) (search rules))
