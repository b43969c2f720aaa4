-- `wide::xor` meets its contract: word by word. Assumes nothing.
use borrow.Author.Rules.{rules}
use mathlib.Core.Path.{sym}
use lib.Bits.{xor_block}
use Rattle.wide.specs.Numbers.{value}
use Rattle.wide.proofs.WideTerm.xor.Goals as goal

pub returns : goal.returns
unfolding value
returns c =
    let t = c.args in
    sym (xor_block 64 t.self.high t.b.high t.self.low t.b.low (search rules) (search rules))
