-- `Wide::less` meets its contract: the derived order, high word first, is that of the numbers. Assumes nothing.
use borrow.Author.Rules.{rules}
use mathlib.Core.Path.{◌∙◌}
use Rattle.wide.proofs.Blocks.{less_words}
use Rattle.wide.specs.Numbers.{value}
use Rattle.wide.proofs.WideTerm.less.Goals as goal

pub returns : goal.returns
unfolding value
returns c =
    let t = c.args in
    c.lt.ensures ∙ less_words 64 t.self.high t.b.high t.self.low t.b.low (search rules) (search rules)
