-- `Wide::same` meets its contract: both words are. Assumes nothing.
use borrow.Author.Rules.{rules}
use mathlib.Core.Path.{◌∙◌}
use Rattle.wide.proofs.Blocks.{same_words}
use Rattle.wide.specs.Numbers.{value}
use Rattle.wide.proofs.WideTerm.same.Goals as goal

pub returns : goal.returns
unfolding value
returns c =
    let t = c.args in
    c.eq.ensures ∙ same_words 64 t.self.high t.b.high t.self.low t.b.low (search rules) (search rules)
