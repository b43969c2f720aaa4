-- `grow::counted` asks the counts: what they put with a variable of y belongs to y (Bringing). Assumes nothing.
use Rattle.grow.proofs.Bringing.{belongs_by_counts}
use Rattle.grow.proofs.counted.Goals as goal

pub returns : goal.returns
returns g c =
    let a = c.args in
    let said = c.uneven.ensures in
    belongs_by_counts (g.T.Term.numbers a.f.now) (g.T.Term.value a.y) (g.T.Term.value a.w) (g.T.Term.value a.x) (g.T.Term.value c.uneven.result) c.requires.0
    c.requires.2 c.requires.3 said.inside said.uneven
