-- `counts::tally` counts all terms. Assumes nothing.
use native.Mathlib.Omega.{arith}
use mathlib.Core.Path.{ap}
use lib.ListN.{length}
use Rattle.counts.proofs.Comparing.{terms_room}
use Rattle.counts.proofs.tally.Goals as goal

pub count-requires : goal.count-requires
count-requires g c =
    let a = c.args in
    let none = g.T.Term.value c.none.result in
    (terms_room none (g.T.Term.numbers a.f.now) (g.T.Term.numbers a.planes.now) c.requires.1 c.requires.0, omega (arith, ap length c.requires.1))
