-- `grow::lay_whole` copies the list into the one room (Rooms), and writes the term 1 into the other (Laying). Assumes nothing.
use native.Mathlib.Omega.{arith}
use mathlib.Core.Path.{refl}
use mathlib.Core.List.{◌++◌}
use lib.ListN.{drop}
use Rattle.grow.proofs.Rooms.{copied}
use Rattle.grow.proofs.Laying.{laid_whole}
use Rattle.grow.proofs.lay_whole.Goals as goal

pub returns : goal.returns
returns g c =
    let n = g.T.Term.numbers in
    let a = c.args in
    let after = c.copy.new.room ++ drop c.words-end.result a.inner.now in
    laid_whole (n a.f.now) (n after) (n a.outer.now) (n c.put.new.words) c.count-part.result (g.T.Term.value c.none.result)
    (omega (arith, c.requires.0, c.requires.2)) c.count-part.ensures
    (copied g.T.Term.laws a.f.now a.inner.now after c.copy.new.room c.count-part.result c.words-end.result c.count-part.ensures
    c.words-end.ensures c.copy.ensures refl)
    c.none.ensures c.put.ensures
