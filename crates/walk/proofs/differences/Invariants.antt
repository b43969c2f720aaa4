-- `differences` collects where a row and a list differ. The invariant: where nothing is collected the first i terms are alike.
-- Assumes nothing.
use mathlib.Core.Path.{◌≡◌}
use Rattle.walk.specs.Walk.{Alike}
use Rattle.walk.proofs.differences.Given as goal

abbrev pub invariant-loop-i : goal.invariant-loop-i
invariant-loop-i g l = g.T.Term.value l.all ≡ 0 → Alike (g.T.Term.value l.t) (g.T.Term.numbers l.b) (g.T.Term.numbers l.f) l.i
