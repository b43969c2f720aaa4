-- `terms::variables`: what is gathered so far are the variables from the place on. Assumes nothing.
use Prim.Native.Nat.{◌≤◌}
use mathlib.Core.Path.{◌≡◌}
use lib.ListN.{length, drop}
use Rattle.polys.specs.Poly.{vars}
use Rattle.terms.proofs.variables.Given as goal

abbrev pub invariant-loop-i : goal.invariant-loop-i
invariant-loop-i g l = (l.i ≤ length (g.T.Term.numbers l.terms)) × (g.T.Term.value l.all ≡ vars (drop l.i (g.T.Term.numbers l.terms)))
