-- `runs::matched` compares two lists term by term. The invariant: at all places passed the two products are one. The measure is what is
-- left of the length. Assumes nothing.
use Prim.Native.Nat.{ℕ, ◌≤◌, ◌<◌, ◌-◌}
use mathlib.Core.Path.{◌≡◌}
use lib.ListN.{length, get_or}
use Rattle.ring.specs.Lone.{Even}
use Rattle.runs.proofs.matched.Given as goal

abbrev pub invariant-loop-i : goal.invariant-loop-i
invariant-loop-i g l =
    (l.i ≤ length (g.T.Term.numbers l.d)) × (l.n ≡ length (g.T.Term.numbers l.d)) × (length (g.T.Term.numbers l.d) ≡ length (g.T.Term.numbers l.c))
    × ((j : ℕ) → j < l.i → Even l.k (g.T.Term.value l.u) (get_or (g.T.Term.numbers l.d) j 0) (g.T.Term.value l.v) (get_or (g.T.Term.numbers l.c) j 0))

abbrev pub decreases-loop-i : goal.decreases-loop-i
decreases-loop-i g l = length (g.T.Term.numbers l.d) - l.i
