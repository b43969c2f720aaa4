-- `terms::first_unordered`: the terms passed, and the rise that is left, are the first place out of order. Assumes nothing.
use Prim.Native.Nat.{◌≤◌, ◌-◌, ◌+◌}
use mathlib.Core.Path.{◌≡◌}
use lib.ListN.{length, drop}
use Rattle.terms.specs.Order.{rising, unordered}
use Rattle.terms.proofs.first_unordered.Given as goal

abbrev pub invariant-loop-i : goal.invariant-loop-i
invariant-loop-i g l = (l.n ≡ length (g.T.Term.numbers l.terms)) × (1 ≤ l.i) × (l.i ≤ l.n) × (l.i + rising (g.T.Term.value l.last) (drop l.i (g.T.Term.numbers l.terms)) ≡ unordered (g.T.Term.numbers l.terms))

abbrev pub decreases-loop-i : goal.decreases-loop-i
decreases-loop-i g l = l.n - l.i
