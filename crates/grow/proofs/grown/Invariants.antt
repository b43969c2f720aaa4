-- `grow::grown` takes steps until the part is whole. The invariant: y is still growing within the part (Rounds). Assumes nothing.
use Prim.Native.Nat.{ℕ, ◌-◌}
use mathlib.Core.Path.{◌≡◌}
use lib.ListN.{length}
use Rattle.splitting.proofs.Growing.{Growing}
use Rattle.grow.proofs.grown.Given as goal

abbrev pub invariant-loop-counts : goal.invariant-loop-counts
invariant-loop-counts g l =
    (length l.inner ≡ length l.initial.inner) × (length l.outer ≡ length l.initial.outer)
    × ((i : ℕ) × Growing (g.T.Term.numbers l.f) i (g.T.Term.value l.y))

abbrev pub decreases-loop-counts : goal.decreases-loop-counts
decreases-loop-counts g l = g.T.Term.value l.all - g.T.Term.value l.y
