-- `counts::differ`: no plane so far differs where the counters agree. Assumes nothing.
use Prim.Native.Nat.{ℕ}
use mathlib.Core.Path.{◌≡◌}
use mathlib.Core.Bool.{false}
use Rattle.masks.specs.Bit.{bit}
use Rattle.counts.specs.Planes.{count_at}
use Rattle.counts.proofs.differ.Given as goal

abbrev pub invariant-loop-j : goal.invariant-loop-j
invariant-loop-j g l =
    (v : ℕ) → count_at (g.T.Term.numbers l.p) v ≡ count_at (g.T.Term.numbers l.q) v → bit (g.T.Term.value l.d) v ≡ false
