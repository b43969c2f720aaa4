-- `counts::carry`: what is left to carry into plane j is what the counters still lack. Assumes nothing.
use Prim.Native.Nat.{ℕ, ◌+◌, ◌-◌, ◌*◌, ◌^◌}
use mathlib.Core.Path.{◌≡◌}
use lib.ListN.{length}
use Rattle.counts.specs.Planes.{digit, count_at, Room}
use Rattle.counts.proofs.carry.Given as goal

abbrev pub invariant-loop-c : goal.invariant-loop-c
invariant-loop-c g l = record {
  size : length (g.T.Term.numbers l.planes) ≡ length (g.T.Term.numbers l.initial.planes);
  room : Room (g.T.Term.numbers l.planes) (λ (v : ℕ). 2 ^ l.j * digit (g.T.Term.value l.c) v);
  counts : (v : ℕ)
      → count_at (g.T.Term.numbers l.planes) v + 2 ^ l.j * digit (g.T.Term.value l.c) v
      ≡ count_at (g.T.Term.numbers l.initial.planes) v + 2 ^ l.at * digit (g.T.Term.value l.initial.c) v;
}

abbrev pub decreases-loop-c : goal.decreases-loop-c
decreases-loop-c g l = length (g.T.Term.numbers l.initial.planes) - l.j
