-- `counts::add_planes`: the carry and the planes from j on are what the counters still lack. Assumes nothing.
use Prim.Native.Nat.{ℕ, ◌+◌, ◌*◌, ◌^◌}
use mathlib.Core.Path.{◌≡◌}
use lib.ListN.{length, drop}
use Rattle.counts.specs.Planes.{digit, count_at}
use Rattle.counts.proofs.add_planes.Given as goal

abbrev pub invariant-loop-j : goal.invariant-loop-j
invariant-loop-j g l = record {
  size : length (g.T.Term.numbers l.sum) ≡ length (g.T.Term.numbers l.initial.sum);
  counts : (v : ℕ)
      → count_at (g.T.Term.numbers l.sum) v + 2 ^ (l.at + l.j) * (digit (g.T.Term.value l.c) v + count_at (drop l.j (g.T.Term.numbers l.planes)) v)
      ≡ count_at (g.T.Term.numbers l.initial.sum) v + 2 ^ l.at * count_at (g.T.Term.numbers l.planes) v;
}
