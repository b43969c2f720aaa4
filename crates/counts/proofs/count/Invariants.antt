-- `counts::count`: what the planes and the low planes have counted and what is still to count add up. Assumes nothing.
use Prim.Native.Nat.{ℕ, ◌+◌, ◌*◌}
use mathlib.Core.Path.{◌≡◌}
use lib.ListN.{length, drop}
use Rattle.counts.specs.Planes.{digit, count_at, holding}
use Rattle.counts.proofs.count.Given as goal

abbrev pub invariant-loop-b : goal.invariant-loop-b
invariant-loop-b g l = record {
  size : length (g.T.Term.numbers l.planes) ≡ length (g.T.Term.numbers l.fn.planes);
  counts : (v : ℕ)
      → count_at (g.T.Term.numbers l.planes) v
      + (digit (g.T.Term.value l.ones) v + 2 * digit (g.T.Term.value l.twos) v + 4 * digit (g.T.Term.value l.fours) v + 8 * digit (g.T.Term.value l.eights) v)
      + holding (g.T.Term.value l.fn.x) (drop (16 * l.b) (g.T.Term.numbers l.f)) v
      ≡ count_at (g.T.Term.numbers l.fn.planes) v + holding (g.T.Term.value l.fn.x) (g.T.Term.numbers l.f) v;
}

abbrev pub invariant-loop-i : goal.invariant-loop-i
invariant-loop-i g l = record {
  size : length (g.T.Term.numbers l.planes) ≡ length (g.T.Term.numbers l.fn.planes);
  counts : (v : ℕ)
      → count_at (g.T.Term.numbers l.planes) v
      + (digit (g.T.Term.value l.ones) v + 2 * digit (g.T.Term.value l.twos) v + 4 * digit (g.T.Term.value l.fours) v + 8 * digit (g.T.Term.value l.eights) v)
      + holding (g.T.Term.value l.fn.x) (drop l.i (g.T.Term.numbers l.f)) v
      ≡ count_at (g.T.Term.numbers l.fn.planes) v + holding (g.T.Term.value l.fn.x) (g.T.Term.numbers l.f) v;
}
