-- `counts::add_times`: what the planes from j on still call for is what the counters lack. Assumes nothing.
use Prim.Native.Nat.{ℕ, ◌+◌, ◌*◌, ◌^◌}
use mathlib.Core.Path.{◌≡◌}
use lib.ListN.{length, drop}
use Rattle.counts.specs.Planes.{count_at}
use Rattle.counts.proofs.add_times.Given as goal

abbrev pub invariant-loop-j : goal.invariant-loop-j
invariant-loop-j g l = record {
  size : length (g.T.Term.numbers l.sum) ≡ length (g.T.Term.numbers l.initial.sum);
  counts : (w : ℕ) → g.T.Term.value l.b ≡ 2 ^ w
      → (v : ℕ)
      → count_at (g.T.Term.numbers l.sum) v
      + 2 ^ l.j * (count_at (drop l.j (g.T.Term.numbers l.by)) w * count_at (g.T.Term.numbers l.planes) v)
      ≡ count_at (g.T.Term.numbers l.initial.sum) v + count_at (g.T.Term.numbers l.by) w * count_at (g.T.Term.numbers l.planes) v;
}
