-- `packing::Body::first_unordered` meets its contract. The loop's invariant: `i` and the rise from there on make the first index in disorder.
-- Assumes nothing.
use mathlib.Core.Path.{◌≡◌}
use Prim.Native.Nat.{◌+◌, ◌-◌, ◌*◌, ◌≤◌}
use lib.ListN.{drop}
use Rattle.terms.specs.Order.{unordered, rising}
use Rattle.narrow.specs.Numbers.{value}
use Rattle.digits.specs.Number.{fields}
use Rattle.packing.proofs.Body.first_unordered.Given as goal

abbrev pub invariant-loop-i : goal.invariant-loop-i
invariant-loop-i l = (l.at ≡ 24 + l.n * l.i) × (1 ≤ l.i) × (l.i ≤ l.t) × (l.i + rising (value l.last) (drop l.i (fields l.bytes 24 l.n l.t)) ≡ unordered (fields l.bytes 24 l.n l.t))

abbrev pub decreases-loop-i : goal.decreases-loop-i
decreases-loop-i l = l.t - l.i
