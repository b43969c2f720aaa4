-- `packing::Body::unpack` meets its contract. The loop's invariant: the first `i` terms stand in `out`, and behind them what stood there.
-- Assumes nothing.
use mathlib.Core.Path.{◌≡◌}
use mathlib.Core.List.{◌++◌}
use Prim.Native.Nat.{◌+◌, ◌*◌}
use lib.ListN.{length, take, drop}
use Rattle.narrow.specs.Numbers.{numbers}
use Rattle.digits.specs.Number.{fields}
use Rattle.packing.proofs.Body.unpack.Given as goal

abbrev pub invariant-loop-i : goal.invariant-loop-i
invariant-loop-i l = (l.at ≡ 24 + l.n * l.i) × (numbers l.out ≡ take l.i (fields l.bytes 24 l.n l.t) ++ drop l.i (numbers l.initial.out)) × (length l.out ≡ length l.initial.out)
