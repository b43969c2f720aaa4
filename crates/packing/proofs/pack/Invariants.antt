-- `packing::pack` meets its contract. The loop's invariant: the header and the first `k` terms are written (`Packed`).
-- Assumes nothing.
use mathlib.Core.Path.{◌≡◌}
use lib.ListN.{length}
use Rattle.narrow.specs.Numbers.{numbers}
use Rattle.packing.proofs.Packing.{Packed}
use Rattle.packing.proofs.pack.Given as goal

abbrev pub invariant-loop-k : goal.invariant-loop-k
invariant-loop-k l = (l.t ≡ length (numbers l.terms)) × Packed (numbers l.terms) l.n l.header l.initial.out l.out l.at l.carry l.k
