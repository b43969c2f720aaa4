-- `taking::common` keeps what each term passed holds. Assumes nothing.
use Prim.Native.Nat.{ℕ, ◌<◌}
use mathlib.Core.Path.{◌≡◌}
use lib.Bits.{bit_and}
use lib.ListN.{get_or}
use Rattle.taking.proofs.common.Given as goal

abbrev pub invariant-loop-i : goal.invariant-loop-i
invariant-loop-i g l = (k : ℕ) → k < l.i → bit_and (g.T.Term.value l.held) (get_or (g.T.Term.numbers l.list) k 0) ≡ g.T.Term.value l.held
