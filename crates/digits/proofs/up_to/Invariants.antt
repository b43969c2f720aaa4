-- `digits::up_to` meets its contract. The loop's invariant: `value` is the field up to the byte that comes next. Assumes nothing.
use mathlib.Core.Path.{◌≡◌}
use Prim.Native.Nat.{◌+◌, ◌-◌, ◌*◌}
use Rattle.digits.specs.Number.{bits}
use Rattle.digits.proofs.up_to.Given as goal

abbrev pub invariant-loop-byte : goal.invariant-loop-byte
invariant-loop-byte l = l.value ≡ bits l.bytes l.at (8 * (l.first + 1 + l.byte-index) - l.at)
