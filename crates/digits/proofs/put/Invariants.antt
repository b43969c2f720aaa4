-- `digits::put` meets its contract. The loop's invariant: what is written and what is left of `x` make the same number as at its start (`Written`).
-- Assumes nothing.
use Prim.Native.Nat.{◌+◌, ◌-◌, ◌*◌, ◌/◌, ◌%◌, ◌^◌}
use lib.ListN.{set}
use Rattle.digits.proofs.Writing.{Written, with_part}
use Rattle.digits.proofs.put.Given as goal

abbrev pub invariant-loop-byte : goal.invariant-loop-byte
invariant-loop-byte l =
    let left = l.initial.left in
    let out = set l.fn.out l.first (l.carry * 2 ^ (8 - l.used) % 2 ^ 64 + l.x / 2 ^ left) in
    Written l.x out left l.next (with_part l.next (l.next + left / 8 - l.next) out l.byte-items) l.left (l.next + l.byte-index)
