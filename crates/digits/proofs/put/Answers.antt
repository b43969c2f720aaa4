-- `digits::put` meets its contract. The loop's invariant: what is written and what is left of `x` make the same number as at its start (`Written`).
-- Assumes nothing.
use native.Mathlib.Omega.{arith}
use mathlib.Core.Path.{refl, sym, subst}
use Prim.Native.Nat.{ℕ, ◌-◌, ◌/◌, ◌%◌, ◌^◌}
use lib.ListN.{length-set, length-take, length-drop}
use lib.Bits.{and_mask}
use Rattle.digits.specs.Carry.{Put}
use Rattle.masks.proofs.Low.{low_by_mask}
use Rattle.digits.proofs.Writing.{part_more, put_none, put_done, first_byte_fits}
use Rattle.digits.proofs.put.Goals as goal

pub returns-then-used-width-lt8 : goal.returns-then-used-width-lt8
returns-then-used-width-lt8 c =
    let a = c.args in
    put_none 64 a.out.now a.at a.carry a.x a.width c.requires.0 c.requires.1 (omega arith) (omega arith)

pub overflow_add-out : goal.overflow_add-out
overflow_add-out c =
    let a = c.args in
    omega (arith, first_byte_fits 64 a.carry a.x (a.at % 8) a.width c.requires.0 c.requires.1 (omega arith) (omega arith) (omega arith))

pub overflow_cast-out : goal.overflow_cast-out
overflow_cast-out c =
    let a = c.args in
    omega (arith, first_byte_fits 64 a.carry a.x (a.at % 8) a.width c.requires.0 c.requires.1 (omega arith) (omega arith) (omega arith))

pub loop-byte-preserved : goal.loop-byte-preserved
loop-byte-preserved c =
    let l = c.loop-byte in
    let a = c.args in
    part_more a.x _ l.byte-items _ _ _ l.left l.byte-index _ (omega (arith, length-set {A = ℕ}))
    (omega (arith, c.loop-byte-test.true, l.auto.byte-items))
    (omega (arith, c.loop-byte-test.true, l.invariant.place, length-take {A = ℕ}, length-drop {A = ℕ}))
    (and_mask (a.x / 2 ^ (l.left - 8)) 8) l.invariant

pub returns : goal.returns
returns c =
    let l = c.loop-byte in
    let a = c.args in
    subst (Put a.out.now a.at a.carry a.x a.width _) (sym (low_by_mask 64 a.x l.left (omega arith)))
    (put_done 64 a.out.now a.at a.carry a.x a.width _ l.left _ _ c.requires.0
    (omega arith) (omega arith) (omega arith)
    (omega (arith, c.loop-byte-test.false, l.invariant.place, length-take {A = ℕ}, length-drop {A = ℕ}, length-set {A = ℕ})) refl l.invariant)
