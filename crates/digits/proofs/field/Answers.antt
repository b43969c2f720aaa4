-- `digits::field` meets its contract: the field lies inside one byte, or it is what stands up to its last whole byte and the head of the next.
-- Assumes nothing.
use native.Mathlib.Omega.{arith}
use mathlib.Core.Path.{sym, ap, ◌∙◌}
use Prim.Native.Nat.{ℕ, ◌+◌, ◌-◌, ◌/◌, ◌%◌, ◌^◌}
use lib.ListN.{get_or}
use Rattle.digits.specs.Number.{bits}
use Rattle.digits.proofs.Bits.{bits_none}
use Rattle.digits.proofs.Bytes.{bits_inside, bits_shifted_head, bits_fit}
use Rattle.digits.proofs.field.Goals as goal

pub returns-then-width-eq0 : goal.returns-then-width-eq0
returns-then-width-eq0 c =
    let a = c.args in
    sym (ap (bits a.bytes.now a.at) {y = 0} (omega arith) ∙ bits_none a.bytes.now a.at)

pub returns-then-whole-at : goal.returns-then-whole-at
returns-then-whole-at c =
    let a = c.args in
    c.piece.ensures
    ∙ ap (λ (i : ℕ). get_or a.bytes.now i 0 / 2 ^ (8 - (a.at % 8 + a.width)) % 2 ^ a.width) {y = a.at / 8} (omega arith)
    ∙ bits_inside a.bytes.now a.at a.width (λ i. (c.type_inv.bytes i).fits) (omega arith) (omega arith)

pub returns-then-tail-eq0 : goal.returns-then-tail-eq0
returns-then-tail-eq0 c =
    let a = c.args in
    c.up_to-value.ensures ∙ ap (bits a.bytes.now a.at) {y = a.width} (omega arith)

-- what was read up to the last byte, shifted, and the head of that byte are the field
pub returns : goal.returns
returns c =
    let a = c.args in
    bits_shifted_head 64 a.bytes.now a.at a.width (λ i. (c.type_inv.bytes i).fits) (omega arith) (omega arith) (omega arith)
    c.up_to-value.ensures
    c.piece-2.ensures

pub overflow_add-result : goal.overflow_add-result
overflow_add-result c =
    let a = c.args in
    omega (arith, returns c, bits_fit a.bytes.now a.at a.width 64 (omega arith))
