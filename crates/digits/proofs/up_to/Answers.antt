-- `digits::up_to` meets its contract. The loop's invariant: `value` is the field up to the byte that comes next. Assumes nothing.
use native.Mathlib.Omega.{arith}
use mathlib.Core.Path.{◌≡◌, ap, ◌∙◌}
use Prim.Native.Nat.{ℕ, ◌+◌, ◌-◌, ◌*◌, ◌/◌, ◌%◌}
use lib.ListN.{drop, length-take, length-drop}
use Rattle.digits.specs.Number.{bits}
use Rattle.digits.proofs.Bytes.{bits_inside, bits_part_more, bits_fit}
use Rattle.digits.proofs.up_to.Goals as goal

pub loop-byte-init : goal.loop-byte-init
loop-byte-init c =
    let a = c.args in
    c.piece-value.ensures
    ∙ bits_inside a.bytes.now a.at (8 - a.at % 8) (λ i. (c.type_inv.bytes i).fits) (omega arith) (omega arith)
    ∙ ap (bits a.bytes.now a.at) {x = 8 - a.at % 8} {y = 8 * (a.at / 8 + 1 + 0) - a.at} (omega arith)

pub overflow_mul-value : goal.overflow_mul-value
overflow_mul-value c =
    let a = c.args in
    let first = a.at / 8 + 1 in
    omega (
      arith,
      c.loop-byte.invariant,
      c.loop-byte-test.true,
      length-take (a.to - first) (drop first a.bytes.now),
      bits_fit a.bytes.now a.at (8 * (first + c.loop-byte.byte-index) - a.at) 56 (omega (arith, c.loop-byte-test.true, length-take (a.to - first) (drop first a.bytes.now))),
    )

pub overflow_add-value : goal.overflow_add-value
overflow_add-value c =
    let a = c.args in
    let first = a.at / 8 + 1 in
    let k = c.loop-byte.byte-index in
    let more = bits_part_more a.bytes.now a.at first a.to k c.loop-byte.value c.from.result (λ i. (c.type_inv.bytes i).fits)
    (omega arith) (omega arith) c.loop-byte-test.true c.loop-byte.invariant c.from.ensures
    in
    omega (arith, more, bits_fit a.bytes.now a.at (8 * (first + (k + 1)) - a.at) 64 (omega (arith, c.loop-byte-test.true, length-take (a.to - first) (drop first a.bytes.now))))

pub loop-byte-preserved : goal.loop-byte-preserved
loop-byte-preserved c =
    let a = c.args in
    bits_part_more a.bytes.now a.at (a.at / 8 + 1) a.to c.loop-byte.byte-index c.loop-byte.value c.from.result (λ i. (c.type_inv.bytes i).fits)
    (omega arith) (omega arith) c.loop-byte-test.true c.loop-byte.invariant c.from.ensures

pub returns : goal.returns
returns c =
    let a = c.args in
    let first = a.at / 8 + 1 in
    let last : c.loop-byte.byte-index ≡ a.to - first = omega (arith, c.loop-byte-test.false, length-take (a.to - first) (drop first a.bytes.now), length-drop first a.bytes.now) in
    c.loop-byte.invariant ∙ ap (λ (i : ℕ). bits a.bytes.now a.at (8 * i - a.at)) {y = a.to} (omega arith)
