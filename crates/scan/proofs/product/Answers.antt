-- `product` meets its contract: variable by variable to the byte that ends the term. Assumes nothing.
use Rattle.masks.proofs.Low.{one_shifted}
use Rattle.scan.proofs.Products.{going_first, again, term_ends, no_variable, goes_on}
use Rattle.scan.proofs.product.Goals as goal

pub loop-value-init : goal.loop-value-init
loop-value-init c = search going_first

pub returns-then-term-bit-ne0 : goal.returns-then-term-bit-ne0
returns-then-term-bit-ne0 c =
    let ended = c.in_ok-value.ensures in
    again _ _ _ _ _ c.in_ok-value.field-0 c.loop-value.invariant ended _ (one_shifted 64 c.in_ok-value.field-0.value ended.small) c.if-term-bit-ne0.true

pub returns-then-byte_at-ne42 : goal.returns-then-byte_at-ne42
returns-then-byte_at-ne42 c =
    let ended = c.in_ok-value.ensures in
    term_ends _ _ _ _ _ c.in_ok-value.field-0 c.loop-value.invariant ended _ (one_shifted 64 c.in_ok-value.field-0.value ended.small)
    c.if-term-bit-ne0.false _ c.byte_at.ensures c.if-byte_at-ne42.true

pub returns-then-byte_at-ne120 : goal.returns-then-byte_at-ne120
returns-then-byte_at-ne120 c =
    let ended = c.in_ok-value.ensures in
    no_variable _ _ _ _ _ c.in_ok-value.field-0 c.loop-value.invariant ended _ (one_shifted 64 c.in_ok-value.field-0.value ended.small)
    c.if-term-bit-ne0.false _ c.byte_at.ensures c.if-byte_at-ne42.false _ _ c.byte_at-in-loop-value.ensures c.if-byte_at-ne120.true c.sign.ensures

pub loop-value-preserved : goal.loop-value-preserved
loop-value-preserved c =
    let ended = c.in_ok-value.ensures in
    goes_on _ _ _ _ _ c.in_ok-value.field-0 c.loop-value.invariant ended _ (one_shifted 64 c.in_ok-value.field-0.value ended.small)
    c.if-term-bit-ne0.false _ c.byte_at.ensures c.if-byte_at-ne42.false _ c.byte_at-in-loop-value.ensures c.if-byte_at-ne120.false
