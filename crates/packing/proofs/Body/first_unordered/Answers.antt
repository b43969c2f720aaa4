-- `packing::Body::first_unordered` meets its contract. The loop's invariant: `i` and the rise from there on make the first index in disorder.
-- Assumes nothing.
use native.Mathlib.Omega.{arith}
use borrow.Author.Tests.{ltb-true, ltb-false}
use mathlib.Core.Path.{sym, ap, ◌∙◌}
use Prim.Native.Nat.{ℕ}
use Rattle.narrow.specs.Numbers.{value}
use Rattle.digits.specs.Number.{bits, fields}
use Rattle.digits.proofs.Bits.{length_fields}
use Rattle.packing.proofs.Terms.{next_place, order_begins, order_goes_on, order_stops, order_ends}
use Rattle.terms.proofs.Order.{unordered_of_none}
use Rattle.packing.proofs.Body.first_unordered.Goals as goal

pub returns-then-t-eq0 : goal.returns-then-t-eq0
returns-then-t-eq0 c = sym (unordered_of_none (fields c.args.self.bytes.now 24 c.args.self.n c.args.self.t) (length_fields _ 24 c.args.self.n c.args.self.t ∙ c.if-t-eq0.true))

pub loop-i-init : goal.loop-i-init
loop-i-init c =
    let a = c.args.self in
    (omega arith, omega arith, omega arith, order_begins a.bytes.now a.n a.t (value c.field-last.result) (omega arith) c.field-last.ensures)

pub loop-i-preserved : goal.loop-i-preserved
loop-i-preserved c =
    let l = c.loop-i in
    let a = c.args.self in
    let above = ltb-true (value l.last) _ (sym c.less.ensures ∙ c.if-not-less.false) in (
      omega (arith, next_place a.n l.i, l.invariant.0),
      omega arith,
      omega arith,
      order_goes_on a.bytes.now a.n a.t l.i (value l.last) (value c.field-next.result) (omega arith)
          (c.field-next.ensures ∙ ap (λ (o : ℕ). bits a.bytes.now o a.n) l.invariant.0) above l.invariant.3,
    )

pub returns-then-t-i : goal.returns-then-t-i
returns-then-t-i c =
    let l = c.loop-i in
    let a = c.args.self in
    order_ends a.bytes.now a.n a.t l.i (value l.last) (omega arith) (omega arith) l.invariant.3

pub returns-then-not-less : goal.returns-then-not-less
returns-then-not-less c =
    let l = c.loop-i in
    let a = c.args.self in
    let low = ltb-false (value l.last) _ (sym c.less.ensures ∙ c.if-not-less.true) in
    order_stops a.bytes.now a.n a.t l.i (value l.last) (value c.field-next.result) (omega arith)
    (c.field-next.ensures ∙ ap (λ (o : ℕ). bits a.bytes.now o a.n) l.invariant.0) low l.invariant.3
