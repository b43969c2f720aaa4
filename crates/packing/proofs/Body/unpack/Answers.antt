-- `packing::Body::unpack` meets its contract. The loop's invariant: the first `i` terms stand in `out`, and behind them what stood there.
-- Assumes nothing.
use native.Mathlib.Omega.{arith}
use mathlib.Core.Path.{sym, ap, ap₂, ◌∙◌}
use mathlib.Core.List.{List, ◌++◌}
use Prim.Native.Nat.{ℕ}
use lib.ListN.{take, drop, set}
use Rattle.narrow.specs.Numbers.{numbers}
use Rattle.digits.specs.Number.{bits, fields}
use Rattle.digits.proofs.Bits.{length_fields}
use Rattle.packing.proofs.Terms.{next_place, field_at, fill_more}
use native.Mathlib.Numerals.{add-one}
use lib.Seq.{take_all}
use Rattle.packing.proofs.Body.unpack.Goals as goal

pub loop-i-preserved : goal.loop-i-preserved
loop-i-preserved c =
    let l = c.loop-i in
    let a = c.args.self in
    let all = fields a.bytes.now 24 a.n a.t in
    let read = c.field.ensures in (
      omega (arith, next_place a.n l.i, l.invariant.0),
      c.put.ensures
          ∙ ap₂ (λ (o : List ℕ) (x : ℕ). set o l.i x) l.invariant.1
          (read ∙ ap (λ (o : ℕ). bits a.bytes.now o a.n) l.invariant.0 ∙ sym (field_at a.bytes.now 24 a.n a.t l.i (omega arith)))
          ∙ fill_more all (numbers c.args.out.now) l.i (omega (arith, length_fields a.bytes.now 24 a.n a.t)) (omega arith)
          ∙ ap (λ (k : ℕ). take k all ++ drop k (numbers c.args.out.now)) (sym (add-one l.i)),
      c.put.auto.words ∙ l.invariant.2,
    )

pub returns : goal.returns
returns c =
    let l = c.loop-i in
    let a = c.args.self in
    let all = fields a.bytes.now 24 a.n a.t in
    let out = numbers c.args.out.now in
    l.invariant.1
    ∙ ap (λ (k : ℕ). take k all ++ drop k out) {x = l.i} {y = a.t} (omega arith)
    ∙ ap (λ (f : List ℕ). f ++ drop a.t out) (take_all a.t all (omega (arith, length_fields a.bytes.now 24 a.n a.t)))
