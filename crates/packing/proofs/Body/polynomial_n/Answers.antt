-- `packing::Body::polynomial_n` meets its contract: of terms that ascend the last one gives n.
-- Assumes nothing.
use native.Mathlib.Omega.{arith}
use mathlib.Core.Path.{sym, ap, ◌∙◌}
use Prim.Native.Nat.{◌-◌}
use Rattle.digits.specs.Number.{fields}
use Rattle.digits.proofs.Bits.{length_fields}
use Rattle.packing.proofs.Terms.{field_at}
use Rattle.masks.specs.Width.{width}
use Rattle.packing.proofs.Variables.{width_of_none, width_by_last}
use Rattle.packing.proofs.Body.polynomial_n.Goals as goal

pub returns-then-t-eq0 : goal.returns-then-t-eq0
returns-then-t-eq0 c =
    let a = c.args.self in
    sym (width_of_none (fields a.bytes.now 24 a.n a.t) (length_fields a.bytes.now 24 a.n a.t ∙ c.if-t-eq0.true))

pub returns : goal.returns
returns c =
    let a = c.args.self in
    c.top.ensures
    ∙ ap width (c.field-last.ensures ∙ sym (field_at a.bytes.now 24 a.n a.t (a.t - 1) (omega arith)))
    ∙ sym (width_by_last (fields a.bytes.now 24 a.n a.t) (a.t - 1) c.requires (omega (arith, length_fields a.bytes.now 24 a.n a.t)))
