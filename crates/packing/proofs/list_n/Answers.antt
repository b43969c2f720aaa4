-- `list_n` gives n: of terms that ascend the last one has the highest variable. Assumes nothing.
use native.Mathlib.Omega.{arith}
use mathlib.Core.Path.{sym, ap, ◌∙◌}
use Prim.Native.Nat.{◌-◌}
use Rattle.masks.specs.Width.{width}
use Rattle.masks.proofs.Width.{width_le}
use Rattle.narrow.specs.Numbers.{numbers, lines}
use Rattle.narrow.specs.Laws.{numbers_fit}
use Rattle.packing.proofs.Variables.{width_of_none, width_by_last}
use Rattle.packing.proofs.list_n.Goals as goal

pub returns-then-t-eq0 : goal.returns-then-t-eq0
returns-then-t-eq0 c = (sym (width_of_none (numbers c.args.terms.now) (sym c.count-t.ensures ∙ c.if-t-eq0.true)), omega arith)

pub returns : goal.returns
returns c =
    let terms = numbers c.args.terms.now in
    let k = c.count-t.result - 1 in
    let top = c.top.ensures ∙ ap width c.at.ensures in (
      top ∙ sym (width_by_last terms k c.requires (omega (arith, c.count-t.ensures))),
      omega (arith, top, width_le lines _ (numbers_fit c.args.terms.now (λ i. (c.type_inv.terms i).fits) k)),
    )
