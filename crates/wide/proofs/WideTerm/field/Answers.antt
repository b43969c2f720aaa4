-- `wide::field` meets its contract: a field wider than a word is its high bits and then its low ones. Assumes nothing.
use mathlib.Core.Path.{ap₂, ◌∙◌}
use Prim.Native.Nat.{ℕ, ◌+◌, ◌*◌, ◌^◌}
use native.Mathlib.Omega.{arith}
use Rattle.wide.specs.Numbers.{value}
use Rattle.wide.proofs.Fields.{field_joined}
use Rattle.wide.proofs.WideTerm.field.Goals as goal

pub returns-then-n-le64 : goal.returns-then-n-le64
unfolding value
returns-then-n-le64 c = omega (arith, c.field-low.ensures)

pub returns : goal.returns
unfolding value
returns c =
    ap₂ (λ (high low : ℕ). high * 2 ^ 64 + low) c.field-high.ensures c.field-low-2.ensures
    ∙ field_joined 64 c.args.bytes.now c.args.at c.args.n c.if-n-le64.false c.requires.2
