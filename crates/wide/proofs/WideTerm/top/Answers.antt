-- `wide::top` meets its contract: that of the high word, and where it has none that of the low one. Assumes nothing.
use native.Mathlib.Omega.{arith}
use borrow.Author.Rules.{rules}
use mathlib.Core.Path.{ap, ◌∙◌}
use Prim.Native.Nat.{ℕ, ◌+◌}
use lib.Count.{leading_le}
use Rattle.masks.specs.Width.{width}
use Rattle.masks.proofs.Width.{leading_and_width}
use Rattle.wide.proofs.Blocks.{low_alone, width_high}
use Rattle.wide.specs.Numbers.{value}
use Rattle.wide.proofs.WideTerm.top.Goals as goal

pub overflow_cast-result : goal.overflow_cast-result
overflow_cast-result c = omega (arith, leading_le 64 c.args.self.low)

pub overflow_sub-result : goal.overflow_sub-result
overflow_sub-result c = omega (arith, leading_le 64 c.args.self.low)

pub returns-then-self-eq0 : goal.returns-then-self-eq0
unfolding value
returns-then-self-eq0 c =
    let s = c.args.self in
    leading_and_width 64 s.low (search rules) ∙ ap width (low_alone 64 s.high s.low c.if-self-eq0.true)

pub overflow_cast-result-2 : goal.overflow_cast-result-2
overflow_cast-result-2 c = omega (arith, leading_le 64 c.args.self.high)

pub overflow_sub-result-2 : goal.overflow_sub-result-2
overflow_sub-result-2 c = omega (arith, leading_le 64 c.args.self.high)

pub returns : goal.returns
unfolding value
returns c =
    let s = c.args.self in
    ap (λ (n : ℕ). 64 + n) (leading_and_width 64 s.high (search rules))
    ∙ width_high 64 s.high s.low (search rules) (omega (arith, c.if-self-eq0.false))
