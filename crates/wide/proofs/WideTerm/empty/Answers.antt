-- `wide::empty` meets its contract: both words are 0. Assumes nothing.
use borrow.Author.Rules.{rules}
use mathlib.Core.Path.{ap, ◌∙◌}
use Prim.Native.Nat.{ℕ, ◌+◌, ◌*◌, ◌^◌}
use lib.Dec.{eqb}
use Rattle.wide.proofs.Blocks.{same_low, same_high}
use Rattle.wide.specs.Numbers.{value}
use Rattle.wide.proofs.WideTerm.empty.Goals as goal

pub returns-then-self-eq0 : goal.returns-then-self-eq0
unfolding value
returns-then-self-eq0 c =
    let t = c.args in
    same_low 64 t.self.high t.self.low 0 ∙ ap (λ (n : ℕ). eqb (t.self.high * 2 ^ 64 + t.self.low) (n * 2 ^ 64 + 0)) c.if-self-eq0.true

pub returns : goal.returns
unfolding value
returns c =
    let t = c.args in
    same_high 64 t.self.high 0 t.self.low 0 (search rules) (search rules) c.if-self-eq0.false
