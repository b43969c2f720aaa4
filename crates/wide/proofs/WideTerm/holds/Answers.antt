-- `wide::holds` meets its contract: the digit that is tested is the bit, in the low word or in the high one. Assumes nothing.
use borrow.Author.Rules.{rules}
use mathlib.Core.Path.{◌∙◌}
use Prim.Native.Nat.{◌-◌}
use Rattle.masks.proofs.Low.{bit_by_digit}
use Rattle.wide.proofs.Blocks.{bit_of_low, bit_of_high}
use Rattle.wide.specs.Numbers.{value}
use Rattle.wide.proofs.WideTerm.holds.Goals as goal

pub returns-then-k-lt64 : goal.returns-then-k-lt64
unfolding value
returns-then-k-lt64 c =
    let s = c.args in
    bit_by_digit s.self.low s.k ∙ bit_of_low 64 s.self.high s.self.low s.k (search rules) c.if-k-lt64.true

pub returns : goal.returns
unfolding value
returns c =
    let s = c.args in
    bit_by_digit s.self.high (s.k - 64) ∙ bit_of_high 64 s.self.high s.self.low s.k (search rules) c.if-k-lt64.false
