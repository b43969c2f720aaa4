-- `wide::lowest` meets its contract: that of the low word, and where it has none that of the high one. Assumes nothing.
use borrow.Author.Rules.{rules}
use mathlib.Core.Path.{◌≡◌, sym, ap, ap₂, ◌∙◌}
use Prim.Native.Nat.{ℕ, ◌+◌, ◌-◌, ◌*◌, ◌^◌}
use Rattle.masks.specs.Bit.{without}
use Rattle.wide.proofs.Blocks.{lowest_low, lowest_high}
use Rattle.wide.specs.Numbers.{value}
use Rattle.wide.proofs.WideTerm.lowest.Goals as goal

pub returns-then-self-gt0 : goal.returns-then-self-gt0
unfolding value
returns-then-self-gt0 c =
    let s = c.args.self in
    sym (lowest_low 64 s.high s.low (search rules) (search rules))

pub returns-then-self-gt0-2 : goal.returns-then-self-gt0-2
unfolding value
returns-then-self-gt0-2 c =
    let s = c.args.self in
    let none : s.low ≡ 0 = search rules in
    sym (ap (λ (l : ℕ). without (s.high * 2 ^ 64 + l - 1) (s.high * 2 ^ 64 + l)) none ∙ lowest_high 64 s.high (search rules))

pub returns : goal.returns
unfolding value
returns c =
    let s = c.args.self in
    let low : s.low ≡ 0 = search rules in
    let high : s.high ≡ 0 = search rules in
    sym (ap₂ (λ (h l : ℕ). without (h * 2 ^ 64 + l - 1) (h * 2 ^ 64 + l)) high low)
