-- `wide::low` meets its contract: a mask on the low word or on the high one, and both words themselves where k is 128. Assumes nothing.
use native.Mathlib.Omega.{arith}
use native.Mathlib.Nat.{le_of_lt}
use borrow.Author.Rules.{rules}
use mathlib.Core.Path.{ap, ◌∙◌}
use Prim.Native.Nat.{ℕ, ◌+◌, ◌-◌, ◌*◌, ◌^◌}
use Rattle.masks.proofs.Low.{low_by_mask, mask_not_zero, low_of_all}
use Rattle.wide.proofs.Blocks.{low_of_low, low_of_high}
use Rattle.wide.specs.Laws.{two_fits}
use Rattle.wide.specs.Numbers.{two, value}
use Rattle.wide.proofs.WideTerm.low.Goals as goal

pub overflow_sub-result : goal.overflow_sub-result
overflow_sub-result c = mask_not_zero 64 c.args.k c.if-k-lt64.true

pub returns-then-k-lt64 : goal.returns-then-k-lt64
unfolding value
returns-then-k-lt64 c =
    let s = c.args in
    ap (λ (n : ℕ). 0 * 2 ^ 64 + n) (low_by_mask 64 s.self.low s.k c.if-k-lt64.true)
    ∙ low_of_low 64 s.self.high s.self.low s.k (search rules) (le_of_lt c.if-k-lt64.true)

pub overflow_sub-result-then-k-lt128-2 : goal.overflow_sub-result-then-k-lt128-2
overflow_sub-result-then-k-lt128-2 c = mask_not_zero 64 (c.args.k - 64) (omega arith)

pub returns-then-k-lt128 : goal.returns-then-k-lt128
unfolding value
returns-then-k-lt128 c =
    let s = c.args in
    ap (λ (n : ℕ). n * 2 ^ 64 + s.self.low) (low_by_mask 64 s.self.high (s.k - 64) (omega arith))
    ∙ low_of_high 64 s.self.high s.self.low s.k (search rules) c.if-k-lt64.false

pub returns : goal.returns
unfolding value
returns c =
    let t = c.args.self in
    low_of_all 128 (two t.low t.high) c.args.k (two_fits t.low t.high (search rules) (search rules)) c.requires c.if-k-lt128.false
