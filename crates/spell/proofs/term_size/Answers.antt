-- `term_size` meets its contract: three bytes for each of the first ten variables, four for each of the others. Assumes nothing.
use native.Mathlib.Omega.{arith}
use native.Mathlib.Nat.{pos_of_ne-zero}
use borrow.Author.Rules.{rules}
use mathlib.Core.Path.{sym, ap, ◌∙◌}
use Prim.Native.Nat.{ℕ, ◌/◌, ◌^◌, ◌≤◌}
use lib.Bits.{bit_and}
use lib.Count.{ones}
use lib.ListN.{length}
use Rattle.spell.specs.Spelled.{spelled}
use Rattle.spell.proofs.Spelling.{constant_length}
use Rattle.spell.proofs.Sizes.{term_takes, few_short, few_long}
use Rattle.spell.proofs.term_size.Goals as goal

pub returns-then-term-eq0 : goal.returns-then-term-eq0
returns-then-term-eq0 c = (sym (ap (λ (t : ℕ). length (spelled t 0)) c.if-term-eq0.true ∙ constant_length 0), omega arith)

pub returns : goal.returns
returns c =
    -- there are at most ten of the one and 54 of the other
    let few : (ones (bit_and c.args.term 1023) ≤ 10) × (ones (c.args.term / 2 ^ 10) ≤ 54) = (few_short c.args.term, few_long c.args.term (search rules)) in
    (term_takes c.args.term (search rules) (pos_of_ne-zero c.if-term-eq0.false), omega (arith, few))
