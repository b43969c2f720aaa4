-- `next` of `Variables` hands out the lowest variable, and the others are left. Assumes nothing.
use native.Mathlib.Nat.{pos_of_ne-zero}
use native.Mathlib.Omega.{arith}
use borrow.Author.Rules.{rules}
use mathlib.Core.Path.{ap, ◌∙◌}
use lib.ListN.{length}
use Rattle.typed.specs.Says.{held}
use Rattle.spell.proofs.Lowest.{trailing_is_lowest, held_from_lowest}
use Rattle.spell.proofs.Spelling.{nothing_held}
use Rattle.spell.proofs.VariablesIterator.next.Goals as goal

pub returns-then-self-eq0-clause-steps : goal.returns-then-self-eq0-clause-steps
returns-then-self-eq0-clause-steps c = let e = ap held c.if-self-eq0.true ∙ nothing_held in (e, e)

pub returns-clause-steps : goal.returns-clause-steps
returns-clause-steps c =
    let some = pos_of_ne-zero c.if-self-eq0.false in
    held_from_lowest _ _ some (trailing_is_lowest 64 _ some (search rules))

pub returns-clause-goes : goal.returns-clause-goes
returns-clause-goes c =
    let some = pos_of_ne-zero c.if-self-eq0.false in
    let e = held_from_lowest _ _ some (trailing_is_lowest 64 c.args.self.now.0 some (search rules)) in
    record { on = λ h. (tt, tt, omega (arith, ap length e)); keeps = tt; rests = λ h. tt }
