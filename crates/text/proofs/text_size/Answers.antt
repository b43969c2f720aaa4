-- `text_size` meets its contract: each term takes its bytes and the one behind it. Assumes nothing.
use native.Mathlib.Omega.{arith}
use borrow.Author.Tests.{eqb-true, eqb-false}
use mathlib.Core.Path.{sym, ◌∙◌}
use lib.ListN.{length}
use Rattle.text.proofs.Writing.{sized_first, sized_on, sized_all, zero_size}
use Rattle.text.proofs.text_size.Goals as goal

pub overflow_add-size : goal.overflow_add-size
overflow_add-size c = omega (arith, c.loop-term.invariant.few, c.requires, c.loop-term-test.true, c.term_size-size.ensures.1)

pub returns-then-is_empty : goal.returns-then-is_empty
returns-then-is_empty c = zero_size c.args.terms.now (eqb-true (length c.args.terms.now) 0 (sym c.is_empty.ensures ∙ c.if-is_empty.true))

pub loop-term-init : goal.loop-term-init
loop-term-init c = sized_first _

pub loop-term-preserved : goal.loop-term-preserved
loop-term-preserved c =
    sized_on _ _ _ _ c.loop-term.invariant c.loop-term-test.true c.term_size-size.ensures.0 c.term_size-size.ensures.1

pub returns : goal.returns
returns c = sized_all _ _ _ c.loop-term.invariant c.loop-term-test.false (eqb-false (length c.args.terms.now) 0 (sym c.is_empty.ensures ∙ c.if-is_empty.false))
