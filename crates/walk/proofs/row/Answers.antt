-- `row` goes on behind a row that stands in the list, and else walks it term by term. Assumes nothing.
use mathlib.Core.Path.{sym, ◌∙◌}
use native.Mathlib.Omega.{arith}
use borrow.Author.Tests.{eqb-true}
use Rattle.walk.proofs.Rows.{lies, part_length, row_along}
use Rattle.walk.proofs.row.Goals as goal

pub words-requires : goal.words-requires
words-requires g c = omega (arith, lies g.T.Term.laws c.args.f.now c.args.at c.count-n.result (omega arith))

pub words-requires-then-n-count : goal.words-requires-then-n-count
words-requires-then-n-count g c = omega (arith, lies g.T.Term.laws c.args.f.now c.args.at c.count-n.result (omega arith))

pub offset_bounds-f-words : goal.offset_bounds-f-words
offset_bounds-f-words g c = omega (arith, lies g.T.Term.laws c.args.f.now c.args.at c.count-n.result (omega arith))

pub slice_bounds-part-count : goal.slice_bounds-part-count
slice_bounds-part-count g c = omega (arith, lies g.T.Term.laws c.args.f.now c.args.at c.count-n.result (omega arith))

pub slice_bounds-part-start : goal.slice_bounds-part-start
slice_bounds-part-start g c = omega (arith, lies g.T.Term.laws c.args.f.now c.args.at c.count-n.result (omega arith))

pub differences-requires : goal.differences-requires
differences-requires g c =
    part_length g.T.Term.laws c.args.f.now c.args.at c.count-n.result (omega arith) c.words.ensures c.words-then-n-count.ensures ∙ c.count-n.ensures

pub returns-then-empty : goal.returns-then-empty
returns-then-empty g c =
    row_along g.T.Term.laws c.args.f.now c.args.at c.count-n.result (omega arith) c.words.ensures c.words-then-n-count.ensures
    (g.T.Term.value c.args.t) (g.T.Term.numbers c.args.b.now) (g.T.Term.value c.differences.result)
    c.count-n.ensures c.differences.ensures (eqb-true (g.T.Term.value c.differences.result) 0 (sym c.empty.ensures ∙ c.if-empty.true))
