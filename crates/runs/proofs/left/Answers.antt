-- `runs::left` is the mask's width, or k where that is smaller. Assumes nothing.
use mathlib.Core.Path.{sym, subst}
use Rattle.runs.specs.Read.{Left}
use Rattle.runs.proofs.Facts.{left_by_width, left_all}
use native.Mathlib.Omega.{arith}
use Rattle.runs.proofs.left.Goals as goal

pub returns-then-w-k : goal.returns-then-w-k
returns-then-w-k g c =
    let a = c.args in
    subst (Left (g.T.Term.value a.m) a.k) (sym c.top-w.ensures)
    (left_by_width (g.T.Term.value a.m) a.k (omega (arith, c.top-w.ensures)))

pub returns-else-w-k : goal.returns-else-w-k
returns-else-w-k g c = left_all (g.T.Term.value c.args.m) c.args.k
