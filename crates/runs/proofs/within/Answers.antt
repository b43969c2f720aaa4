-- `runs::within` compares w with the width of the mask's bits below k. Assumes nothing.
use mathlib.Core.Path.{ap, subst, ◌∙◌}
use Prim.Native.Nat.{ℕ, ◌<◌, ◌≤◌}
use Rattle.masks.specs.Width.{width}
use Rattle.runs.proofs.Facts.{within_by_width, none_within}
use Rattle.runs.proofs.within.Goals as goal

pub returns-then-w-n : goal.returns-then-w-n
returns-then-w-n g c =
    let a = c.args in
    within_by_width (g.T.Term.value a.m) a.w a.k
    (subst (λ (n : ℕ). a.w < n) (c.top-n.ensures ∙ ap width c.low.ensures) c.if-w-n.true)

pub returns : goal.returns
returns g c =
    let a = c.args in
    none_within (g.T.Term.value a.m) a.w a.k
    (subst (λ (n : ℕ). n ≤ a.w) (c.top-n.ensures ∙ ap width c.low.ensures) c.if-w-n.false)
