-- `runs::vanish` says whether one of two lists is empty. Each answer is one of the two tests. Assumes nothing.
use mathlib.Core.Logic.{inl, inr, ⊎_elim}
use Rattle.runs.proofs.vanish.Goals as goal

pub returns-then-count-eq0 : goal.returns-then-count-eq0
returns-then-count-eq0 g c = inl (cc)

pub returns-then-count-eq0-2 : goal.returns-then-count-eq0-2
returns-then-count-eq0-2 g c = inr (cc)

pub returns : goal.returns
returns g c = ⊎_elim (λ e. c.if-count-eq0.false (cc)) (λ e. c.if-count-eq0-2.false (cc))
