-- `runs::shape_of` goes by which half is empty. Assumes nothing.
use Rattle.runs.proofs.Facts.{shape_divided, shape_free, shape_mixed}
use Rattle.runs.proofs.shape_of.Goals as goal

pub returns-then-count-eq0 : goal.returns-then-count-eq0
returns-then-count-eq0 g c = shape_divided _ _ (cc)

pub returns-then-count-eq0-2 : goal.returns-then-count-eq0-2
returns-then-count-eq0-2 g c = shape_free _ _ (λ e. c.if-count-eq0.false (cc)) (cc)

pub returns : goal.returns
returns g c = shape_mixed _ _ (λ e. c.if-count-eq0.false (cc)) (λ e. c.if-count-eq0-2.false (cc))
