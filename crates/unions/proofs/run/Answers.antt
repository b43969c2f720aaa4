-- `run` counts the first terms that differ little from the first. Each answer is a law of Counting. Assumes nothing.
use Rattle.unions.proofs.Counting.{first_near, all_near, next_far, next_near}
use Rattle.unions.proofs.run.Goals as goal

pub loop-i-init : goal.loop-i-init
loop-i-init g c = search first_near

pub returns-then-less : goal.returns-then-less
returns-then-less g c = search next_far

pub loop-i-preserved : goal.loop-i-preserved
loop-i-preserved g c = search next_near

pub returns : goal.returns
returns g c = search all_near
