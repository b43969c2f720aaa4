-- `terms` meets its contract: term by term to the line feed. Assumes nothing.
use native.Mathlib.Omega.{arith}
use Rattle.scan.proofs.Sums.{feed_so, plus_so}
use Rattle.scan.proofs.terms.Goals as goal

pub returns-then-byte_at-eq10 : goal.returns-then-byte_at-eq10
returns-then-byte_at-eq10 c =
    let l = c.loop-count in
    feed_so _ _ _ _ _ _ _ l.invariant (omega arith) c.in_ok-found.found c.in_ok-found.ensures _ _ c.byte_at.ensures c.if-byte_at-eq10.true c.finish.ensures

pub loop-count-preserved : goal.loop-count-preserved
loop-count-preserved c =
    let l = c.loop-count in
    plus_so _ _ _ _ _ _ _ l.invariant (omega arith) c.in_ok-found.found c.in_ok-found.ensures _ c.byte_at.ensures c.if-byte_at-eq10.false
