-- `scan` meets its contract: a text that begins with `0` has nothing but the line feed behind it. Assumes nothing.
use Rattle.scan.proofs.Sums.{zero_goes_on, zero_ends}
use Rattle.scan.proofs.scan.Goals as goal

pub returns-in-48-eq10 : goal.returns-in-48-eq10
returns-in-48-eq10 c =
    let i = c.in-48-eq10 in
    zero_ends _ _ _ _ _ _ c.byte_at.ensures i.is-0 c.byte_at-2.ensures _ i.is-1 c.finish.ensures

pub returns-in-48-default : goal.returns-in-48-default
returns-in-48-default c =
    let i = c.in-48-default in
    zero_goes_on _ _ _ _ _ _ c.byte_at.ensures i.is-0 c.byte_at-2.ensures _ i.is-1.1 c.sign.ensures
