-- `variable` meets its contract: a byte that may not stand behind a variable shows Sign. Assumes nothing.
use Rattle.scan.proofs.Products.{name_ends, name_goes_on}
use Rattle.scan.proofs.variable.Goals as goal

pub returns-then-ends_name : goal.returns-then-ends_name
returns-then-ends_name c = name_ends _ _ _ _ c.in_ok-found.ensures _ _ c.byte_at.ensures c.ends_name.ensures c.if-ends_name.true

pub returns-else-ends_name : goal.returns-else-ends_name
returns-else-ends_name c = name_goes_on _ _ _ _ c.in_ok-found.ensures _ _ _ c.byte_at.ensures c.ends_name.ensures c.if-ends_name.false c.sign.ensures
