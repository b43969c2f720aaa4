-- Every example of the table passes the test of Table, by computing it. Assumes nothing.
use Rattle.masks.specs.Bit.{bit}
use Rattle.polys.specs.List.{insert, collect}
use Rattle.polys.specs.Poly.{vars, onto, off}
use Rattle.terms.specs.Order.{rising, unordered}
use Rattle.exists.specs.PartsOf.{is_term, every, is_closed, common, first_vars, parts_in, parts_of}
use Rattle.taking.specs.Joined.{joined}
use Rattle.ring.specs.Same.{multiplied, is, count}
use Rattle.table.specs.Examples.{examples}
use Rattle.table.proofs.DeployRows.{code_of}
use Rattle.table.proofs.Table.{equal, all_equal, same_answers, said, found, passes, all_pass, fits, all_fit, right, all_right, all_right_hold}
use Rattle.table.proofs.examples_hold.Goals as goal

pub returns : goal.returns
unfolding bit insert collect vars onto off rising unordered is_term every is_closed common first_vars parts_in parts_of joined multiplied is count examples equal all_equal code_of same_answers said found passes all_pass fits all_fit right all_right
returns c = all_right_hold 64 1024 64 examples (tt {0})
