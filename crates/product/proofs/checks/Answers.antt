-- `product::checks` multiplies the counts of lists that are not too long. Assumes nothing.
use Rattle.operands.proofs.Passed.{few}
use Rattle.product.proofs.checks.Goals as goal

pub product_count-count-requires : goal.product_count-count-requires
product_count-count-requires g c = (few 1024 _ 1 c.in_ok-check_count.ensures, few 1024 _ 2 c.in_ok-check_count-2.ensures)
