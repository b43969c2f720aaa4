-- `write_checks` asks for the n of a list that ascends, and for the size of its block. Assumes nothing.
use native.Mathlib.Omega.{arith}
use Rattle.operands.proofs.Passed.{few, ascends}
use Rattle.packing.proofs.Terms.{few_bits}
use Rattle.block.proofs.write_checks.Goals as goal

pub list_n-n-requires : goal.list_n-n-requires
list_n-n-requires c = ascends _ 1 c.in_ok-check_order.ensures

pub block_size-size-requires : goal.block_size-size-requires
block_size-size-requires c =
    omega
    (arith, few 1024 _ 1 c.in_ok-check_count.ensures, few_bits c.list_n-n.result c.count-t.result c.list_n-n.ensures.1 (omega (arith, few 1024 _ 1 c.in_ok-check_count.ensures)))
