-- `product` meets its contract: variable by variable to the byte that ends the term. Assumes nothing.
use Prim.Native.Nat.{◌-◌}
use lib.ListN.{length}
use Rattle.scan.proofs.Products.{Going}
use Rattle.scan.proofs.product.Given as goal

abbrev pub invariant-loop-value : goal.invariant-loop-value
invariant-loop-value l = Going 64 l.text l.from l.term l.at

abbrev pub decreases-loop-value : goal.decreases-loop-value
decreases-loop-value l = length l.text - l.at
