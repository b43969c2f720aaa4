-- `write_block` writes the block and counts its bytes. Assumes nothing.
use native.Mathlib.Omega.{arith}
use lib.ListN.{length}
use mathlib.Core.Path.{ap}
use Prim.Native.Nat.{ℕ, ◌*◌}
use Rattle.narrow.specs.Numbers.{numbers}
use Rattle.packing.proofs.Terms.{few_bits}
use Rattle.block.proofs.Writing.{Writable, writable, block_written}
use Rattle.block.proofs.write_block.Goals as goal

pub list_n-n-requires : goal.list_n-n-requires
list_n-n-requires c =
    -- what the checks have told
    let told : Writable 1024 (numbers c.args.terms.now) (length c.args.out.now) = writable 1024 (numbers c.args.terms.now) (length c.args.out.now) c.requires in
    told.ascend

pub pack-requires : goal.pack-requires
pack-requires c =
    -- what the checks have told
    let told : Writable 1024 (numbers c.args.terms.now) (length c.args.out.now) = writable 1024 (numbers c.args.terms.now) (length c.args.out.now) c.requires in
    let n = c.list_n-n.ensures in
    (n.0, n.1, omega (arith, told.few), omega (arith, told.fits, ap (λ (k : ℕ). k * length (numbers c.args.terms.now)) n.0))

pub block_size-requires : goal.block_size-requires
block_size-requires c =
    -- what the checks have told
    let told : Writable 1024 (numbers c.args.terms.now) (length c.args.out.now) = writable 1024 (numbers c.args.terms.now) (length c.args.out.now) c.requires in
    few_bits c.list_n-n.result c.count.result c.list_n-n.ensures.1 (omega (arith, c.count.ensures, told.few))

pub returns : goal.returns
returns c = search block_written
