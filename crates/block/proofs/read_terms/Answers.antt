-- `read_terms` writes the terms that the header announces. Assumes nothing.
use native.Mathlib.Omega.{arith}
use mathlib.Core.Path.{ap₂}
use Prim.Native.Nat.{◌*◌}
use Rattle.packing.proofs.Terms.{few_bits}
use Rattle.block.proofs.Reading.{readable, terms_written}
use Rattle.block.proofs.read_terms.Goals as goal

pub field-n-requires : goal.field-n-requires
field-n-requires c = omega (arith, (readable _ _ _ _ c.requires).whole)

pub field-t-requires : goal.field-t-requires
field-t-requires c = omega (arith, (readable _ _ _ _ c.requires).whole)

pub invariant_of-body : goal.invariant_of-body
invariant_of-body c =
    let told = readable _ _ _ _ c.requires in
    let n = c.field-n in
    let t = c.field-t in
    let few = few_bits n.result t.result (omega (arith, n.ensures, told.in_range)) (omega (arith, t.ensures, told.few)) in
    record { fits = omega (arith, few, ap₂ ◌*◌ n.ensures t.ensures, n.ensures, told.in_range, told.whole, t.ensures) }

pub unpack-requires : goal.unpack-requires
unpack-requires c = omega (arith, c.field-t.ensures, (readable _ _ _ _ c.requires).fits)

pub returns : goal.returns
returns c = search terms_written
