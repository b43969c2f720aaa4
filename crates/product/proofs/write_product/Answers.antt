-- `write_product` writes the product, where there is something to write. Assumes nothing.
use Prim.Native.Nat.{◌≤◌}
use lib.ListN.{length}
use native.Mathlib.Omega.{arith}
use Rattle.term.proofs.Places.{front_at, front_at_written}
use Rattle.product.proofs.Passing.{first_few, second_few, small, fits, ready, product_written, nothing_written}
use Rattle.product.proofs.write_product.Goals as goal

pub words-end-requires : goal.words-end-requires
words-end-requires g c =
    omega
    (arith, c.product_count-count.ensures, g.T.Term.laws.room_most c.product_count-count.result, small 1024 (g.T.Term.numbers c.args.a.now) (g.T.Term.numbers c.args.b.now) (g.T.Term.numbers c.args.out.now) c.requires)

pub slice_bounds-unions-end : goal.slice_bounds-unions-end
slice_bounds-unions-end g c =
    let out = c.args.out.now in
    let n = c.product_count-count.result in
    let within : n ≤ length (g.T.Term.numbers out) =
    omega (arith, c.product_count-count.ensures, fits 1024 (g.T.Term.numbers c.args.a.now) (g.T.Term.numbers c.args.b.now) (g.T.Term.numbers out) c.requires) in
    omega (arith, c.words-end.ensures, g.T.Term.laws.room_mono n (length (g.T.Term.numbers out)) within, g.T.Term.laws.room_fits out)

pub unions-requires : goal.unions-requires
unions-requires g c =
    let out = c.args.out.now in
    let n = c.product_count-count.result in
    ready 1024 (g.T.Term.numbers c.args.a.now) (g.T.Term.numbers c.args.b.now) (g.T.Term.numbers out) c.requires n c.product_count-count.ensures
    c.if-count-gt0.true _ (front_at g.T.Term.laws n c.words-end.result out c.words-end.ensures)

pub returns-then-count-gt0 : goal.returns-then-count-gt0
returns-then-count-gt0 g c =
    let out = c.args.out.now in
    let n = c.product_count-count.result in
    let x = c.words-end in
    let within : n ≤ length (g.T.Term.numbers out) =
    omega (arith, c.product_count-count.ensures, fits 1024 (g.T.Term.numbers c.args.a.now) (g.T.Term.numbers c.args.b.now) (g.T.Term.numbers out) c.requires) in
    product_written 1024 (g.T.Term.numbers c.args.a.now) (g.T.Term.numbers c.args.b.now) (g.T.Term.numbers out) c.requires n c.product_count-count.ensures
    _ _ c.unions.ensures (front_at_written g.T.Term.laws n x.result out c.unions.new.out within x.ensures c.unions.auto.out)

pub product_count-count-requires : goal.product_count-count-requires
product_count-count-requires g c = search (first_few, second_few)

pub returns-else-count-gt0 : goal.returns-else-count-gt0
returns-else-count-gt0 g c = search nothing_written
