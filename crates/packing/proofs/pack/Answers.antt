-- `packing::pack` meets its contract. The loop's invariant: the header and the first `k` terms are written (`Packed`).
-- Assumes nothing.
use native.Mathlib.Omega.{arith}
use mathlib.Core.Path.{◌≡◌, sym, ap, ◌∙◌, subst}
use mathlib.Core.List.{List}
use Prim.Native.Nat.{ℕ, ◌+◌, ◌*◌, ◌^◌, ◌≤◌, ◌<◌}
use lib.ListN.{length, get_or}
use lib.Pow.{pow_pos}
use Rattle.narrow.specs.Numbers.{numbers}
use Rattle.packing.specs.Format.{size}
use Rattle.packing.proofs.Terms.{few_bits, within}
use Rattle.packing.proofs.Variables.{terms_fit}
use Rattle.packing.proofs.Packing.{Packed, packed_header, packed_more, packed_all, over_old}
use Rattle.packing.proofs.pack.Goals as goal

pub loop-k-init : goal.loop-k-init
loop-k-init c =
    let a = c.args in
    let counted = c.count-t.ensures in
    (counted, packed_header (numbers a.terms.now) a.n _ a.out.now _ _ (omega (arith, counted)) (omega arith) c.put-carry.ensures)

pub put_field-carry-requires : goal.put_field-carry-requires
put_field-carry-requires c =
    let list : List ℕ = numbers c.args.terms.now in
    let count : ℕ = c.count-t.result in
    let few = few_bits c.args.n c.count-t.result c.requires.1 (omega (arith, c.count-t.ensures)) in
    let fits : size c.args.n c.count-t.result ≤ length c.args.out.now = subst (λ (t : ℕ). size c.args.n t ≤ length c.args.out.now) (sym c.count-t.ensures) c.requires.3 in
    let l = c.loop-k in
    let behind = within c.args.n l.k count c.loop-k-test.true in (
      l.invariant.1.fits,
      subst (λ (t : ℕ). t < 2 ^ c.args.n) (sym c.at.ensures)
          (subst (λ (k : ℕ). get_or list l.k 0 < 2 ^ k) (sym c.requires.0) (terms_fit list l.k)),
      c.requires.1,
      omega (arith, few, behind, l.invariant.1.place),
      omega (arith, fits, behind, l.invariant.1.place, l.invariant.1.same, c.put-carry.ensures.same),
    )

pub overflow_add-at : goal.overflow_add-at
overflow_add-at c =
    let count : ℕ = c.count-t.result in
    let list : List ℕ = numbers c.args.terms.now in
    let few = few_bits c.args.n c.count-t.result c.requires.1 (omega (arith, c.count-t.ensures)) in
    omega (arith, few, within c.args.n c.loop-k.k count c.loop-k-test.true, c.loop-k.invariant.1.place)

pub loop-k-preserved : goal.loop-k-preserved
loop-k-preserved c =
    let list : List ℕ = numbers c.args.terms.now in
    let l = c.loop-k in (
      l.invariant.0,
      packed_more list c.args.n _ _ l.out l.at l.carry l.k _ _ (omega (arith, l.invariant.0)) l.invariant.1
          (rw (sym c.at.ensures) c.put_field-carry.ensures),
    )

pub put-requires : goal.put-requires
put-requires c =
    let list : List ℕ = numbers c.args.terms.now in
    let count : ℕ = c.count-t.result in
    let few = few_bits c.args.n c.count-t.result c.requires.1 (omega (arith, c.count-t.ensures)) in
    let fits : size c.args.n c.count-t.result ≤ length c.args.out.now = subst (λ (t : ℕ). size c.args.n t ≤ length c.args.out.now) (sym c.count-t.ensures) c.requires.3 in
    -- behind the last term
    let at_end : c.loop-k.at ≡ 24 + c.args.n * count = c.loop-k.invariant.1.place ∙ ap (λ (i : ℕ). 24 + c.args.n * i) (omega (arith, c.loop-k.invariant.0)) in
    let inv = c.loop-k.invariant.1 in (
      inv.fits,
      pow_pos _,
      omega (arith, at_end),
      omega (arith, few, at_end),
      omega (arith, at_end, fits, inv.same, c.put-carry.ensures.same),
    )

pub returns : goal.returns
returns c =
    let list : List ℕ = numbers c.args.terms.now in
    let count : ℕ = c.count-t.result in
    let l = c.loop-k in
    let header = c.put-carry.ensures in
    over_old list c.args.out.now _ _ _ _ header
    (packed_all list c.args.n count _ l.out l.at l.carry _ _ l.invariant.0 c.requires.0 (omega (arith, c.requires.3, header.same))
    (λ i. (c.type_inv.out i).fits)
    (subst (Packed list c.args.n _ _ l.out l.at l.carry) {x = l.k} {y = count} (omega (arith, l.invariant.0)) l.invariant.1)
    c.put.ensures)

pub overflow_mul-header : goal.overflow_mul-header
overflow_mul-header c = omega (arith, c.count-t.ensures)

pub overflow_add-header-2 : goal.overflow_add-header-2
overflow_add-header-2 c = omega (arith, c.count-t.ensures)

pub put-carry-requires : goal.put-carry-requires
put-carry-requires c = (omega arith, omega (arith, c.count-t.ensures), omega arith, omega arith, omega arith)

pub overflow_mul-n : goal.overflow_mul-n
overflow_mul-n c =
    let list : List ℕ = numbers c.args.terms.now in
    let count : ℕ = c.count-t.result in
    let few = few_bits c.args.n c.count-t.result c.requires.1 (omega (arith, c.count-t.ensures)) in
    omega (arith, few)

pub overflow_add-n : goal.overflow_add-n
overflow_add-n c =
    let list : List ℕ = numbers c.args.terms.now in
    let count : ℕ = c.count-t.result in
    let few = few_bits c.args.n c.count-t.result c.requires.1 (omega (arith, c.count-t.ensures)) in
    omega (arith, few)

pub overflow_add-n-2 : goal.overflow_add-n-2
overflow_add-n-2 c =
    let list : List ℕ = numbers c.args.terms.now in
    let count : ℕ = c.count-t.result in
    let few = few_bits c.args.n c.count-t.result c.requires.1 (omega (arith, c.count-t.ensures)) in
    omega (arith, few)

pub overflow_mul-n-2 : goal.overflow_mul-n-2
overflow_mul-n-2 c =
    let list : List ℕ = numbers c.args.terms.now in
    let count : ℕ = c.count-t.result in
    let few = few_bits c.args.n c.count-t.result c.requires.1 (omega (arith, c.count-t.ensures)) in
    omega (arith, few)

pub overflow_sub-n : goal.overflow_sub-n
overflow_sub-n c =
    let list : List ℕ = numbers c.args.terms.now in
    let count : ℕ = c.count-t.result in
    let few = few_bits c.args.n c.count-t.result c.requires.1 (omega (arith, c.count-t.ensures)) in
    -- behind the last term
    let at_end : c.loop-k.at ≡ 24 + c.args.n * count = c.loop-k.invariant.1.place ∙ ap (λ (i : ℕ). 24 + c.args.n * i) (omega (arith, c.loop-k.invariant.0)) in
    omega (arith, few, at_end)
