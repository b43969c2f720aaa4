-- `row` writes the unions of one term with each term of a list. The invariant: the first i of them stand before what the room held.
use Prim.Native.Nat.{ℕ}
use mathlib.Core.Path.{refl, ap, ap₂, ◌∙◌}
use lib.Bits.{bit_or}
use mathlib.Core.List.{List}
use lib.ListN.{set}
use Rattle.unions.proofs.Rows.{written_more, written_all}
use native.Mathlib.Omega.{arith}
use Rattle.unions.proofs.row.Goals as goal

pub loop-i-init : goal.loop-i-init
loop-i-init g c = (refl, refl)

pub put-requires : goal.put-requires
put-requires g c = omega (arith, g.T.Term.laws.numbers_same_length c.loop-i.out c.args.out.now c.loop-i.invariant.0, c.requires)

pub loop-i-preserved : goal.loop-i-preserved
loop-i-preserved g c =
    let f = bit_or (g.T.Term.value c.args.t) in (
      c.put.auto.words ∙ c.loop-i.invariant.0,
      c.put.ensures
          ∙ ap₂ (λ (xs : List ℕ) (u : ℕ). set xs c.loop-i.i u) c.loop-i.invariant.1 (c.or.ensures ∙ ap f c.at.ensures)
          ∙ written_more f (g.T.Term.numbers c.args.b.now) (g.T.Term.numbers c.args.out.now) c.loop-i.i (omega arith) c.requires,
    )

pub shape_of-out : goal.shape_of-out
shape_of-out g c = c.loop-i.invariant.0

pub returns : goal.returns
returns g c =
    c.loop-i.invariant.1
    ∙ written_all (bit_or (g.T.Term.value c.args.t)) (g.T.Term.numbers c.args.b.now) (g.T.Term.numbers c.args.out.now) c.loop-i.i (omega arith) c.requires
