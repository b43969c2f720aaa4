-- `terms::variables`: what is gathered so far are the variables from the place on. Assumes nothing.
use native.Mathlib.Omega.{arith}
use mathlib.Core.Path.{sym, ap, ◌∙◌}
use Prim.Native.Nat.{ℕ}
use Rattle.terms.proofs.Vars.{vars_at_end, vars_one_more, vars_from_start}
use lib.Bits.{bit_or}
use lib.ListN.{drop}
use Rattle.polys.specs.Poly.{vars}
use Rattle.terms.proofs.variables.Goals as goal

pub loop-i-init : goal.loop-i-init
loop-i-init g c =
    let terms = g.T.Term.numbers c.args.terms.now in
    let count = c.count-i.ensures in
    (omega (arith, count), c.none-all.ensures ∙ vars_at_end terms ∙ ap (λ (k : ℕ). vars (drop k terms)) (sym count))

pub loop-i-preserved : goal.loop-i-preserved
loop-i-preserved g c =
    let here = c.loop-i in
    let terms = g.T.Term.numbers c.args.terms.now in
    (omega arith, c.or-all.ensures ∙ ap (λ (t : ℕ). bit_or t (g.T.Term.value here.all)) c.at.ensures ∙ vars_one_more terms here.i (g.T.Term.value here.all) (omega arith) (omega arith) here.invariant.1)

pub returns : goal.returns
returns g c =
    let here = c.loop-i in
    here.invariant.1 ∙ vars_from_start (g.T.Term.numbers c.args.terms.now) here.i (omega arith)
