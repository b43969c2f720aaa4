-- `put_term` meets its contract: the names are stored one behind the other, from the lowest variable on. Assumes nothing.
use native.Mathlib.Omega.{arith}
use mathlib.Core.Path.{ap, ◌∙◌}
use Prim.Native.Nat.{ℕ}
use mathlib.Core.List.{List, ◌++◌}
use lib.ListN.{length, length-set}
use Rattle.spell.specs.Spelled.{spelled}
use Rattle.spell.proofs.Spelling.{variable_fits, name_fits, writing_on, ends_there, written_last, one_at_least, constant_length, constant_stored}
use Rattle.spell.proofs.put_term.Goals as goal

pub returns-then-term-eq0 : goal.returns-then-term-eq0
returns-then-term-eq0 c = let a = c.args in constant_stored a.out.now a.from a.term a.behind c.if-term-eq0.true

pub bounds-out-from-then-term-eq0 : goal.bounds-out-from-then-term-eq0
bounds-out-from-then-term-eq0 c =
    let a = c.args in
    omega (arith, c.requires, ap (λ (t : ℕ). length (spelled t a.behind)) c.if-term-eq0.true, constant_length a.behind, length-set {A = ℕ})

pub put_name-end-requires : goal.put_name-end-requires
put_name-end-requires c =
    let l = c.loop-variable in
    let step = c.in-Some.ensures.steps in (
      omega (arith, variable_fits _ _ _ _ c.ranges.term.fits (l.invariant.all ∙ ap (λ (vs : List ℕ). l.yielded ++ vs) step)),
      name_fits _ _ _ _ _ _ _ _ c.if-term-eq0.false l.invariant _ _ step c.requires l.auto.out,
    )

pub loop-variable-preserved : goal.loop-variable-preserved
loop-variable-preserved c =
    writing_on _ _ _ c.args.behind _ _ _ _ c.if-term-eq0.false c.loop-variable.invariant _ _ c.in-Some.ensures.steps _ _ c.put_name-end.ensures.0 c.put_name-end.ensures.1

pub overflow_sub-out : goal.overflow_sub-out
overflow_sub-out c = one_at_least _ _ _ c.args.behind _ _ _ _ c.if-term-eq0.false c.loop-variable.invariant c.in-None.ensures.steps.0

pub bounds-out-end : goal.bounds-out-end
bounds-out-end c =
    let a = c.args in
    let l = c.loop-variable in
    let e = ends_there _ _ _ a.behind _ _ _ _ c.if-term-eq0.false l.invariant c.in-None.ensures.steps.0 in
    let p = one_at_least _ _ _ a.behind _ _ _ _ c.if-term-eq0.false l.invariant c.in-None.ensures.steps.0 in
    omega (arith, e, p, c.requires, l.auto.out)

pub returns : goal.returns
returns c =
    let l = c.loop-variable in
    let n = c.in-None.ensures.steps.0 in (
      ends_there _ _ _ c.args.behind _ _ _ _ c.if-term-eq0.false l.invariant n,
      written_last _ _ _ c.args.behind _ _ _ _ c.if-term-eq0.false l.invariant n,
    )
