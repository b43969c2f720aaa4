-- `judge` asks the four-list test. Assumes nothing.
use native.Mathlib.Omega.{arith}
use mathlib.Core.Path.{sym, subst}
use Prim.Native.Nat.{ℕ}
use Rattle.cross.specs.Asked.{Runs}
use Rattle.same.proofs.Passing.{runs_if_passed}
use Rattle.same.proofs.judge.Goals as goal

pub same-requires : goal.same-requires
same-requires g c =
    let a = c.args in
    let numbers = g.T.Term.numbers in
    let fit = g.T.Term.laws.numbers_fit in
    let runs = runs_if_passed 1024 g.T.Term.LINES (numbers a.a.now) (numbers a.d.now) (numbers a.b.now) (numbers a.c.now) c.requires
    (fit a.a.now (λ i. (c.type_inv.a i).fits)) (fit a.d.now (λ i. (c.type_inv.d i).fits))
    (fit a.b.now (λ i. (c.type_inv.b i).fits)) (fit a.c.now (λ i. (c.type_inv.c i).fits)) in (
      omega arith,
      subst (λ (k : ℕ). Runs k (numbers a.a.now) (numbers a.d.now) (numbers a.b.now) (numbers a.c.now)) (sym c.LINES.ensures) runs,
    )
