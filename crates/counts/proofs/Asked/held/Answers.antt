-- `counts::Asked::held` keeps a term that holds x (Terms). Assumes nothing.
use native.Mathlib.Omega.{arith}
use mathlib.Core.Bool.{true, false}
use mathlib.Core.Path.{refl}
use Prim.Native.Nat.{◌+◌}
use Rattle.counts.proofs.Terms.{term_held, one_more}
use Rattle.counts.proofs.Asked.held.Goals as goal

pub returns-then-same : goal.returns-then-same
returns-then-same g c =
    λ v.
    let a = c.args in
    let x = g.T.Term.value a.self.now.x in
    let t = g.T.Term.value c.at-t.result in
    omega (
      arith,
      term_held x t v (g.T.Term.value c.and.result) t c.same.result true c.and.ensures c.same.ensures c.if-same.true refl,
      one_more x (g.T.Term.numbers a.self.now.f.now) a.i (a.i + 1) t v c.at-t.ensures refl c.requires,
    )

pub returns-else-same : goal.returns-else-same
returns-else-same g c =
    λ v.
    let a = c.args in
    let x = g.T.Term.value a.self.now.x in
    let t = g.T.Term.value c.at-t.result in
    omega (
      arith,
      term_held x t v (g.T.Term.value c.and.result) (g.T.Term.value c.none.result) c.same.result false c.and.ensures c.same.ensures
          c.if-same.false c.none.ensures,
      one_more x (g.T.Term.numbers a.self.now.f.now) a.i (a.i + 1) t v c.at-t.ensures refl c.requires,
    )
