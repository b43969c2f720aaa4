-- `grow::grown` takes steps until the part is whole. The invariant: y is still growing within the part (Rounds). Assumes nothing.
use native.Mathlib.Omega.{arith}
use mathlib.Core.Path.{refl, ◌∙◌}
use Rattle.grow.proofs.Rounds.{first_round, ready_for_step, ends_growing}
use Rattle.grow.proofs.grown.Goals as goal

pub loop-counts-init : goal.loop-counts-init
loop-counts-init g c =
    let v = g.T.Term.value in
    let a = c.args in (
      refl,
      refl,
      first_round (g.T.Term.numbers a.f.now) (v a.all) c.requires.0 c.requires.1 (v c.lowest-x.result) c.lowest-x.ensures
          (v c.counted-more.result) (v c.or-y.result) c.counted-more.ensures c.or-y.ensures,
    )

pub one_step-requires : goal.one_step-requires
one_step-requires g c =
    let here = c.loop-counts in
    let a = c.args in
    let same_length = g.T.Term.laws.numbers_same_length in (
      ready_for_step (g.T.Term.numbers a.f.now) (g.T.Term.value a.all) c.requires.0 (g.T.Term.value here.y) here.invariant.2.0 here.invariant.2.1,
      c.requires.2,
      omega (arith, c.requires.3, same_length here.inner a.inner.now here.invariant.0),
      omega (arith, c.requires.4, same_length here.outer a.outer.now here.invariant.1),
    )

pub loop-counts-smaller : goal.loop-counts-smaller
loop-counts-smaller g c =
    let v = g.T.Term.value in
    let here = c.loop-counts in
    let a = c.args in
    let grown =
    ends_growing (g.T.Term.numbers a.f.now) (v a.all) c.requires.0 (v here.y) here.invariant.2.0 here.invariant.2.1 (v c.in-Grow.more)
    (v c.or-y-in-Grow.result) c.in-Grow.ensures c.or-y-in-Grow.ensures
    in
    omega (arith, grown.1, grown.2)

pub loop-counts-preserved : goal.loop-counts-preserved
loop-counts-preserved g c =
    let v = g.T.Term.value in
    let made = c.one_step in
    let here = c.loop-counts in
    let a = c.args in
    let grown =
    ends_growing (g.T.Term.numbers a.f.now) (v a.all) c.requires.0 (v here.y) here.invariant.2.0 here.invariant.2.1 (v c.in-Grow.more)
    (v c.or-y-in-Grow.result) c.in-Grow.ensures c.or-y-in-Grow.ensures
    in
    (made.auto.inner ∙ here.invariant.0, made.auto.outer ∙ here.invariant.1, (here.invariant.2.0, grown.0))
