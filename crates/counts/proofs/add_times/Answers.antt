-- `counts::add_times`: what the planes from j on still call for is what the counters lack (Products). Assumes nothing.
use native.Mathlib.Omega.{arith}
use Prim.Native.Nat.{ℕ, ◌^◌, ◌<◌}
use mathlib.Core.Path.{ap, ◌∙◌}
use mathlib.Core.Bool.{true, false}
use lib.ListN.{length}
use Rattle.counts.specs.Planes.{count_at}
use Rattle.counts.proofs.Terms.{plane_says}
use Rattle.counts.proofs.Products.{times_step, times_over}
use Rattle.counts.proofs.add_times.Goals.{then-same, else-same}
use Rattle.counts.proofs.add_times.Goals as goal

pub add_planes-requires : goal.add_planes-requires
add_planes-requires g c =
    let a = c.args in
    let here = c.loop-j in
    let by = g.T.Term.numbers a.by.now in
    let one = c.requires.0 in
    let within : here.j < length by = omega (arith, c.count-j-end.ensures) in
    let holds = plane_says by here.j (g.T.Term.value c.at.result) (g.T.Term.value a.b) one.0 one.1 c.at.ensures (g.T.Term.value c.and.result)
    c.same.result true c.and.ensures c.same.ensures c.if-same.true in (
      (λ v.
          omega (
            arith,
            here.invariant.counts one.0 one.1 v,
            times_step by here.j one.0 (count_at (g.T.Term.numbers a.planes.now) v) 1 within holds,
            one.2 v,
            ap (λ (k : ℕ). 2 ^ k) here.invariant.size,
          )),
      omega (arith, within, here.invariant.size, c.requires.1),
    )

pub loop-j-preserved : goal.loop-j-preserved
loop-j-preserved g c =
    let a = c.args in
    let here = c.loop-j in
    let numbers = g.T.Term.numbers in
    let by = numbers a.by.now in
    let within : here.j < length by = omega (arith, c.count-j-end.ensures) in
    elim c.if-same.branch [
      | then-same k ↦ record {
        size = ap (λ s. length (numbers s)) k.sum-is ∙ k.add_planes.ensures.size ∙ here.invariant.size;
        counts = λ w e v.
            omega (
              arith,
              here.invariant.counts w e v,
              ap (λ s. count_at (numbers s) v) k.sum-is,
              k.add_planes.ensures.counts v,
              times_step by here.j w (count_at (numbers a.planes.now) v) 1 within
                  (plane_says by here.j (g.T.Term.value c.at.result) (g.T.Term.value a.b) w e c.at.ensures (g.T.Term.value c.and.result)
                  c.same.result true c.and.ensures c.same.ensures k.if-same.true),
            );
      }
      | else-same k ↦ record {
        size = ap (λ s. length (numbers s)) k.sum-is ∙ here.invariant.size;
        counts = λ w e v.
            omega (
              arith,
              here.invariant.counts w e v,
              ap (λ s. count_at (numbers s) v) k.sum-is,
              times_step by here.j w (count_at (numbers a.planes.now) v) 0 within
                  (plane_says by here.j (g.T.Term.value c.at.result) (g.T.Term.value a.b) w e c.at.ensures (g.T.Term.value c.and.result)
                  c.same.result false c.and.ensures c.same.ensures k.if-same.false),
            );
      }
    ]

pub returns : goal.returns
returns g c =
    λ w e.
    let a = c.args in
    let here = c.loop-j in
    record {
      size = here.invariant.size;
      counts = λ v.
          omega (
            arith,
            here.invariant.counts w e v,
            times_over (g.T.Term.numbers a.by.now) here.j w (count_at (g.T.Term.numbers a.planes.now) v) (omega (arith, c.count-j-end.ensures)),
          );
    }
