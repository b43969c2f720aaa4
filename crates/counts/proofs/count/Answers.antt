-- `counts::count`: what the planes and the low planes have counted and what is still to count add up. Assumes nothing.
use native.Mathlib.Omega.{arith}
use Prim.Native.Nat.{◌^◌}
use mathlib.Core.Path.{refl, ap, ◌∙◌}
use Rattle.counts.specs.Planes.{digit}
use Rattle.counts.proofs.Digits.{digit_none}
use Rattle.counts.proofs.Planes.{count_four}
use Rattle.counts.proofs.Terms.{none_left}
use Rattle.counts.proofs.Words.{empty_planes}
use Rattle.counts.proofs.count.Goals as goal

pub loop-b-init : goal.loop-b-init
loop-b-init g c =
    record {
      size = refl;
      counts = λ v. omega (arith, ap (λ n. digit n v) c.none-none.ensures, digit_none v);
    }

pub lay_four-requires : goal.lay_four-requires
lay_four-requires g c = empty_planes g.T.Term.laws 4 c.words.result 8 c.words.ensures (omega arith)

pub add_planes-requires : goal.add_planes-requires
add_planes-requires g c =
    let here = c.loop-i in
    let value = g.T.Term.value in
    let low =
    count_four (value c.loop-b.ones) (value c.loop-b.twos) (value c.loop-b.fours) (value c.loop-b.eights) (g.T.Term.numbers c.lay_four.new.low)
    c.lay_four.ensures
    in (
      (λ v. omega (arith, here.invariant.counts v, low.1 v, c.requires.0 v, ap (λ k. 2 ^ k) here.invariant.size)),
      omega (arith, low.0),
    )

pub returns : goal.returns
returns g c =
    let a = c.args in
    let here = c.loop-i in
    let value = g.T.Term.value in
    let low =
    count_four (value c.loop-b.ones) (value c.loop-b.twos) (value c.loop-b.fours) (value c.loop-b.eights) (g.T.Term.numbers c.lay_four.new.low)
    c.lay_four.ensures
    in
    let all = here.auto.i-end (omega arith) in
    record {
      size = c.add_planes.ensures.size ∙ here.invariant.size;
      counts = λ v.
          omega (
            arith,
            here.invariant.counts v,
            low.1 v,
            none_left (value a.x) (g.T.Term.numbers a.f.now) here.i v (omega (arith, c.count-n.ensures)),
            c.add_planes.ensures.counts v,
          );
    }
