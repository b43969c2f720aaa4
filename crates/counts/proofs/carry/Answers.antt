-- `counts::carry`: what is left to carry into plane j is what the counters still lack (Planes). Assumes nothing.
use native.Mathlib.Omega.{arith}
use borrow.Author.Rules.{rules}
use Prim.Native.Nat.{◌<◌}
use mathlib.Core.Path.{◌∙◌}
use lib.ListN.{length}
use Rattle.counts.proofs.Planes.{carry_within, carry_step, carry_over}
use Rattle.counts.proofs.Words.{no_more_than_words}
use Rattle.counts.proofs.carry.Goals as goal

pub at-p-requires : goal.at-p-requires
at-p-requires g c =
    let here = c.loop-c in
    carry_within (g.T.Term.numbers here.planes) here.j (g.T.Term.value here.c) c.empty.result c.empty.ensures c.loop-c-test.true here.invariant.room

pub put-requires : goal.put-requires
put-requires g c =
    let here = c.loop-c in
    carry_within (g.T.Term.numbers here.planes) here.j (g.T.Term.value here.c) c.empty.result c.empty.ensures c.loop-c-test.true here.invariant.room

pub loop-c-smaller : goal.loop-c-smaller
loop-c-smaller g c =
    let here = c.loop-c in
    omega (
      arith,
      carry_within (g.T.Term.numbers here.planes) here.j (g.T.Term.value here.c) c.empty.result c.empty.ensures c.loop-c-test.true here.invariant.room,
    )

pub loop-c-preserved : goal.loop-c-preserved
loop-c-preserved g c =
    let here = c.loop-c in
    let value = g.T.Term.value in
    let planes = g.T.Term.numbers here.planes in
    let within = carry_within planes here.j (value here.c) c.empty.result c.empty.ensures c.loop-c-test.true here.invariant.room in
    let step =
    carry_step planes (g.T.Term.numbers c.put.new.words) here.j (value here.c) (value c.at-p.result) (value c.xor.result) (value c.and-c.result)
    c.at-p.ensures c.xor.ensures c.and-c.ensures c.put.ensures within here.invariant.room
    in
    record { size = step.0 ∙ here.invariant.size; room = step.1; counts = λ v. step.2 v ∙ here.invariant.counts v }

pub returns : goal.returns
returns g c =
    let here = c.loop-c in
    record {
      size = here.invariant.size;
      counts = λ v.
          omega (
            arith,
            here.invariant.counts v,
            carry_over here.j (g.T.Term.value here.c) v c.empty.result c.empty.ensures c.loop-c-test.false,
          );
    }

pub overflow_add-j : goal.overflow_add-j
overflow_add-j g c =
    let here = c.loop-c in
    let within : here.j < length (g.T.Term.numbers here.planes) =
    carry_within (g.T.Term.numbers here.planes) here.j (g.T.Term.value here.c) c.empty.result c.empty.ensures c.loop-c-test.true here.invariant.room
    in
    search (rules, no_more_than_words g.T.Term.laws here.planes)
