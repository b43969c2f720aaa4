-- `counts::add_planes`: the carry and the planes from j on are what the counters still lack (Products). Assumes nothing.
use native.Mathlib.Omega.{arith}
use borrow.Author.Rules.{rules}
use Prim.Native.Nat.{◌+◌, ◌*◌, ◌^◌}
use mathlib.Core.Path.{refl, ◌∙◌}
use lib.ListN.{length-set}
use Rattle.counts.specs.Planes.{count_at}
use Rattle.counts.proofs.Products.{plane_added, planes_start, carry_left}
use Rattle.counts.proofs.Words.{no_more_than_words}
use Rattle.counts.proofs.add_planes.Goals as goal

pub loop-j-init : goal.loop-j-init
loop-j-init g c =
    let a = c.args in
    record {
      size = refl;
      counts = planes_start (g.T.Term.numbers a.sum.now) (g.T.Term.numbers a.planes.now) a.at (g.T.Term.value c.none-c.result) c.none-c.ensures;
    }

pub loop-j-preserved : goal.loop-j-preserved
loop-j-preserved g c =
    let a = c.args in
    let here = c.loop-j in
    let value = g.T.Term.value in
    let numbers = g.T.Term.numbers in
    let s = c.add-s.result in
    record {
      size = rw (c.put.ensures, length-set) here.invariant.size;
      counts = λ v.
          plane_added (numbers here.sum) (numbers a.planes.now) (numbers c.put.new.words) a.at here.j (value c.at.result)
          (value c.at-in-loop-j.result) (value here.c) (value s.low) (value s.high)
          (count_at (numbers a.sum.now) v + 2 ^ a.at * count_at (numbers a.planes.now) v) v c.at.ensures c.at-in-loop-j.ensures c.put.ensures
          (omega (arith, c.count-n.ensures)) (omega (arith, c.count-n.ensures)) (c.add-s.ensures v) (here.invariant.counts v);
    }

pub overflow_add-at : goal.overflow_add-at
overflow_add-at g c = search (rules, no_more_than_words g.T.Term.laws c.args.sum.now)

pub returns : goal.returns
returns g c =
    let a = c.args in
    let here = c.loop-j in
    record {
      size = c.carry.ensures.size ∙ here.invariant.size;
      counts = λ v.
          omega (
            arith,
            here.invariant.counts v,
            carry_left (g.T.Term.numbers a.planes.now) a.at here.j c.count-n.result (g.T.Term.value here.c) v (omega arith) c.count-n.ensures,
            c.carry.ensures.counts v,
          );
    }
