-- `counts::uneven_by` multiplies both counters and compares (Products, Comparing). Assumes nothing.
use native.Mathlib.Omega.{arith}
use Prim.Native.Nat.{ℕ, ◌*◌}
use mathlib.Core.Path.{ap}
use Rattle.counts.specs.Planes.{count_at}
use Rattle.counts.proofs.Products.{sixteen_halves}
use Rattle.counts.proofs.Comparing.{product_room, from_empty}
use Rattle.counts.proofs.Words.{empty_planes}
use Rattle.counts.proofs.uneven_by.Goals as goal

pub add_times-requires : goal.add_times-requires
add_times-requires g c =
    let a = c.args in
    let laws = g.T.Term.laws in
    let digits = g.T.Term.numbers c.halve.new.out in
    product_room _ digits (g.T.Term.numbers a.both.now) (g.T.Term.value c.of.result) 0 c.of.ensures
    (empty_planes laws 32 c.words-2.result 64 c.words-2.ensures (omega arith))
    (sixteen_halves a.n _ digits (empty_planes laws 16 c.words.result 32 c.words.ensures (omega arith)) c.halve.ensures c.requires.0).0
    c.requires.1

pub add_times-requires-2 : goal.add_times-requires-2
add_times-requires-2 g c =
    let a = c.args in
    let one = c.requires.3 in
    product_room _ (g.T.Term.numbers a.both.now) (g.T.Term.numbers a.alone.now) (g.T.Term.value a.b) one.0 one.1
    (empty_planes g.T.Term.laws 32 c.words-3.result 64 c.words-3.ensures (omega arith)) c.requires.1 c.requires.2

pub returns : goal.returns
returns g c =
    λ w v e even.
    let a = c.args in
    let laws = g.T.Term.laws in
    let numbers = g.T.Term.numbers in
    let digits = numbers c.halve.new.out in
    c.differ.ensures v
    (omega (
      arith,
      even,
      ap (λ (k : ℕ). k * count_at (numbers a.both.now) v)
          (sixteen_halves a.n _ digits (empty_planes laws 16 c.words.result 32 c.words.ensures (omega arith)) c.halve.ensures c.requires.0).1,
      from_empty _ (numbers c.add_times.new.sum) _ 32 (empty_planes laws 32 c.words-2.result 64 c.words-2.ensures (omega arith))
          (c.add_times.ensures 0 c.of.ensures) v,
      from_empty _ (numbers c.add_times-2.new.sum) _ 32 (empty_planes laws 32 c.words-3.result 64 c.words-3.ensures (omega arith))
          (c.add_times-2.ensures w e) v,
    ))
