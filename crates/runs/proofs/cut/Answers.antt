-- `runs::cut` halves the range in which the cut lies. The invariant: the cut lies in it. The measure is its length. Assumes nothing.
use mathlib.Core.Path.{◌≡◌}
use Prim.Native.Nat.{◌+◌, ◌-◌, ◌/◌}
use lib.ListN.{get_or}
use Rattle.masks.specs.Bit.{bit}
use Rattle.runs.proofs.Facts.{cut_before_holder, cut_after_lacker, cut_inside}
use native.Mathlib.Omega.{arith}
use Rattle.runs.proofs.cut.Goals as goal

pub loop-from-init : goal.loop-from-init
loop-from-init g c = (omega arith, omega (arith, cut_inside c.args.k (g.T.Term.numbers c.args.l.now) c.requires.1), omega arith)

pub loop-from-preserved-then-holds : goal.loop-from-preserved-then-holds
loop-from-preserved-then-holds g c =
    -- what the test of the term in the middle tells
    let told : let a = c.args in c.holds.result ≡ bit (get_or (g.T.Term.numbers a.l.now) (c.loop-from.from + (c.loop-from.to - c.loop-from.from) / 2) 0) a.k = cc in
    let mid = c.loop-from.from + (c.loop-from.to - c.loop-from.from) / 2 in
    (omega arith, cut_before_holder c.args.k (g.T.Term.numbers c.args.l.now) c.requires.1 mid (cc (told, c.if-holds.true)), omega arith)

pub loop-from-preserved : goal.loop-from-preserved
loop-from-preserved g c =
    -- what the test of the term in the middle tells
    let told : let a = c.args in c.holds.result ≡ bit (get_or (g.T.Term.numbers a.l.now) (c.loop-from.from + (c.loop-from.to - c.loop-from.from) / 2) 0) a.k = cc in
    let mid = c.loop-from.from + (c.loop-from.to - c.loop-from.from) / 2 in
    (omega (arith, cut_after_lacker c.args.k (g.T.Term.numbers c.args.l.now) c.requires.1 mid (omega arith) (cc (told, c.if-holds.false))), omega arith, omega arith)

pub returns : goal.returns
returns g c = (omega arith, g.T.Term.laws.room_within c.args.l.now c.loop-from.from (omega arith))
