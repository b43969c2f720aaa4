-- `grow::least` goes through the terms. The invariant: the least difference among those passed (Differences). Assumes nothing.
use native.Mathlib.Omega.{arith}
use Rattle.grow.proofs.Differences.{seen_none, seen_other, seen_as_much, seen_less, seen_all}
use Rattle.grow.proofs.least.Goals as goal
use Rattle.grow.proofs.least.Goals.{then-same+then-less, then-same+else-less, else-same}

pub loop-i-init : goal.loop-i-init
loop-i-init g c =
    let a = c.args in
    seen_none (g.T.Term.numbers a.f.now) (g.T.Term.value a.y) (g.T.Term.value a.w) (g.T.Term.value c.and-on.result) (g.T.Term.value a.t)

pub loop-i-preserved : goal.loop-i-preserved
loop-i-preserved g c =
    let v = g.T.Term.value in
    let asked = c.same in
    let m = c.and in
    let u = c.at-u in
    let here = c.loop-i in
    let on = v c.and-on.result in
    let a = c.args in
    let f = g.T.Term.numbers a.f.now in
    elim c.if-same.branch [
      | then-same+then-less k ↦ rw k.d-is (seen_less f (v a.y) (v a.w) on (v a.t) here.i (v here.d) here.invariant (v u.result)
          (v m.result) asked.result u.ensures m.ensures asked.ensures k.if-same.true (v k.xor.result) (v k.and-differs.result)
          k.less.result k.xor.ensures k.and-differs.ensures k.less.ensures k.if-less.true)
      | then-same+else-less k ↦ rw k.d-is (seen_as_much f (v a.y) (v a.w) on (v a.t) here.i (v here.d) here.invariant (v u.result)
          (v m.result) asked.result u.ensures m.ensures asked.ensures k.if-same.true (v k.xor.result) (v k.and-differs.result)
          k.less.result k.xor.ensures k.and-differs.ensures k.less.ensures k.if-less.false)
      | else-same k ↦ rw k.d-is (seen_other f (v a.y) (v a.w) on (v a.t) here.i (v here.d) here.invariant (v u.result)
          (v m.result) asked.result u.ensures m.ensures asked.ensures k.if-same.false)
    ]

pub returns : goal.returns
returns g c =
    let here = c.loop-i in
    let a = c.args in
    seen_all (g.T.Term.numbers a.f.now) (g.T.Term.value a.y) (g.T.Term.value a.w) (g.T.Term.value a.s) (g.T.Term.value a.t) (g.T.Term.value c.and-on.result) here.i (g.T.Term.value here.d) c.requires
    c.and-on.ensures (omega arith) here.invariant
