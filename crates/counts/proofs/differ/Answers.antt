-- `counts::differ`: no plane so far differs where the counters agree (Comparing). Assumes nothing.
use Prim.Native.Nat.{ℕ}
use mathlib.Core.Path.{ap, ◌∙◌}
use Rattle.masks.specs.Bit.{bit}
use Rattle.masks.proofs.Bits.{bit_zero}
use Rattle.counts.proofs.Comparing.{no_more}
use Rattle.counts.proofs.differ.Goals as goal

pub loop-j-init : goal.loop-j-init
loop-j-init g c = λ v e. ap (λ (m : ℕ). bit m v) c.none-d.ensures ∙ bit_zero v

pub loop-j-preserved : goal.loop-j-preserved
loop-j-preserved g c =
    λ v e.
    let a = c.args in
    let here = c.loop-j in
    let value = g.T.Term.value in
    no_more (g.T.Term.numbers a.p.now) (g.T.Term.numbers a.q.now) here.j (value here.d) (value c.at.result) (value c.at-in-loop-j.result)
    (value c.xor.result) (value c.or-d.result) v c.at.ensures c.at-in-loop-j.ensures c.xor.ensures c.or-d.ensures c.requires
    (here.invariant v e) e
