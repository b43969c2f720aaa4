-- `counts::halve` writes a number and its halves. The invariant: those passed stand there, and m is the next (Products). Assumes nothing.
use native.Mathlib.Omega.{arith}
use Prim.Native.Nat.{ℕ, ◌<◌}
use mathlib.Core.Path.{ap, ap₂, ◌∙◌}
use mathlib.Core.List.{List}
use lib.ListN.{length, set, length-set}
use Rattle.counts.proofs.Products.{next_half, halves_more}
use Rattle.counts.proofs.halve.Goals as goal

pub loop-i-preserved : goal.loop-i-preserved
loop-i-preserved g c =
    let a = c.args in
    let here = c.loop-i in
    let out = g.T.Term.numbers a.out.now in
    let within : here.i < length out = omega (arith, c.count-i-end.ensures) in
    let next = next_half (length out) a.n here.i here.m within here.invariant.next in
    record {
      size = ap length c.put.ensures ∙ length-set (g.T.Term.numbers here.out) here.i (g.T.Term.value c.of.result) ∙ here.invariant.size;
      passed =
          c.put.ensures ∙ ap₂ (λ (l : List ℕ) (m : ℕ). set l here.i m) here.invariant.passed c.of.ensures
          ∙ halves_more out a.n here.i here.m within next.0;
      next = next.1;
    }
