-- `papers::occurs` looks at the variable's own bit; no set has one beyond the last. Assumes nothing.
use borrow.Author.Rules.{rules}
use borrow.Author.Tests.{le-ltb}
use Prim.Native.Nat.{◌/◌, ◌^◌}
use mathlib.Core.Path.{sym, ap, ◌∙◌}
use lib.Bits.{and_mask}
use lib.Dec.{eqb}
use Rattle.masks.proofs.Bits.{bits_above_vanish}
use Rattle.masks.proofs.Low.{bit_at}
use Rattle.papers.proofs.occurs.Goals as goal

pub returns-then-x : goal.returns-then-x
returns-then-x c =
    let a = c.args in
    ap (λ n. eqb n 1) (and_mask (a.all / 2 ^ a.x) 1) ∙ sym (bit_at a.all a.x)

pub returns-else-x : goal.returns-else-x
returns-else-x c =
    let a = c.args in
    le-ltb a.x 64 c.if-x.false ∙ sym (bits_above_vanish 64 a.all a.x (search rules) c.if-x.false)
