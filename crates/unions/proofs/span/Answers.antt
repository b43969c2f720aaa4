-- `span` says what the first and the last term of a list differ by. Assumes nothing.
use Prim.Native.Nat.{ℕ, ◌-◌}
use mathlib.Core.Path.{ap, ap₂, ◌∙◌}
use lib.Bits.{bit_xor}
use lib.ListN.{get_or}
use Rattle.unions.proofs.span.Goals as goal

pub returns : goal.returns
returns g c =
    let a = g.T.Term.numbers c.args.a.now in
    c.xor.ensures ∙ ap₂ bit_xor c.at.ensures (c.at-2.ensures ∙ ap (λ (k : ℕ). get_or a (k - 1) 0) c.count-n.ensures)
