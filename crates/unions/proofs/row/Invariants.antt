-- `row` writes the unions of one term with each term of a list. The invariant: the first i of them stand before what the room held.
use mathlib.Core.Path.{◌≡◌}
use lib.Bits.{bit_or}
use lib.ListN.{length}
use Rattle.unions.proofs.Rows.{written}
use Rattle.unions.proofs.row.Given as goal

abbrev pub invariant-loop-i : goal.invariant-loop-i
invariant-loop-i g l = (length l.out ≡ length l.initial.out) × (g.T.Term.numbers l.out ≡ written (bit_or (g.T.Term.value l.t)) (g.T.Term.numbers l.b) (g.T.Term.numbers l.initial.out) l.i)
