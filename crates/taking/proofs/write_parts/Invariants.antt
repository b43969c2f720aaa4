-- `taking::write_parts`: between two parts it stands as Splitting says; each turn is a round (Round), and the variables left fall. Assumes nothing.
use mathlib.Core.Path.{◌≡◌}
use lib.Bits.{bit_or}
use lib.ListN.{length, take}
use Rattle.splitting.proofs.Held.{held}
use Rattle.taking.proofs.Splitting.{Splitting}
use Rattle.taking.proofs.write_parts.Given as goal

abbrev pub invariant-loop-left : goal.invariant-loop-left
invariant-loop-left g l =
    Splitting (held (g.T.Term.value l.initial.left) (take l.t (g.T.Term.numbers l.initial.work))) (g.T.Term.numbers l.initial.part_terms) l.initial.part_lengths l.t g.T.Term.LINES (g.T.Term.numbers l.part_terms) l.part_lengths (g.T.Term.numbers l.work) l.n l.at l.k
    (g.T.Term.value l.left) (g.T.Term.value l.all)
    × (length l.work ≡ length l.initial.work) × (length l.part_terms ≡ length l.initial.part_terms)

abbrev pub decreases-loop-left : goal.decreases-loop-left
decreases-loop-left g l = bit_or (g.T.Term.value l.left) (g.T.Term.value l.all)
