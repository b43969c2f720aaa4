-- `grow::lay_out` picks twice, in one pass. The invariant: what the terms passed give stands in the rooms (Laying). Assumes nothing.
use mathlib.Core.Path.{◌≡◌}
use lib.ListN.{length}
use Rattle.grow.proofs.Laying.{Half}
use Rattle.grow.proofs.lay_out.Given as goal

abbrev pub invariant-loop-i : goal.invariant-loop-i
invariant-loop-i g l =
    (length l.inner ≡ length l.initial.inner) × (length l.outer ≡ length l.initial.outer)
    × Half (g.T.Term.numbers l.inner) (g.T.Term.value l.y) (g.T.Term.value l.w) (g.T.Term.value l.off) (g.T.Term.numbers l.f) l.part l.i
    × Half (g.T.Term.numbers l.outer) (g.T.Term.value l.w) (g.T.Term.value l.y) (g.T.Term.value l.on) (g.T.Term.numbers l.f) l.rest l.i
