-- `taking::put_off`: the terms written so far are a front of the changed list. Assumes nothing.
use mathlib.Core.Path.{◌≡◌}
use mathlib.Core.List.{map}
use lib.ListN.{length}
use Rattle.masks.specs.Bit.{without}
use Rattle.taking.proofs.Copying.{copied}
use Rattle.taking.proofs.put_off.Given as goal

abbrev pub invariant-loop-i : goal.invariant-loop-i
invariant-loop-i g l =
    (g.T.Term.numbers l.room ≡ copied (map (without (g.T.Term.value l.held)) (g.T.Term.numbers l.list)) (g.T.Term.numbers l.initial.room) l.i)
    × (length l.room ≡ length l.initial.room)
