-- `deploy::in_turn`: between two boards it stands as Standing says, and each turn is one board more. Assumes nothing.
use Prim.Native.Nat.{◌≤◌}
use mathlib.Core.Path.{◌≡◌}
use lib.ListN.{length, drop}
use Rattle.narrow.specs.Numbers.{numbers, lines}
use Rattle.parts.specs.Lent.{lent, SameLoans}
use Rattle.lists.specs.Lists.{added}
use Rattle.deploy.proofs.Turns.{Standing}
use Rattle.deploy.proofs.in_turn.Given as goal

abbrev pub invariant-loop-i : goal.invariant-loop-i
invariant-loop-i l = record {
  left : added (drop l.i l.lists.lengths.now) ≡ length l.rest;
  terms_fit : l.filled.terms ≤ length l.outputs.terms.now;
  parts_fit : l.filled.parts ≤ length l.outputs.lengths.now;
  loans : SameLoans l.initial.outputs l.outputs;
  stands : Standing 1024 lines l.lists.words.now l.lists.lengths.now l.initial.answers (lent numbers l.initial.outputs) l.i l.rest l.filled l.answers (lent numbers l.outputs);
}
