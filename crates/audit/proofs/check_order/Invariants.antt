-- `audit::check_order`: what is answered from the present part on is the answer, and the lengths from there on add to the words that are left.
-- Assumes nothing.
use mathlib.Core.Path.{◌≡◌}
use lib.ListN.{length, drop}
use Rattle.lists.specs.Lists.{added}
use Rattle.audit.proofs.Listed.{OrderFrom}
use Rattle.audit.proofs.check_order.Given as goal

abbrev pub invariant-loop-i : goal.invariant-loop-i
invariant-loop-i l = record {
  left : added (drop l.i l.given.lengths.now) ≡ length l.rest;
  from : OrderFrom l.list l.given.words.now l.given.lengths.now l.i l.rest;
}
