-- `lists::check_lent`: what is left of the words, and the lengths that are left, stand as the words to all lengths. Assumes nothing.
use Prim.Native.Nat.{◌+◌, ◌≤◌}
use mathlib.Core.Path.{◌≡◌}
use lib.ListN.{length, drop}
use Rattle.lists.specs.Lists.{added}
use Rattle.lists.proofs.check_lent.Given as goal

abbrev pub invariant-loop-length : goal.invariant-loop-length
invariant-loop-length l = record {
  few : length l.lengths ≤ l.most;
  rest : l.left + added l.lengths ≡ l.words + added (drop l.length-index l.lengths);
}
