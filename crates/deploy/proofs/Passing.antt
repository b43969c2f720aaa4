-- What the checks of deploy tell where they pass. Assumes nothing.
use Prim.Native.Nat.{ℕ, ◌*◌, ◌≤◌}
use mathlib.Core.Path.{◌≡◌}
use mathlib.Core.List.{List, [], ◌∷◌}
use borrow.Author.Tests.{ltb-false}
use lib.Dec.{ltb}
use lib.ListN.{length}
use Rattle.answer.specs.Ends.{Check, check}
use Rattle.answer.specs.Checked.{Passed}
use Rattle.answer.proofs.Checking.{passed_first, passed_then}
use Rattle.lists.specs.Lists.{added, lent_checks}
use Rattle.lists.proofs.Counting.{few_lists, words_all}
use Rattle.deploy.specs.Deploy.{deploy_checks}

-- the room for the answers
abbrev room_check : List ℕ → ℕ → List Check
room_check ls answers = check (ltb answers (4 * length ls)) 6 0 0 ∷ []

module _ (max_lists words : ℕ) (ls : List ℕ) (answers : ℕ) (passed : Passed (deploy_checks max_lists words ls answers)) where
  lent_passed : Passed (lent_checks max_lists words ls)
  lent_passed = passed_first (lent_checks max_lists words ls) (room_check ls answers) passed

  pub few : length ls ≤ max_lists
  few = few_lists max_lists words ls lent_passed

  pub whole : added ls ≡ words
  whole = words_all max_lists words ls lent_passed

  pub roomy : 4 * length ls ≤ answers
  unfolding Passed
  roomy = ltb-false answers (4 * length ls) (passed_then (lent_checks max_lists words ls) (room_check ls answers) passed).0
