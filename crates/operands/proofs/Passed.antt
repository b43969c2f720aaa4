-- What it means of a list that it passed. Assumes nothing.
use Prim.Native.Nat.{ℕ, ◌≤◌}
use mathlib.Core.List.{List, [], ◌∷◌}
use borrow.Author.Tests.{ltb-false}
use lib.Dec.{ltb}
use lib.ListN.{length}
use Rattle.polys.specs.List.{Asc}
use Rattle.terms.specs.Order.{unordered}
use Rattle.terms.proofs.Order.{ascends_if_passed}
use Rattle.answer.specs.Table.{accepted}
use Rattle.answer.specs.Ends.{check}
use Rattle.answer.specs.Checked.{Checked, Passed}
use Rattle.answer.proofs.Checking.{checks_passed}

-- it has no more terms than the limit
pub few : (most n operand : ℕ) → Checked (check (ltb most n) 2 operand 0 ∷ []) (accepted 0) → n ≤ most
unfolding Passed
few most n operand checked = ltb-false most n (checks_passed (check (ltb most n) 2 operand 0 ∷ []) checked).0

-- its terms ascend
pub ascends : (list : List ℕ) (operand : ℕ)
    → Checked (check (ltb (unordered list) (length list)) 3 operand (unordered list) ∷ []) (accepted 0) → Asc list
unfolding Passed
ascends list operand checked =
    ascends_if_passed list (checks_passed (check (ltb (unordered list) (length list)) 3 operand (unordered list) ∷ []) checked).0
