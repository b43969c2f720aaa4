-- The rows of same products: on four lists its contract allows the answer that the test of SameTest finds, and no other.
-- Leans on the laws of endings, and on same: its contract determines the answer. Assumes nothing.
use mathlib.Core.Path.{◌≡◌, refl, sym, subst}
use mathlib.Core.Bool.{Bool, true, false}
use mathlib.Core.Logic.{inl, inr}
use mathlib.Core.List.{List}
use Prim.Native.Nat.{ℕ}
use lib.Dec.{T}
use borrow.Author.Tests.{le-ltb}
use Rattle.answer.specs.Table.{accepted}
use Rattle.answer.specs.Checked.{Passed}
use Rattle.answer.proofs.Ends.{ends_if_passed}
use Rattle.ring.specs.Same.{one_if}
use Rattle.same.specs.Same.{same_checks, Judged, SameEnds}
use Rattle.same.proofs.Promise.{same_products_is_determined}
use Rattle.table.specs.Examples.{Holds, same_products}
use Rattle.table.proofs.SplitRows.{Passes, only_end}
use Rattle.table.proofs.SameTest.{is_same, same_of_test, test_of_same}

module _ (max_boards max_terms max_vars : ℕ) (a d b c : List ℕ) (pa : Passes max_terms a) (pd : Passes max_terms d) (pb : Passes max_terms b)
    (pc : Passes max_terms c) where
  tested : (answer : Bool) → is_same max_vars a d b c ≡ answer → Judged max_vars a d b c (one_if answer) (tt {0})
  tested true e = inl (refl, same_of_test max_vars a d b c (subst T (sym e) tt))
  tested false e = inr (refl, (λ same. subst T e (test_of_same max_vars a d b c same)))

  passed : Passed (same_checks max_terms a d b c)
  unfolding Passed
  passed = search (le-ltb, tt) depth 12

  pub same_products_holds : (answer : Bool) → is_same max_vars a d b c ≡ answer → Holds max_boards max_terms max_vars (same_products a d b c answer)
  same_products_holds answer e =
      only_end (λ o _. SameEnds max_terms max_vars a d b c o) (λ o p _ _ x y. (same_products_is_determined max_terms max_vars a d b c o p x y, refl))
      (accepted (one_if answer)) tt
      (ends_if_passed (tt {0}) (Judged max_vars a d b c) (same_checks max_terms a d b c) (one_if answer) (tt {0}) passed (tested answer e))
