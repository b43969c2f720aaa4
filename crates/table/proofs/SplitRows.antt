-- The rows of split: on each list its contract allows the end that the row states, and it allows no two.
-- Leans on the laws of endings, and on parts: its contract determines the four numbers and the buffers. Assumes nothing.
use mathlib.Core.Path.{◌≡◌, refl}
use mathlib.Core.List.{List}
use Prim.Native.Nat.{ℕ, ◌≤◌, ◌<◌}
use borrow.Author.Tests.{le-ltb, ne_eqb}
use lib.ListN.{length}
use Rattle.answer.specs.declared.Answer.{Answer}
use Rattle.answer.specs.Table.{accepted, refused}
use Rattle.answer.specs.Ends.{Check}
use Rattle.answer.specs.Checked.{Passed, Checked}
use Rattle.answer.proofs.Ends.{ends_if_passed, ends_if_refused}
use Rattle.answer.proofs.Checking.{checking}
use Rattle.polys.specs.Parts.{IsParts}
use Rattle.terms.specs.Order.{unordered}
use Rattle.parts.specs.Split.{Buffers, split_checks, Splits, SplitEnds}
use Rattle.parts.proofs.Determined.{split_is_determined}
use Rattle.table.specs.Examples.{Enough, EndsOnly, written, Holds, splits, refuses}

-- a list that passes the checks of every call: not too long, and ascending
pub record Passes (max_terms : ℕ) (f : List ℕ) : Type 0 where
  pub few : length f ≤ max_terms
  pub rises : length f ≤ unordered f

-- where any two ends that are allowed coincide, one that is allowed is the only one
pub only_end : {B : Type 0} (ends : Answer → B → Type 0)
    → ((o p : Answer) (b c : B) → ends o b → ends p c → (o ≡ p) × (b ≡ c))
    → (o : Answer) (b : B) → ends o b → EndsOnly ends o b
only_end ends once o b here = record { allowed = here; only = λ p c there. once p o c b there here }

module _ (max_boards max_terms max_vars : ℕ) (f : List ℕ) (few : length f ≤ max_terms) where
  abbrev checks : Buffers → List Check
  checks lent = split_checks max_terms max_vars f (length lent.terms) (length lent.lengths) (length lent.work)

  only_split : (lent : Buffers) (o : Answer) (new : Buffers) → SplitEnds max_terms max_vars f lent o new → EndsOnly (SplitEnds max_terms max_vars f lent) o new
  only_split lent = only_end (SplitEnds max_terms max_vars f lent) (split_is_determined max_terms max_vars f lent)

  pub zero_holds : length f ≡ 0 → Holds max_boards max_terms max_vars (refuses f 1 0)
  zero_holds none lent =
      let c : Checked (checks lent) (refused 1 1 0) = search checking depth 12 in
      only_split lent (refused 1 1 0) lent (ends_if_refused lent (Splits f lent) (checks lent) (refused 1 1 0) c refl)

  module _ (some : ¬ (length f ≡ 0)) where
    pub order_holds : unordered f < length f → Holds max_boards max_terms max_vars (refuses f 3 (unordered f))
    order_holds falls lent =
        let c : Checked (checks lent) (refused 3 1 (unordered f)) = search checking depth 12 in
        only_split lent (refused 3 1 (unordered f)) lent (ends_if_refused lent (Splits f lent) (checks lent) (refused 3 1 (unordered f)) c refl)

    passed : (lent : Buffers) → length f ≤ unordered f → Enough max_vars (length f) lent → Passed (checks lent)
    unfolding Passed
    passed lent rises room = search (le-ltb, ne_eqb, tt) depth 12

    pub splits_holds : (ps : List (List ℕ)) → length f ≤ unordered f → IsParts f ps → Holds max_boards max_terms max_vars (splits f ps)
    splits_holds ps rises parts lent room =
        only_split lent (accepted (length ps)) (written ps lent)
        (ends_if_passed lent (Splits f lent) (checks lent) (length ps) (written ps lent) (passed lent rises room) (ps, parts, refl, refl))
