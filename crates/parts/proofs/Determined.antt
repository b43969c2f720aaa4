-- The contract of split leaves nothing open: any two endings that it allows coincide. Leans on the theorem that a polynomial has one
-- list of parts.
use Prim.Native.Nat.{ℕ}
use mathlib.Core.Path.{◌≡◌, sym, ap, ◌∙◌}
use mathlib.Core.List.{List}
use lib.ListN.{length, replicate}
use Rattle.answer.specs.declared.Answer.{Answer}
use Rattle.answer.specs.Ends.{over}
use Rattle.answer.proofs.Ends.{Determined, ends_coincide}
use Rattle.unique.proofs.Same.{parts_are_unique}
use Rattle.taking.specs.Joined.{joined, lengths}
use Rattle.parts.specs.Split.{Buffers, split_checks, Splits, SplitEnds}

-- acceptance leaves one count and one content of the buffers
pub splits_once : (f : List ℕ) (old : Buffers) → Determined (Splits f old)
splits_once f old m n b c (ps, parts, counted, stands) (qs, parts', counted', stands') =
    let e : ps ≡ qs = parts_are_unique f ps qs parts parts' in
    (counted ∙ ap length e ∙ sym counted', stands ∙ ap filled e ∙ sym stands')
  where
    filled : List (List ℕ) → Buffers
    filled ps = record { terms = over (joined ps) old.terms; lengths = over (lengths ps) old.lengths; work = replicate (length old.work) 0 }

-- two endings of a split coincide, in all four numbers and in every buffer
pub split_is_determined : (max_terms max_vars : ℕ) (f : List ℕ) (old : Buffers) (answer answer' : Answer) (new new' : Buffers)
    → SplitEnds max_terms max_vars f old answer new → SplitEnds max_terms max_vars f old answer' new' → (answer ≡ answer') × (new ≡ new')
split_is_determined max_terms max_vars f old =
    ends_coincide old (Splits f old) (splits_once f old)
    (split_checks max_terms max_vars f (length old.terms) (length old.lengths) (length old.work))
