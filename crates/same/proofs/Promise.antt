-- What follows from the promise of same products: for every input one answer; and AD = BC is symmetric in the ways one expects.
-- Assumes nothing.
use mathlib.Core.Path.{◌≡◌, refl, sym, ◌∙◌}
use mathlib.Core.List.{List}
use mathlib.Core.Logic.{inl, inr}
use Prim.Native.Nat.{ℕ}
use Rattle.answer.specs.declared.Answer.{Answer}
use Rattle.answer.proofs.Ends.{Determined, ends_coincide}
use Rattle.ring.specs.Same.{SameProducts}
use Rattle.ring.proofs.Series.{laws}
use Rattle.ring.proofs.Value.{value}
use Rattle.ring.proofs.Bridge.{same_from_equal, equal_from_same}
use Rattle.same.specs.Same.{same_checks, Judged, SameEnds}

-- a statement does not hold and fail at once
pub judged_once : (n : ℕ) (a d b c : List ℕ) → Determined (Judged n a d b c)
judged_once n a d b c x y u v (inl p) (inl q) = (p.0 ∙ sym q.0, refl)
judged_once n a d b c x y u v (inl p) (inr q) = absurd (q.1 p.1)
judged_once n a d b c x y u v (inr p) (inl q) = absurd (p.1 q.1)
judged_once n a d b c x y u v (inr p) (inr q) = (p.0 ∙ sym q.0, refl)

-- two answers that the promise allows coincide
pub same_products_is_determined : (max n : ℕ) (a d b c : List ℕ) (x y : Answer) → SameEnds max n a d b c x → SameEnds max n a d b c y → x ≡ y
same_products_is_determined max n a d b c x y p q =
    (ends_coincide (tt {0}) (Judged n a d b c) (judged_once n a d b c) (same_checks max a d b c) x y (tt {0}) (tt {0}) p q).0

-- ---- symmetries

module _ (n : ℕ) (a d b c : List ℕ) where
  -- DA = BC
  pub left_exchanged : SameProducts n a d b c → SameProducts n d a b c
  left_exchanged s = same_from_equal n d a b c ((laws n).mul_comm (value n d) (value n a) ∙ equal_from_same n a d b c s)

  -- AD = CB
  pub right_exchanged : SameProducts n a d b c → SameProducts n a d c b
  right_exchanged s = same_from_equal n a d c b (equal_from_same n a d b c s ∙ (laws n).mul_comm (value n b) (value n c))

  -- BC = AD
  pub sides_exchanged : SameProducts n a d b c → SameProducts n b c a d
  sides_exchanged s = same_from_equal n b c a d (sym (equal_from_same n a d b c s))

-- AD = AD
pub same_as_itself : (n : ℕ) (a d : List ℕ) → SameProducts n a d a d
same_as_itself n a d = same_from_equal n a d a d refl

-- AD = BC and BC = EF give AD = EF
pub same_through : (n : ℕ) (a d b c e f : List ℕ) → SameProducts n a d b c → SameProducts n b c e f → SameProducts n a d e f
same_through n a d b c e f s t = same_from_equal n a d e f (equal_from_same n a d b c s ∙ equal_from_same n b c e f t)
