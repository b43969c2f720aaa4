-- What the checks of the question tell where they pass; and the promise determines the four numbers and the room: two endings that it allows
-- coincide. Assumes nothing.
use Prim.Native.Nat.{ℕ, ◌^◌, ◌<◌}
use mathlib.Core.Path.{◌≡◌, sym, ap, ◌∙◌}
use mathlib.Core.Bool.{true, true≢false}
use mathlib.Core.List.{List}
use native.Mathlib.Nat.{lt_of_not-le}
use borrow.Author.Tests.{ltb-false, eqb-false, not-false}
use lib.ListN.{length}
use Rattle.answer.specs.declared.Answer.{Answer}
use Rattle.answer.specs.Checked.{Passed}
use Rattle.answer.proofs.Ends.{Determined, ends_coincide}
use Rattle.masks.specs.Bit.{bit}
use Rattle.masks.proofs.Bits.{bits_above_vanish}
use Rattle.polys.specs.Poly.{vars}
use Rattle.terms.proofs.Order.{ascends_if_passed}
use Rattle.unique.proofs.Same.{parts_are_unique}
use Rattle.ring.specs.Same.{one_if}
use Rattle.rule.specs.Rule.{together}
use Rattle.papers.specs.Together.{together_checks, Tells, TogetherEnds}
use Rattle.papers.specs.Steps.{Askable}

-- the question may be asked
pub askable : (max n : ℕ) (f : List ℕ) (x y room : ℕ) → Passed (together_checks max f x y room) → vars f < 2 ^ n → Askable max n f x y room
unfolding Passed
askable max n f x y room p below =
    let has_x : bit (vars f) x ≡ true = search not-false in
    let has_y : bit (vars f) y ≡ true = search not-false in
    record {
      few = search ltb-false;
      ascends = search ascends_if_passed;
      below = below;
      has_x = has_x;
      has_y = has_y;
      low_x = lower x has_x;
      low_y = lower y has_y;
      other = search eqb-false;
      fits = search ltb-false;
    }
  where
    lower : (i : ℕ) → bit (vars f) i ≡ true → i < n
    lower i h = lt_of_not-le (λ l. true≢false (sym h ∙ bits_above_vanish n (vars f) i below l))

-- there is one list of parts
pub tells_once : (f : List ℕ) (x y : ℕ) (old : List ℕ) → Determined (Tells f x y old)
tells_once f x y old m n new new' p q =
    (p.2 ∙ ap (λ ps. one_if (together x y ps)) (parts_are_unique f p.0 q.0 p.1 q.1) ∙ sym q.2, p.3 ∙ sym q.3)

-- two endings that the promise allows coincide
pub together_is_determined : (max : ℕ) (f : List ℕ) (x y : ℕ) (old : List ℕ) (a b : Answer) (new new' : List ℕ)
    → TogetherEnds max f x y old a new → TogetherEnds max f x y old b new' → (a ≡ b) × (new ≡ new')
together_is_determined max f x y old = ends_coincide old (Tells f x y old) (tells_once f x y old) (together_checks max f x y (length old))
