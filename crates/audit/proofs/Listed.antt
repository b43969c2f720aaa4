-- The checks of audit (specs/Audit.antt), one given part after another. Assumes nothing.
use Prim.Native.Nat.{ℕ, suc, ◌+◌, ◌≤◌, ◌<◌}
use native.Mathlib.Numerals.{add-one}
use mathlib.Core.Path.{◌≡◌, refl, sym, ap, ap₂, ◌∙◌, subst}
use mathlib.Core.List.{List, [], ◌∷◌}
use native.Mathlib.Omega.{arith}
use borrow.Author.Tests.{lt-ltb, le-ltb}
use lib.Dec.{ltb}
use lib.ListN.{length, get_or, take, drop}
use lib.Seq.{drop-cons, drop-length}
use Rattle.answer.specs.declared.Answer.{Answer}
use Rattle.answer.specs.declared.Refusal.{Refusal}
use Rattle.answer.specs.Table.{accepted, refused, refusal_of}
use Rattle.answer.specs.Ends.{check}
use Rattle.answer.specs.Checked.{Checked}
use Rattle.answer.proofs.Checking.{checking, fails_here, passes_here, refused_first, passed_next}
use Rattle.terms.specs.Order.{unordered}
use Rattle.lists.specs.Lists.{cut}
use Rattle.lists.proofs.Cutting.{cut_next, none_behind}
use Rattle.audit.specs.Audit.{long_checks, order_checks}

-- ---- each list, from an operand on

-- what is answered from a place on is answered
abbrev pub LongFrom : ℕ → ℕ → List ℕ → ℕ → Type 0
LongFrom most t ls i = (answer : Answer) → Checked (long_checks most (i + 2) (drop i ls)) answer → Checked (long_checks most 1 (t ∷ ls)) answer

module _ (most t : ℕ) (ls : List ℕ) where
  -- the approved list is too long,
  pub approved_long : most < t → Checked (long_checks most 1 (t ∷ ls)) (refused 2 1 0)
  unfolding long_checks
  approved_long h = search checking

  -- or it is not, and the given ones are looked at;
  pub long_from_first : t ≤ most → LongFrom most t ls 0
  unfolding long_checks
  long_from_first h answer c = passes_here (ltb most t) 2 1 0 (long_checks most 2 ls) answer (le-ltb most t h) c

  -- the one at a place is too long,
  pub given_long : (i : ℕ) → i < length ls → most < get_or ls i 0 → LongFrom most t ls i → Checked (long_checks most 1 (t ∷ ls)) (refused 2 (i + 2) 0)
  unfolding long_checks
  given_long i h over from =
      from (refused 2 (i + 2) 0)
      (subst (λ (l : List ℕ). Checked (long_checks most (i + 2) l) (refused 2 (i + 2) 0)) (sym (drop-cons ls i 0 h))
      (fails_here (ltb most (get_or ls i 0)) 2 (i + 2) 0 0 (long_checks most (suc (i + 2)) (drop (suc i) ls)) (lt-ltb most (get_or ls i 0) over) (omega arith) refl))

  -- or it is not;
  pub long_goes_on : (i : ℕ) → i < length ls → get_or ls i 0 ≤ most → LongFrom most t ls i → LongFrom most t ls (i + 1)
  unfolding long_checks
  long_goes_on i h fits from answer c =
      from answer
      (subst (λ (l : List ℕ). Checked (long_checks most (i + 2) l) answer) (sym (drop-cons ls i 0 h))
      (passes_here (ltb most (get_or ls i 0)) 2 (i + 2) 0 (long_checks most (suc (i + 2)) (drop (suc i) ls)) answer (le-ltb most (get_or ls i 0) fits)
      (subst (λ (l : List ℕ). Checked (long_checks most (suc (i + 2)) l) answer) (ap (λ (n : ℕ). drop n ls) (add-one i))
      (subst (λ (k : ℕ). Checked (long_checks most k (drop (i + 1) ls)) answer) (omega arith) c))))

  -- none is
  pub none_long : (i : ℕ) → i ≡ length ls → LongFrom most t ls i → Checked (long_checks most 1 (t ∷ ls)) (accepted 0)
  unfolding long_checks
  none_long i e from =
      from (accepted 0) (subst (λ (l : List ℕ). Checked (long_checks most (i + 2) l) (accepted 0)) (sym (ap (λ (n : ℕ). drop n ls) e ∙ drop-length ls)) (search checking))

-- what is answered from the given part at a place on, whose words are the first of the rest, is answered
abbrev pub OrderFrom : List ℕ → List ℕ → List ℕ → ℕ → List ℕ → Type 0
OrderFrom f words ls i rest =
    (answer : Answer) → Checked (order_checks (i + 2) (cut (drop i ls) rest)) answer → Checked (order_checks 1 (f ∷ cut ls words)) answer

module _ (f words ls : List ℕ) where
  -- the approved list is out of order,
  pub approved_out : (refusal : Refusal) → Checked (check (ltb (unordered f) (length f)) 3 1 (unordered f) ∷ []) (refusal_of refusal)
      → Checked (order_checks 1 (f ∷ cut ls words)) (refusal_of refusal)
  unfolding order_checks
  approved_out refusal checked =
      refused_first (check (ltb (unordered f) (length f)) 3 1 (unordered f)) (order_checks 2 (cut ls words)) refusal checked

  -- or it is not, and the given ones are looked at
  pub order_from_first : Checked (check (ltb (unordered f) (length f)) 3 1 (unordered f) ∷ []) (accepted 0) → OrderFrom f words ls 0 words
  unfolding order_checks
  order_from_first passed answer c =
      passed_next (check (ltb (unordered f) (length f)) 3 1 (unordered f)) (order_checks 2 (cut ls words)) answer passed c

  -- the part at a place
  module _ (i : ℕ) (rest part behind : List ℕ) (here : i < length ls) (front : part ≡ take (get_or ls i 0) rest) (back : behind ≡ drop (get_or ls i 0) rest) where
    there : cut (drop i ls) rest ≡ part ∷ cut (drop (i + 1) ls) behind
    there = cut_next ls rest i here ∙ ap₂ (λ (p r : List ℕ). p ∷ cut (drop (i + 1) ls) r) (sym front) (sym back)

    -- is out of order,
    pub given_out : (found : ℕ) → found ≡ unordered part → found < length part → OrderFrom f words ls i rest
        → Checked (order_checks 1 (f ∷ cut ls words)) (refused 3 (i + 2) found)
    unfolding order_checks
    given_out found e h from =
        from (refused 3 (i + 2) found)
        (subst (λ (ps : List (List ℕ)). Checked (order_checks (i + 2) ps) (refused 3 (i + 2) found)) (sym there)
        (fails_here (ltb (unordered part) (length part)) 3 (i + 2) (unordered part) found (order_checks (suc (i + 2)) (cut (drop (i + 1) ls) behind))
        (lt-ltb (unordered part) (length part) (subst (λ (n : ℕ). n < length part) e h)) (omega arith) e))

    -- or it is not
    pub order_goes_on : (found : ℕ) → found ≡ unordered part → length part ≤ found → OrderFrom f words ls i rest → OrderFrom f words ls (i + 1) behind
    unfolding order_checks
    order_goes_on found e h from answer c =
        from answer
        (subst (λ (ps : List (List ℕ)). Checked (order_checks (i + 2) ps) answer) (sym there)
        (passes_here (ltb (unordered part) (length part)) 3 (i + 2) (unordered part) (order_checks (suc (i + 2)) (cut (drop (i + 1) ls) behind)) answer
        (le-ltb (unordered part) (length part) (subst (λ (n : ℕ). length part ≤ n) e h))
        (subst (λ (k : ℕ). Checked (order_checks k (cut (drop (i + 1) ls) behind)) answer) (omega arith) c)))

  -- none is
  pub none_out : (i : ℕ) (rest : List ℕ) → i ≡ length ls → OrderFrom f words ls i rest → Checked (order_checks 1 (f ∷ cut ls words)) (accepted 0)
  unfolding order_checks
  none_out i rest e from =
      from (accepted 0) (subst (λ (ps : List (List ℕ)). Checked (order_checks (i + 2) ps) (accepted 0)) (sym (none_behind ls rest i e)) (search checking))
