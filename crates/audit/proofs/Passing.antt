-- The checks of audit one behind the other, and what they tell where they pass. Assumes nothing.
use Prim.Native.Nat.{ℕ, suc, ◌≤◌}
use mathlib.Core.Path.{◌≡◌, refl, sym}
use mathlib.Core.Bool.{Bool, true, false, true≢false}
use mathlib.Core.List.{List, [], ◌∷◌, ◌++◌}
use borrow.Author.Tests.{ltb-false, ne_eqb}
use lib.Dec.{ltb, eqb}
use lib.ListN.{length}
use Rattle.answer.specs.declared.Answer.{Answer}
use Rattle.answer.specs.declared.Refusal.{Refusal}
use Rattle.answer.specs.Table.{accepted, refusal_of}
use Rattle.answer.specs.Ends.{Check}
use Rattle.answer.specs.Checked.{Passed, Checked, both, coded}
use Rattle.answer.proofs.Ends.{passed_accepts, accepted_passed}
use Rattle.answer.proofs.Checking.{passed_behind, passed_first, passed_then, passes_here, refused_before, passed_before}
use Rattle.parts.specs.Split.{room_checks, Buffers, split_checks}
use Rattle.lists.specs.Lists.{cut, added, lent_checks}
use Rattle.lists.proofs.Counting.{words_all}
use Rattle.audit.specs.Audit.{long_checks, order_checks, list_checks, audit_checks, Audited, AuditEnds}

-- ---- the checks of one function behind those of another

module _ (max_vars : ℕ) (f : List ℕ) (given : List (List ℕ)) (terms lengths work : ℕ) (some : eqb (length f) 0 ≡ false) where
  pub out_of_order : (refusal : Refusal) → Checked (order_checks 1 (f ∷ given)) (refusal_of refusal)
      → Checked (list_checks max_vars f given terms lengths work) (refusal_of refusal)
  out_of_order refusal order =
      passes_here (eqb (length f) 0) 1 1 0 _ (refusal_of refusal) some (refused_before (order_checks 1 (f ∷ given)) _ refusal order)

  pub in_order : (answer : Answer) → Checked (order_checks 1 (f ∷ given)) (accepted 0) → Checked (room_checks max_vars (length f) terms lengths work) answer
      → Checked (list_checks max_vars f given terms lengths work) answer
  in_order answer order then =
      passes_here (eqb (length f) 0) 1 1 0 _ answer some (passed_before (order_checks 1 (f ∷ given)) _ answer order then)

module _ (max_terms max_vars : ℕ) (f words ls : List ℕ) (terms lengths work : ℕ) where
  pub not_whole : (refusal : Refusal) → Checked (lent_checks max_vars (length words) ls) (refusal_of refusal)
      → Checked (audit_checks max_terms max_vars f words ls terms lengths work) (refusal_of refusal)
  not_whole refusal whole = refused_before (lent_checks max_vars (length words) ls) _ refusal whole

  pub too_long : (refusal : Refusal) → Checked (lent_checks max_vars (length words) ls) (accepted 0)
      → Checked (long_checks max_terms 1 (length f ∷ ls)) (refusal_of refusal)
      → Checked (audit_checks max_terms max_vars f words ls terms lengths work) (refusal_of refusal)
  too_long refusal whole long =
      passed_before (lent_checks max_vars (length words) ls) _ (refusal_of refusal) whole (refused_before (long_checks max_terms 1 (length f ∷ ls)) _ refusal long)

  pub long_passed : (answer : Answer) → Checked (lent_checks max_vars (length words) ls) (accepted 0)
      → Checked (long_checks max_terms 1 (length f ∷ ls)) (accepted 0) → Checked (list_checks max_vars f (cut ls words) terms lengths work) answer
      → Checked (audit_checks max_terms max_vars f words ls terms lengths work) answer
  long_passed answer whole long then =
      passed_before (lent_checks max_vars (length words) ls) _ answer whole (passed_before (long_checks max_terms 1 (length f ∷ ls)) _ answer long then)

-- ---- what passed checks tell

pub approved_fits : (most t : ℕ) (ls : List ℕ) → Passed (long_checks most 1 (t ∷ ls)) → t ≤ most
unfolding Passed long_checks
approved_fits most t ls p = ltb-false most t p.0

module _ (max_terms max_vars : ℕ) (f words ls : List ℕ) (terms lengths work : ℕ) (p : Passed (audit_checks max_terms max_vars f words ls terms lengths work)) where
  pub words_whole : added ls ≡ length words
  words_whole = words_all max_vars (length words) ls (passed_first (lent_checks max_vars (length words) ls) _ p)

  -- split refuses nothing
  pub split_passed : Passed (split_checks max_terms max_vars f terms lengths work)
  unfolding Passed long_checks order_checks
  split_passed =
      let long = long_checks max_terms 1 (length f ∷ ls) in
      let order = order_checks 1 (f ∷ cut ls words) in
      let rooms = room_checks max_vars (length f) terms lengths work in
      let lists_behind = list_checks max_vars f (cut ls words) terms lengths work in
      let behind : Passed (long ++ lists_behind) = passed_then (lent_checks max_vars (length words) ls) (long ++ lists_behind) p in
      let lists = passed_then long lists_behind behind in
      ((passed_first long lists_behind behind).0, (lists.0, ((passed_first order rooms lists.1).0, passed_then order rooms lists.1)))

-- and all have passed where each of them has
pub all_passed : (max_terms max_vars : ℕ) (f words ls : List ℕ) (terms lengths work : ℕ) → Passed (lent_checks max_vars (length words) ls)
    → Passed (long_checks max_terms 1 (length f ∷ ls)) → (length f ≡ 0 → ⊥) → Passed (order_checks 1 (f ∷ cut ls words))
    → Passed (room_checks max_vars (length f) terms lengths work) → Passed (audit_checks max_terms max_vars f words ls terms lengths work)
unfolding Passed
all_passed max_terms max_vars f words ls terms lengths work given long some order rooms =
    let lists = list_checks max_vars f (cut ls words) terms lengths work in
    let behind : Passed lists = (ne_eqb (length f) 0 some, passed_behind (order_checks 1 (f ∷ cut ls words)) (room_checks max_vars (length f) terms lengths work) order rooms) in
    passed_behind (lent_checks max_vars (length words) ls) (long_checks max_terms 1 (length f ∷ ls) ++ lists) given
    (passed_behind (long_checks max_terms 1 (length f ∷ ls)) lists long behind)

-- ---- an accepted audit

-- no check has the code of acceptance
coded_behind : (cs ds : List Check) → coded cs ≡ true → coded ds ≡ true → coded (cs ++ ds) ≡ true
unfolding coded
coded_behind [] ds h k = k
coded_behind (c ∷ cs) ds h k = each_coded (ltb 0 c.code) (coded cs) (coded (cs ++ ds)) h (coded_behind cs ds)
  where
    each_coded : (b r s : Bool) → both b r ≡ true → (r ≡ true → coded ds ≡ true → s ≡ true) → both b s ≡ true
    each_coded true r s h f = f h k
    each_coded false r s h f = absurd (true≢false (sym h))

long_coded : (most operand : ℕ) (ls : List ℕ) → coded (long_checks most operand ls) ≡ true
unfolding coded long_checks
long_coded most operand [] = refl
long_coded most operand (l ∷ ls) = long_coded most (suc operand) ls

order_coded : (operand : ℕ) (ps : List (List ℕ)) → coded (order_checks operand ps) ≡ true
unfolding coded order_checks
order_coded operand [] = refl
order_coded operand (p ∷ ps) = order_coded (suc operand) ps

pub accepted_audit : (max_terms max_vars : ℕ) (f words ls : List ℕ) (old : Buffers) (answer : Answer) (new : Buffers)
    → AuditEnds max_terms max_vars f words ls old answer new → answer.code ≡ 0
    → (count : ℕ) × (answer ≡ accepted count) × Audited f (cut ls words) old count new
unfolding coded
accepted_audit max_terms max_vars f words ls old answer new ends taken =
    let rooms = room_checks max_vars (length f) (length old.terms) (length old.lengths) (length old.work) in
    let order = order_checks 1 (f ∷ cut ls words) in
    let long = long_checks max_terms 1 (length f ∷ ls) in
    let lists = list_checks max_vars f (cut ls words) (length old.terms) (length old.lengths) (length old.work) in
    let given = lent_checks max_vars (length words) ls in
    let in_lists : coded lists ≡ true = coded_behind order rooms (order_coded 1 (f ∷ cut ls words)) refl in
    let in_all = coded_behind given (long ++ lists) refl (coded_behind long lists (long_coded max_terms 1 (length f ∷ ls)) in_lists) in
    let passed = accepted_passed old (Audited f (cut ls words) old) (given ++ (long ++ lists)) answer new in_all ends taken in
    passed_accepts old (Audited f (cut ls words) old) (given ++ (long ++ lists)) answer new passed ends
