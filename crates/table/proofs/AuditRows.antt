-- The rows of audit: on an approved list and given parts that pass the checks its contract allows the end that the row states, and it allows
-- no two. Leans on the laws of endings, and on audit: its contract determines the four numbers and the buffers. Assumes nothing.
use Prim.Native.Nat.{ℕ, suc, ◌≤◌}
use mathlib.Core.Path.{◌≡◌, refl, sym, ap, ◌∙◌, subst}
use mathlib.Core.Bool.{Bool, true, false}
use mathlib.Core.List.{List, [], ◌∷◌, append-nil}
use mathlib.Core.Logic.{◌⊎◌, inl, inr}
use native.Mathlib.Omega.{arith}
use borrow.Author.Tests.{le-ltb}
use lib.ListN.{length}
use Rattle.answer.specs.Table.{accepted}
use Rattle.answer.specs.Checked.{Passed}
use Rattle.answer.proofs.Ends.{ends_if_passed}
use Rattle.polys.specs.Parts.{IsParts}
use Rattle.unique.proofs.Same.{parts_are_unique}
use Rattle.taking.specs.Joined.{joined, lengths}
use Rattle.terms.specs.Order.{unordered}
use Rattle.parts.specs.Split.{room_checks, Buffers}
use Rattle.ring.specs.Same.{one_if}
use Rattle.lists.specs.Lists.{cut, added, lent_checks}
use Rattle.lists.proofs.Cutting.{length_of_lengths, length_joined, cut_joined}
use Rattle.audit.specs.Audit.{long_checks, order_checks, audit_checks, Audited, AuditEnds}
use Rattle.audit.proofs.Passing.{all_passed}
use Rattle.audit.proofs.Determined.{audit_is_determined}
use Rattle.table.specs.Examples.{Enough, written, Holds, audits}
use Rattle.table.proofs.SplitRows.{Passes, only_end}

-- each list passes
unfoldable pub AllPass : ℕ → List (List ℕ) → Type 0
AllPass max_terms [] = Unit {0}
AllPass max_terms (p ∷ ps) = Passes max_terms p × AllPass max_terms ps

long_pass : (max_terms operand : ℕ) (ps : List (List ℕ)) → AllPass max_terms ps → Passed (long_checks max_terms operand (lengths ps))
unfolding Passed long_checks AllPass
long_pass max_terms operand [] h = tt
long_pass max_terms operand (p ∷ ps) h = (le-ltb max_terms (length p) h.0.few, long_pass max_terms (suc operand) ps h.1)

order_pass : (max_terms operand : ℕ) (ps : List (List ℕ)) → AllPass max_terms ps → Passed (order_checks operand ps)
unfolding Passed order_checks AllPass
order_pass max_terms operand [] h = tt
order_pass max_terms operand (p ∷ ps) h = (le-ltb (unordered p) (length p) h.0.rises, order_pass max_terms (suc operand) ps h.1)

-- given parts, put one behind the other, are cut into themselves
pub whole : (ps : List (List ℕ)) → cut (lengths ps) (joined ps) ≡ ps
whole ps = ap (cut (lengths ps)) (sym (append-nil (joined ps))) ∙ cut_joined ps []

module _ (max_boards max_terms max_vars : ℕ) (f : List ℕ) (some : ¬ (length f ≡ 0)) (given : List (List ℕ)) (pass : AllPass max_terms (f ∷ given))
    (few : length given ≤ max_vars) where
  passed : (lent : Buffers) → Enough max_vars (length f) lent
      → Passed (audit_checks max_terms max_vars f (joined given) (lengths given) (length lent.terms) (length lent.lengths) (length lent.work))
  unfolding Passed
  passed lent room =
      let terms = length lent.terms in
      let ls = length lent.lengths in
      let work = length lent.work in
      let size = length_joined given in
      let fits : Passed (lent_checks max_vars (length (joined given)) (lengths given)) = (
        le-ltb max_vars (length (lengths given)) (omega (arith, length_of_lengths given, few)),
        (le-ltb (length (joined given)) (added (lengths given)) (omega (arith, size)), (le-ltb (added (lengths given)) (length (joined given)) (omega (arith, size)), tt)),
      ) in
      let rooms : Passed (room_checks max_vars (length f) terms ls work) = search le-ltb depth 12 in
      all_passed max_terms max_vars f (joined given) (lengths given) terms ls work fits (long_pass max_terms 1 (f ∷ given) pass) some
      (subst (λ (ps : List (List ℕ)). Passed (order_checks 1 (f ∷ ps))) (sym (whole given)) (order_pass max_terms 1 (f ∷ given) pass)) rooms

  -- the verdict of the row, where the parts are these
  judged : (ps : List (List ℕ)) → IsParts f ps → (answer : Bool) → ((answer ≡ true) × (given ≡ ps)) ⊎ ((answer ≡ false) × ¬ (given ≡ ps)) → (lent : Buffers)
      → Audited f given lent (one_if answer) (written ps lent)
  judged ps parts answer (inl a) lent = (inl (ap one_if a.0, subst (IsParts f) (sym a.1) parts), (length ps, (ps, parts, refl, refl)))
  judged ps parts answer (inr a) lent =
      (inr (ap one_if a.0, λ others. a.1 (parts_are_unique f given ps others parts)), (length ps, (ps, parts, refl, refl)))

  pub audits_holds : (ps : List (List ℕ)) → IsParts f ps → (answer : Bool) → ((answer ≡ true) × (given ≡ ps)) ⊎ ((answer ≡ false) × ¬ (given ≡ ps))
      → Holds max_boards max_terms max_vars (audits f given ps answer)
  audits_holds ps parts answer verdict lent room =
      only_end (AuditEnds max_terms max_vars f (joined given) (lengths given) lent)
      (audit_is_determined max_terms max_vars f (joined given) (lengths given) lent) (accepted (one_if answer)) (written ps lent)
      (ends_if_passed lent (Audited f (cut (lengths given) (joined given)) lent) _ (one_if answer) (written ps lent) (passed lent room)
      (subst (λ (g : List (List ℕ)). Audited f g lent (one_if answer) (written ps lent)) (sym (whole given)) (judged ps parts answer verdict lent)))
