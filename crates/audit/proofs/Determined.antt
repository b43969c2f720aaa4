-- The contract of audit leaves nothing open: any two endings that it allows coincide. Leans on the theorem that a polynomial has one list
-- of parts.
use Prim.Native.Nat.{ℕ}
use mathlib.Core.Path.{◌≡◌, sym, ◌∙◌}
use mathlib.Core.List.{List}
use mathlib.Core.Logic.{◌⊎◌, inl, inr}
use lib.ListN.{length}
use Rattle.answer.specs.declared.Answer.{Answer}
use Rattle.answer.proofs.Ends.{Determined, ends_coincide}
use Rattle.polys.specs.Parts.{IsParts}
use Rattle.parts.specs.Split.{Buffers}
use Rattle.parts.proofs.Determined.{splits_once}
use Rattle.lists.specs.Lists.{cut}
use Rattle.audit.specs.Audit.{audit_checks, Audited, AuditEnds}

-- yes and no exclude one another
verdict_once : (claim : Type 0) (m n : ℕ) → ((m ≡ 1) × claim) ⊎ ((m ≡ 0) × ¬ claim) → ((n ≡ 1) × claim) ⊎ ((n ≡ 0) × ¬ claim) → m ≡ n
verdict_once claim m n (inl a) (inl b) = a.0 ∙ sym b.0
verdict_once claim m n (inl a) (inr b) = absurd (b.1 a.1)
verdict_once claim m n (inr a) (inl b) = absurd (a.1 b.1)
verdict_once claim m n (inr a) (inr b) = a.0 ∙ sym b.0

-- acceptance leaves one count and one content of the buffers
pub audited_once : (f : List ℕ) (given : List (List ℕ)) (old : Buffers) → Determined (Audited f given old)
audited_once f given old m n b c (said, (k, stands)) (said', (k', stands')) =
    (verdict_once (IsParts f given) m n said said', (splits_once f old k k' b c stands stands').1)

-- two endings of an audit coincide, in all four numbers and in every buffer
pub audit_is_determined : (max_terms max_vars : ℕ) (f words ls : List ℕ) (old : Buffers) (answer answer' : Answer) (new new' : Buffers)
    → AuditEnds max_terms max_vars f words ls old answer new → AuditEnds max_terms max_vars f words ls old answer' new' → (answer ≡ answer') × (new ≡ new')
audit_is_determined max_terms max_vars f words ls old =
    ends_coincide old (Audited f (cut ls words) old) (audited_once f (cut ls words) old)
    (audit_checks max_terms max_vars f words ls (length old.terms) (length old.lengths) (length old.work))
