-- How audit ends, for every approved list, whatever parts are given and whatever is lent (docs/RULES.md, 13). The operands are the approved
-- list, then the given parts in their order. The limits are those of the term list and come in as numbers.
use Rattle.std.specs.Prelude.{ℕ, suc, ◌≡◌, List, [], ◌∷◌, ◌++◌, ◌⊎◌, ltb, eqb, length}
use Rattle.answer.specs.declared.Answer.{Answer}
use Rattle.answer.specs.Ends.{Check, check, Ends}
use Rattle.polys.specs.Parts.{IsParts}
use Rattle.terms.specs.Order.{unordered}
use Rattle.lists.specs.Lists.{cut, lent_checks}
use Rattle.parts.specs.Split.{Buffers, Splits, room_checks}

-- for each length, from this operand on: the list is not too long
unfoldable pub long_checks : ℕ → ℕ → List ℕ → List Check
long_checks max_terms operand [] = []
long_checks max_terms operand (l ∷ ls) = check (ltb max_terms l) 2 operand 0 ∷ long_checks max_terms (suc operand) ls

-- for each list, from this operand on: its terms ascend
unfoldable pub order_checks : ℕ → List (List ℕ) → List Check
order_checks operand [] = []
order_checks operand (p ∷ ps) = check (ltb (unordered p) (length p)) 3 operand (unordered p) ∷ order_checks (suc operand) ps

-- the approved list has terms, all lists ascend, and there is room
abbrev pub list_checks : ℕ → List ℕ → List (List ℕ) → ℕ → ℕ → ℕ → List Check
list_checks max_vars f given terms lengths work =
    check (eqb (length f) 0) 1 1 0
    ∷ (order_checks 1 (f ∷ given)
    ++ room_checks max_vars (length f) terms lengths work)

-- the checks of audit in their order; `terms`, `lengths` and `work` are how many words are lent for each
abbrev pub audit_checks : ℕ → ℕ → List ℕ → List ℕ → List ℕ → ℕ → ℕ → ℕ → List Check
audit_checks max_terms max_vars f words ls terms lengths work =
    lent_checks max_vars (length words) ls
    ++ (long_checks max_terms 1 (length f ∷ ls)
    ++ list_checks max_vars f (cut ls words) terms lengths work)

-- accepted: 1 exactly if the given parts are the parts of f, 0 exactly if not; the buffers are as an accepted split of f leaves them
abbrev pub Audited : List ℕ → List (List ℕ) → Buffers → ℕ → Buffers → Type 0
Audited f given old count new =
    (((count ≡ 1) × IsParts f given) ⊎ ((count ≡ 0) × ¬ IsParts f given)) × ((parts : ℕ) × Splits f old parts new)

-- how audit ends: a check refuses, or the given parts are judged
abbrev pub AuditEnds : ℕ → ℕ → List ℕ → List ℕ → List ℕ → Buffers → Answer → Buffers → Type 0
AuditEnds max_terms max_vars f words ls old answer new =
    Ends (audit_checks max_terms max_vars f words ls (length old.terms) (length old.lengths) (length old.work)) old (Audited f (cut ls words) old) answer new
