-- How same products ends, for every four lists (RULES 5.3). The operands are A, D, B, C, in this order. The limits come in as `maxTerms` and
-- `maxVars`, the constants of the term list. What yes says is SameProducts of crate ring. Nothing is written, so no buffer is spoken of.
use Rattle.std.specs.Prelude.{ℕ, ◌≡◌, List, [], ◌∷◌, ◌⊎◌, ltb, length}
use Rattle.answer.specs.declared.Answer.{Answer}
use Rattle.answer.specs.Ends.{Check, check, Ends}
use Rattle.terms.specs.Order.{unordered}
use Rattle.ring.specs.Same.{SameProducts}

-- the checks of same products in their order: test, code, operand, place
abbrev pub same_checks : ℕ → List ℕ → List ℕ → List ℕ → List ℕ → List Check
same_checks max_terms a d b c =
    check (ltb max_terms (length a)) 2 1 0
    ∷ check (ltb max_terms (length d)) 2 2 0
    ∷ check (ltb max_terms (length b)) 2 3 0
    ∷ check (ltb max_terms (length c)) 2 4 0
    ∷ check (ltb (unordered a) (length a)) 3 1 (unordered a)
    ∷ check (ltb (unordered d) (length d)) 3 2 (unordered d)
    ∷ check (ltb (unordered b) (length b)) 3 3 (unordered b)
    ∷ check (ltb (unordered c) (length c)) 3 4 (unordered c)
    ∷ []

-- accepted: 1 exactly if AD = BC, 0 exactly if not
abbrev pub Judged : ℕ → List ℕ → List ℕ → List ℕ → List ℕ → ℕ → Unit {0} → Type 0
Judged max_vars a d b c count none = ((count ≡ 1) × SameProducts max_vars a d b c) ⊎ ((count ≡ 0) × ¬ SameProducts max_vars a d b c)

-- how same products ends: a check refuses, or the lists are judged
abbrev pub SameEnds : ℕ → ℕ → List ℕ → List ℕ → List ℕ → List ℕ → Answer → Type 0
SameEnds max_terms max_vars a d b c answer = Ends (same_checks max_terms a d b c) (tt {0}) (Judged max_vars a d b c) answer (tt {0})
