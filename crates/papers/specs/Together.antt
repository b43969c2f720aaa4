-- How asking the papers' rule about two variables ends (RULES 8.3): the checks in order, and what an accepted question answers and
-- leaves. The limit comes in as `maxTerms`, the constant of the term list.
use Rattle.std.specs.Prelude.{ℕ, ◌*◌, ◌≡◌, not, List, [], ◌∷◌, ◌++◌, ltb, eqb, length}
use Rattle.answer.specs.declared.Answer.{Answer}
use Rattle.answer.specs.Ends.{Check, check, Ends, over}
use Rattle.masks.specs.Bit.{bit}
use Rattle.polys.specs.Poly.{vars}
use Rattle.polys.specs.Parts.{IsParts}
use Rattle.terms.specs.Order.{unordered}
use Rattle.ring.specs.Same.{one_if}
use Rattle.rule.specs.Rule.{derivative, at_zero, together}

-- the papers' four lists one after another: A, B, C, D
unfoldable pub four_lists : List ℕ → ℕ → ℕ → List ℕ
four_lists f x y = derivative x f ++ (at_zero x f ++ (derivative y (derivative x f) ++ derivative y (at_zero x f)))

-- the checks of the question in their order: test, code, operand, place
abbrev pub together_checks : ℕ → List ℕ → ℕ → ℕ → ℕ → List Check
together_checks max_terms f x y room =
    check (ltb max_terms (length f)) 2 1 0
    ∷ check (ltb (unordered f) (length f)) 3 1 (unordered f)
    ∷ check (not (bit (vars f) x)) 11 1 0
    ∷ check (not (bit (vars f) y)) 11 1 0
    ∷ check (eqb x y) 4 0 0
    ∷ check (ltb room (2 * length f)) 6 1 0
    ∷ []

-- accepted: count 1 if some part of f holds both x and y, 0 if none does; the four lists stand at the start of the room
abbrev pub Tells : List ℕ → ℕ → ℕ → List ℕ → ℕ → List ℕ → Type 0
Tells f x y old count new = (ps : List (List ℕ)) × IsParts f ps × (count ≡ one_if (together x y ps)) × (new ≡ over (four_lists f x y) old)

-- how it ends: a check refuses, or the question is answered
abbrev pub TogetherEnds : ℕ → List ℕ → ℕ → ℕ → List ℕ → Answer → List ℕ → Type 0
TogetherEnds max_terms f x y old answer new = Ends (together_checks max_terms f x y (length old)) old (Tells f x y old) answer new
