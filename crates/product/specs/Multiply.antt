-- How multiply ends, for every two lists and every lent room (RULES 5.3). The limit is that of the term list and comes in as a number.
use Rattle.std.specs.Prelude.{ℕ, ◌*◌, not, List, [], ◌∷◌, ltb, eqb, length}
use Rattle.std.specs.Int.Bits.{bit_and}
use Rattle.answer.specs.declared.Answer.{Answer}
use Rattle.answer.specs.Ends.{Check, check, Ends, Writes}
use Rattle.polys.specs.Poly.{vars, times}
use Rattle.terms.specs.Order.{unordered}

-- the checks of multiply in their order: test, code, operand, place
abbrev pub multiply_checks : ℕ → List ℕ → List ℕ → ℕ → List Check
multiply_checks max_terms a b room =
    check (ltb max_terms (length a)) 2 1 0
    ∷ check (ltb max_terms (length b)) 2 2 0
    ∷ check (ltb (unordered a) (length a)) 3 1 (unordered a)
    ∷ check (ltb (unordered b) (length b)) 3 2 (unordered b)
    ∷ check (not (eqb (bit_and (vars a) (vars b)) 0)) 4 0 0
    ∷ check (ltb max_terms (length a * length b)) 5 0 0
    ∷ check (ltb room (length a * length b)) 6 0 0
    ∷ []

-- how multiply ends: a check refuses, or the product stands at the start of the room
abbrev pub MultiplyEnds : ℕ → List ℕ → List ℕ → List ℕ → Answer → List ℕ → Type 0
MultiplyEnds max_terms a b out answer new = Ends (multiply_checks max_terms a b (length out)) out (Writes (times a b) out) answer new
