-- How read and write end, for every input and every lent room (RULES 5.3). The limits are those of the term list and come in as numbers;
-- the operand is 1 throughout.
use Rattle.std.specs.Prelude.{ℕ, not, List, [], ◌∷◌, ltb, eqb, length}
use Rattle.answer.specs.declared.Answer.{Answer}
use Rattle.answer.specs.Ends.{Check, check, Ends, Writes}
use Rattle.terms.specs.Order.{unordered}
use Rattle.terms.specs.Width.{width_of}
use Rattle.packing.specs.Format.{size, form_in, n_in, t_in, terms_in, spare_in, size_of, block_of}

-- the checks of what stands behind a header with this n and t: test, code, operand, place
abbrev pub body_checks : List ℕ → ℕ → ℕ → ℕ → List Check
body_checks block n t room =
    check (ltb (length block) (size n t)) 10 1 0
    ∷ check (ltb (size n t) (length block)) 12 1 0
    ∷ check (ltb room t) 6 1 0
    ∷ check (ltb (unordered (terms_in block n t)) t) 3 1 (unordered (terms_in block n t))
    ∷ check (ltb (width_of (terms_in block n t)) n) 11 1 0
    ∷ check (ltb 0 (spare_in block n t)) 13 1 0
    ∷ []

-- the checks of read: those of the header, then those of the body
abbrev pub read_checks : ℕ → ℕ → List ℕ → ℕ → List Check
read_checks max_terms max_vars block room =
    check (ltb (length block) 3) 10 1 0
    ∷ check (not (eqb (form_in block) 1)) 8 1 0
    ∷ check (ltb max_vars (n_in block)) 9 1 0
    ∷ check (ltb max_terms (t_in block)) 2 1 0
    ∷ body_checks block (n_in block) (t_in block) room

-- how read ends: a check refuses, or the terms stand at the start of the room
abbrev pub ReadEnds : ℕ → ℕ → List ℕ → List ℕ → Answer → List ℕ → Type 0
ReadEnds max_terms max_vars block out answer new =
    Ends (read_checks max_terms max_vars block (length out)) out (Writes (terms_in block (n_in block) (t_in block)) out) answer new

-- the checks of write
abbrev pub write_checks : ℕ → List ℕ → ℕ → List Check
write_checks max_terms terms room =
    check (ltb max_terms (length terms)) 2 1 0
    ∷ check (ltb (unordered terms) (length terms)) 3 1 (unordered terms)
    ∷ check (ltb room (size_of terms)) 6 1 0
    ∷ []

-- how write ends: a check refuses, or the block stands at the start of the room
abbrev pub WriteEnds : ℕ → List ℕ → List ℕ → Answer → List ℕ → Type 0
WriteEnds max_terms terms out answer new = Ends (write_checks max_terms terms (length out)) out (Writes (block_of terms) out) answer new
