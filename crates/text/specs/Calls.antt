-- How the reader and the writer of text end, for every input and every lent room (RULES 12.4). The limits come in as numbers; the operand is
-- 1 throughout.
use Rattle.std.specs.Prelude.{ℕ, true, List, [], ◌∷◌, ltb, length}
use Rattle.answer.specs.declared.Answer.{Answer}
use Rattle.answer.specs.Ends.{Check, check, Ends, Writes}
use Rattle.terms.specs.Order.{unordered}
use Rattle.typed.specs.Shown.{sign, twice, many, Verdict, long, shown, equation, Reads}
use Rattle.typed.specs.Says.{sum, written}

-- the terms that an equation leaves need room
abbrev pub room_checks : List ℕ → ℕ → List Check
room_checks terms room = check (ltb room (length terms)) 6 1 0 ∷ []

-- the checks of the reader, by how the text reads: test, code, operand, place
abbrev pub read_text_checks : Verdict → ℕ → List Check
read_text_checks long room = check true 2 1 0 ∷ []
read_text_checks (shown sign i) room = check true 14 1 i ∷ []
read_text_checks (shown twice i) room = check true 15 1 i ∷ []
read_text_checks (shown many i) room = check true 2 1 0 ∷ []
read_text_checks (equation ts) room = room_checks (sum ts) room

-- the terms that are read
abbrev pub read_terms : Verdict → List ℕ
read_terms long = []
read_terms (shown fault i) = []
read_terms (equation ts) = sum ts

-- how the reader ends: a check refuses, or the terms stand at the start of the room
abbrev pub ReadTextEnds : ℕ → ℕ → ℕ → List ℕ → List ℕ → Answer → List ℕ → Type 0
ReadTextEnds longest most vars text out answer new =
    (v : Verdict) × Reads longest most vars text v × Ends (read_text_checks v (length out)) out (Writes (read_terms v) out) answer new

-- the checks of the writer
abbrev pub write_text_checks : ℕ → ℕ → List ℕ → ℕ → List Check
write_text_checks longest most terms room =
    check (ltb most (length terms)) 2 1 0
    ∷ check (ltb (unordered terms) (length terms)) 3 1 (unordered terms)
    ∷ check (ltb longest (length (written terms))) 5 1 0
    ∷ check (ltb room (length (written terms))) 6 1 0
    ∷ []

-- how the writer ends: a check refuses, or the text stands at the start of the room
abbrev pub WriteTextEnds : ℕ → ℕ → List ℕ → List ℕ → Answer → List ℕ → Type 0
WriteTextEnds longest most terms out answer new = Ends (write_text_checks longest most terms (length out)) out (Writes (written terms) out) answer new
