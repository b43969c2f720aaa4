-- How the reader ends once the terms as written are known. Nothing here has to be believed: it carries the proof of what the reader promises.
use Rattle.std.specs.Prelude.{ℕ, List, length}
use Rattle.answer.specs.declared.Answer.{Answer}
use Rattle.answer.specs.Ends.{Ends, Writes}
use Rattle.typed.specs.Says.{left}
use Rattle.text.specs.Calls.{room_checks}

-- with what is left of these terms
abbrev pub LeftEnds : List ℕ → List ℕ → Answer → List ℕ → Type 0
LeftEnds terms out answer new = Ends (room_checks (left terms) (length out)) out (Writes (left terms) out) answer new
