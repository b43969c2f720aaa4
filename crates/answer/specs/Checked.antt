-- What a function that only checks promises, and what passing means. Nothing here has to be believed: it carries the proof of a call's
-- promise (Ends.antt) from its checks to its work.
use Rattle.std.specs.Prelude.{◌<◌, ◌≡◌, Bool, true, false, List, [], ◌∷◌, ltb}
use Rattle.answer.specs.declared.Answer.{Answer}
use Rattle.answer.specs.Table.{accepted, refused}
use Rattle.answer.specs.Ends.{Check, if}

-- none of the checks fails
unfoldable pub Passed : List Check → Type 0
Passed [] = Unit {0}
Passed (c ∷ cs) = (c.fails ≡ false) × Passed cs

-- the answer is the refusal of the first check that fails, or an acceptance where none does
unfoldable pub Checked : List Check → Answer → Type 0
Checked [] answer = answer ≡ accepted 0
Checked (c ∷ cs) answer = if c.fails ((0 < c.code) × (answer ≡ refused c.code c.operand c.place)) (Checked cs answer)

-- both
abbrev pub both : Bool → Bool → Bool
both true b = b
both false b = false

-- no refusal has the code of acceptance
unfoldable pub coded : List Check → Bool
coded [] = true
coded (c ∷ cs) = both (ltb 0 c.code) (coded cs)
