-- What becomes of the work area (docs/RULES.md, 15.4).
use Rattle.std.specs.Prelude.{ℕ, ◌<◌, ◌≡◌, List, [], ◌∷◌, ◌⊎◌, length, replicate}
use Rattle.answer.specs.declared.Answer.{Answer}

-- some board is accepted
abbrev pub SomeAccepted : List Answer → Type 0
SomeAccepted [] = ⊥
SomeAccepted (answer ∷ later) = (answer.code ≡ 0) ⊎ SomeAccepted later

-- every board is refused
abbrev pub AllRefused : List Answer → Type 0
AllRefused [] = Unit {0}
AllRefused (answer ∷ later) = (0 < answer.code) × AllRefused later

-- every word of the work area is 0 where some board is accepted, else it is as it was
abbrev pub WorkAfter : List Answer → List ℕ → List ℕ → Type 0
WorkAfter answers old new = (SomeAccepted answers × (new ≡ replicate (length old) 0)) ⊎ (AllRefused answers × (new ≡ old))
