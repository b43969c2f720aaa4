-- What an accepted deployment leaves, board by board (docs/RULES.md, 15.4).
use Rattle.std.specs.Prelude.{ℕ, ◌<◌, ◌≡◌, List, [], ◌∷◌, ◌++◌, ◌⊎◌, length}
use Rattle.answer.specs.declared.Answer.{Answer}
use Rattle.answer.specs.Table.{accepted}
use Rattle.polys.specs.Parts.{IsParts}

-- an accepted board has its parts, which the answer counts; a refused one has none
abbrev pub PartsOf : List ℕ → Answer → List (List ℕ) → Type 0
PartsOf f answer ps = ((answer ≡ accepted (length ps)) × IsParts f ps) ⊎ ((0 < answer.code) × (ps ≡ []))

-- the parts of all boards, one board behind the other
unfoldable pub AllParts : List (List ℕ) → List Answer → List (List ℕ) → Type 0
AllParts [] answers all = (answers ≡ []) × (all ≡ [])
AllParts (f ∷ fs) answers all =
    (answer : Answer) × (later : List Answer) × (ps : List (List ℕ)) × (rest : List (List ℕ))
    × PartsOf f answer ps × AllParts fs later rest × (answers ≡ answer ∷ later) × (all ≡ ps ++ rest)
