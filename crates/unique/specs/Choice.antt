-- Choices among parts: a choice is a list of marks, one for each part.
use Rattle.std.specs.Prelude.{ℕ, Bool, true, false, not, List, [], ◌∷◌, map}

-- the parts that are marked
unfoldable pub chosen : List Bool → List (List ℕ) → List (List ℕ)
chosen [] ps = []
chosen (m ∷ c) [] = []
chosen (true ∷ c) (p ∷ ps) = p ∷ chosen c ps
chosen (false ∷ c) (p ∷ ps) = chosen c ps

-- the parts that are not: those that the opposite marks choose
unfoldable pub others : List Bool → List (List ℕ) → List (List ℕ)
unfolding chosen
others c ps = chosen (map not c) ps
