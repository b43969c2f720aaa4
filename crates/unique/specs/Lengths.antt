-- The lengths of the parts, multiplied and added. Nothing here has to be believed: the demands speak of the words in the buffer.
use Rattle.std.specs.Prelude.{ℕ, ◌+◌, ◌*◌, List, [], ◌∷◌, length}

-- the lengths of the parts multiplied, and added
unfoldable pub lengths_multiplied : List (List ℕ) → ℕ
lengths_multiplied [] = 1
lengths_multiplied (p ∷ ps) = length p * lengths_multiplied ps

unfoldable pub lengths_added : List (List ℕ) → ℕ
lengths_added [] = 0
lengths_added (p ∷ ps) = length p + lengths_added ps
