-- Parts as split writes them into the lent buffers (docs/RULES.md, 5.4).
use Rattle.std.specs.Prelude.{ℕ, List, [], ◌∷◌, ◌++◌, map, length}

-- the parts one after another
unfoldable pub joined : List (List ℕ) → List ℕ
joined [] = []
joined (p ∷ ps) = p ++ joined ps

-- their lengths, in order
abbrev pub lengths : List (List ℕ) → List ℕ
lengths ps = map length ps
