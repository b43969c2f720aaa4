-- What the comparison of words says. Nothing here has to be believed: it carries the proof of audit's promise (Audit.antt).
use Rattle.std.specs.Prelude.{ℕ, ◌≡◌, List, length, take}

-- the list begins with the front
abbrev pub Front : List ℕ → List ℕ → Type 0
Front front list = front ≡ take (length front) list

-- as many lengths as were counted, and the words and the lengths are those that stand in the buffers
abbrev pub Agree : List ℕ → List ℕ → List ℕ → List ℕ → ℕ → Type 0
Agree words ls terms lengths parts = (length ls ≡ parts) × Front ls lengths × Front words terms
