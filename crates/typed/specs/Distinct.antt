-- Equations in which no term holds a variable twice. Of those, the ones that are neither too long nor have too many terms are read, and no
-- others are (RULES 12.2; proofs/Taken.antt).
use Rattle.std.specs.Prelude.{ℕ, List, [], ◌∷◌}
use Rattle.polys.specs.List.{Mem}

-- a term as written holds no variable twice
abbrev pub Distinct : List ℕ → Type 0
Distinct [] = Unit {0}
Distinct (v ∷ vs) = (¬ Mem vs v) × Distinct vs

-- and no term of an equation as written does
abbrev pub AllDistinct : List (List ℕ) → Type 0
AllDistinct [] = Unit {0}
AllDistinct (t ∷ ts) = Distinct t × AllDistinct ts
