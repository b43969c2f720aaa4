-- Two lists of parts made one, in order of the lowest variable.
use Rattle.std.specs.Prelude.{ℕ, ◌-◌, Bool, true, false, List, [], ◌∷◌, ltb}
use Rattle.masks.specs.Bit.{without}
use Rattle.polys.specs.Poly.{vars}

-- the lowest variable of p, as a mask of one bit: the variables of p without the bits of one less
abbrev pub lowest : List ℕ → ℕ
lowest p = without (vars p - 1) (vars p)

-- the one or the other list of parts
abbrev pub either_parts : Bool → List (List ℕ) → List (List ℕ) → List (List ℕ)
either_parts true ps qs = ps
either_parts false ps qs = qs

-- p put before the first part whose lowest variable is above its own
unfoldable pub place : List ℕ → List (List ℕ) → List (List ℕ)
place p [] = p ∷ []
place p (q ∷ qs) = either_parts (ltb (lowest p) (lowest q)) (p ∷ q ∷ qs) (q ∷ place p qs)

-- the parts ps put in their places among the parts qs
unfoldable pub merged : List (List ℕ) → List (List ℕ) → List (List ℕ)
merged [] qs = qs
merged (p ∷ ps) qs = place p (merged ps qs)
