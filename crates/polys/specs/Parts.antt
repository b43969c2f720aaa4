-- The parts of a polynomial (RULES 2.5): irreducible lists, no variable in two of them, whose product it is, in order by their
-- lowest variable.
use Rattle.std.specs.Prelude.{ℕ, ◌≤◌, ◌≡◌, true, false, List, [], ◌∷◌}
use Rattle.masks.specs.Bit.{bit}
use Rattle.polys.specs.List.{Asc}
use Rattle.polys.specs.Poly.{vars, times, Apart, Irreducible}

-- the product of a list of parts; of none it is the constant one
unfoldable pub product : List (List ℕ) → List ℕ
product [] = 0 ∷ []
product (p ∷ ps) = times p (product ps)

-- each part of the list has the property
abbrev pub Each : (List ℕ → Type 0) → List (List ℕ) → Type 0
Each has [] = Unit {0}
Each has (p ∷ ps) = has p × Each has ps

-- the lowest variable of p is below the lowest variable of q: some variable of p is below every variable of q
abbrev pub Lower : List ℕ → List ℕ → Type 0
Lower p q = (i : ℕ) × (bit (vars p) i ≡ true) × ((j : ℕ) → j ≤ i → bit (vars q) j ≡ false)

-- no variable stands in two parts
abbrev pub AllApart : List (List ℕ) → Type 0
AllApart [] = Unit {0}
AllApart (p ∷ ps) = Each (Apart p) ps × AllApart ps

-- in ascending order of the lowest variable
abbrev pub InOrder : List (List ℕ) → Type 0
InOrder [] = Unit {0}
InOrder (p ∷ ps) = Each (Lower p) ps × InOrder ps

-- ps are the parts of f
pub record IsParts (f : List ℕ) (ps : List (List ℕ)) : Type 0 where
  pub ascending : Each Asc ps
  pub irreducible : Each Irreducible ps
  pub apart : AllApart ps
  pub multiply : product ps ≡ f
  pub ordered : InOrder ps
