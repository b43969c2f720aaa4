-- Polynomials as lists of terms (RULES 1.1 to 2.4). A term is a number, its bits are its variables, and the number 0 is the
-- constant 1. A polynomial is a list of terms, each above the one before. Nothing here names a width or a limit.
use Rattle.std.specs.Prelude.{ℕ, ◌≡◌, List, [], ◌∷◌, ◌++◌, map}
use Rattle.std.specs.Int.Bits.{bit_and, bit_or}
use Rattle.masks.specs.Bit.{without}
use Rattle.polys.specs.List.{collect}

-- the variables of a polynomial: those that some term holds
unfoldable pub vars : List ℕ → ℕ
vars [] = 0
vars (t ∷ f) = bit_or t (vars f)

-- projection onto the variables y: what each term has in y, equal results once
unfoldable pub onto : ℕ → List ℕ → List ℕ
onto y f = collect (map (λ t. bit_and t y) f)

-- projection onto the variables other than y
unfoldable pub off : ℕ → List ℕ → List ℕ
off y f = collect (map (without y) f)

-- each term of g united with each term of h
unfoldable pub unions : List ℕ → List ℕ → List ℕ
unions [] h = []
unions (t ∷ g) h = map (bit_or t) h ++ unions g h

-- the product of two lists with no common variable
unfoldable pub times : List ℕ → List ℕ → List ℕ
times g h = collect (unions g h)

-- g and h have no common variable
abbrev pub Apart : List ℕ → List ℕ → Type 0
Apart g h = bit_and (vars g) (vars h) ≡ 0

-- f splits along y: it equals the product of two projections, the one onto y and the one onto all other variables
abbrev pub SplitsAlong : ℕ → List ℕ → Type 0
SplitsAlong y f = f ≡ times (onto y f) (off y f)

-- f is irreducible: it has a variable, and splits along no y that has one of its variables and lacks one
pub record Irreducible (f : List ℕ) : Type 0 where
  pub varies : ¬ (vars f ≡ 0)
  pub whole : (y : ℕ) → ¬ (bit_and y (vars f) ≡ 0) → ¬ (bit_and y (vars f) ≡ vars f) → ¬ SplitsAlong y f
