-- Irreducible polynomials over GF(2), in the ordinary sense, in the variables below n: any exponents, x times x is x squared (ring/specs/Same.antt). Nothing here
-- speaks of terms as sets, of unions or of projections.
use Rattle.std.specs.Prelude.{ℕ, List, [], ◌∷◌, ◌⊎◌}
use Rattle.ring.specs.Same.{Monomial, multiplied, Same}

-- g is constant: 0, or 1, the monomial in which every exponent is 0
abbrev pub Constant : ℕ → List Monomial → Type 0
Constant n g = Same n g [] ⊎ Same n g ((λ i. 0) ∷ [])

-- f is irreducible over GF(2): it is not constant, and no product of two polynomials that are not constant
pub record IrreducibleGF2 (n : ℕ) (f : List Monomial) : Type 0 where
  pub varies : ¬ Constant n f
  pub whole : (g h : List Monomial) → ¬ Constant n g → ¬ Constant n h → ¬ Same n f (multiplied g h)
