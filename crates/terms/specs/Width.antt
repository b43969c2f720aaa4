-- n of a polynomial (RULES 1.4): the number of its highest variable plus 1, or 0 where it has no variable.
use Rattle.std.specs.Prelude.{ℕ, List}
use Rattle.masks.specs.Width.{width}
use Rattle.polys.specs.Poly.{vars}

-- n of a polynomial
abbrev pub width_of : List ℕ → ℕ
width_of f = width (vars f)
