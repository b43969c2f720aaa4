-- Mixing two terms, and picking terms: what the theory of splitting and the split itself speak of.
use Rattle.std.specs.Prelude.{ℕ, List, [], ◌∷◌, eqb}
use Rattle.std.specs.Int.Bits.{bit_and, bit_or}
use Rattle.masks.specs.Bit.{without}
use Rattle.polys.specs.List.{Mem, either}

-- the term that is s on the variables y and t on the others
abbrev pub mix : ℕ → ℕ → ℕ → ℕ
mix y s t = bit_or (bit_and s y) (without y t)

-- the terms of f are closed under mixing along y
abbrev pub Closed : ℕ → List ℕ → Type 0
Closed y f = (s t : ℕ) → Mem f s → Mem f t → Mem f (mix y s t)

-- of the terms of f whose variables in `fixed` are just `value`, the variables in `keep`
unfoldable pub pick : ℕ → ℕ → ℕ → List ℕ → List ℕ
pick keep fixed value [] = []
pick keep fixed value (t ∷ f) =
    either (eqb (bit_and t fixed) value) (bit_and t keep ∷ pick keep fixed value f) (pick keep fixed value f)
