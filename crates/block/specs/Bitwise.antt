-- The bits of a polynomial's block one by one, as RULES 4.1 has its fields.
use Rattle.std.specs.Prelude.{ℕ, Bool, false, List, ◌++◌, length, replicate}
use Rattle.terms.specs.Width.{width_of}
use Rattle.digits.specs.Bitwise.{bits_of, row}
use Rattle.packing.specs.Format.{spare}

-- form number, n, t, terms, padding
abbrev pub block_bits : List ℕ → List Bool
block_bits terms =
    bits_of 4 1
    ++ (bits_of 7 (width_of terms)
    ++ (bits_of 13 (length terms)
    ++ (row (width_of terms) terms
    ++ replicate (spare (width_of terms) (length terms)) false)))
