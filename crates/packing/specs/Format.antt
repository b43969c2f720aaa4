-- The block (RULES 4): what its bits say, and the one block of a polynomial. `bits`, `fields`, `num` and `digits` take a field with its
-- most significant bit first, one directly behind the other.
use Rattle.std.specs.Prelude.{ℕ, ◌+◌, ◌-◌, ◌*◌, ◌/◌, ◌^◌, List, length}
use Rattle.digits.specs.Number.{num, digits, bits, fields}
use Rattle.terms.specs.Width.{width_of}

-- how many bytes a block with this n and t has (RULES 4.2)
abbrev pub size : ℕ → ℕ → ℕ
size n t = 3 + (n * t + 7) / 8

-- and how many bits of padding fill its last byte
abbrev pub spare : ℕ → ℕ → ℕ
spare n t = 8 * size n t - (24 + n * t)

-- the fields of RULES 4.1 in their order: 4 bits for the form number,
abbrev pub form_in : List ℕ → ℕ
form_in block = bits block 0 4

-- 7 for n,
abbrev pub n_in : List ℕ → ℕ
n_in block = bits block 4 7

-- 13 for t,
abbrev pub t_in : List ℕ → ℕ
t_in block = bits block 11 13

-- t terms of n bits each,
abbrev pub terms_in : List ℕ → ℕ → ℕ → List ℕ
terms_in block n t = fields block 24 n t

-- and what is left of the last byte, as one number
abbrev pub spare_in : List ℕ → ℕ → ℕ → ℕ
spare_in block n t = bits block (24 + n * t) (spare n t)

-- the w bits of x behind the bits of a number
abbrev pub behind : ℕ → ℕ → ℕ → ℕ
behind row w x = row * 2 ^ w + x

-- the 24 bits of the header: form number 1, then n, then t
abbrev pub header_of : ℕ → ℕ → ℕ
header_of n t = behind (behind 1 7 n) 13 t

-- the header and the terms behind it
abbrev pub body_of : ℕ → List ℕ → ℕ
body_of n terms = behind (header_of n (length terms)) (n * length terms) (num n terms)

-- the bits of a block as one number: header and terms, and padding of zero bits
abbrev pub number_of : ℕ → List ℕ → ℕ
number_of n terms = behind (body_of n terms) (spare n (length terms)) 0

-- how many bytes the block of a polynomial takes
abbrev pub size_of : List ℕ → ℕ
size_of terms = size (width_of terms) (length terms)

-- the one block of a polynomial (RULES 4.3)
unfoldable pub block_of : List ℕ → List ℕ
block_of terms = digits 8 (size_of terms) (number_of (width_of terms) terms)
