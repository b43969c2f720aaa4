-- Numbers written in digits, and fields of bits in a row of bytes, one directly behind the other, most significant bit first
-- (RULES 4.1). A base is written by its exponent: digits of w bits are digits in base 2 ^ w. Bytes are digits of 8 bits, and
-- the terms of a block are digits of n bits. Nothing here names a limit.
use Rattle.std.specs.Prelude.{ℕ, zero, suc, ◌+◌, ◌-◌, ◌*◌, ◌/◌, ◌%◌, ◌^◌, ◌<◌, List, [], ◌∷◌, length, get_or}

-- the number whose digits of w bits, highest first, are the list
unfoldable pub num : ℕ → List ℕ → ℕ
num w [] = 0
num w (x ∷ xs) = x * 2 ^ (w * length xs) + num w xs

-- the k lowest digits of w bits of the number x, highest first
unfoldable pub digits : ℕ → ℕ → ℕ → List ℕ
digits w zero x = []
digits w (suc k) x = (x / 2 ^ (w * k)) % 2 ^ w ∷ digits w k x

-- the field of w bits at bit o of a row of bytes, bits counted from the most significant bit of the first byte
unfoldable pub bits : List ℕ → ℕ → ℕ → ℕ
bits bytes o w = (num 8 bytes / 2 ^ (8 * length bytes - (o + w))) % 2 ^ w

-- k fields of w bits each, one behind the other from bit o on
unfoldable pub fields : List ℕ → ℕ → ℕ → ℕ → List ℕ
fields bytes o w zero = []
fields bytes o w (suc k) = bits bytes o w ∷ fields bytes (o + w) w k

-- every number of the list has at most w bits
abbrev pub Below : ℕ → List ℕ → Type 0
Below w xs = (i : ℕ) → get_or xs i 0 < 2 ^ w
