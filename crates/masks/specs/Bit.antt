-- A number as a set of variables: bit i tells whether xi is in it (RULES 1.1).
use Rattle.std.specs.Prelude.{ℕ, zero, suc, ◌/◌, ◌%◌, Bool, eqb}
use Rattle.std.specs.Int.Bits.{bit_and, bit_xor}

-- whether variable i stands in the set m: bit i of the number m, counted from the lowest
unfoldable pub bit : ℕ → ℕ → Bool
bit m zero = eqb (m % 2) 1
bit m (suc i) = bit (m / 2) i

-- t with the variables of y cleared
abbrev pub without : ℕ → ℕ → ℕ
without y t = bit_xor t (bit_and t y)
