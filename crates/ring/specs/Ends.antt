-- What the first and the last terms of four lists tell of a variable: whether it is constant in each of them, and whether it then
-- stands equally often on either side of AD = BC. Each is one mask for all variables.
use Rattle.std.specs.Prelude.{ℕ, ◌-◌, ◌<◌, List, length, get_or}
use Rattle.std.specs.Int.Bits.{bit_and, bit_or, bit_xor}
use Rattle.ring.specs.Run.{Run}

-- the first and the last term of a list that is not empty
abbrev pub first : List ℕ → ℕ
first l = get_or l 0 0

abbrev pub last : List ℕ → ℕ
last l = get_or l (length l - 1) 0

-- the variables on which the first and the last term differ
abbrev pub turning : List ℕ → ℕ
turning l = bit_xor (first l) (last l)

-- the variables that are not constant in one of the four lists
abbrev pub varying : List ℕ → List ℕ → List ℕ → List ℕ → ℕ
varying a d b c = bit_or (bit_or (turning a) (turning d)) (bit_or (turning b) (turning c))

-- the variables that stand more often in p times q than in r times s, or less often
abbrev pub imbalance : ℕ → ℕ → ℕ → ℕ → ℕ
imbalance p q r s = bit_or (bit_xor (bit_xor p q) (bit_xor r s)) (bit_xor (bit_and p q) (bit_and r s))

-- the variables that the first terms do not hold equally often on either side
abbrev pub uneven : List ℕ → List ℕ → List ℕ → List ℕ → ℕ
uneven a d b c = imbalance (first a) (first d) (first b) (first c)

-- four runs that are not empty
pub record Four (k : ℕ) (a d b c : List ℕ) : Type 0 where
  pub run_a : Run k a
  pub run_d : Run k d
  pub run_b : Run k b
  pub run_c : Run k c
  pub some_a : 0 < length a
  pub some_d : 0 < length d
  pub some_b : 0 < length b
  pub some_c : 0 < length c
