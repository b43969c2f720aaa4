-- Bits one by one, for a reader who wants to lay them beside RULES 4.1: a number's bits most significant first, and the bits of
-- numbers one behind the other.
use Rattle.std.specs.Prelude.{ℕ, zero, suc, Bool, List, [], ◌∷◌, ◌++◌}
use Rattle.masks.specs.Bit.{bit}

-- the w lowest bits of x, most significant first
unfoldable pub bits_of : ℕ → ℕ → List Bool
bits_of zero x = []
bits_of (suc w) x = bit x w ∷ bits_of w x

-- the bits of the numbers of a list, w bits each, no gaps
unfoldable pub row : ℕ → List ℕ → List Bool
row w [] = []
row w (x ∷ xs) = bits_of w x ++ row w xs
