-- The numbers behind words, in the larger size: a term is two words, the low one first, and its number is both read as one.
use Rattle.std.specs.Prelude.{ℕ, ◌+◌, ◌*◌, ◌/◌, ◌%◌, ◌^◌, List, [], ◌∷◌}
use Rattle.wide.specs.declared.Wide.{Wide}

-- the number of two words
abbrev pub two : ℕ → ℕ → ℕ
two low high = high * 2 ^ 64 + low

-- the number of a term
unfoldable pub value : Wide → ℕ
value t = two t.low t.high

-- the terms that stand in the words, two words to a term, the low one first; an odd last word is left out
unfoldable pub numbers : List ℕ → List ℕ
numbers [] = []
numbers (low ∷ []) = []
numbers (low ∷ (high ∷ ws)) = two low high ∷ numbers ws

-- how many words so many terms take
abbrev pub room : ℕ → ℕ
room n = 2 * n

-- how many variables there are: the input lines of a board
abbrev pub lines : ℕ
lines = 128

-- terms laid out in words
unfoldable pub words_of : List ℕ → List ℕ
words_of [] = []
words_of (x ∷ xs) = x % 2 ^ 64 ∷ (x / 2 ^ 64 ∷ words_of xs)
