-- The numbers behind words, in the smaller size: a term is one word, and its number is that word.
use Rattle.std.specs.Prelude.{ℕ, List}
use Rattle.narrow.specs.declared.Narrow.{Narrow}

-- the number of a term
abbrev pub value : Narrow → ℕ
value t = t.bits

-- the terms that stand in the words
abbrev pub numbers : List ℕ → List ℕ
numbers ws = ws

-- how many words so many terms take
abbrev pub room : ℕ → ℕ
room n = n

-- how many variables there are: the input lines of a board
abbrev pub lines : ℕ
lines = 64

-- terms laid out in words
abbrev pub words_of : List ℕ → List ℕ
words_of xs = xs
