-- The first term that is out of order, by its index from 0: the place that code 3 gives (RULES 5.1 and 5.2).
use Rattle.std.specs.Prelude.{ℕ, suc, Bool, true, false, List, [], ◌∷◌, ltb}

-- the one or the other number
abbrev pub pick : Bool → ℕ → ℕ → ℕ
pick true a b = a
pick false a b = b

-- how many terms of the list go on rising from x before one does not
unfoldable pub rising : ℕ → List ℕ → ℕ
rising x [] = 0
rising x (y ∷ l) = pick (ltb x y) (suc (rising y l)) 0

-- the first index whose term is not above the one before it, or the length where there is none
unfoldable pub unordered : List ℕ → ℕ
unordered [] = 0
unordered (x ∷ l) = suc (rising x l)
