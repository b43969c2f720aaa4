-- Lists that are lent one behind the other, with a list of their lengths (docs/RULES.md, 13.2 and 15.2).
use Rattle.std.specs.Prelude.{ℕ, ◌+◌, ltb, length, take, drop}
use mathlib.Core.List.{List, [], ◌∷◌, foldr}
use Rattle.answer.specs.Ends.{Check, check}

-- the lists of these lengths that stand one after another
unfoldable pub cut : List ℕ → List ℕ → List (List ℕ)
cut [] words = []
cut (l ∷ ls) words = take l words ∷ cut ls (drop l words)

-- the lengths added
abbrev pub added : List ℕ → ℕ
added ls = foldr ◌+◌ 0 ls

-- there are no more lists than this, and their lengths add to the words that were lent
abbrev pub lent_checks : ℕ → ℕ → List ℕ → List Check
lent_checks most words ls =
    check (ltb most (length ls)) 2 0 0
    ∷ check (ltb words (added ls)) 10 0 0
    ∷ check (ltb (added ls) words) 12 0 0
    ∷ []
