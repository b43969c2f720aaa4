-- Lists of numbers: members, strict order, and the ascending list of what a list holds.
use Rattle.std.specs.Prelude.{ℕ, ◌<◌, ◌≡◌, Bool, true, false, List, [], ◌∷◌, ◌⊎◌, ltb, eqb}

-- x stands in the list
abbrev pub Mem : List ℕ → ℕ → Type 0
Mem [] x = ⊥
Mem (y ∷ l) x = (x ≡ y) ⊎ Mem l x

-- every number of the list is above x
abbrev pub Above : ℕ → List ℕ → Type 0
Above x [] = Unit {0}
Above x (y ∷ l) = (x < y) × Above x l

-- strictly ascending
abbrev pub Asc : List ℕ → Type 0
Asc [] = Unit {0}
Asc (x ∷ l) = Above x l × Asc l

-- the one or the other list
abbrev pub either : Bool → List ℕ → List ℕ → List ℕ
either true a b = a
either false a b = b

-- x put into its place in an ascending list, or the list itself where x stands in it already
unfoldable pub insert : ℕ → List ℕ → List ℕ
insert x [] = x ∷ []
insert x (y ∷ l) = either (ltb x y) (x ∷ y ∷ l) (either (eqb x y) (y ∷ l) (y ∷ insert x l))

-- the numbers of a list, ascending and each once
unfoldable pub collect : List ℕ → List ℕ
collect [] = []
collect (x ∷ l) = insert x (collect l)
