-- Lists in another order.
use Rattle.std.specs.Prelude.{List, [], ◌∷◌, ◌++◌}

-- the second list is the first in another order: two neighbours change places, any number of times
pub data Rearranged {A : Type 0} : List A → List A → Type 0 where
  same : {l : List A} → Rearranged l l
  exchanged : {l : List A} (a : List A) (x y : A) (b : List A) → Rearranged l (a ++ x ∷ y ∷ b) → Rearranged l (a ++ y ∷ x ∷ b)

-- each list of the one is that of the other in another order
abbrev pub EachRearranged : {A : Type 0} → List (List A) → List (List A) → Type 0
EachRearranged [] [] = Unit {0}
EachRearranged [] (u ∷ us) = ⊥
EachRearranged (t ∷ ts) [] = ⊥
EachRearranged (t ∷ ts) (u ∷ us) = Rearranged t u × EachRearranged ts us
