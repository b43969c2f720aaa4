-- Where A and B have one term each, u and v, AD = BC says that the terms of D and C match in order: u times the i-th of D is v times
-- the i-th of C.
use Rattle.std.specs.Prelude.{ℕ, ◌+◌, ◌<◌, ◌≡◌, List, [], ◌∷◌}
use Rattle.masks.specs.Bit.{bit}
use Rattle.ring.specs.Same.{one_if}

-- the exponent of variable i in the product of the terms s and t: 0, 1 or 2
abbrev pub exponent : ℕ → ℕ → ℕ → ℕ
exponent s t i = one_if (bit s i) + one_if (bit t i)

-- the product of u and x is that of v and y, on the variables below k
abbrev pub Even : ℕ → ℕ → ℕ → ℕ → ℕ → Type 0
Even k u x v y = (i : ℕ) → i < k → exponent u x i ≡ exponent v y i

-- term by term
abbrev pub Matched : ℕ → ℕ → ℕ → List ℕ → List ℕ → Type 0
Matched k u v [] [] = Unit {0}
Matched k u v [] (y ∷ c) = ⊥
Matched k u v (x ∷ d) [] = ⊥
Matched k u v (x ∷ d) (y ∷ c) = Even k u x v y × Matched k u v d c
