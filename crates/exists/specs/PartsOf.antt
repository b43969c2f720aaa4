-- A function that gives the parts of a polynomial (RULES 2.5), plain and slow: it tries every set of
-- variables. It serves to be read and computed on small examples; the split that is run is another.
use Rattle.std.specs.Prelude.{ℕ, zero, suc, Bool, true, false, ◌&&◌, ◌||◌, List, [], ◌∷◌, eqb}
use Rattle.std.specs.Int.Bits.{bit_and}
use Rattle.polys.specs.Poly.{vars, onto, off}
use Rattle.splitting.specs.Mix.{mix}
use Rattle.unique.specs.Merged.{lowest, either_parts}

-- x is a term of f
unfoldable pub is_term : List ℕ → ℕ → Bool
is_term [] x = false
is_term (t ∷ f) x = eqb x t || is_term f x

-- every term of f passes the test
unfoldable pub every : (ℕ → Bool) → List ℕ → Bool
every test [] = true
every test (t ∷ f) = test t && every test f

-- f is closed under mixing along y: for every two terms, the one's variables in y with the other's outside y are a term
unfoldable pub is_closed : ℕ → List ℕ → Bool
is_closed y f = every (λ s. every (λ t. is_term f (mix y s t)) f) f

-- where the test passes, the common variables of y and z, else those of z
abbrev pub narrowed : Bool → ℕ → ℕ → ℕ
narrowed true y z = bit_and y z
narrowed false y z = z

-- the variables of f that lie in every set y, as a number at most n, that holds x and along which f is closed
unfoldable pub common : ℕ → ℕ → List ℕ → ℕ
common zero x f = vars f
common (suc n) x f = narrowed (eqb (bit_and x (suc n)) x && is_closed (suc n) f) (suc n) (common n x f)

-- the variables of the part that holds the lowest variable of f
unfoldable pub first_vars : List ℕ → ℕ
first_vars f = common (vars f) (lowest f) f

-- the parts of f found in at most n steps: the one that holds the lowest variable, and then those of what is left
unfoldable pub parts_in : ℕ → List ℕ → List (List ℕ)
parts_in zero f = []
parts_in (suc n) f = either_parts (eqb (vars f) 0) [] (onto (first_vars f) f ∷ parts_in n (off (first_vars f) f))

-- the parts of f: what is left falls at each step, its variables taken as a number, so that these steps suffice
unfoldable pub parts_of : List ℕ → List (List ℕ)
parts_of f = parts_in (vars f) f
