-- The papers' rule for two variables x and y (RULES 8.1 and 8.2). Of the terms of F, A gets those with x and B the others; out of A and B those with y
-- go to C and D; the variable that was looked for is taken out. The rule compares AD with BC. A variable is given by its number.
use Rattle.std.specs.Prelude.{ℕ, ◌^◌, ◌<◌, ◌≡◌, Bool, true, false, ◌&&◌, ◌||◌, List, [], ◌∷◌, map}
use Rattle.masks.specs.Bit.{bit, without}
use Rattle.polys.specs.Poly.{vars}
use Rattle.ring.specs.Same.{SameProducts}
use Rattle.ring.specs.Run.{lacking, holding}

-- the derivative by x: of the terms that hold x, what is left without it
unfoldable pub derivative : ℕ → List ℕ → List ℕ
derivative x f = map (without (2 ^ x)) (holding x f)

-- the value at x = 0: the terms without x
abbrev pub at_zero : ℕ → List ℕ → List ℕ
at_zero x f = lacking x f

-- the variable x occurs in f
abbrev pub Occurs : ℕ → List ℕ → Type 0
Occurs x f = bit (vars f) x ≡ true

-- every variable of f is below n
abbrev pub Below : ℕ → List ℕ → Type 0
Below n f = (i : ℕ) → Occurs i f → i < n

-- what the papers ask of F, x and y: AD = BC, as *same products* decides it, in n variables
abbrev pub PapersSay : ℕ → List ℕ → ℕ → ℕ → Type 0
PapersSay n f x y =
    SameProducts n (derivative x f) (derivative y (at_zero x f)) (at_zero x f) (derivative y (derivative x f))

-- some part of the list holds both x and y; if none does, y lies in another part than x
unfoldable pub together : ℕ → ℕ → List (List ℕ) → Bool
together x y [] = false
together x y (p ∷ ps) = bit (vars p) x && bit (vars p) y || together x y ps
