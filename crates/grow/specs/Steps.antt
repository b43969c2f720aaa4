-- What the steps of growing a part promise each other. Nothing here has to be believed: the promise of split speaks of
-- the definitions of polys alone, and these records only carry its proof from function to function.
use Rattle.std.specs.Prelude.{ℕ, ◌≤◌, ◌<◌, ◌≡◌, true, List, [], ◌∷◌, length, get_or, take}
use Rattle.std.specs.Int.Bits.{bit_and, bit_or, bit_xor}
use Rattle.masks.specs.Bit.{bit, without}
use Rattle.masks.proofs.Lowest.{IsLowest}
use Rattle.polys.specs.List.{Asc}
use Rattle.polys.specs.Poly.{vars, onto, off}
use Rattle.splitting.specs.Mix.{Closed, pick}
use Rattle.splitting.proofs.Forced.{Forced}

-- where u and t differ on w
abbrev pub differs : ℕ → ℕ → ℕ → ℕ
differs w t u = bit_and (bit_xor u t) w

-- some term of f is on y what s is
abbrev pub Agrees : List ℕ → ℕ → ℕ → Type 0
Agrees f y s = (k : ℕ) × (k < length f) × (bit_and (get_or f k 0) y ≡ bit_and s y)

-- r is the difference from t of a term that is on y what s is; and no such term differs less
pub record Least (f : List ℕ) (y w s t r : ℕ) : Type 0 where
  pub bound : (k : ℕ) → k < length f → bit_and (get_or f k 0) y ≡ bit_and s y → r ≤ differs w t (get_or f k 0)
  pub from : (k : ℕ) × (k < length f) × (bit_and (get_or f k 0) y ≡ bit_and s y) × (r ≡ differs w t (get_or f k 0))

-- the first term of f
abbrev pub first : List ℕ → ℕ
first f = get_or f 0 0

-- what was picked from f along y, where w are its other variables: of the terms that are on w what the first is, what they are on y;
-- and of the terms that are on y what the first is, what they are on w
pub record Picks (f : List ℕ) (y w : ℕ) (inside outside : List ℕ) : Type 0 where
  pub ascends : Asc f
  pub some : 0 < length f
  pub others : w ≡ without y (vars f)
  pub inner : inside ≡ pick y w (bit_and (first f) w) f
  pub outer : outside ≡ pick w y (bit_and (first f) y) f

-- a list f that is not zero and not too long to be counted; y are some of its variables
pub record Growable (f : List ℕ) (y all : ℕ) : Type 0 where
  pub ascends : Asc f
  pub some : 0 < length f
  pub short : length f ≤ 65535
  pub variables : all ≡ vars f
  pub inside : bit_and y all ≡ y

-- what was picked from f stands at the start of the two rooms
pub record Laid (f : List ℕ) (y w : ℕ) (inside outside : List ℕ) (part rest : ℕ) : Type 0 where
  pub inner : take part inside ≡ pick y w (bit_and (first f) w) f
  pub outer : take rest outside ≡ pick w y (bit_and (first f) y) f
  pub part_count : part ≡ length (pick y w (bit_and (first f) w) f)
  pub rest_count : rest ≡ length (pick w y (bit_and (first f) y) f)
  pub part_fits : part ≤ length f
  pub rest_fits : rest ≤ length f

-- f itself and the term 1 stand there
pub record LaidWhole (f inside outside : List ℕ) (part rest : ℕ) : Type 0 where
  pub inner : take part inside ≡ f
  pub outer : take rest outside ≡ 0 ∷ []
  pub part_count : part ≡ length f
  pub rest_count : rest ≡ 1

-- variables outside y, if any, that belong to whatever y belongs to
pub record Belongs (f : List ℕ) (y more : ℕ) : Type 0 where
  pub outside : bit_and more y ≡ 0
  pub inside : bit_and more (vars f) ≡ more
  pub forced : (i : ℕ) → Forced i y f → Forced i (bit_or y more) f

-- variables that belong to whatever y belongs to; or none, and f is closed along y
pub record Brings (f : List ℕ) (y more : ℕ) : Type 0 where
  pub belongs : Belongs f y more
  pub closed : more ≡ 0 → Closed y f

-- the two projections of f along y stand at the start of the two rooms
pub record Stands (f : List ℕ) (y : ℕ) (inside outside : List ℕ) (part rest : ℕ) : Type 0 where
  pub onto_y : take part inside ≡ onto y f
  pub off_y : take rest outside ≡ off y f
  pub part_count : part ≡ length (onto y f)
  pub rest_count : rest ≡ length (off y f)
  pub part_fits : part ≤ length f
  pub rest_fits : rest ≤ length f

-- a step ends with a closed y and its projections laid out,
abbrev pub StepWhole : List ℕ → ℕ → List ℕ → List ℕ → ℕ → ℕ → Type 0
StepWhole f y inside outside part rest = Closed y f × Stands f y inside outside part rest

-- or with more variables
abbrev pub StepMore : List ℕ → ℕ → ℕ → Type 0
StepMore f y more = Belongs f y more × ¬ (more ≡ 0)

-- y are the variables of the part of the lowest variable
pub record PartOfLowest (f : List ℕ) (y : ℕ) : Type 0 where
  pub inside : bit_and y (vars f) ≡ y
  pub closed : Closed y f
  pub lowest : (i : ℕ) × (bit y i ≡ true) × IsLowest (vars f) i × Forced i y f
