-- What the steps of split promise each other. Nothing here has to be believed: these records only carry the proof of split's
-- promise (parts/specs/Split.antt) from function to function.
use Rattle.std.specs.Prelude.{ℕ, ◌+◌, ◌≤◌, ◌<◌, ◌≡◌, List, length, get_or, take}
use Rattle.std.specs.Int.Bits.{bit_and}
use Rattle.masks.specs.Bit.{without}
use Rattle.polys.specs.List.{Asc}
use Rattle.polys.specs.Poly.{vars, onto, off}
use Rattle.polys.specs.Parts.{IsParts}
use Rattle.splitting.proofs.Held.{held}
use Rattle.grow.specs.Steps.{PartOfLowest}
use Rattle.answer.specs.Ends.{over}
use Rattle.taking.specs.Joined.{joined, lengths}

-- every term of the list holds the variables c
abbrev pub InEach : ℕ → List ℕ → Type 0
InEach c l = (k : ℕ) → k < length l → bit_and c (get_or l k 0) ≡ c

-- a list f, not too long to be counted, is the first n terms of the work area, which has room for three of its length; `all` are its
-- variables
pub record Ready (f : List ℕ) (work : List ℕ) (n all : ℕ) : Type 0 where
  pub list : take n work ≡ f
  pub ascends : Asc f
  pub some : 0 < n
  pub short : n ≤ 65535
  pub room : n + (n + n) ≤ length work
  pub variables : all ≡ vars f

-- the part of the lowest variable of f is written into the room, and the rest stands in the work area
pub record Taken (f room room' work' : List ℕ) (n y part rest : ℕ) : Type 0 where
  pub lowest : PartOfLowest f y
  pub written : room' ≡ over (onto y f) room
  pub part_count : part ≡ length (onto y f)
  pub left : take rest work' ≡ off y f
  pub rest_count : rest ≡ length (off y f)
  pub part_fits : part ≤ n
  pub rest_fits : rest ≤ n

-- the same of the list g with the variables c in every term besides: a part is written into the room, and the rest stands in the work area
pub record TakenNext (c : ℕ) (g room room' work' : List ℕ) (n all y part rest : ℕ) : Type 0 where
  pub lowest : PartOfLowest (held c g) y
  pub written : room' ≡ over (onto y (held c g)) room
  pub part_count : part ≡ length (onto y (held c g))
  pub left : held (without y c) (take rest work') ≡ off y (held c g)
  pub ascends : Asc (take rest work')
  pub variables : without y all ≡ vars (take rest work')
  pub rest_count : rest ≡ length (off y (held c g))
  pub part_fits : part ≤ n
  pub rest_fits : rest ≤ n

-- the parts of f are written
abbrev pub Written : List ℕ → List ℕ → List ℕ → List ℕ → List ℕ → ℕ → Type 0
Written f terms lens terms' lens' k =
    (ps : List (List ℕ)) × IsParts f ps × (k ≡ length ps) × (terms' ≡ over (joined ps) terms) × (lens' ≡ over (lengths ps) lens)
