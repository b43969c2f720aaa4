-- What an equation says (RULES 12.3), and the text that is written of a term list.
use Rattle.std.specs.Prelude.{ℕ, zero, suc, ◌^◌, Bool, true, false, not, List, [], ◌∷◌, map, eqb}
use Rattle.std.specs.Int.Bits.{bit_or}
use Rattle.masks.specs.Bit.{bit}
use Rattle.masks.specs.Width.{width}
use Rattle.polys.specs.List.{either, collect}
use Rattle.typed.specs.Form.{text_of}

-- a term as written, as a number: the bits of its variables
unfoldable pub mask : List ℕ → ℕ
mask [] = 0
mask (v ∷ vs) = bit_or (2 ^ v) (mask vs)

-- the answer, or its opposite where the test is true
abbrev pub turned : Bool → Bool → Bool
turned true b = not b
turned false b = b

-- whether x stands in the list an odd number of times
unfoldable pub oddly : List ℕ → ℕ → Bool
oddly [] x = false
oddly (y ∷ l) x = turned (eqb x y) (oddly l x)

-- the numbers of a list for which the test says yes
unfoldable pub kept : (ℕ → Bool) → List ℕ → List ℕ
kept test [] = []
kept test (x ∷ l) = either (test x) (x ∷ kept test l) (kept test l)

-- the numbers that stand in a list an odd number of times, ascending: two equal ones cancel
unfoldable pub left : List ℕ → List ℕ
left l = kept (oddly l) (collect l)

-- the term list of an equation as written
abbrev pub sum : List (List ℕ) → List ℕ
sum ts = left (map mask ts)

-- those of the k variables from i on that stand in the term t, ascending
unfoldable pub held_from : ℕ → ℕ → ℕ → List ℕ
held_from i zero t = []
held_from i (suc k) t = either (bit t i) (i ∷ held_from (suc i) k t) (held_from (suc i) k t)

-- the variables of a term, ascending
abbrev pub held : ℕ → List ℕ
held t = held_from 0 (width t) t

-- the text of a term list: its terms in order, in each the variables ascending
abbrev pub written : List ℕ → List ℕ
written terms = text_of (map held terms)
