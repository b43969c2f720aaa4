-- What the steps of the question promise each other. Nothing here has to be believed: the promise of together (Together.antt) does not speak
-- of it.
use Rattle.std.specs.Prelude.{ℕ, ◌+◌, ◌*◌, ◌^◌, ◌≤◌, ◌<◌, ◌≡◌, List, [], ◌∷◌, ◌++◌, eqb, length}
use Rattle.std.specs.Int.Bits.{bit_and, bit_or, bit_xor}
use Rattle.polys.specs.List.{Asc, either}
use Rattle.polys.specs.Poly.{vars}
use Rattle.rule.specs.Rule.{Occurs}
use Rattle.answer.specs.Ends.{over}

-- of the terms that have just `value` of the variables `fixed`: what is left of them without it
unfoldable pub selected : ℕ → ℕ → List ℕ → List ℕ
selected fixed value [] = []
selected fixed value (t ∷ f) = either (eqb (bit_and t fixed) value) (bit_xor t value ∷ selected fixed value f) (selected fixed value f)

-- the four lists of two variables, given as masks
unfoldable pub four_selected : ℕ → ℕ → List ℕ → List ℕ
four_selected x y f = selected x x f ++ (selected x 0 f ++ (selected (bit_or x y) (bit_or x y) f ++ selected (bit_or x y) y f))

-- the four lists of f stand at the start of the room and end at a, b, c, d
pub record Laid (x y : ℕ) (f old new : List ℕ) (a b c d : ℕ) : Type 0 where
  pub stands : new ≡ over (four_selected x y f) old
  pub end_a : a ≡ length (selected x x f)
  pub end_b : b ≡ a + length (selected x 0 f)
  pub end_c : c ≡ b + length (selected (bit_or x y) (bit_or x y) f)
  pub end_d : d ≡ c + length (selected (bit_or x y) y f)
  pub within : d ≤ length new

-- what the checks have shown before the question is asked
pub record Askable (max_terms max_vars : ℕ) (f : List ℕ) (x y room : ℕ) : Type 0 where
  pub few : length f ≤ max_terms
  pub ascends : Asc f
  pub below : vars f < 2 ^ max_vars
  pub has_x : Occurs x f
  pub has_y : Occurs y f
  pub low_x : x < max_vars
  pub low_y : y < max_vars
  pub other : ¬ (x ≡ y)
  pub fits : 2 * length f ≤ room
