-- A product walked beside a list. `Comparable` is what `compared` asks; the rest carries its proof.
use Rattle.std.specs.Prelude.{ℕ, ◌+◌, ◌<◌, ◌≡◌, Bool, true, false, List, [], ◌∷◌, ltb, length, get_or}
use Rattle.std.specs.Int.Bits.{bit_or}
use Rattle.polys.specs.List.{Asc}
use Rattle.unions.specs.Unions.{Factors}

-- two polynomials that are not zero and share no variable, and a list that ascends
pub record Comparable (a b f : List ℕ) : Type 0 where
  pub factors : Factors a b
  pub list : Asc f

-- the first i terms of f are the unions of t with those of b
abbrev pub Alike : ℕ → List ℕ → List ℕ → ℕ → Type 0
Alike t b f i = (k : ℕ) → k < i → get_or f k 0 ≡ bit_or t (get_or b k 0)

-- how far a walk comes: on to a place of the list, or to a term that the list lacks or adds
pub data Way : Type 0 where
  on : ℕ → Way
  lacks : ℕ → Way
  adds : ℕ → Way

-- x beside y, if there is a y: where they differ the smaller of them, and what comes behind them where they agree
abbrev pub met : Bool → Bool → Bool → ℕ → ℕ → Way → Way
met false below above x y behind = lacks x
met true true above x y behind = lacks x
met true false true x y behind = adds y
met true false false x y behind = behind

-- the list p beside the list f from a place on
unfoldable pub walked : List ℕ → List ℕ → ℕ → Way
walked [] f at = on at
walked (x ∷ p) f at = met (ltb at (length f)) (ltb x (get_or f at 0)) (ltb (get_or f at 0) x) x (get_or f at 0) (walked p f (at + 1))

-- what a walk does behind another
abbrev pub onward : Way → (ℕ → Way) → Way
onward (on at) further = further at
onward (lacks u) further = lacks u
onward (adds u) further = adds u
