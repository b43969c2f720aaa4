-- The tail of a list (RULES 1.5): the terms that hold the highest variable end the list, and still ascend without that bit.
-- A run is a list of which this holds at every variable below k, however often it is cut.
use Rattle.std.specs.Prelude.{ℕ, zero, suc, ◌%◌, ◌^◌, ◌≤◌, ◌≡◌, Bool, true, false, List, [], ◌∷◌, ◌++◌, map, length}
use Rattle.masks.specs.Bit.{bit}
use Rattle.polys.specs.List.{either}

-- the terms that do not hold variable i
unfoldable pub lacking : ℕ → List ℕ → List ℕ
lacking i [] = []
lacking i (t ∷ l) = either (bit t i) (lacking i l) (t ∷ lacking i l)

-- the terms that hold variable i
unfoldable pub holding : ℕ → List ℕ → List ℕ
holding i [] = []
holding i (t ∷ l) = either (bit t i) (t ∷ holding i l) (holding i l)

-- the terms that hold variable i are the tail of the list
abbrev pub Cut : ℕ → List ℕ → Type 0
Cut i l = l ≡ lacking i l ++ holding i l

-- ascending and each once, as far as the variables below k tell: the tail holds the highest, and both parts are runs on those below it
abbrev pub Run : ℕ → List ℕ → Type 0
Run zero l = length l ≤ 1
Run (suc k) l = Cut k l × Run k (lacking k l) × Run k (holding k l)

-- each term without its bits from k on
abbrev pub lows : ℕ → List ℕ → List ℕ
lows k l = map (λ t. t % 2 ^ k) l

-- a yes says that the statement holds, a no that it does not
abbrev pub Decides : Bool → Type 0 → Type 0
Decides true P = P
Decides false P = ¬ P
