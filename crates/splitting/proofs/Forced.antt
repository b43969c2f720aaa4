-- Which variables belong to whatever a variable belongs to.
use mathlib.Core.Path.{◌≡◌}
use mathlib.Core.Bool.{true}
use mathlib.Core.List.{List}
use Prim.Native.Nat.{ℕ}
use lib.Bits.{bit_and}
use Rattle.masks.specs.Bit.{bit}
use Rattle.splitting.specs.Mix.{Closed}

-- every closed set of f that holds the variable i holds all of y
abbrev pub Forced : ℕ → ℕ → List ℕ → Type 0
Forced i y f = (z : ℕ) → Closed z f → bit z i ≡ true → bit_and y z ≡ y
