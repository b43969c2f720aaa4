-- What the functions of this crate ask and give. Nothing here is part of a public promise.
use Rattle.std.specs.Prelude.{ℕ, ◌-◌, ◌*◌, ◌<◌, ◌≤◌, ◌≡◌, List, length, get_or}
use Rattle.std.specs.Int.Bits.{bit_xor}
use Rattle.polys.specs.List.{Asc}
use Rattle.polys.specs.Poly.{Apart}

-- two polynomials that are not zero and share no variable
pub record Factors (a b : List ℕ) : Type 0 where
  pub first : Asc a
  pub second : Asc b
  pub apart : Apart a b
  pub some_first : 0 < length a
  pub some_second : 0 < length b

-- such polynomials, with room for exactly their product
pub record Ready (a b : List ℕ) (room : ℕ) : Type 0 where
  pub factors : Factors a b
  pub fits : room ≡ length a * length b

-- by how much the terms of a list vary: what its first and its last differ by
abbrev pub span : List ℕ → ℕ
span a = bit_xor (get_or a 0 0) (get_or a (length a - 1) 0)

-- such polynomials, where b varies by d and a by more
pub record Wider (a b : List ℕ) (d : ℕ) : Type 0 where
  pub factors : Factors a b
  pub narrow : span b ≡ d
  pub wide : d < span a

-- the first r terms differ from the first one by at most d, the next one by more
pub record Run (a : List ℕ) (d r : ℕ) : Type 0 where
  pub some : 0 < r
  pub within : r ≤ length a
  pub near : bit_xor (get_or a 0 0) (get_or a (r - 1) 0) ≤ d
  pub far : r < length a → d < bit_xor (get_or a 0 0) (get_or a r 0)
