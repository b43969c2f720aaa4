-- What is read off runs of terms: empty lists, variables of a mask, and how a variable stands in a list.
use Rattle.std.specs.Prelude.{ℕ, ◌≤◌, ◌<◌, ◌≡◌, true, false, List, [], ◌∷◌, ◌⊎◌, length}
use Rattle.masks.specs.Bit.{bit}

-- one of the two lists is empty: the product is zero
abbrev pub Vanish : List ℕ → List ℕ → Type 0
Vanish x y = (length x ≡ 0) ⊎ (length y ≡ 0)

-- a variable from w up to k that the mask holds
abbrev pub Within : ℕ → ℕ → ℕ → Type 0
Within m w k = (i : ℕ) × (w ≤ i) × (i < k) × (bit m i ≡ true)

-- the variables from w up to k are none of the mask's
pub record Left (m k w : ℕ) : Type 0 where
  pub within : w ≤ k
  pub none : (i : ℕ) → w ≤ i → i < k → bit m i ≡ false

-- how variable k stands in a list with the halves l and h: 1 if it divides it, 0 if it does not occur, 2 otherwise
unfoldable pub shape : List ℕ → List ℕ → ℕ
shape [] h = 1
shape (t ∷ l) [] = 0
shape (t ∷ l) (u ∷ h) = 2

-- which operands of the two sides have one shape: 0 if A and B, D and C have, 1 if A and C, D and B, another number if neither
pub record Pairing (r s t u v : ℕ) : Type 0 where
  pub straight : r ≡ 0 → (s ≡ u) × (t ≡ v)
  pub swapped : r ≡ 1 → (s ≡ v) × (t ≡ u)
  pub neither : ¬ (r ≡ 0) → ¬ (r ≡ 1) → ¬ (((s ≡ u) × (t ≡ v)) ⊎ ((s ≡ v) × (t ≡ u)))
