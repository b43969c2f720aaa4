-- The lists that the example programs make and compare.
use Rattle.std.specs.Prelude.{ℕ, ◌*◌, ◌^◌, ◌%◌, ◌<◌, ◌≡◌, Bool, List, eqb, length, get_or}
use Rattle.std.specs.List.{starts_with as starts_with_by}

-- k, moved up by `shift` bits of a word
abbrev pub moved_up : ℕ → ℕ → ℕ
moved_up shift k = (k * 2 ^ shift) % 2 ^ 64

-- the list has n words, and each is its index, moved up by `shift` bits
pub record Counted (l : List ℕ) (n shift : ℕ) : Type 0 where
  pub words : length l ≡ n
  pub each : (i : ℕ) → i < n → get_or l i 0 ≡ moved_up shift i

-- the list stands at the start of the buffer
abbrev pub starts_with : List ℕ → List ℕ → Bool
starts_with = starts_with_by eqb
