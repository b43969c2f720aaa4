-- Counters of all variables at once, as bit planes: the set j of a list of planes holds the variables whose counter has bit j.
use Rattle.std.specs.Prelude.{ℕ, ◌+◌, ◌*◌, ◌≤◌, ◌<◌, ◌^◌, zero, suc, ◌/◌, ◌≡◌, Bool, true, false, List, [], ◌∷◌, length, replicate}
use Rattle.std.specs.Int.Bits.{bit_and, bit_or}
use Rattle.masks.specs.Bit.{bit}
use Rattle.splitting.proofs.Holding.{having}

-- a truth as a number
abbrev pub one : Bool → ℕ
one true = 1
one false = 0

-- 1 if the variable v stands in the set m, and 0 if not
unfoldable pub digit : ℕ → ℕ → ℕ
digit m v = one (bit m v)

-- the counter of the variable v: the sum of 2 ^ j over the planes j that hold v
unfoldable pub count_at : List ℕ → ℕ → ℕ
count_at [] v = 0
count_at (p ∷ planes) v = digit p v + 2 * count_at planes v

-- how many terms of f hold all of x and the variable v
unfoldable pub holding : ℕ → List ℕ → ℕ → ℕ
holding x f v = length (having (bit_or x (2 ^ v)) f)

-- the counters have room for what is to be added to each
abbrev pub Room : List ℕ → (ℕ → ℕ) → Type 0
Room planes more = (v : ℕ) → count_at planes v + more v < 2 ^ length planes

-- to the counter of each variable its number was added
pub record Added (planes : List ℕ) (more : ℕ → ℕ) (after : List ℕ) : Type 0 where
  pub size : length after ≡ length planes
  pub counts : (v : ℕ) → count_at after v ≡ count_at planes v + more v

-- k numbers: n, its half, the half of that, and so on
abbrev pub halves : ℕ → ℕ → List ℕ
halves zero n = []
halves (suc k) n = n ∷ halves k (n / 2)

-- sixteen planes that count, for each variable, the terms of a list that is not too long for them
abbrev pub Tallied : List ℕ → List ℕ → Type 0
Tallied f planes = (length f ≤ 65535) × Added (replicate 16 0) (holding 0 f) planes

-- the counts of terms that hold x, and b, are not those of variables that are apart
abbrev pub Uneven : List ℕ → ℕ → ℕ → Type 0
Uneven f x b = ¬ (length f * length (having (bit_or x b) f) ≡ length (having x f) * length (having b f))

-- r are those variables of `among` that the counts put with x
pub record Ties (f : List ℕ) (x among r : ℕ) : Type 0 where
  pub inside : bit_and r among ≡ r
  pub uneven : (v : ℕ) → bit r v ≡ true → Uneven f x (2 ^ v)
