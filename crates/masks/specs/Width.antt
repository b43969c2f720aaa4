-- The width of a set of variables: the number of its highest variable plus 1, or 0 where it has none (RULES 1.4).
use Rattle.std.specs.Prelude.{ℕ, zero, suc, ◌/◌}

-- how often m can be halved before nothing is left, asked at most k times
unfoldable pub halvings : ℕ → ℕ → ℕ
halvings zero m = 0
halvings (suc k) zero = 0
halvings (suc k) (suc m) = suc (halvings k (suc m / 2))

-- one more than the highest variable of the set m, 0 for the empty set
unfoldable pub width : ℕ → ℕ
width m = halvings m m
