-- Laws of the width of a set: it is the one j with m below 2 ^ j and 2 ^ j at most twice m and one.
-- Assumes nothing.
use Prim.Native.Nat.{ℕ, zero, suc, ◌+◌, ◌-◌, ◌*◌, ◌/◌, ◌^◌, ◌≤◌, ◌<◌}
use mathlib.Core.Path.{◌≡◌, refl, subst}
use native.Mathlib.Omega.{arith}
use native.Mathlib.Nat.{pow-suc, le_of_suc-le-suc, lt_of_not-le, le_antisymm}
use lib.Pow.{pow_pos, pow_mono}
use lib.Count.{count_leading_zeros, leading_length, leading_unique}
use Rattle.masks.specs.Width.{halvings, width}

-- of k digits those above the highest variable and those up to it are all
leading_and_halvings : (k m : ℕ) → count_leading_zeros k m + halvings k m ≡ k
unfolding count_leading_zeros halvings
leading_and_halvings zero m = refl
leading_and_halvings (suc k) zero = omega arith
leading_and_halvings (suc k) (suc m) = omega (arith, leading_and_halvings k (suc m / 2))

below_its_power : (m : ℕ) → m < 2 ^ m
below_its_power zero = omega arith
below_its_power (suc m) = rw pow-suc (omega (arith, below_its_power m, pow_pos m))

-- the two bounds that tell the width
pub record Bounds (m j : ℕ) : Type 0 where
  pub above : m < 2 ^ j
  pub near : 2 ^ j ≤ 2 * m + 1

pub width_bounds : (m : ℕ) → Bounds m (width m)
unfolding width
width_bounds m =
    let l = leading_length m m (below_its_power m) in
    let same : l.0 ≡ halvings m m = omega (arith, l.1, leading_and_halvings m m) in
    record { above = subst (λ (j : ℕ). m < 2 ^ j) same l.2; near = subst (λ (j : ℕ). 2 ^ j ≤ 2 * m + 1) same l.3 }

-- two numbers that both tell a set's length are in order
length_order : (m j k : ℕ) → 2 ^ j ≤ 2 * m + 1 → m < 2 ^ k → j ≤ k
length_order m j k near above =
    le_of_suc-le-suc (lt_of_not-le (λ (g : suc k ≤ j). absurd (omega (arith, pow_mono g, pow-suc 2 k))))

-- the width is the only number with the two bounds
pub width_unique : (m j : ℕ) → Bounds m j → j ≡ width m
width_unique m j b =
    le_antisymm (length_order m j (width m) b.near (width_bounds m).above) (length_order m (width m) j (width_bounds m).near b.above)

-- a set of variables below k has a width of at most k
pub width_le : (k m : ℕ) → m < 2 ^ k → width m ≤ k
width_le k m h = length_order m (width m) k (width_bounds m).near h

-- of k digits, those above the highest variable and the width are all
pub leading_and_width : (k m : ℕ) → m < 2 ^ k → k - count_leading_zeros k m ≡ width m
leading_and_width k m h =
    let w : width m ≤ k = width_le k m h in
    let r : k - width m ≡ count_leading_zeros k m =
    leading_unique k m (k - width m) (width m) (omega arith) (width_bounds m).above (width_bounds m).near
    in
    omega arith
