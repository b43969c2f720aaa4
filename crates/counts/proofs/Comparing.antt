-- Products of counters: that there is room for them, where they differ, and what that says of x. Leans on Planes and Terms.
use mathlib.Core.Path.{◌≡◌, refl, sym, ap, ap₂, ◌∙◌}
use mathlib.Core.Bool.{Bool, true, false, ◌||◌, xor, false≢true}
use mathlib.Core.List.{List}
use Prim.Native.Nat.{ℕ, ◌+◌, ◌*◌, ◌^◌, ◌≤◌, ◌<◌}
use native.Mathlib.Nat.{mul-le-mul}
use native.Mathlib.Omega.{arith}
use lib.Bits.{bit_and, bit_or, bit_xor}
use lib.ListN.{length, get_or, replicate}
use Rattle.masks.specs.Bit.{bit}
use Rattle.masks.proofs.Bits.{bit_or_lem, bit_xor_lem, bit_zero}
use Rattle.masks.proofs.Lowest.{low, low_is_lowest}
use Rattle.masks.proofs.Reflect.{identity, ∅, ◌∩◌, ◌≐◌, ∴◌}
use Rattle.masks.proofs.Sets.{and_subset, and_subset_right, bit_of_subset}
use Rattle.splitting.proofs.Holding.{having}
use Rattle.counts.specs.Planes.{count_at, holding, Room, Added, Ties}
use Rattle.counts.proofs.Planes.{count_below, count_zeros, same_planes}
use Rattle.counts.proofs.Terms.{holding_below, holding_own, holding_alone}

-- empty planes have room for a short list
pub terms_room : (x : ℕ) (f planes : List ℕ) → planes ≡ replicate 16 0 → length f ≤ 65535 → Room planes (holding x f)
terms_room x f planes none short v =
    omega (arith, ap (λ l. count_at l v) none, ap (λ l. 2 ^ length l) none, count_zeros 16 v, holding_below x f v)

-- twice as many have room for the products of such counters, one of them that of the variable of b
pub product_room : (sum by planes : List ℕ) (b w : ℕ) → b ≡ 2 ^ w → sum ≡ replicate 32 0 → length by ≡ 16 → length planes ≡ 16
    → ((w : ℕ) × (b ≡ 2 ^ w) × Room sum (λ (v : ℕ). count_at by w * count_at planes v)) × (length by + length planes ≤ length sum)
product_room sum by planes b w is none size size' =
    ((w, is, room), omega (arith, ap length none))
  where
    below : (l : List ℕ) (v : ℕ) → length l ≡ 16 → count_at l v ≤ 65535
    below l v e = omega (arith, count_below l v, ap (λ k. 2 ^ k) e)

    room : Room sum (λ (v : ℕ). count_at by w * count_at planes v)
    room v =
        let product : count_at by w * count_at planes v ≤ 65535 * 65535 = mul-le-mul (below by w size) (below planes v size') in
        omega (arith, ap (λ l. count_at l v) none, ap (λ l. 2 ^ length l) none, count_zeros 32 v)

-- what was added to empty planes stands there
pub from_empty : (planes after : List ℕ) (more : ℕ → ℕ) (k : ℕ) → planes ≡ replicate k 0 → Added planes more after
    → (v : ℕ) → count_at after v ≡ more v
from_empty planes after more k none added v = omega (arith, added.counts v, ap (λ l. count_at l v) none, count_zeros k v)

-- no difference in a plane where the bits agree
no_difference : (d x y v : ℕ) → bit d v ≡ false → bit x v ≡ bit y v → bit (bit_or d (bit_xor x y)) v ≡ false
unfolding xor
no_difference d x y v e h = bit_or_lem d (bit_xor x y) v ∙ ap₂ ◌||◌ e (bit_xor_lem x y v ∙ ap (λ b. xor b (bit y v)) h ∙ same (bit y v))
  where
    same : (b : Bool) → xor b b ≡ false
    same true = refl
    same false = refl

-- as they do in the planes x and y of counters that agree
pub no_more : (p q : List ℕ) (j d x y s r v : ℕ) → x ≡ get_or p j 0 → y ≡ get_or q j 0 → s ≡ bit_xor x y → r ≡ bit_or d s → length p ≡ length q
    → bit d v ≡ false → count_at p v ≡ count_at q v → bit r v ≡ false
no_more p q j d x y s r v is is' differs joined size before same =
    cc (no_difference d (get_or p j 0) (get_or q j 0) v before (same_planes p q j v size same))

-- what the counters of a list say of x: the number of terms that hold x is the counter of a variable of x
module _ (f : List ℕ) (x among : ℕ) where
  pub ties : (n b d r : ℕ) (planes both alone : List ℕ) → n ≡ length f → b ≡ low x → r ≡ bit_and d among → planes ≡ replicate 16 0 → 0 < x
      → Added planes (holding x f) both → Added (replicate 16 0) (holding 0 f) alone
      → ((w v : ℕ) → b ≡ 2 ^ w → n * count_at both v ≡ count_at both w * count_at alone v → bit d v ≡ false)
      → Ties f x among r
  unfolding holding
  ties n b d r planes both alone number lowest is none some by_x by_all found =
      rw is (record {
        inside = and_subset_right d among;
        uneven = λ v t even.
            let w = low_is_lowest x some in
            let own : count_at both w.0 ≡ length (having x f) = left w.0 ∙ holding_own x f w.0 w.2.0 in
            let equal = ap₂ ◌*◌ number (left v) ∙ even ∙ sym (ap₂ ◌*◌ own (right v)) in
            false≢true (sym (found w.0 v (lowest ∙ w.1) equal) ∙ bit_of_subset (bit_and d among) d v (and_subset d among) t);
      })
    where
      left : (v : ℕ) → count_at both v ≡ length (having (bit_or x (2 ^ v)) f)
      left v = omega (arith, by_x.counts v, ap (λ l. count_at l v) none, count_zeros 16 v)

      right : (v : ℕ) → count_at alone v ≡ length (having (2 ^ v) f)
      right v = omega (arith, by_all.counts v, count_zeros 16 v, holding_alone f v)

  -- no variable is put with the empty set
  pub ties_none : (r : ℕ) → r ≡ 0 → Ties f x among r
  ties_none r is = rw is (record { inside = none among; uneven = λ v t. absurd (false≢true (sym (bit_zero v) ∙ t)) })
    where
      none : (w : ℕ) → bit_and 0 w ≡ 0
      none = identity 1 (λ w. ∴ ∅ ∩ w ≐ ∅) tt
