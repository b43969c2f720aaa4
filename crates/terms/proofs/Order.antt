-- Laws of the order check: how it goes on by one term, and that a list is in order exactly if the check finds nothing.
-- Assumes nothing.
use Prim.Native.Nat.{ℕ, suc, ◌+◌, ◌≤◌, ◌<◌}
use mathlib.Core.Path.{◌≡◌, refl, ap}
use mathlib.Core.Bool.{Bool, true, false}
use mathlib.Core.List.{List, [], ◌∷◌}
use native.Mathlib.Omega.{arith}
use native.Mathlib.Nat.{le_of_lt}
use native.Mathlib.Numerals.{add-one}
use borrow.Author.Tests.{lt-ltb, le-ltb, ltb-true, ltb-false}
use lib.Dec.{ltb}
use lib.ListN.{length, get_or, drop}
use lib.Seq.{drop-cons}
use lib.ListN.{drop_of_length-le}
use Rattle.terms.specs.Order.{pick, rising, unordered}
use Rattle.polys.specs.List.{Asc, Above}
use Rattle.polys.proofs.Lists.{above_less}

-- the list from its first term on
pub unordered_from_first : (l : List ℕ) → 0 < length l → 1 + rising (get_or l 0 0) (drop 1 l) ≡ unordered l
unfolding unordered
unordered_from_first [] h = omega arith
unordered_from_first (x ∷ l) h = omega arith

-- nothing rises from the end of a list
pub rising_at_end : (x : ℕ) (l : List ℕ) (i : ℕ) → length l ≤ i → rising x (drop i l) ≡ 0
unfolding rising
rising_at_end x l i h = rw (drop_of_length-le l h)

-- a term that is not above the one before it ends the rise
pub rising_stops : (x : ℕ) (l : List ℕ) (i : ℕ) → i < length l → get_or l i 0 ≤ x → rising x (drop i l) ≡ 0
unfolding rising
rising_stops x l i h le = rw (drop-cons l i 0 h, le-ltb x (get_or l i 0) le)

-- a term above the one before it is one more
pub rising_goes_on : (x : ℕ) (l : List ℕ) (i : ℕ) → i < length l → x < get_or l i 0
    → rising x (drop i l) ≡ suc (rising (get_or l i 0) (drop (i + 1) l))
unfolding rising
rising_goes_on x l i h lt = rw (add-one, drop-cons l i 0 h, lt-ltb x (get_or l i 0) lt)

-- an empty list has no first term
pub unordered_of_none : (l : List ℕ) → length l ≡ 0 → unordered l ≡ 0
unfolding unordered
unordered_of_none [] h = refl
unordered_of_none (x ∷ l) h = absurd (suc_ne_zero (length l) h)
  where
    suc_ne_zero : (n : ℕ) → suc n ≡ 0 → ⊥
    suc_ne_zero n e = omega arith

pick_le : (b : Bool) (m n : ℕ) → m ≤ n → pick b (suc m) 0 ≤ suc n
pick_le true m n h = omega arith
pick_le false m n h = omega arith

-- no more terms rise than there are
pub rising_le : (x : ℕ) (l : List ℕ) → rising x l ≤ length l
unfolding rising
rising_le x [] = omega arith
rising_le x (y ∷ l) = pick_le (ltb x y) (rising y l) (length l) (rising_le y l)

pub unordered_le : (l : List ℕ) → unordered l ≤ length l
unfolding unordered
unordered_le [] = omega arith
unordered_le (x ∷ l) = omega (arith, rising_le x l)

-- all rise: the list ascends, from above x
all_rise : (x : ℕ) (l : List ℕ) → rising x l ≡ length l → Above x l × Asc l
unfolding rising
all_rise x [] e = (tt, tt)
all_rise x (y ∷ l) e = go (ltb x y) refl (all_rise y l) e
  where
    go : (b : Bool) → ltb x y ≡ b → (rising y l ≡ length l → Above y l × Asc l) → pick b (suc (rising y l)) 0 ≡ suc (length l)
        → Above x (y ∷ l) × Asc (y ∷ l)
    go true t rest e =
        let r = rest (omega arith) in
        let lt : x < y = ltb-true x y t in
        ((lt, above_less x y l (le_of_lt lt) r.0), (r.0, r.1))
    go false t rest e = absurd (omega arith)

-- the check finds nothing: the list ascends
pub in_order : (l : List ℕ) → unordered l ≡ length l → Asc l
unfolding unordered
in_order [] e = tt
in_order (x ∷ l) e = all_rise x l (omega arith)

-- what ascends rises to its end
rises : (x : ℕ) (l : List ℕ) → Above x l → Asc l → rising x l ≡ length l
unfolding rising
rises x [] a b = refl
rises x (y ∷ l) a b = rw (lt-ltb x y a.0) (ap suc (rises y l b.0 b.1))

-- an ascending list passes the check
pub passes_if_ascending : (l : List ℕ) → Asc l → unordered l ≡ length l
unfolding unordered
passes_if_ascending [] a = refl
passes_if_ascending (x ∷ l) a = ap suc (rises x l a.0 a.1)

-- a list passes the check of a call exactly if it ascends
pub ascends_if_passed : (l : List ℕ) → ltb (unordered l) (length l) ≡ false → Asc l
ascends_if_passed l e = in_order l (omega (arith, ltb-false (unordered l) (length l) e, unordered_le l))

pub passed_if_ascends : (l : List ℕ) → Asc l → ltb (unordered l) (length l) ≡ false
passed_if_ascends l h = le-ltb (unordered l) (length l) (omega (arith, passes_if_ascending l h))
