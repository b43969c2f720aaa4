-- Laws of picking terms one after the other. Assumes nothing.
use Prim.Native.Nat.{ℕ, suc, ◌+◌, ◌≤◌, ◌<◌}
use mathlib.Core.Path.{◌≡◌, refl, ap, ◌∙◌}
use mathlib.Core.Bool.{Bool, true, false}
use mathlib.Core.List.{List, [], ◌∷◌, ◌++◌, append-nil}
use native.Mathlib.Omega.{arith}
use native.Mathlib.Numerals.{add-one}
use borrow.Author.Tests.{eq-eqb, ne_eqb}
use lib.Bits.{bit_and}
use lib.Dec.{eqb}
use lib.ListN.{length, get_or, take}
use lib.Seq.{take-suc}
use Rattle.polys.specs.List.{either}
use Rattle.splitting.specs.Mix.{pick}

module _ (keep fixed value : ℕ) where
  pub pick_append : (a b : List ℕ) → pick keep fixed value (a ++ b) ≡ pick keep fixed value a ++ pick keep fixed value b
  unfolding pick
  pick_append [] b = refl
  pick_append (t ∷ a) b =
      go (eqb (bit_and t fixed) value) (pick keep fixed value (a ++ b)) (pick keep fixed value a) (pick_append a b)
    where
      go : (c : Bool) (ab pa : List ℕ) → ab ≡ pa ++ pick keep fixed value b
          → either c (bit_and t keep ∷ ab) ab ≡ either c (bit_and t keep ∷ pa) pa ++ pick keep fixed value b
      go true ab pa e = ap (◌∷◌ (bit_and t keep)) e
      go false ab pa e = e

  -- no more are picked than there are
  pub pick_length : (l : List ℕ) → length (pick keep fixed value l) ≤ length l
  unfolding pick
  pick_length [] = omega arith
  pick_length (t ∷ l) = go (eqb (bit_and t fixed) value) (pick_length l)
    where
      go : (c : Bool) → length (pick keep fixed value l) ≤ length l
          → length (either c (bit_and t keep ∷ pick keep fixed value l) (pick keep fixed value l)) ≤ suc (length l)
      go true h = omega arith
      go false h = omega arith

  module _ (l : List ℕ) (i : ℕ) (h : i < length l) where
    -- the term at i is picked
    pub pick_taken : bit_and (get_or l i 0) fixed ≡ value
        → pick keep fixed value (take (i + 1) l) ≡ pick keep fixed value (take i l) ++ (bit_and (get_or l i 0) keep ∷ [])
    unfolding pick
    pick_taken e =
        rw (add-one, take-suc l i 0 h)
        (pick_append (take i l) (get_or l i 0 ∷ [])
        ∙ ap (λ (c : Bool). pick keep fixed value (take i l) ++ either c (bit_and (get_or l i 0) keep ∷ []) []) (eq-eqb (bit_and (get_or l i 0) fixed) value e))

    -- the term at i is passed over
    pub pick_left : (bit_and (get_or l i 0) fixed ≡ value → ⊥) → pick keep fixed value (take (i + 1) l) ≡ pick keep fixed value (take i l)
    unfolding pick
    pick_left e =
        rw (add-one, take-suc l i 0 h)
        (pick_append (take i l) (get_or l i 0 ∷ [])
        ∙ ap (λ (c : Bool). pick keep fixed value (take i l) ++ either c (bit_and (get_or l i 0) keep ∷ []) []) (ne_eqb (bit_and (get_or l i 0) fixed) value e)
        ∙ append-nil (pick keep fixed value (take i l)))
