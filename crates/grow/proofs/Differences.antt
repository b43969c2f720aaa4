-- The least difference from t, on w, among the terms passed that are on y what s is. Assumes nothing.
use Prim.Native.Nat.{ℕ, ◌+◌, ◌≤◌, ◌<◌}
use mathlib.Core.Path.{◌≡◌, refl, sym, ap, ◌∙◌, subst}
use mathlib.Core.Bool.{Bool, true, false}
use mathlib.Core.List.{List}
use mathlib.Core.Logic.{◌⊎◌, inl, inr}
use native.Mathlib.Nat.{le_antisymm, le_trans, le_of_eq}
use native.Mathlib.Omega.{arith}
use borrow.Author.Count.{below_more}
use borrow.Author.Tests.{eqb-true, eqb-false, ltb-true, ltb-false}
use lib.Bits.{bit_and, bit_xor, and_le_l, and_comm}
use lib.Dec.{eqb, ltb}
use lib.ListN.{length, get_or}
use Rattle.grow.specs.Steps.{differs, Agrees, Least}

-- of the first i terms: none differs less than d; and d is all of w, or one of them differs by it
pub record Seen (f : List ℕ) (y w on t i d : ℕ) : Type 0 where
  pub bound : (k : ℕ) → k < i → bit_and (get_or f k 0) y ≡ on → d ≤ differs w t (get_or f k 0)
  pub from : (d ≡ w) ⊎ ((k : ℕ) × (k < i) × (bit_and (get_or f k 0) y ≡ on) × (d ≡ differs w t (get_or f k 0)))

module _ (f : List ℕ) (y w on t : ℕ) where
  pub seen_none : Seen f y w on t 0 w
  seen_none = record { bound = λ k h a. absurd (omega arith); from = inl refl }

  module _ (i d : ℕ) (s : Seen f y w on t i d) where
    earlier : (d ≡ w) ⊎ ((k : ℕ) × (k < i) × (bit_and (get_or f k 0) y ≡ on) × (d ≡ differs w t (get_or f k 0)))
        → (d ≡ w) ⊎ ((k : ℕ) × (k < i + 1) × (bit_and (get_or f k 0) y ≡ on) × (d ≡ differs w t (get_or f k 0)))
    earlier (inl e) = inl e
    earlier (inr k) = inr (k.0, omega (arith, k.1), k.2, k.3)

    -- the next term does not agree, or differs by no less
    seen_passed : (bit_and (get_or f i 0) y ≡ on → d ≤ differs w t (get_or f i 0)) → Seen f y w on t (i + 1) d
    seen_passed h =
        record { bound = below_more (λ (k : ℕ). bit_and (get_or f k 0) y ≡ on → d ≤ differs w t (get_or f k 0)) i s.bound h; from = earlier s.from }

    -- as the tests p and q say of the term u and its difference r
    module _ (u m : ℕ) (p : Bool) (at : u ≡ get_or f i 0) (on_y : m ≡ bit_and u y) (test : p ≡ eqb m on) where
      pub seen_other : p ≡ false → Seen f y w on t (i + 1) d
      seen_other left = seen_passed (λ e. absurd (eqb-false m on (sym test ∙ left) (on_y ∙ ap (λ (k : ℕ). bit_and k y) at ∙ e)))

      module _ (taken : p ≡ true) (x r : ℕ) (q : Bool) (other : x ≡ bit_xor u t) (on_w : r ≡ bit_and x w) (less : q ≡ ltb r d) where
        is : r ≡ differs w t (get_or f i 0)
        is = cc

        pub seen_as_much : q ≡ false → Seen f y w on t (i + 1) d
        seen_as_much left = seen_passed (λ e. omega (arith, is, ltb-false r d (sym less ∙ left)))

        pub seen_less : q ≡ true → Seen f y w on t (i + 1) r
        seen_less so =
            record {
              bound =
                  below_more (λ (k : ℕ). bit_and (get_or f k 0) y ≡ on → r ≤ differs w t (get_or f k 0)) i
                  (λ k l b. omega (arith, s.bound k l b, ltb-true r d (sym less ∙ so))) (λ b. omega (arith, is));
              from = inr (i, omega arith, ap (λ (k : ℕ). bit_and k y) (sym at) ∙ sym on_y ∙ eqb-true m on (sym test ∙ taken), is);
            }

-- all are seen, and one agrees
pub seen_all : (f : List ℕ) (y w s t on i d : ℕ) → Agrees f y s → on ≡ bit_and s y → i ≡ length f → Seen f y w on t i d → Least f y w s t d
seen_all f y w s t on i d a is all so_far = record { bound = seen.bound; from = go seen.from }
  where
    seen : Seen f y w (bit_and s y) t (length f) d
    seen = subst (λ (k : ℕ). Seen f y w (bit_and s y) t k d) all (subst (λ (m : ℕ). Seen f y w m t i d) is so_far)

    within : (u : ℕ) → differs w t u ≤ w
    within u = subst (λ (v : ℕ). v ≤ w) (and_comm w (bit_xor u t)) (and_le_l w (bit_xor u t))

    go : (d ≡ w) ⊎ ((k : ℕ) × (k < length f) × (bit_and (get_or f k 0) y ≡ bit_and s y) × (d ≡ differs w t (get_or f k 0)))
        → (k : ℕ) × (k < length f) × (bit_and (get_or f k 0) y ≡ bit_and s y) × (d ≡ differs w t (get_or f k 0))
    go (inl e) = (a.0, a.1, a.2, le_antisymm (seen.bound a.0 a.1 a.2) (le_trans (within (get_or f a.0 0)) (le_of_eq (sym e))))
    go (inr k) = k
