-- What is picked from the list, laid out in the two rooms: one term after the other, each written before it is known whether it stays.
-- Leans on the laws of picking.
use Prim.Native.Nat.{ℕ, ◌+◌, ◌≤◌, ◌<◌}
use mathlib.Core.Path.{◌≡◌, refl, sym, ap, ap₂, ◌∙◌}
use mathlib.Core.List.{List, [], ◌∷◌, ◌++◌}
use mathlib.Core.Bool.{Bool, true, false}
use mathlib.Core.Logic.{◌⊎◌, inl, inr, ⊎_elim}
use native.Mathlib.Omega.{arith}
use native.Mathlib.Numerals.{add-one}
use borrow.Author.Tests.{eqb-true, eqb-false}
use lib.Bits.{bit_and}
use lib.Dec.{eqb}
use lib.ListN.{length, get_or, take, set, length-set, length-append}
use lib.Seq.{take-length, take-set-le, take-suc-set}
use Rattle.splitting.specs.Mix.{pick}
use Rattle.grow.specs.Steps.{first, Laid, LaidWhole}
use Rattle.grow.proofs.Picking.{pick_taken, pick_left}

-- ---- one of the two picks

-- what is picked from the first i terms of l stands at the start of the room, k terms; the room holds as many as l
pub record Half (room : List ℕ) (keep fixed value : ℕ) (l : List ℕ) (k i : ℕ) : Type 0 where
  pub stands : take k room ≡ pick keep fixed value (take i l)
  pub count : k ≡ length (pick keep fixed value (take i l))
  pub few : k ≤ i
  pub fits : length l ≤ length room

module _ (keep fixed value : ℕ) (l : List ℕ) where
  pub half_none : (room : List ℕ) → length l ≤ length room → Half room keep fixed value l 0 0
  unfolding pick
  half_none room fits = record { stands = refl; count = refl; few = omega arith; fits = fits }

  module _ (room : List ℕ) (k i : ℕ) (h : Half room keep fixed value l k i) (within : i < length l) where
    -- the next term is written, and stays if it is picked
    half_step : (t k' : ℕ) → t ≡ get_or l i 0
        → ((bit_and t fixed ≡ value) × (k' ≡ k + 1)) ⊎ ((bit_and t fixed ≡ value → ⊥) × (k' ≡ k))
        → Half (set room k (bit_and t keep)) keep fixed value l k' (i + 1)
    half_step t k' same = ⊎_elim taken left
      where
        still : length l ≤ length (set room k (bit_and t keep))
        still = omega (arith, length-set room k (bit_and t keep), h.fits)

        taken : (bit_and t fixed ≡ value) × (k' ≡ k + 1) → Half (set room k (bit_and t keep)) keep fixed value l k' (i + 1)
        taken e =
            let more : pick keep fixed value (take (i + 1) l) ≡ pick keep fixed value (take i l) ++ (bit_and t keep ∷ []) =
            pick_taken keep fixed value l i within (ap (λ (u : ℕ). bit_and u fixed) (sym same) ∙ e.0)
            ∙ ap (λ (u : ℕ). pick keep fixed value (take i l) ++ (bit_and u keep ∷ [])) (sym same)
            in
            record {
              stands =
                  ap (λ (j : ℕ). take j (set room k (bit_and t keep))) (e.1 ∙ add-one k)
                  ∙ take-suc-set room k (bit_and t keep) (omega (arith, h.few, h.fits, within))
                  ∙ ap (λ (g : List ℕ). g ++ (bit_and t keep ∷ [])) h.stands ∙ sym more;
              count = e.1 ∙ ap (λ (j : ℕ). j + 1) h.count ∙ sym (ap length more ∙ length-append (pick keep fixed value (take i l)) (bit_and t keep ∷ []));
              few = omega (arith, e.1, h.few);
              fits = still;
            }

        left : (bit_and t fixed ≡ value → ⊥) × (k' ≡ k) → Half (set room k (bit_and t keep)) keep fixed value l k' (i + 1)
        left e =
            let same_pick : pick keep fixed value (take (i + 1) l) ≡ pick keep fixed value (take i l) =
            pick_left keep fixed value l i within (λ g. e.0 (ap (λ (u : ℕ). bit_and u fixed) same ∙ g))
            in
            record {
              stands =
                  ap (λ (j : ℕ). take j (set room k (bit_and t keep))) e.1 ∙ take-set-le k room k (bit_and t keep) (omega arith)
                  ∙ h.stands ∙ sym same_pick;
              count = e.1 ∙ h.count ∙ ap length (sym same_pick);
              few = omega (arith, e.1, h.few);
              fits = still;
            }

    -- as it is written, and as the test p says
    pub half_more : (after : List ℕ) (t a b k' : ℕ) (p : Bool) → t ≡ get_or l i 0 → a ≡ bit_and t keep → b ≡ bit_and t fixed
        → after ≡ set room k a → p ≡ eqb b value → ((p ≡ true) × (k' ≡ k + 1)) ⊎ ((p ≡ false) × (k' ≡ k))
        → Half after keep fixed value l k' (i + 1)
    half_more after t a b k' p is is_a is_b written test came = rw (written, is_a) (half_step t k' is (⊎_elim asked_true asked_false came))
      where
        asked_true : (p ≡ true) × (k' ≡ k + 1) → ((bit_and t fixed ≡ value) × (k' ≡ k + 1)) ⊎ ((bit_and t fixed ≡ value → ⊥) × (k' ≡ k))
        asked_true e = inl (sym is_b ∙ eqb-true b value (sym test ∙ e.0), e.1)

        asked_false : (p ≡ false) × (k' ≡ k) → ((bit_and t fixed ≡ value) × (k' ≡ k + 1)) ⊎ ((bit_and t fixed ≡ value → ⊥) × (k' ≡ k))
        asked_false e = inr ((λ q. eqb-false b value (sym test ∙ e.0) (is_b ∙ q)), e.1)

-- ---- both, after all terms

pub laid_out : (f : List ℕ) (y w on off : ℕ) (inside outside : List ℕ) (part rest i : ℕ) → i ≡ length f → on ≡ bit_and (first f) y
    → off ≡ bit_and (first f) w → Half inside y w off f part i → Half outside w y on f rest i → Laid f y w inside outside part rest
laid_out f y w on off inside outside part rest i all is_on is_off a b =
    let whole : take i f ≡ f = ap (λ (k : ℕ). take k f) all ∙ take-length f in
    let inner : pick y w off (take i f) ≡ pick y w (bit_and (first f) w) f = ap₂ (λ (v : ℕ) (g : List ℕ). pick y w v g) is_off whole in
    let outer : pick w y on (take i f) ≡ pick w y (bit_and (first f) y) f = ap₂ (λ (v : ℕ) (g : List ℕ). pick w y v g) is_on whole in
    record {
      inner = a.stands ∙ inner;
      outer = b.stands ∙ outer;
      part_count = a.count ∙ ap length inner;
      rest_count = b.count ∙ ap length outer;
      part_fits = omega (arith, a.few, all);
      rest_fits = omega (arith, b.few, all);
    }

-- ---- the whole list, and the term 1

pub laid_whole : (f inside outside after : List ℕ) (part z : ℕ) → 0 < length outside → part ≡ length f → take (length f) inside ≡ f
    → z ≡ 0 → after ≡ set outside 0 z → LaidWhole f inside after part 1
laid_whole f inside outside after part z room count copied none written =
    rw (written, none)
    (record {
      inner = ap (λ (k : ℕ). take k inside) count ∙ copied;
      outer = take-suc-set outside 0 0 room;
      part_count = count;
      rest_count = refl;
    })
