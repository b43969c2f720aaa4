-- n of a list of terms: every term fits n bits, and where the terms ascend the last one alone gives n.
-- Leans on the laws of masks, polynomials and widths. Assumes nothing.
use mathlib.Core.Path.{◌≡◌, refl, sym, subst}
use mathlib.Core.List.{List, [], ◌∷◌}
use mathlib.Core.Logic.{◌⊎◌, inl, inr, ⊎_elim}
use Prim.Native.Nat.{ℕ, zero, suc, ◌^◌, ◌≤◌, ◌<◌}
use native.Mathlib.Nat.{lt_of_le_of_lt, eq-or-lt_of_le}
use native.Mathlib.Omega.{arith}
use lib.ListN.{length, get_or, get_or-eq_default}
use lib.Pow.{pow_pos}
use Rattle.masks.proofs.Order.{subset_le}
use Rattle.polys.specs.List.{Asc}
use Rattle.polys.specs.Poly.{vars}
use Rattle.polys.proofs.Lists.{mem_at, asc_at}
use Rattle.polys.proofs.Polys.{vars_hold}
use Rattle.masks.specs.Width.{width, halvings}
use Rattle.terms.specs.Width.{width_of}
use Rattle.terms.proofs.Vars.{vars_below}
use Rattle.masks.proofs.Width.{width_bounds, width_unique}
use Rattle.digits.specs.Number.{Below}

-- numbers compare one way or the other
lt_or_le : (a b : ℕ) → (a < b) ⊎ (b ≤ a)
lt_or_le a zero = inr (omega arith)
lt_or_le zero (suc b) = inl (omega arith)
lt_or_le (suc a) (suc b) = ⊎_elim (λ p. inl (omega arith)) (λ p. inr (omega arith)) (lt_or_le a b)

-- what holds of each term and of 0 holds at every index
at_each : (k : ℕ) (l : List ℕ) → ((i : ℕ) → i < length l → get_or l i 0 < 2 ^ k) → Below k l
at_each k l h i = ⊎_elim (h i) beyond (lt_or_le i (length l))
  where
    beyond : length l ≤ i → get_or l i 0 < 2 ^ k
    beyond o = subst (λ (m : ℕ). m < 2 ^ k) (sym (get_or-eq_default l 0 o)) (pow_pos k)

-- each term lies within the variables
term_le_vars : (l : List ℕ) (i : ℕ) → i < length l → get_or l i 0 ≤ vars l
term_le_vars l i h = subset_le (get_or l i 0) (vars l) (vars_hold l (get_or l i 0) (mem_at l i h))

-- every term fits the n of its polynomial
pub terms_fit : (l : List ℕ) → Below (width_of l) l
terms_fit l = at_each (width_of l) l (λ i h. lt_of_le_of_lt (term_le_vars l i h) (width_bounds (vars l)).above)

-- where the terms ascend the last one has the highest variable
pub width_by_last : (l : List ℕ) (k : ℕ) → Asc l → length l ≡ suc k → width_of l ≡ width (get_or l k 0)
width_by_last l k asc e =
    sym (width_unique (vars l) (width last) record { above = vars_below (width last) l (at_each (width last) l fits); near = omega (arith, (width_bounds last).near, term_le_vars l k (omega arith)) })
  where
    last : ℕ
    last = get_or l k 0

    fits : (i : ℕ) → i < length l → get_or l i 0 < 2 ^ width last
    fits i h =
        ⊎_elim
        (λ p. subst (λ (j : ℕ). get_or l j 0 < 2 ^ width last) (sym p) (width_bounds last).above)
        (λ p. lt_of_le_of_lt (omega (arith, asc_at l i k asc p (omega arith))) (width_bounds last).above)
        (eq-or-lt_of_le {n = i} {m = k} (omega arith))

-- a list of no terms has no variables
pub width_of_none : (l : List ℕ) → length l ≡ 0 → width_of l ≡ 0
unfolding vars width halvings
width_of_none [] e = refl
width_of_none (x ∷ l) e = absurd (let z : ⊥ = omega arith in z)
