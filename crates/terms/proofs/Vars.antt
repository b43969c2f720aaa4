-- Laws of the variables of a list, gathered from its end. Assumes nothing.
use Prim.Native.Nat.{ℕ, zero, suc, ◌-◌, ◌^◌, ◌≤◌, ◌<◌}
use mathlib.Core.Path.{◌≡◌, sym, ap, ◌∙◌, subst}
use mathlib.Core.List.{List, [], ◌∷◌}
use native.Mathlib.Omega.{arith}
use lib.Bits.{bit_or, or_lt}
use lib.ListN.{length, get_or, take, drop}
use lib.Pow.{pow_pos}
use lib.Seq.{drop-cons, drop-length}
use Rattle.polys.specs.Poly.{vars}
use Rattle.polys.proofs.Polys.{vars_nil, vars_cons}

-- past the end there are none
pub vars_at_end : (l : List ℕ) → 0 ≡ vars (drop (length l) l)
unfolding vars
vars_at_end l = rw (drop-length l)

-- from the whole list on, all
pub vars_from_start : (l : List ℕ) (i : ℕ) → i ≡ 0 → vars (drop i l) ≡ vars l
vars_from_start l i e = rw e

-- the variables from a place on are those of its term and those behind it
pub vars_from_here : (l : List ℕ) (k : ℕ) → k < length l → bit_or (get_or l k 0) (vars (drop (suc k) l)) ≡ vars (drop k l)
unfolding vars
vars_from_here l k h = rw (drop-cons l k 0 h)

-- one term more, towards the start
pub vars_one_more : (l : List ℕ) (i all : ℕ) → 0 < i → i ≤ length l → all ≡ vars (drop i l)
    → bit_or (get_or l (i - 1) 0) all ≡ vars (drop (i - 1) l)
vars_one_more l i all pos h e =
    let step : i ≡ suc (i - 1) = omega arith in
    ap (bit_or (get_or l (i - 1) 0)) (e ∙ ap (λ (j : ℕ). vars (drop j l)) step) ∙ vars_from_here l (i - 1) (omega arith)

-- the variables of terms of k bits have k bits
pub vars_below : (k : ℕ) (l : List ℕ) → ((i : ℕ) → get_or l i 0 < 2 ^ k) → vars l < 2 ^ k
vars_below k [] h = subst (λ (m : ℕ). m < 2 ^ k) (sym vars_nil) (pow_pos k)
vars_below k (x ∷ l) h =
    subst (λ (m : ℕ). m < 2 ^ k) (sym (vars_cons x l)) (or_lt k x (vars l) (h 0) (vars_below k l (λ i. h (suc i))))

-- and so have those of its first terms
pub front_below : (k t : ℕ) (l : List ℕ) → ((i : ℕ) → get_or l i 0 < 2 ^ k) → vars (take t l) < 2 ^ k
front_below k zero l h = subst (λ (m : ℕ). m < 2 ^ k) (sym vars_nil) (pow_pos k)
front_below k (suc t) [] h = subst (λ (m : ℕ). m < 2 ^ k) (sym vars_nil) (pow_pos k)
front_below k (suc t) (x ∷ l) h =
    subst (λ (m : ℕ). m < 2 ^ k) (sym (vars_cons x (take t l))) (or_lt k x (vars (take t l)) (h 0) (front_below k t l (λ i. h (suc i))))
