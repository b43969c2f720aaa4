-- Runs: a run that is not empty has a value that is not zero, an ascending list of terms below 2 ^ k is a run, and a run whose first
-- and last term agree on its highest variable is constant there. Leans on Value and Low.
use mathlib.Core.Path.{◌≡◌, refl, sym, ap, ap₂, ◌∙◌, subst}
use mathlib.Core.Bool.{Bool, true, false, true≢false}
use mathlib.Core.List.{List, [], ◌∷◌, ◌++◌}
use Prim.Native.Nat.{ℕ, zero, suc, ◌+◌, ◌-◌, ◌%◌, ◌^◌, ◌≤◌, ◌<◌, zero-le}
use native.Mathlib.Nat.{not-suc-le-zero, le_of_suc-le-suc, le_refl, mod-eq_of_lt, mod-one, zero-lt-suc}
use native.Mathlib.Omega.{arith}
use lib.ListN.{length, get_or, take, drop, length-append, get_or-append}
use lib.Seq.{get_or-append-add, take-append_seam, drop-append_seam}
use Rattle.masks.specs.Bit.{bit}
use Rattle.masks.proofs.Low.{low_below}
use Rattle.polys.specs.List.{either, Above, Asc}
use Rattle.ring.specs.Run.{lacking, holding, Cut, Run, lows}
use Rattle.ring.specs.Ends.{first, last}
use Rattle.ring.proofs.Series.{R, nought}
use Rattle.ring.proofs.Value.{odd, value}
use Rattle.ring.proofs.Low.{low_lacking, low_holding}

-- ---- lists whose terms agree on a variable

abbrev pub AllBits : ℕ → Bool → List ℕ → Type 0
AllBits k b [] = Unit {0}
AllBits k b (t ∷ l) = (bit t k ≡ b) × AllBits k b l

pub all_at : (k : ℕ) (b : Bool) (l : List ℕ) → AllBits k b l → (j : ℕ) → j < length l → bit (get_or l j 0) k ≡ b
all_at k b [] h j lt = absurd (not-suc-le-zero lt)
all_at k b (t ∷ l) h zero lt = h.0
all_at k b (t ∷ l) h (suc j) lt = all_at k b l h.1 j (le_of_suc-le-suc lt)

pub all_lacking : (k : ℕ) (l : List ℕ) → AllBits k false (lacking k l)
unfolding lacking
all_lacking k [] = tt
all_lacking k (t ∷ l) = step (bit t k) refl (all_lacking k l)
  where
    step : (b : Bool) → bit t k ≡ b → AllBits k false (lacking k l) → AllBits k false (either b (lacking k l) (t ∷ lacking k l))
    step true e h = h
    step false e h = (e, h)

pub all_holding : (k : ℕ) (l : List ℕ) → AllBits k true (holding k l)
unfolding holding
all_holding k [] = tt
all_holding k (t ∷ l) = step (bit t k) refl (all_holding k l)
  where
    step : (b : Bool) → bit t k ≡ b → AllBits k true (holding k l) → AllBits k true (either b (t ∷ holding k l) (holding k l))
    step true e h = (e, h)
    step false e h = h

pub lacking_of_all : (k : ℕ) (b : Bool) (l : List ℕ) → AllBits k b l → lacking k l ≡ either b [] l
unfolding lacking
lacking_of_all k true [] h = refl
lacking_of_all k false [] h = refl
lacking_of_all k true (t ∷ l) h = ap (λ (b : Bool). either b (lacking k l) (t ∷ lacking k l)) h.0 ∙ lacking_of_all k true l h.1
lacking_of_all k false (t ∷ l) h =
    ap (λ (b : Bool). either b (lacking k l) (t ∷ lacking k l)) h.0 ∙ ap (λ (m : List ℕ). t ∷ m) (lacking_of_all k false l h.1)

pub holding_of_all : (k : ℕ) (b : Bool) (l : List ℕ) → AllBits k b l → holding k l ≡ either b l []
unfolding holding
holding_of_all k true [] h = refl
holding_of_all k false [] h = refl
holding_of_all k true (t ∷ l) h =
    ap (λ (b : Bool). either b (t ∷ holding k l) (holding k l)) h.0 ∙ ap (λ (m : List ℕ). t ∷ m) (holding_of_all k true l h.1)
holding_of_all k false (t ∷ l) h = ap (λ (b : Bool). either b (t ∷ holding k l) (holding k l)) h.0 ∙ holding_of_all k false l h.1

-- ---- where the cut lies

-- below the cut the terms lack the variable, from it on they hold it
pub before_cut : (k : ℕ) (l : List ℕ) → Cut k l → (j : ℕ) → j < length (lacking k l) → bit (get_or l j 0) k ≡ false
before_cut k l c j h =
    subst (λ (m : List ℕ). bit (get_or m j 0) k ≡ false) (sym c)
    (ap (λ (t : ℕ). bit t k) (get_or-append (lacking k l) (holding k l) 0 j h) ∙ all_at k false (lacking k l) (all_lacking k l) j h)

pub cut_within : (k : ℕ) (l : List ℕ) → Cut k l → length l ≡ length (lacking k l) + length (holding k l)
cut_within k l c = ap length c ∙ length-append (lacking k l) (holding k l)

pub from_cut : (k : ℕ) (l : List ℕ) → Cut k l → (j : ℕ) → length (lacking k l) ≤ j → j < length l → bit (get_or l j 0) k ≡ true
from_cut k l c j h lt =
    let rest : ℕ = j - length (lacking k l) in
    let place : j ≡ length (lacking k l) + rest = omega arith in
    let inside : rest < length (holding k l) = omega (arith, cut_within k l c) in
    subst (λ (m : List ℕ). bit (get_or m j 0) k ≡ true) (sym c)
    (ap (λ (i : ℕ). bit (get_or (lacking k l ++ holding k l) i 0) k) place
    ∙ ap (λ (t : ℕ). bit t k) (get_or-append-add (lacking k l) (holding k l) rest 0)
    ∙ all_at k true (holding k l) (all_holding k l) rest inside)

pub take_cut : (k : ℕ) (l : List ℕ) → Cut k l → take (length (lacking k l)) l ≡ lacking k l
take_cut k l c = ap (take (length (lacking k l))) c ∙ take-append_seam (lacking k l) (holding k l)

pub drop_cut : (k : ℕ) (l : List ℕ) → Cut k l → drop (length (lacking k l)) l ≡ holding k l
drop_cut k l c = ap (drop (length (lacking k l))) c ∙ drop-append_seam (lacking k l) (holding k l)

-- ---- a run that is constant on its highest variable

-- where the first and the last term agree on the variable, all terms do
pub constant : (k : ℕ) (b : Bool) (l : List ℕ) → Cut k l → 0 < length l → bit (first l) k ≡ b → bit (last l) k ≡ b → AllBits k b l
constant k b l c pos ef el = go b (lacking k l) (holding k l) refl refl ef el
  where
    go : (b : Bool) (p q : List ℕ) → lacking k l ≡ p → holding k l ≡ q → bit (first l) k ≡ b → bit (last l) k ≡ b → AllBits k b l
    go true [] q ep eq ef el = subst (AllBits k true) (sym (c ∙ ap (λ (m : List ℕ). m ++ holding k l) ep)) (all_holding k l)
    go true (x ∷ p) q ep eq ef el =
        absurd (true≢false (sym ef ∙ before_cut k l c 0 (subst (λ (m : List ℕ). 0 < length m) (sym ep) (zero-lt-suc (length p)))))
    go false p [] ep eq ef el =
        subst (AllBits k false) (sym (c ∙ ap (λ (m : List ℕ). lacking k l ++ m) eq ∙ nil_right (lacking k l))) (all_lacking k l)
      where
        nil_right : (m : List ℕ) → m ++ [] ≡ m
        nil_right [] = refl
        nil_right (x ∷ m) = ap (λ (r : List ℕ). x ∷ r) (nil_right m)
    go false p (y ∷ q) ep eq ef el =
        absurd
        (true≢false
        (sym (from_cut k l c (length l - 1) (omega (arith, cut_within k l c, ap length eq)) (omega arith)) ∙ el))

pub run_of_constant : (k : ℕ) (b : Bool) (l : List ℕ) → AllBits k b l → Run (suc k) l → Run k l
run_of_constant k true l h r = subst (Run k) (holding_of_all k true l h) r.2
run_of_constant k false l h r = subst (Run k) (lacking_of_all k false l h) r.1

-- ---- a run that is not empty is not zero

pub run_nonzero : (k : ℕ) (l : List ℕ) → Run k l → 0 < length l → ¬ (value k l ≡ nought k)
unfolding value odd
run_nonzero zero [] r pos e = not-suc-le-zero pos
run_nonzero zero (t ∷ []) r pos e = true≢false e
run_nonzero zero (t ∷ u ∷ l) r pos e = not-suc-le-zero (le_of_suc-le-suc r)
run_nonzero (suc k) l r pos e =
    go (lacking k l) (holding k l) refl refl (run_nonzero k (lacking k l) r.1) (run_nonzero k (holding k l) r.2)
  where
    go : (p q : List ℕ) → lacking k l ≡ p → holding k l ≡ q → (0 < length (lacking k l) → ¬ (value k (lacking k l) ≡ nought k))
        → (0 < length (holding k l) → ¬ (value k (holding k l) ≡ nought k)) → ⊥
    go (x ∷ p) q ep eq np nq = np (subst (λ (m : List ℕ). 0 < length m) (sym ep) (zero-lt-suc (length p))) (ap (λ (u : R (suc k)). u 0) e)
    go [] (y ∷ q) ep eq np nq = nq (subst (λ (m : List ℕ). 0 < length m) (sym eq) (zero-lt-suc (length q))) (ap (λ (u : R (suc k)). u 1) e)
    go [] [] ep eq np nq = omega (arith, cut_within k l r.0, ap length ep, ap length eq)

-- ---- ascending lists are runs

above_lacking : (k x : ℕ) (l : List ℕ) → bit x k ≡ false → Above (x % 2 ^ suc k) (lows (suc k) l) → Above (x % 2 ^ k) (lows k (lacking k l))
unfolding lacking
above_lacking k x [] e h = tt
above_lacking k x (y ∷ l) e h = step (bit y k) refl (above_lacking k x l e h.1)
  where
    step : (b : Bool) → bit y k ≡ b → Above (x % 2 ^ k) (lows k (lacking k l)) → Above (x % 2 ^ k) (lows k (either b (lacking k l) (y ∷ lacking k l)))
    step true ey g = g
    step false ey g = (omega (arith, h.0, low_lacking x k e, low_lacking y k ey), g)

above_holding : (k x : ℕ) (l : List ℕ) → bit x k ≡ true → Above (x % 2 ^ suc k) (lows (suc k) l) → Above (x % 2 ^ k) (lows k (holding k l)) × AllBits k true l
unfolding holding
above_holding k x [] e h = (tt, tt)
above_holding k x (y ∷ l) e h = step (bit y k) refl (above_holding k x l e h.1)
  where
    step : (b : Bool) → bit y k ≡ b → Above (x % 2 ^ k) (lows k (holding k l)) × AllBits k true l
        → Above (x % 2 ^ k) (lows k (either b (y ∷ holding k l) (holding k l))) × ((bit y k ≡ true) × AllBits k true l)
    step true ey g = ((omega (arith, h.0, low_holding x k e, low_holding y k ey), g.0), (ey, g.1))
    step false ey g = absurd (omega (arith, h.0, low_holding x k e, low_lacking y k ey, low_below y k))

cut_of_ascending : (k : ℕ) (l : List ℕ) → Asc (lows (suc k) l) → Cut k l × Asc (lows k (lacking k l)) × Asc (lows k (holding k l))
unfolding lacking holding
cut_of_ascending k [] h = (refl, tt, tt)
cut_of_ascending k (x ∷ l) h = step (bit x k) refl (cut_of_ascending k l h.1)
  where
    step : (b : Bool) → bit x k ≡ b → Cut k l × Asc (lows k (lacking k l)) × Asc (lows k (holding k l))
        → (x ∷ l ≡ either b (lacking k l) (x ∷ lacking k l) ++ either b (x ∷ holding k l) (holding k l))
        × Asc (lows k (either b (lacking k l) (x ∷ lacking k l))) × Asc (lows k (either b (x ∷ holding k l) (holding k l)))
    step false e g = (ap (λ (m : List ℕ). x ∷ m) g.0, (above_lacking k x l e h.0, g.1), g.2)
    step true e g =
        let all : AllBits k true l = (above_holding k x l e h.0).1 in
        (sym (ap₂ (λ (m n : List ℕ). m ++ x ∷ n) (lacking_of_all k true l all) (holding_of_all k true l all)), g.1, ((above_holding k x l e h.0).0, g.2))

run_of_lows : (k : ℕ) (l : List ℕ) → Asc (lows k l) → Run k l
run_of_lows zero [] h = zero-le
run_of_lows zero (t ∷ []) h = le_refl 1
run_of_lows zero (t ∷ u ∷ l) h = absurd (omega (arith, h.0.0, mod-one t, mod-one u))
run_of_lows (suc k) l h =
    let g = cut_of_ascending k l h in
    (g.0, run_of_lows k (lacking k l) g.1, run_of_lows k (holding k l) g.2)

pub lows_of_small : (k : ℕ) (l : List ℕ) → ((i : ℕ) → get_or l i 0 < 2 ^ k) → lows k l ≡ l
lows_of_small k [] h = refl
lows_of_small k (t ∷ l) h = ap₂ ◌∷◌ (mod-eq_of_lt (h 0)) (lows_of_small k l (λ i. h (suc i)))

-- a strictly ascending list of terms below 2 ^ k is a run at k variables
pub run_of_ascending : (k : ℕ) (l : List ℕ) → ((i : ℕ) → get_or l i 0 < 2 ^ k) → Asc l → Run k l
run_of_ascending k l small h = run_of_lows k l (subst Asc (sym (lows_of_small k l small)) h)
