-- A text reads in one way (RULES 12.2). Assumes nothing.
use Prim.Native.Nat.{ℕ, ◌≤◌, ◌<◌}
use native.Mathlib.Omega.{arith}
use native.Mathlib.Decide.{dec_lt}
use mathlib.Core.Path.{◌≡◌, refl, sym, ap, ap₂, ◌∙◌}
use mathlib.Core.List.{List}
use mathlib.Core.Logic.{inl, inr}
use lib.ListN.{length}
use Rattle.typed.specs.Form.{Equation}
use Rattle.typed.specs.Shown.{Fault, sign, twice, many, Shows, Clear, Verdict, long, shown, equation, Reads}
use Rattle.typed.proofs.Completes.{text_once}
use Rattle.typed.proofs.Shows.{twice_inside, many_inside, shows_one}

module _ (vars : ℕ) (some : 0 < vars) (small : vars ≤ 100) (longest most : ℕ) (text : List ℕ) where
  -- what is shown in front of everything that is shown is one thing at one place
  shown_once : (f g : Fault) (i j : ℕ) → Shows vars most text f i → Shows vars most text g j → Clear vars most text i → Clear vars most text j →
      shown f i ≡ shown g j
  shown_once f g i j h k c d = go (dec_lt i j) (dec_lt j i)
    where
      go : Dec (i < j) → Dec (j < i) → shown f i ≡ shown g j
      go (yes l) m = absurd (d i l f h)
      go (no n) (yes l) = absurd (c j l g k)
      go (no n) (no m) =
          let e : i ≡ j = omega arith in
          let k' : Shows vars most text g i = rw e k in
          ap₂ shown (shows_one vars some small most text i f g h k') e

  -- where nothing is shown in an equation, nothing is shown at its end
  not_shown : Equation vars text → Clear vars most text (length text) → (f : Fault) (i : ℕ) → ¬ Shows vars most text f i
  not_shown q c sign i (inl h) = c i h.0 sign (inl h)
  not_shown q c sign i (inr h) = h.1 q
  not_shown q c twice i h = c i (twice_inside vars text i h) twice h
  not_shown q c many i h = c i (many_inside vars most text i h) many h

  -- a text reads in one way
  pub reads_once : (v w : Verdict) → Reads longest most vars text v → Reads longest most vars text w → v ≡ w
  reads_once long long h k = refl
  reads_once long (shown g j) h k = absurd (let l : length text ≤ longest = k.0 in let c : ⊥ = omega arith in c)
  reads_once long (equation us) h k = absurd (let l : length text ≤ longest = k.0 in let c : ⊥ = omega arith in c)
  reads_once (shown f i) long h k = absurd (let l : length text ≤ longest = h.0 in let c : ⊥ = omega arith in c)
  reads_once (shown f i) (shown g j) h k = shown_once f g i j h.1 k.1 h.2 k.2
  reads_once (shown f i) (equation us) h k = absurd (not_shown (us, k.1, k.2) k.3 f i h.1)
  reads_once (equation ts) long h k = absurd (let l : length text ≤ longest = h.0 in let c : ⊥ = omega arith in c)
  reads_once (equation ts) (shown g j) h k = absurd (not_shown (ts, h.1, h.2) h.3 g j k.1)
  reads_once (equation ts) (equation us) h k = ap equation (text_once vars small ts us h.1 k.1 (sym h.2 ∙ k.2))
