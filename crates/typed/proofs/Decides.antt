-- The reader decides how a text reads (RULES 12.2): what it says of a text that is not too long is how the text reads. Assumes nothing.
use Prim.Native.Nat.{ℕ, suc, ◌≤◌, ◌<◌}
use native.Mathlib.Omega.{arith}
use native.Mathlib.Decide.{dec_le, ℕ_discrete}
use mathlib.Core.Path.{◌≡◌, refl, sym, ap, subst, ◌∙◌}
use mathlib.Core.Bool.{Bool, true, false, true≢false}
use mathlib.Core.List.{List, [], ◌∷◌}
use mathlib.Core.Logic.{inr}
use lib.ListN.{length, drop, get_or, length-drop}
use lib.Seq.{drop-cons, take_all}
use Rattle.typed.specs.Form.{Equation}
use Rattle.typed.specs.Shown.{Fault, sign, twice, many, Shows, Clear, Verdict, long, shown, equation, Reads}
use Rattle.typed.specs.Machine.{State, start, named, number, one, zero, end, Move, on, off}
use Rattle.typed.specs.Machine.{moved, repeats, overflows, ending, judge, onward, reads}
use Rattle.typed.proofs.Forward.{run}
use Rattle.typed.proofs.Completes.{equation_run, run_equation}
use Rattle.typed.proofs.Shows.{At, at_next, twice_repeats, repeats_twice, many_overflows, overflows_many, off_sign, moves_no_sign}

module _ (vars : ℕ) (some : 0 < vars) (small : vars ≤ 100) (longest most : ℕ) (text : List ℕ) where
  -- nothing is shown at a place where the state neither repeats nor overflows and the byte leads on
  clear_at : (i : ℕ) (s r : State) → i < length text → At vars text i s → repeats s (get_or text i 0) ≡ false →
      overflows most s (get_or text i 0) ≡ false → moved vars s (get_or text i 0) ≡ on r → (fault : Fault) → ¬ Shows vars most text fault i
  clear_at i s r h e a b m sign p = moves_no_sign vars some small text i s r h e m p
  clear_at i s r h e a b m twice p = true≢false (sym (twice_repeats vars small text i s e p) ∙ a)
  clear_at i s r h e a b m many p = true≢false (sym (many_overflows vars small most text i s e p) ∙ b)

  -- nothing is shown before the next place either
  clear_next : (i : ℕ) → Clear vars most text i → ((fault : Fault) → ¬ Shows vars most text fault i) → Clear vars most text (suc i)
  clear_next i c h j l fault = go (ℕ_discrete j i)
    where
      go : Dec (j ≡ i) → ¬ Shows vars most text fault j
      go (yes e) = rw e (h fault)
      go (no n) = c j (omega arith) fault

  -- a text that leads to a state other than the end is no equation
  early : (i : ℕ) (s : State) → ending s i ≡ shown sign i → run vars (start [] []) text ≡ on s → ¬ Equation vars text
  early i s n e q =
      let k = equation_run vars small text q.0 q.1 q.2 in
      let a : end q.0 ≡ s = cc in
      let b : equation q.0 ≡ shown sign i = subst (λ r. ending r i ≡ shown sign i) (sym a) n in
      let z : ◌≡◌ {A = ℕ} 0 1 = cc in
      omega arith

  -- what the end of the text says
  ends : length text ≤ longest → (i : ℕ) → i ≡ length text → Clear vars most text i →
      (s : State) → run vars (start [] []) text ≡ on s → Reads longest most vars text (ending s i)
  ends l i h c (start ts vs) e = (l, inr (h, early i (start ts vs) refl e), c)
  ends l i h c (named ts vs) e = (l, inr (h, early i (named ts vs) refl e), c)
  ends l i h c (number ts vs n) e = (l, inr (h, early i (number ts vs n) refl e), c)
  ends l i h c (one ts) e = (l, inr (h, early i (one ts) refl e), c)
  ends l i h c zero e = (l, inr (h, early i zero refl e), c)
  ends l i h c (end ts) e =
      let r = run_equation vars small text ts e in
      (l, r.0, r.1, subst (Clear vars most text) h c)

  -- from a place on: the bytes before it lead to the state, and show nothing
  decides : length text ≤ longest → (i : ℕ) (s : State) (cs : List ℕ) → drop i text ≡ cs → i ≤ length text → At vars text i s →
      Clear vars most text i → Reads longest most vars text (reads vars most s i cs)
  unfolding reads
  decides l i s [] d h e c =
      let k : length text ≤ i = omega (arith, length-drop i text, ap length d) in
      ends l i (omega arith) c s (subst (λ t. run vars (start [] []) t ≡ on s) (take_all i text k) e)
  decides l i s (x ∷ cs) d h e c =
      go (λ r. decides l (suc i) r cs parts.1 inner) (repeats s x) refl (overflows most s x) refl (moved vars s x) refl
    where
      inner : i < length text
      inner = omega (arith, length-drop i text, ap length d)

      parts : (get_or text i 0 ≡ x) × (drop (suc i) text ≡ cs)
      parts = let k = sym (drop-cons text i 0 inner) ∙ d in (cc, cc)

      go : ((r : State) → At vars text (suc i) r → Clear vars most text (suc i) → Reads longest most vars text (reads vars most r (suc i) cs)) →
          (a : Bool) → repeats s x ≡ a → (b : Bool) → overflows most s x ≡ b → (m : Move) → moved vars s x ≡ m →
          Reads longest most vars text
          (judge a (shown twice i) (judge b (shown many i) (onward m (shown sign i) (λ r. reads vars most r (suc i) cs))))
      go ih true p b q m k = (l, repeats_twice vars small text i s e (rw parts.0 p), c)
      go ih false p true q m k = (l, overflows_many vars small most text i s e (rw parts.0 q), c)
      go ih false p false q off k = (l, off_sign vars small text i s inner e (rw parts.0 k), c)
      go ih false p false q (on r) k =
          ih r (at_next vars text i s inner e ∙ rw parts.0 k)
          (clear_next i c (clear_at i s r inner e (rw parts.0 p) (rw parts.0 q) (rw parts.0 k)))

  -- what the reader says of a text that is not too long is how it reads
  pub reads_decides : length text ≤ longest → Reads longest most vars text (reads vars most (start [] []) 0 text)
  unfolding run
  reads_decides l = decides l 0 (start [] []) text refl (omega arith) refl (λ j h. absurd (let c : ⊥ = omega arith in c))

  -- every text reads in some way
  pub every_text_reads : (v : Verdict) × Reads longest most vars text v
  every_text_reads = go (dec_le (length text) longest)
    where
      go : Dec (length text ≤ longest) → (v : Verdict) × Reads longest most vars text v
      go (yes l) = (reads vars most (start [] []) 0 text, reads_decides l)
      go (no n) = (long, omega arith)
