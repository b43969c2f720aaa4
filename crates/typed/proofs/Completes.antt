-- Which bytes an equation begins with, and which texts are equations (RULES 12.1): those that lead a reader from the start to a state,
-- and to the end. A text is one equation at most. Assumes nothing.
use Prim.Native.Nat.{ℕ, ◌≤◌, ◌<◌}
use native.Mathlib.Omega.{arith}
use mathlib.Core.Path.{◌≡◌, refl, sym, ap, subst, ◌∙◌}
use mathlib.Core.List.{List, [], ◌∷◌, ◌++◌, append-nil, append_assoc}
use Rattle.typed.specs.Form.{letter, feed, digit, text_of, AllNamed, Begins}
use Rattle.typed.specs.Shown.{opened}
use Rattle.typed.specs.Machine.{State, start, named, number, one, zero, end, Move, on, off, moved}
use Rattle.typed.proofs.Pieces.{closed}
use Rattle.typed.proofs.Steps.{constant, variables, variable, first_digit, last_term, no_term, same_state, somewhere}
use Rattle.typed.proofs.Lossless.{so_far, Good, lossless}
use Rattle.typed.proofs.Forward.{follow, run, run_append, run_on, run_step, run_text}

module _ (vars : ℕ) (small : vars ≤ 100) where
  -- the states lose nothing over a text either
  lossless_run : (s : State) (cs : List ℕ) (r : State) → run vars s cs ≡ on r → Good vars s → Good vars r × (so_far r ≡ so_far s ++ cs)
  unfolding run
  lossless_run s [] r e g =
      subst (λ q. Good vars q × (so_far q ≡ so_far s ++ [])) (same_state s r e) (g, sym (append-nil (so_far s)))
  lossless_run s (c ∷ cs) r e g = go (λ q. lossless_run q cs r) (moved vars s c) refl e
    where
      go : ((q : State) → run vars q cs ≡ on r → Good vars q → Good vars r × (so_far r ≡ so_far q ++ cs)) →
          (m : Move) → moved vars s c ≡ m → follow m (λ q. run vars q cs) ≡ on r → Good vars r × (so_far r ≡ so_far s ++ c ∷ cs)
      go ih (on q) h k =
          let l = lossless vars small s c q h g in
          let f = ih q k l.0 in
          (f.0, f.1 ∙ ap (λ a. a ++ cs) l.1 ∙ append_assoc (so_far s) (c ∷ []) cs)
      go ih off h k = absurd (somewhere r k)

  -- what was read from the start is the text
  pub run_read : (text : List ℕ) (s : State) → run vars (start [] []) text ≡ on s → Good vars s × (so_far s ≡ text)
  unfolding opened closed
  run_read text s e = lossless_run (start [] []) text s e (tt, tt)

  -- a text that leads to the end is the equation that the end tells
  pub run_equation : (text : List ℕ) (ts : List (List ℕ)) → run vars (start [] []) text ≡ on (end ts) → AllNamed vars ts × (text ≡ text_of ts)
  run_equation text ts e = let r = run_read text (end ts) e in (r.0, sym r.1)

  -- an equation leads to the end that tells it
  pub equation_run : (text : List ℕ) (ts : List (List ℕ)) → AllNamed vars ts → text ≡ text_of ts → run vars (start [] []) text ≡ on (end ts)
  equation_run text ts h e = ap (run vars (start [] [])) e ∙ run_text vars small ts h

  -- bytes that begin an equation lead to a state
  pub begins_run : (bytes : List ℕ) → Begins vars bytes → (s : State) × (run vars (start [] []) bytes ≡ on s)
  begins_run bytes b = go (run vars (start [] []) bytes) refl
    where
      whole : follow (run vars (start [] []) bytes) (λ q. run vars q b.0) ≡ on (end b.1.0)
      whole = sym (run_append vars (start [] []) bytes b.0) ∙ equation_run (bytes ++ b.0) b.1.0 b.1.1 b.1.2

      go : (m : Move) → run vars (start [] []) bytes ≡ m → (s : State) × (run vars (start [] []) bytes ≡ on s)
      go (on s) e = (s, e)
      go off e = absurd (somewhere (end b.1.0) (rw e at whole))

  -- two equations that are written alike are one
  pub text_once : (ts us : List (List ℕ)) → AllNamed vars ts → AllNamed vars us → text_of ts ≡ text_of us → ts ≡ us
  text_once ts us h k e =
      let t = equation_run (text_of ts) ts h refl in
      let u = equation_run (text_of ts) us k e in
      cc (t, u)

module _ (vars : ℕ) (some : 0 < vars) (small : vars ≤ 100) where
  -- every state can be completed
  completes : (s : State) → (rest : List ℕ) × (ts : List (List ℕ)) × (run vars s rest ≡ on (end ts))
  unfolding run
  completes (start ts vs) = (
    letter ∷ digit 0 ∷ feed ∷ [],
    ts ++ (vs ++ 0 ∷ []) ∷ [],
    run_step vars variable (digit 0 ∷ feed ∷ []) ∙ run_step vars (first_digit 0 (omega arith) some) (feed ∷ [])
        ∙ run_step vars (last_term variables) [],
  )
  completes (named ts vs) = (
    digit 0 ∷ feed ∷ [],
    ts ++ (vs ++ 0 ∷ []) ∷ [],
    run_step vars (first_digit 0 (omega arith) some) (feed ∷ []) ∙ run_step vars (last_term variables) [],
  )
  completes (number ts vs n) = (feed ∷ [], ts ++ (vs ++ n ∷ []) ∷ [], run_step vars (last_term variables) [])
  completes (one ts) = (feed ∷ [], ts ++ [] ∷ [], run_step vars (last_term constant) [])
  completes zero = (feed ∷ [], [], run_step vars no_term [])
  completes (end ts) = ([], ts, refl)

  -- bytes that lead to a state begin an equation
  pub run_begins : (bytes : List ℕ) (s : State) → run vars (start [] []) bytes ≡ on s → Begins vars bytes
  run_begins bytes s e =
      let c = completes s in
      let q = run_equation vars small (bytes ++ c.0) c.1 (run_on vars (start [] []) bytes s c.0 e ∙ c.2) in
      (c.0, (c.1, q.0, q.1))
