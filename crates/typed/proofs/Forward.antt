-- A reader that goes over a text byte by byte. Over a text that begins as an equation does, it comes to the state that tells
-- what was read (RULES 12.1). Assumes nothing.
use Prim.Native.Nat.{ℕ, ◌+◌, ◌*◌, ◌/◌, ◌%◌, ◌≤◌, ◌<◌}
use native.Mathlib.Omega.{arith}
use native.Mathlib.Decide.{dec_le}
use mathlib.Core.Path.{◌≡◌, refl, sym, ap, subst, ◌∙◌}
use mathlib.Core.List.{List, [], ◌∷◌, ◌++◌, append-nil, append_assoc}
use mathlib.Core.Logic.{◌⊎◌, inl, inr}
use lib.Seq.{append_snoc}
use Rattle.typed.specs.Form.{star, plus, feed, digit, name, term_text, text_of, Named, AllNamed}
use Rattle.typed.specs.Shown.{opened}
use Rattle.typed.specs.Machine.{State, start, number, one, end, Move, on, off, moved}
use Rattle.typed.proofs.Pieces.{closed, starred, term_last, text_last, name_one, name_two, named_last, all_named_last, last_of}
use Rattle.typed.proofs.Steps.{After, constant, variables, Step}
use Rattle.typed.proofs.Steps.{variable, lone_one, lone_zero, first_digit, next_digit, next_variable, next_term, last_term, no_term}
use Rattle.typed.proofs.Steps.{step_moved}

-- what comes of the state that a move leads to
abbrev pub follow : Move → (State → Move) → Move
follow (on s) further = further s
follow off further = off

-- where the bytes lead
unfoldable pub run : ℕ → State → List ℕ → Move
run vars s [] = on s
run vars s (c ∷ cs) = follow (moved vars s c) (λ r. run vars r cs)

module _ (vars : ℕ) where
  -- over two texts, one behind the other
  pub run_append : (s : State) (a b : List ℕ) → run vars s (a ++ b) ≡ follow (run vars s a) (λ r. run vars r b)
  unfolding run
  run_append s [] b = refl
  run_append s (c ∷ a) b = go (λ r. run_append r a b) (moved vars s c)
    where
      go : ((r : State) → run vars r (a ++ b) ≡ follow (run vars r a) (λ q. run vars q b)) →
          (m : Move) → follow m (λ r. run vars r (a ++ b)) ≡ follow (follow m (λ r. run vars r a)) (λ q. run vars q b)
      go ih (on r) = ih r
      go ih off = refl

  -- over the one to a state, and from there over the other
  pub run_on : (s : State) (a : List ℕ) (r : State) (b : List ℕ) → run vars s a ≡ on r → run vars s (a ++ b) ≡ run vars r b
  run_on s a r b e = run_append s a b ∙ ap (λ m. follow m (λ q. run vars q b)) e

  -- a byte more
  pub run_last : (s : State) (a : List ℕ) (r : State) (c : ℕ) → run vars s a ≡ on r → run vars s (a ++ c ∷ []) ≡ moved vars r c
  unfolding run
  run_last s a r c e = run_on s a r (c ∷ []) e ∙ go (moved vars r c)
    where
      go : (m : Move) → follow m (λ q. on q) ≡ m
      go (on q) = refl
      go off = refl

  -- a step, and on
  pub run_step : {s : State} {c : ℕ} {r : State} → Step vars s c r → (cs : List ℕ) → run vars s (c ∷ cs) ≡ run vars r cs
  unfolding run
  run_step p cs = ap (λ m. follow m (λ q. run vars q cs)) (step_moved vars p)

  module _ (small : vars ≤ 100) where
    -- over the name of a variable
    pub run_name : (ts : List (List ℕ)) (vs : List ℕ) (v : ℕ) → v < vars → run vars (start ts vs) (name v) ≡ on (number ts vs v)
    unfolding run
    run_name ts vs v h = go (dec_le 10 v)
      where
        go : Dec (10 ≤ v) → run vars (start ts vs) (name v) ≡ on (number ts vs v)
        go (no n) =
            let k : v < 10 = omega arith in
            ap (run vars (start ts vs)) (name_one v k) ∙ run_step variable (digit v ∷ []) ∙ run_step (first_digit v k h) []
        go (yes k) =
            ap (run vars (start ts vs)) (name_two v k) ∙ run_step variable (digit (v / 10) ∷ digit (v % 10) ∷ [])
            ∙ run_step (first_digit (v / 10) (omega arith) (omega arith)) (digit (v % 10) ∷ [])
            ∙ run_step (next_digit (v % 10) (omega arith) (omega arith) (omega arith)) []
            ∙ ap (λ n. on (number ts vs n)) whole
          where
            whole : 10 * (v / 10) + v % 10 ≡ v
            whole = omega arith

    -- over variables, each with its `*`
    pub run_starred : (ts : List (List ℕ)) (vs ws : List ℕ) → Named vars ws → run vars (start ts vs) (starred ws) ≡ on (start ts (vs ++ ws))
    unfolding run closed
    run_starred ts vs [] h = ap (λ l. on (start ts l)) (sym (append-nil vs))
    run_starred ts vs (w ∷ ws) h =
        run_on (start ts vs) (name w) (number ts vs w) (star ∷ starred ws) (run_name ts vs w h.0)
        ∙ run_step next_variable (starred ws) ∙ run_starred ts (vs ++ w ∷ []) ws h.1
        ∙ ap (λ l. on (start ts l)) (append_snoc vs w ws)

    -- over a term of variables
    pub run_variables : (ts : List (List ℕ)) (vs : List ℕ) (v : ℕ) → Named vars (vs ++ v ∷ []) →
        run vars (start ts []) (term_text (vs ++ v ∷ [])) ≡ on (number ts vs v)
    run_variables ts vs v h =
        let n = named_last vars vs v h in
        ap (run vars (start ts [])) (term_last vs v)
        ∙ run_on (start ts []) (starred vs) (start ts vs) (name v) (run_starred ts [] vs n.0) ∙ run_name ts vs v n.1

    -- over a term, to a state that is behind it
    pub run_term : (ts : List (List ℕ)) (t : List ℕ) → Named vars t → (s : State) × After s ts t × (run vars (start ts []) (term_text t) ≡ on s)
    unfolding run term_text
    run_term ts t h = go (last_of t)
      where
        go : (t ≡ []) ⊎ ((vs : List ℕ) × (v : ℕ) × (t ≡ vs ++ v ∷ [])) →
            (s : State) × After s ts t × (run vars (start ts []) (term_text t) ≡ on s)
        go (inl e) = rw e (one ts, constant, run_step lone_one [])
        go (inr w) =
            rw w.2
            (number ts w.0 w.1, variables, run_variables ts w.0 w.1 (subst (Named vars) w.2 h))

    -- over terms, each with its `+`
    pub run_opened : (us ts : List (List ℕ)) → AllNamed vars ts → run vars (start us []) (opened ts) ≡ on (start (us ++ ts) [])
    unfolding run opened
    run_opened us [] h = ap (λ l. on (start l [])) (sym (append-nil us))
    run_opened us (t ∷ ts) h =
        let p = run_term us t h.0 in
        run_on (start us []) (term_text t) p.0 (plus ∷ opened ts) p.2
        ∙ run_step (next_term p.1) (opened ts) ∙ run_opened (us ++ t ∷ []) ts h.1 ∙ ap (λ l. on (start l [])) (append_snoc us t ts)

    -- over terms and a term of variables behind them
    pub run_number : (ts : List (List ℕ)) (vs : List ℕ) (v : ℕ) → AllNamed vars ts → Named vars (vs ++ v ∷ []) →
        run vars (start [] []) (opened ts ++ term_text (vs ++ v ∷ [])) ≡ on (number ts vs v)
    run_number ts vs v h k =
        run_on (start [] []) (opened ts) (start ts []) (term_text (vs ++ v ∷ [])) (run_opened [] ts h) ∙ run_variables ts vs v k

    -- over a whole equation
    pub run_text : (ts : List (List ℕ)) → AllNamed vars ts → run vars (start [] []) (text_of ts) ≡ on (end ts)
    unfolding run text_of
    run_text ts h = go (last_of ts)
      where
        go : (ts ≡ []) ⊎ ((us : List (List ℕ)) × (t : List ℕ) × (ts ≡ us ++ t ∷ [])) → run vars (start [] []) (text_of ts) ≡ on (end ts)
        go (inl e) = rw e (run_step lone_zero (feed ∷ []) ∙ run_step no_term [])
        go (inr w) =
            let us = w.0 in
            let t = w.1 in
            let n = all_named_last vars us t (subst (AllNamed vars) w.2 h) in
            let p = run_term us t n.1 in
            rw w.2
            (ap (run vars (start [] [])) (text_last us t ∙ append_assoc (opened us) (term_text t) (feed ∷ []))
            ∙ run_on (start [] []) (opened us) (start us []) (term_text t ++ feed ∷ []) (run_opened [] us n.0)
            ∙ run_on (start us []) (term_text t) p.0 (feed ∷ []) p.2 ∙ run_step (last_term p.1) [])
