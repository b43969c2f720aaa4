-- The reader's states lose nothing: each tells the text that was read, and a byte that leads on is the next byte of it. Assumes nothing.
use Prim.Native.Nat.{ℕ, ◌≤◌, ◌<◌}
use native.Mathlib.Omega.{arith}
use mathlib.Core.Path.{◌≡◌, refl, sym, ap, ◌∙◌}
use mathlib.Core.List.{List, [], ◌∷◌, ◌++◌, append-nil, append_assoc}
use Rattle.typed.specs.Form.{letter, star, plus, feed, digit, name, term_text, text_of, Named, AllNamed}
use Rattle.typed.specs.Shown.{opened}
use Rattle.typed.specs.Machine.{State, start, named, number, one, zero, end, on, moved}
use Rattle.typed.proofs.Pieces.{closed, starred, starred_last, opened_last, term_last}
use Rattle.typed.proofs.Pieces.{text_last, name_one, name_more, named_append, all_named_append}
use Rattle.typed.proofs.Steps.{After, constant, variables, Step}
use Rattle.typed.proofs.Steps.{variable, lone_one, lone_zero, first_digit, next_digit, next_variable, next_term, last_term, no_term}
use Rattle.typed.proofs.Steps.{moved_step}

-- the text that a state has read
abbrev pub so_far : State → List ℕ
so_far (start ts vs) = opened ts ++ starred vs
so_far (named ts vs) = opened ts ++ starred vs ++ letter ∷ []
so_far (number ts vs n) = opened ts ++ starred vs ++ name n
so_far (one ts) = opened ts ++ digit 1 ∷ []
so_far zero = digit 0 ∷ []
so_far (end ts) = text_of ts

-- every variable of a state is one of those that there are
abbrev pub Good : ℕ → State → Type 0
Good vars (start ts vs) = AllNamed vars ts × Named vars vs
Good vars (named ts vs) = AllNamed vars ts × Named vars vs
Good vars (number ts vs n) = AllNamed vars ts × Named vars vs × (n < vars)
Good vars (one ts) = AllNamed vars ts
Good vars zero = Unit {0}
Good vars (end ts) = AllNamed vars ts

-- behind a term, the terms before it and the term were read
pub after_read : {s : State} {ts : List (List ℕ)} {t : List ℕ} → After s ts t → so_far s ≡ opened ts ++ term_text t
unfolding term_text
after_read constant = refl
after_read (variables {ts = ts} {vs = vs} {n = n}) = append_assoc (opened ts) (starred vs) (name n) ∙ ap (λ l. opened ts ++ l) (sym (term_last vs n))

-- and their variables are there
after_good : (vars : ℕ) {s : State} {ts : List (List ℕ)} {t : List ℕ} → After s ts t → Good vars s → AllNamed vars (ts ++ t ∷ [])
after_good vars (constant {ts = ts}) g = all_named_append vars ts ([] ∷ []) g (tt, tt)
after_good vars (variables {ts = ts} {vs = vs} {n = n}) g =
    all_named_append vars ts ((vs ++ n ∷ []) ∷ []) g.0 (named_append vars vs (n ∷ []) g.1 (g.2, tt), tt)

module _ (vars : ℕ) (small : vars ≤ 100) where
  -- a step keeps to the variables that there are
  pub step_good : {s : State} {c : ℕ} {r : State} → Step vars s c r → Good vars s → Good vars r
  step_good variable g = g
  step_good lone_one g = g.0
  step_good lone_zero g = tt
  step_good (first_digit d h k) g = (g.0, g.1, k)
  step_good (next_digit d h p k) g = (g.0, g.1, k)
  step_good (next_variable {vs = vs} {n = n}) g = (g.0, named_append vars vs (n ∷ []) g.1 (g.2, tt))
  step_good (next_term a) g = (after_good vars a g, tt)
  step_good (last_term a) g = after_good vars a g
  step_good no_term g = tt

  -- a step reads its byte
  pub step_read : {s : State} {c : ℕ} {r : State} → Step vars s c r → so_far r ≡ so_far s ++ c ∷ []
  unfolding text_of opened closed
  step_read variable = refl
  step_read (lone_one {ts = ts}) = ap (λ l. l ++ digit 1 ∷ []) (sym (append-nil (opened ts)))
  step_read lone_zero = refl
  step_read (first_digit {ts = ts} {vs = vs} d h k) =
      ap (λ l. opened ts ++ starred vs ++ l) (name_one d h) ∙ sym (append_assoc (opened ts ++ starred vs) (letter ∷ []) (digit d ∷ []))
  step_read (next_digit {ts = ts} {vs = vs} {n = n} d h p k) =
      ap (λ l. opened ts ++ starred vs ++ l) (name_more n d p (omega arith) h)
      ∙ sym (append_assoc (opened ts ++ starred vs) (name n) (digit d ∷ []))
  step_read (next_variable {ts = ts} {vs = vs} {n = n}) =
      ap (λ l. opened ts ++ l) (starred_last vs n) ∙ regroup (opened ts) (starred vs) (name n) (star ∷ [])
    where
      regroup : (a b c d : List ℕ) → a ++ (b ++ c ++ d) ≡ a ++ b ++ c ++ d
      regroup a b c d = simp append_assoc
  step_read (next_term {s = s} {ts = ts} {t = t} a) =
      append-nil (opened (ts ++ t ∷ [])) ∙ opened_last ts t ∙ ap (λ l. l ++ plus ∷ []) (sym (after_read a))
  step_read (last_term {s = s} {ts = ts} {t = t} a) = text_last ts t ∙ ap (λ l. l ++ feed ∷ []) (sym (after_read a))
  step_read no_term = refl

  -- a byte that leads on: the state that it leads to is good, and has read it
  pub lossless : (s : State) (c : ℕ) (r : State) → moved vars s c ≡ on r → Good vars s → Good vars r × (so_far r ≡ so_far s ++ c ∷ [])
  lossless s c r e g = let p = moved_step vars s c r e in (step_good p g, step_read p)
