-- What a byte shows (RULES 12.2), by the state in front of it: a variable again where the state `repeats`, a term too many where it
-- `overflows`, a wrong sign where the byte leads nowhere. So a byte shows one thing at most. Assumes nothing.
use Prim.Native.Nat.{ℕ, suc, ◌≤◌, ◌<◌}
use native.Mathlib.Omega.{arith}
use native.Mathlib.Decide.{dec_le}
use mathlib.Core.Path.{◌≡◌, refl, sym, ap, subst, ◌∙◌}
use mathlib.Core.Bool.{Bool, true, false, ◌||◌, and-eq-true_iff, or-true, false≢true}
use mathlib.Core.List.{List, [], ◌∷◌, ◌++◌, append-nil}
use mathlib.Core.Logic.{◌⊎◌, inl, inr, ⊎_elim}
use lib.Dec.{eqb}
use lib.ListN.{length, take, get_or, get_or-eq_default}
use lib.Seq.{take-suc}
use borrow.Author.Tests.{eqb-true, eq-eqb}
use Rattle.polys.specs.List.{Mem}
use Rattle.typed.specs.Form.{letter, star, plus, feed, digit}
use Rattle.typed.specs.Shown.{Sign, Twice, Many, Fault, sign, twice, many, Shows, opened}
use Rattle.typed.specs.Machine.{State, start, named, number, one, zero, end, on, off, within, moved, repeats, overflows}
use Rattle.typed.proofs.Pieces.{closed, named_append}
use Rattle.typed.proofs.Steps.{variables, variable, lone_one, next_variable, next_term, last_term, step_moved, somewhere}
use Rattle.typed.proofs.Lossless.{after_read}
use Rattle.typed.proofs.Forward.{run, run_last, run_number, run_opened}
use Rattle.typed.proofs.Completes.{run_read, run_begins, begins_run}

-- ---- tests

-- one of two tests says yes
or_cases : (a b : Bool) → (a || b) ≡ true → (a ≡ true) ⊎ (b ≡ true)
or_cases true b e = inl refl
or_cases false b e = inr e

-- the test for a member
pub within_mem : (x : ℕ) (l : List ℕ) → within x l ≡ true → Mem l x
unfolding within
within_mem x [] e = false≢true e
within_mem x (y ∷ l) e = ⊎_elim (λ b. inl (eqb-true x y b)) (λ b. inr (within_mem x l b)) (or_cases (eqb x y) (within x l) e)

-- and a member passes it
pub mem_within : (x : ℕ) (l : List ℕ) → Mem l x → within x l ≡ true
unfolding within
mem_within x [] h = absurd h
mem_within x (y ∷ l) (inl e) = rw (eq-eqb x y e)
mem_within x (y ∷ l) (inr h) = rw (mem_within x l h) (or-true (eqb x y))

-- the test for a byte behind a variable
stop_byte : (c : ℕ) → (eqb c star || (eqb c plus || eqb c feed)) ≡ true → (c ≡ star) ⊎ (c ≡ plus) ⊎ (c ≡ feed)
stop_byte c e =
    ⊎_elim (λ b. inl (eqb-true c star b))
    (λ b. ⊎_elim (λ d. inr (inl (eqb-true c plus d))) (λ d. inr (inr (eqb-true c feed d))) (or_cases (eqb c plus) (eqb c feed) b))
    (or_cases (eqb c star) (eqb c plus || eqb c feed) e)

-- and such a byte passes it
byte_stop : (c : ℕ) → (c ≡ star) ⊎ (c ≡ plus) ⊎ (c ≡ feed) → (eqb c star || (eqb c plus || eqb c feed)) ≡ true
byte_stop c (inl e) = rw e
byte_stop c (inr (inl e)) = rw e
byte_stop c (inr (inr e)) = rw e

-- the test for a byte that begins a term
first_byte : (c : ℕ) → (eqb c letter || eqb c (digit 1)) ≡ true → (c ≡ letter) ⊎ (c ≡ digit 1)
first_byte c e = ⊎_elim (λ b. inl (eqb-true c letter b)) (λ b. inr (eqb-true c (digit 1) b)) (or_cases (eqb c letter) (eqb c (digit 1)) e)

-- and such a byte passes it
byte_first : (c : ℕ) → (c ≡ letter) ⊎ (c ≡ digit 1) → (eqb c letter || eqb c (digit 1)) ≡ true
byte_first c (inl e) = rw e
byte_first c (inr e) = rw e

-- ---- the form goes on where something else is shown

-- where a variable stands again, the byte leads on by form
pub repeats_moves : (vars : ℕ) (s : State) (c : ℕ) → repeats s c ≡ true → (r : State) × (moved vars s c ≡ on r)
repeats_moves vars (start ts vs) c e = absurd (false≢true e)
repeats_moves vars (named ts vs) c e = absurd (false≢true e)
repeats_moves vars (number ts vs n) c e = go (stop_byte c ((and-eq-true_iff (within n vs) (eqb c star || (eqb c plus || eqb c feed))).0 e).1)
  where
    go : (c ≡ star) ⊎ (c ≡ plus) ⊎ (c ≡ feed) → (r : State) × (moved vars (number ts vs n) c ≡ on r)
    go (inl k) = rw k (start ts (vs ++ n ∷ []), step_moved vars next_variable)
    go (inr (inl k)) = rw k (start (ts ++ (vs ++ n ∷ []) ∷ []) [], step_moved vars (next_term variables))
    go (inr (inr k)) = rw k (end (ts ++ (vs ++ n ∷ []) ∷ []), step_moved vars (last_term variables))
repeats_moves vars (one ts) c e = absurd (false≢true e)
repeats_moves vars zero c e = absurd (false≢true e)
repeats_moves vars (end ts) c e = absurd (false≢true e)

-- where a term is one too many, the byte leads on by form
pub overflows_moves : (vars most : ℕ) (s : State) (c : ℕ) → overflows most s c ≡ true → (r : State) × (moved vars s c ≡ on r)
overflows_moves vars most (start ts []) c e = go (first_byte c ((and-eq-true_iff (eqb (length ts) most) (eqb c letter || eqb c (digit 1))).0 e).1)
  where
    go : (c ≡ letter) ⊎ (c ≡ digit 1) → (r : State) × (moved vars (start ts []) c ≡ on r)
    go (inl k) = rw k (named ts [], step_moved vars variable)
    go (inr k) = rw k (one ts, step_moved vars lone_one)
overflows_moves vars most (start ts (v ∷ vs)) c e = absurd (false≢true e)
overflows_moves vars most (named ts vs) c e = absurd (false≢true e)
overflows_moves vars most (number ts vs n) c e = absurd (false≢true e)
overflows_moves vars most (one ts) c e = absurd (false≢true e)
overflows_moves vars most zero c e = absurd (false≢true e)
overflows_moves vars most (end ts) c e = absurd (false≢true e)

-- ---- places

-- the bytes before the place lead to the state
abbrev pub At : ℕ → List ℕ → ℕ → State → Type 0
At vars text i s = run vars (start [] []) (take i text) ≡ on s

-- with its byte, they lead to where the byte leads
pub at_next : (vars : ℕ) (text : List ℕ) (i : ℕ) (s : State) → i < length text → At vars text i s →
    run vars (start [] []) (take (suc i) text) ≡ moved vars s (get_or text i 0)
at_next vars text i s h e = ap (run vars (start [] [])) (take-suc text i 0 h) ∙ run_last vars (start [] []) (take i text) s (get_or text i 0) e

-- a place with a byte other than 0 lies in the text
inside : (text : List ℕ) (i : ℕ) → (get_or text i 0 ≡ 0 → ⊥) → i < length text
inside text i h = go (dec_le (length text) i)
  where
    go : Dec (length text ≤ i) → i < length text
    go (yes k) = absurd (h (get_or-eq_default text 0 k))
    go (no n) = omega arith

-- a variable again is shown inside the text
pub twice_inside : (vars : ℕ) (text : List ℕ) (i : ℕ) → Twice vars text i → i < length text
twice_inside vars text i t = inside text i (λ e. go e t.behind)
  where
    go : get_or text i 0 ≡ 0 → (get_or text i 0 ≡ star) ⊎ (get_or text i 0 ≡ plus) ⊎ (get_or text i 0 ≡ feed) → ⊥
    go e (inl k) = omega arith
    go e (inr (inl k)) = omega arith
    go e (inr (inr k)) = omega arith

-- a term too many is shown inside the text
pub many_inside : (vars most : ℕ) (text : List ℕ) (i : ℕ) → Many vars most text i → i < length text
many_inside vars most text i m = inside text i (λ e. go e m.begins)
  where
    go : get_or text i 0 ≡ 0 → (get_or text i 0 ≡ letter) ⊎ (get_or text i 0 ≡ digit 1) → ⊥
    go e (inl k) = omega arith
    go e (inr k) = omega arith

-- ---- what is shown, by the state

module _ (vars : ℕ) (small : vars ≤ 100) where
  -- a variable again is shown behind a number
  pub twice_at : (text : List ℕ) (i : ℕ) → (t : Twice vars text i) → At vars text i (number t.ts t.vs t.v)
  twice_at text i t = ap (run vars (start [] [])) t.before ∙ run_number vars small t.ts t.vs t.v t.names.0 t.names.1

  -- there the state repeats
  pub twice_repeats : (text : List ℕ) (i : ℕ) (s : State) → At vars text i s → Twice vars text i → repeats s (get_or text i 0) ≡ true
  twice_repeats text i s e t =
      let q = twice_at text i t in
      let k : number t.ts t.vs t.v ≡ s = cc in
      subst (λ r. repeats r (get_or text i 0) ≡ true) k (rw (mem_within t.v t.vs t.again) (byte_stop (get_or text i 0) t.behind))

  -- and where the state repeats, a variable again is shown
  pub repeats_twice : (text : List ℕ) (i : ℕ) (s : State) → At vars text i s → repeats s (get_or text i 0) ≡ true → Twice vars text i
  repeats_twice text i (start ts vs) e h = absurd (false≢true h)
  repeats_twice text i (named ts vs) e h = absurd (false≢true h)
  repeats_twice text i (number ts vs n) e h =
      let r = run_read vars small (take i text) (number ts vs n) e in
      let c = get_or text i 0 in
      let b = (and-eq-true_iff (within n vs) (eqb c star || (eqb c plus || eqb c feed))).0 h in
      record {
        ts = ts;
        vs = vs;
        v = n;
        names = (r.0.0, named_append vars vs (n ∷ []) r.0.1 (r.0.2, tt));
        before = sym r.1 ∙ after_read (variables {ts = ts} {vs = vs} {n = n});
        again = within_mem n vs b.0;
        behind = stop_byte c b.1;
      }
  repeats_twice text i (one ts) e h = absurd (false≢true h)
  repeats_twice text i zero e h = absurd (false≢true h)
  repeats_twice text i (end ts) e h = absurd (false≢true h)

  -- a term too many is shown where a term begins
  pub many_at : (most : ℕ) (text : List ℕ) (i : ℕ) → (m : Many vars most text i) → At vars text i (start m.ts [])
  many_at most text i m = ap (run vars (start [] [])) m.before ∙ run_opened vars small [] m.ts m.names

  -- there the state overflows
  pub many_overflows : (most : ℕ) (text : List ℕ) (i : ℕ) (s : State) → At vars text i s → Many vars most text i →
      overflows most s (get_or text i 0) ≡ true
  many_overflows most text i s e m =
      let q = many_at most text i m in
      let k : start m.ts [] ≡ s = cc in
      subst (λ r. overflows most r (get_or text i 0) ≡ true) k (rw (eq-eqb (length m.ts) most m.full) (byte_first (get_or text i 0) m.begins))

  -- and where the state overflows, a term too many is shown
  pub overflows_many : (most : ℕ) (text : List ℕ) (i : ℕ) (s : State) → At vars text i s → overflows most s (get_or text i 0) ≡ true →
      Many vars most text i
  unfolding closed
  overflows_many most text i (start ts []) e h =
      let r = run_read vars small (take i text) (start ts []) e in
      let c = get_or text i 0 in
      let b = (and-eq-true_iff (eqb (length ts) most) (eqb c letter || eqb c (digit 1))).0 h in
      record {
        ts = ts;
        names = r.0.0;
        full = eqb-true (length ts) most b.0;
        before = sym r.1 ∙ append-nil (opened ts);
        begins = first_byte c b.1;
      }
  overflows_many most text i (start ts (v ∷ vs)) e h = absurd (false≢true h)
  overflows_many most text i (named ts vs) e h = absurd (false≢true h)
  overflows_many most text i (number ts vs n) e h = absurd (false≢true h)
  overflows_many most text i (one ts) e h = absurd (false≢true h)
  overflows_many most text i zero e h = absurd (false≢true h)
  overflows_many most text i (end ts) e h = absurd (false≢true h)

  -- a wrong sign is shown where the byte leads nowhere
  pub off_sign : (text : List ℕ) (i : ℕ) (s : State) → i < length text → At vars text i s → moved vars s (get_or text i 0) ≡ off → Sign vars text i
  off_sign text i s h e k = inl (
    h,
    (λ b. let r = begins_run vars small (take (suc i) text) b in
        somewhere r.0 (sym (at_next vars text i s h e ∙ k) ∙ r.1)),
  )

module _ (vars : ℕ) (some : 0 < vars) (small : vars ≤ 100) where
  -- no wrong sign is shown where the byte leads on
  pub moves_no_sign : (text : List ℕ) (i : ℕ) (s r : State) → i < length text → At vars text i s → moved vars s (get_or text i 0) ≡ on r →
      ¬ Sign vars text i
  moves_no_sign text i s r h e k (inl n) = n.1 (run_begins vars some small (take (suc i) text) r (at_next vars text i s h e ∙ k))
  moves_no_sign text i s r h e k (inr n) = let m : i ≡ length text = n.0 in omega arith

  -- ---- one thing at most

  -- not both a wrong sign and a variable again
  not_sign_twice : (text : List ℕ) (i : ℕ) → Sign vars text i → Twice vars text i → ⊥
  not_sign_twice text i n t =
      let e = twice_at vars small text i t in
      let s = number t.ts t.vs t.v in
      let m = repeats_moves vars s (get_or text i 0) (twice_repeats vars small text i s e t) in
      moves_no_sign text i s m.0 (twice_inside vars text i t) e m.1 n

  -- not both a wrong sign and a term too many
  not_sign_many : (most : ℕ) (text : List ℕ) (i : ℕ) → Sign vars text i → Many vars most text i → ⊥
  not_sign_many most text i n t =
      let e = many_at vars small most text i t in
      let s = start t.ts [] in
      let m = overflows_moves vars most s (get_or text i 0) (many_overflows vars small most text i s e t) in
      moves_no_sign text i s m.0 (many_inside vars most text i t) e m.1 n

  -- not both a variable again and a term too many
  not_twice_many : (most : ℕ) (text : List ℕ) (i : ℕ) → Twice vars text i → Many vars most text i → ⊥
  not_twice_many most text i t m =
      let e = twice_at vars small text i t in
      let k = many_at vars small most text i m in
      let z : ◌≡◌ {A = ℕ} 0 1 = cc in
      omega arith

  -- a place shows one thing at most
  pub shows_one : (most : ℕ) (text : List ℕ) (i : ℕ) (f g : Fault) → Shows vars most text f i → Shows vars most text g i → f ≡ g
  shows_one most text i sign sign h k = refl
  shows_one most text i sign twice h k = absurd (not_sign_twice text i h k)
  shows_one most text i sign many h k = absurd (not_sign_many most text i h k)
  shows_one most text i twice sign h k = absurd (not_sign_twice text i k h)
  shows_one most text i twice twice h k = refl
  shows_one most text i twice many h k = absurd (not_twice_many most text i h k)
  shows_one most text i many sign h k = absurd (not_sign_many most text i k h)
  shows_one most text i many twice h k = absurd (not_twice_many most text i k h)
  shows_one most text i many many h k = refl
