-- The steps of a reader: where a byte leads, told as one of nine steps. A step and the test for it, `moved`, say the same. Assumes nothing.
use Prim.Native.Nat.{ℕ, ◌+◌, ◌*◌, ◌≤◌, ◌<◌}
use native.Mathlib.Omega.{arith}
use mathlib.Core.Path.{◌≡◌, refl, sym, subst₂}
use mathlib.Core.Bool.{Bool, true, false, not, ◌&&◌, and-eq-true_iff}
use mathlib.Core.List.{List, [], ◌∷◌, ◌++◌}
use lib.Dec.{ltb, eqb}
use borrow.Author.Tests.{ltb-true, ltb-false, eqb-true, eqb-false, lt-ltb, le-ltb, ne_eqb, not-true}
use Rattle.typed.specs.Form.{letter, star, plus, feed, digit}
use Rattle.typed.specs.Machine.{State, start, named, number, one, zero, end, Move, on, off, choose, none, is_digit, digit_of, behind, moved}

-- the state is behind the term t, before which the terms ts stand
pub data After : State → List (List ℕ) → List ℕ → Type 0 where
  -- behind `1`
  constant : {ts : List (List ℕ)} → After (one ts) ts []
  -- behind the number of the last variable
  variables : {ts : List (List ℕ)} {vs : List ℕ} {n : ℕ} → After (number ts vs n) ts (vs ++ n ∷ [])

-- the byte leads from the one state to the other
pub data Step (vars : ℕ) : State → ℕ → State → Type 0 where
  -- an `x`, where a variable may begin
  variable : {ts : List (List ℕ)} {vs : List ℕ} → Step vars (start ts vs) letter (named ts vs)
  -- a `1`, where a term begins
  lone_one : {ts : List (List ℕ)} → Step vars (start ts []) (digit 1) (one ts)
  -- a `0`, where the text begins
  lone_zero : Step vars (start [] []) (digit 0) zero
  -- a digit behind the `x`
  first_digit : {ts : List (List ℕ)} {vs : List ℕ} (d : ℕ) → d < 10 → d < vars → Step vars (named ts vs) (digit d) (number ts vs d)
  -- a digit behind a digit other than 0
  next_digit : {ts : List (List ℕ)} {vs : List ℕ} {n : ℕ} (d : ℕ) → d < 10 → 0 < n → 10 * n + d < vars →
      Step vars (number ts vs n) (digit d) (number ts vs (10 * n + d))
  -- a `*` behind a variable
  next_variable : {ts : List (List ℕ)} {vs : List ℕ} {n : ℕ} → Step vars (number ts vs n) star (start ts (vs ++ n ∷ []))
  -- a `+` behind a term
  next_term : {s : State} {ts : List (List ℕ)} {t : List ℕ} → After s ts t → Step vars s plus (start (ts ++ t ∷ []) [])
  -- the line feed behind a term
  last_term : {s : State} {ts : List (List ℕ)} {t : List ℕ} → After s ts t → Step vars s feed (end (ts ++ t ∷ []))
  -- the line feed behind the lone `0`
  no_term : Step vars zero feed (end [])

-- what a move leads to is one state
pub same_state : (s r : State) → on s ≡ on r → s ≡ r
same_state s r e = cc

-- and not nowhere
pub somewhere : (s : State) → off ≡ on s → ⊥
somewhere s e = let z : ◌≡◌ {A = ℕ} 0 1 = cc in omega arith

-- a digit's number
digit_number : (d : ℕ) → digit_of (digit d) ≡ d
digit_number d = omega arith

-- digits are digits
digit_is : (d : ℕ) → d < 10 → is_digit (digit d) ≡ true
digit_is d h = rw (le-ltb (digit d) 0x30 (omega arith), lt-ltb (digit d) 0x3a (omega arith))

-- a byte that is a digit is the digit of its number
is_digit_lem : (c : ℕ) → is_digit c ≡ true → (digit_of c < 10) × (digit (digit_of c) ≡ c)
is_digit_lem c e =
    let b = (and-eq-true_iff (not (ltb c 0x30)) (ltb c 0x3a)).0 e in
    let low : 0x30 ≤ c = ltb-false c 0x30 (not-true (ltb c 0x30) b.0) in
    let high : c < 0x3a = ltb-true c 0x3a b.1 in
    omega arith

-- the list is empty where the test says so
none_nil : {A : Type 0} (l : List A) → none l ≡ true → l ≡ []
none_nil [] e = refl
none_nil (x ∷ l) e = cc

module _ (vars : ℕ) where
  -- a step is where the byte leads
  pub step_moved : {s : State} {c : ℕ} {r : State} → Step vars s c r → moved vars s c ≡ on r
  unfolding moved
  step_moved variable = refl
  step_moved lone_one = refl
  step_moved lone_zero = refl
  step_moved (first_digit d h k) = rw (digit_is d h, digit_number d, lt-ltb d vars k)
  step_moved (next_digit {n = n} d h p k) =
      rw (digit_is d h, digit_number d, lt-ltb (10 * n + d) vars k, ne_eqb n 0 (λ e. let c : ⊥ = omega arith in c))
  step_moved next_variable = refl
  step_moved (next_term constant) = refl
  step_moved (next_term variables) = refl
  step_moved (last_term constant) = refl
  step_moved (last_term variables) = refl
  step_moved no_term = refl

  -- a test that was passed, or not
  which : {P : Type 0} (b : Bool) (x y : Move) (r : State) →
      (b ≡ true → x ≡ on r → P) → (b ≡ false → y ≡ on r → P) → choose b x y ≡ on r → P
  which true x y r f g e = f refl e
  which false x y r f g e = g refl e

  -- a step for the byte that was met, and to the state that was reached
  met : (s : State) (c d : ℕ) (q r : State) → d ≡ c → on q ≡ on r → Step vars s d q → Step vars s c r
  met s c d q r e k p = subst₂ (Step vars s) e (same_state q r k) p

  -- behind a term
  moved_behind : (s : State) (ts : List (List ℕ)) (t : List ℕ) (c : ℕ) (r : State) →
      After s ts t → behind (ts ++ t ∷ []) c ≡ on r → Step vars s c r
  moved_behind s ts t c r a =
      which (eqb c plus) (on (start (ts ++ t ∷ []) [])) (choose (eqb c feed) (on (end (ts ++ t ∷ []))) off) r
      (λ b k. met s c plus (start (ts ++ t ∷ []) []) r (sym (eqb-true c plus b)) k (next_term a))
      (λ b. which (eqb c feed) (on (end (ts ++ t ∷ []))) off r
      (λ b k. met s c feed (end (ts ++ t ∷ [])) r (sym (eqb-true c feed b)) k (last_term a))
      (λ b k. absurd (somewhere r k)))

  -- where a byte leads is a step
  pub moved_step : (s : State) (c : ℕ) (r : State) → moved vars s c ≡ on r → Step vars s c r
  unfolding moved
  moved_step (start ts vs) c r e =
      which (eqb c letter) (on (named ts vs))
      (choose (eqb c (digit 1) && none vs) (on (one ts)) (choose (eqb c (digit 0) && (none vs && none ts)) (on zero) off)) r
      (λ b k. met (start ts vs) c letter (named ts vs) r (sym (eqb-true c letter b)) k variable)
      (λ b. which (eqb c (digit 1) && none vs) (on (one ts)) (choose (eqb c (digit 0) && (none vs && none ts)) (on zero) off) r
      (λ b k. let p = (and-eq-true_iff (eqb c (digit 1)) (none vs)).0 b in
      met (start ts vs) c (digit 1) (one ts) r (sym (eqb-true c (digit 1) p.0)) k (ones p.1))
      (λ b. which (eqb c (digit 0) && (none vs && none ts)) (on zero) off r
      (λ b k. let p = (and-eq-true_iff (eqb c (digit 0)) (none vs && none ts)).0 b in
      let q = (and-eq-true_iff (none vs) (none ts)).0 p.1 in
      met (start ts vs) c (digit 0) zero r (sym (eqb-true c (digit 0) p.0)) k (zeros q.0 q.1))
      (λ b k. absurd (somewhere r k)))) e
    where
      ones : none vs ≡ true → Step vars (start ts vs) (digit 1) (one ts)
      ones h = rw (none_nil vs h) lone_one

      zeros : none vs ≡ true → none ts ≡ true → Step vars (start ts vs) (digit 0) zero
      zeros h k = rw (none_nil vs h, none_nil ts k) lone_zero
  moved_step (named ts vs) c r e =
      which (is_digit c && ltb (digit_of c) vars) (on (number ts vs (digit_of c))) off r
      (λ b k. let p = (and-eq-true_iff (is_digit c) (ltb (digit_of c) vars)).0 b in
      let d = is_digit_lem c p.0 in
      met (named ts vs) c (digit (digit_of c)) (number ts vs (digit_of c)) r d.1 k
      (first_digit (digit_of c) d.0 (ltb-true (digit_of c) vars p.1)))
      (λ b k. absurd (somewhere r k)) e
  moved_step (number ts vs n) c r e =
      which (is_digit c && (not (eqb n 0) && ltb (10 * n + digit_of c) vars)) (on (number ts vs (10 * n + digit_of c)))
      (choose (eqb c star) (on (start ts (vs ++ n ∷ []))) (behind (ts ++ (vs ++ n ∷ []) ∷ []) c)) r
      (λ b k. let p = (and-eq-true_iff (is_digit c) (not (eqb n 0) && ltb (10 * n + digit_of c) vars)).0 b in
      let q = (and-eq-true_iff (not (eqb n 0)) (ltb (10 * n + digit_of c) vars)).0 p.1 in
      let d = is_digit_lem c p.0 in
      met (number ts vs n) c (digit (digit_of c)) (number ts vs (10 * n + digit_of c)) r d.1 k
      (next_digit (digit_of c) d.0 (above q.0) (ltb-true (10 * n + digit_of c) vars q.1)))
      (λ b. which (eqb c star) (on (start ts (vs ++ n ∷ []))) (behind (ts ++ (vs ++ n ∷ []) ∷ []) c) r
      (λ b k. met (number ts vs n) c star (start ts (vs ++ n ∷ [])) r (sym (eqb-true c star b)) k next_variable)
      (λ b. moved_behind (number ts vs n) ts (vs ++ n ∷ []) c r variables)) e
    where
      above : not (eqb n 0) ≡ true → 0 < n
      above b = let h : (n ≡ 0) → ⊥ = eqb-false n 0 (not-true (eqb n 0) b) in omega arith
  moved_step (one ts) c r e = moved_behind (one ts) ts [] c r constant e
  moved_step zero c r e =
      which (eqb c feed) (on (end [])) off r
      (λ b k. met zero c feed (end []) r (sym (eqb-true c feed b)) k no_term)
      (λ b k. absurd (somewhere r k)) e
  moved_step (end ts) c r e = absurd (somewhere r e)
