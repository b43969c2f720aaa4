-- The answers to the needs of a function that only checks: at each return the tests that led there. One small set for `search`,
-- whatever the checks are. Assumes nothing.
use Prim.Native.Nat.{ℕ, ◌<◌, ◌≤◌}
use mathlib.Core.Path.{◌≡◌, refl, sym, ap, ◌∙◌, subst}
use mathlib.Core.Bool.{Bool, true, false, not}
use mathlib.Core.List.{List, [], ◌∷◌, ◌++◌}
use native.Mathlib.Omega.{arith}
use borrow.Author.Tests.{lt-ltb, le-ltb, eq-eqb, ne_eqb, ltb-true, eqb-true, not-false}
use lib.Dec.{ltb, eqb, lit<}
use Rattle.answer.specs.declared.Answer.{Answer}
use Rattle.std.specs.Prelude.{Option, None, Result, Ok, Err, is_err, IsErrAnd}
use Rattle.std.specs.Option.{ok_or}
use Rattle.std.proofs.lemmas.Result.{err_from_is_err_and}
use Rattle.answer.specs.declared.Refusal.{Refusal}
use Rattle.answer.specs.declared.Refusal.TheVariants.{Zero, TooMany, Order, Shared, TooLarge, Room, Work, Form, Wide, Short, Misfit, Extra, Pad, Sign, Twice}
use Rattle.answer.specs.Table.{accepted, refused, refusal_of, numbers_of, verdict_of}
use Rattle.answer.specs.Ends.{Check, check, Ends}
use Rattle.answer.specs.Checked.{Passed, Checked}
use Rattle.answer.proofs.Ends.{each, ends_if_refused, passed_if_not_refused, ends_if_passed}

-- the first check fails: its code, operand and place come back
pub fails_here : (t : Bool) (code operand place found : ℕ) (cs : List Check) → t ≡ true → 0 < code → found ≡ place
    → Checked (check t code operand place ∷ cs) (refused code operand found)
unfolding Checked
fails_here t code operand place found cs e h p = rw e (h, ap (refused code operand) p)

-- it passes: go on
pub passes_here : (t : Bool) (code operand place : ℕ) (cs : List Check) (answer : Answer) → t ≡ false → Checked cs answer
    → Checked (check t code operand place ∷ cs) answer
unfolding Checked
passes_here t code operand place cs answer e c = rw e c

-- none is left
pub none_left : Checked [] (accepted 0)
unfolding Checked
none_left = refl

-- the tests, from what a branch tells; a number that a call has found stands for the one that the definition names
pub found_below : (found m n : ℕ) → found ≡ m → found < n → ltb m n ≡ true
found_below found m n e h = lt-ltb m n (subst (λ (k : ℕ). k < n) e h)

pub found_not_below : (found m n : ℕ) → found ≡ m → n ≤ found → ltb m n ≡ false
found_not_below found m n e h = le-ltb m n (subst (λ (k : ℕ). n ≤ k) e h)

pub found_above : (found m n : ℕ) → found ≡ n → m < found → ltb m n ≡ true
found_above found m n e h = lt-ltb m n (subst (λ (k : ℕ). m < k) e h)

pub found_not_above : (found m n : ℕ) → found ≡ n → found ≤ m → ltb m n ≡ false
found_not_above found m n e h = le-ltb m n (subst (λ (k : ℕ). k ≤ m) e h)

pub differs : (found m n : ℕ) → found ≡ m → (found ≡ n → ⊥) → not (eqb m n) ≡ true
differs found m n e h = ap not (ne_eqb m n (λ q. h (e ∙ q)))

pub agrees : (found m n : ℕ) → found ≡ m → found ≡ n → not (eqb m n) ≡ false
agrees found m n e h = ap not (eq-eqb m n (sym e ∙ h))

pub ruleset checking = (
  fails_here,
  passes_here,
  none_left,
  lt-ltb,
  le-ltb,
  eq-eqb,
  ne_eqb,
  found_below,
  found_not_below,
  found_above,
  found_not_above,
  differs,
  agrees,
  lit<,
  tt,
)

-- a test that a call has made; beside the set where it is needed, since it fits every test and would slow each search
pub said_so : (r t : Bool) → r ≡ t → r ≡ true → t ≡ true
said_so r t e h = sym e ∙ h

pub said_not : (r t : Bool) → r ≡ t → r ≡ false → t ≡ false
said_not r t e h = sym e ∙ h

-- two numbers that calls have found, and a set that a call has found empty or not
pub counted_below : (x y m n : ℕ) → x ≡ m → y ≡ n → x < y → ltb m n ≡ true
counted_below x y m n ex ey h = rw (sym ex, sym ey) (lt-ltb x y h)

pub counted_not_below : (x y m n : ℕ) → x ≡ m → y ≡ n → y ≤ x → ltb m n ≡ false
counted_not_below x y m n ex ey h = rw (sym ex, sym ey) (le-ltb x y h)

pub something_held : (r : Bool) (set m : ℕ) → r ≡ eqb set 0 → set ≡ m → not r ≡ true → not (eqb m 0) ≡ true
something_held r set m er em h = rw (sym em, sym er) h

pub nothing_held : (r : Bool) (set m : ℕ) → r ≡ eqb set 0 → set ≡ m → not r ≡ false → not (eqb m 0) ≡ false
nothing_held r set m er em h = rw (sym em, sym er) h

-- and what a passed test tells
pub equal_if_passed : (m n : ℕ) → not (eqb m n) ≡ false → m ≡ n
equal_if_passed m n e = eqb-true m n (not-false (eqb m n) e)

pub passed_if_equal : (m n : ℕ) → m ≡ n → not (eqb m n) ≡ false
passed_if_equal m n e = agrees m m n refl e

-- what refuses first refuses, whatever checks stand behind
pub refused_behind : (cs ds : List Check) (answer : Answer) → Checked cs answer → ltb 0 answer.code ≡ true → Checked (cs ++ ds) answer
unfolding Checked
refused_behind [] ds answer c h = absurd (let z : ⊥ = omega (arith, ltb-true 0 answer.code h, ap (λ (a : Answer). a.code) c) in z)
refused_behind (c ∷ cs) ds answer ch h = each c.fails (λ r. r) (λ r. refused_behind cs ds answer r h) ch

-- checks behind others that have passed
pub checked_behind : (cs ds : List Check) (answer : Answer) → Passed cs → Checked ds answer → Checked (cs ++ ds) answer
unfolding Checked Passed
checked_behind [] ds answer p c = c
checked_behind (c ∷ cs) ds answer p ch = rw p.0 (checked_behind cs ds answer p.1 ch)

-- those that have passed, and others behind them that have; and back
pub passed_behind : (cs ds : List Check) → Passed cs → Passed ds → Passed (cs ++ ds)
unfolding Passed
passed_behind [] ds p q = q
passed_behind (c ∷ cs) ds p q = (p.0, passed_behind cs ds p.1 q)

pub passed_first : (cs ds : List Check) → Passed (cs ++ ds) → Passed cs
unfolding Passed
passed_first [] ds p = tt
passed_first (c ∷ cs) ds p = (p.0, passed_first cs ds p.1)

pub passed_then : (cs ds : List Check) → Passed (cs ++ ds) → Passed ds
unfolding Passed
passed_then [] ds p = p
passed_then (c ∷ cs) ds p = passed_then cs ds p.1

-- ---- a call that checks and then works: `checks(..)?` hands a refusal on, and what stands behind it may count on the checks

-- a refusal has a code above 0
coded_refusal : (refusal : Refusal) → ltb 0 (refusal_of refusal).code ≡ true
coded_refusal Zero = refl
coded_refusal (TooMany operand) = refl
coded_refusal (Order operand place) = refl
coded_refusal Shared = refl
coded_refusal (TooLarge operand) = refl
coded_refusal (Room operand) = refl
coded_refusal Work = refl
coded_refusal Form = refl
coded_refusal Wide = refl
coded_refusal (Short operand) = refl
coded_refusal Misfit = refl
coded_refusal (Extra operand) = refl
coded_refusal Pad = refl
coded_refusal (Sign place) = refl
coded_refusal (Twice place) = refl

-- so an outcome refuses exactly if it is an error
pub refuses_if_err : (outcome : Result ℕ Refusal) → is_err outcome ≡ ltb 0 (numbers_of outcome).code
refuses_if_err (Ok count) = refl
refuses_if_err (Err refusal) = sym (coded_refusal refusal)

-- what comes back through a `?` is the refusal that stood there,
pub came : {Y : Type 0} (outcome : Result Y Refusal) (refusal : Refusal) → IsErrAnd outcome (λ r. r ≡ refusal) → outcome ≡ Err refusal
came outcome refusal through = let p = err_from_is_err_and outcome through in p.1 ∙ ap Err p.2

-- and through `ok_or(..)?`, where there is nothing, the one that it names
pub refused_if_none : {X Y : Type 0} (o : Option X) (outcome : Result Y Refusal) (found refusal : Refusal) → IsErrAnd outcome (λ r. r ≡ found)
    → Err found ≡ ok_or o refusal → o ≡ None → outcome ≡ Err refusal
refused_if_none o outcome found refusal through said none =
    let e = came outcome found through in
    let f : ok_or o refusal ≡ Err refusal = rw none refl in cc

module _ (cs : List Check) where
  -- the checks refuse: so does the call, and every lent buffer is as it was,
  pub refusal_handed_on : {B : Type 0} (old : B) (A : ℕ → B → Type 0) (refusal : Refusal) → Checked cs (refusal_of refusal)
      → Ends cs old A (refusal_of refusal) old
  refusal_handed_on old A refusal checked = ends_if_refused old A cs (refusal_of refusal) checked (coded_refusal refusal)

  -- also where the refusal came through a `?`,
  pub refusal_came : {B : Type 0} (old : B) (A : ℕ → B → Type 0) (outcome : Result ℕ Refusal) (refusal : Refusal)
      → IsErrAnd outcome (λ r. r ≡ refusal) → Checked cs (refusal_of refusal) → Ends cs old A (numbers_of outcome) old
  refusal_came old A outcome refusal through checked = rw (came outcome refusal through) (refusal_handed_on old A refusal checked)

  -- the work may count on the checks,
  pub checks_passed : Checked cs (accepted 0) → Passed cs
  checks_passed checked = passed_if_not_refused cs (accepted 0) checked refl

  -- and what the work did is the call's ending
  pub work_done : {B : Type 0} (old new : B) (A : ℕ → B → Type 0) (count : ℕ) → Checked cs (accepted 0) → A count new
      → Ends cs old A (accepted count) new
  work_done old new A count checked done = ends_if_passed old A cs count new (checks_passed checked) done

-- so much for a function that makes its checks by `?` and then works: name it there as `using(answer::proofs::Checking::calling)`
pub ruleset calling = (came, refusal_handed_on, checks_passed, work_done)

-- ---- checks that a function makes behind those of another

module _ (cs ds : List Check) where
  -- a refusal of the first ones is that of all,
  pub refused_before : (refusal : Refusal) → Checked cs (refusal_of refusal) → Checked (cs ++ ds) (refusal_of refusal)
  refused_before refusal checked = refused_behind cs ds (refusal_of refusal) checked (coded_refusal refusal)

  -- also where it came through a `?`,
  pub refused_through : (verdict : Result (Unit {0}) Refusal) (refusal : Refusal) → IsErrAnd verdict (λ r. r ≡ refusal)
      → Checked cs (refusal_of refusal) → Checked (cs ++ ds) (verdict_of verdict)
  refused_through verdict refusal through checked = rw (came verdict refusal through) (refused_before refusal checked)

  -- and where they pass the others go on
  pub passed_before : (answer : Answer) → Checked cs (accepted 0) → Checked ds answer → Checked (cs ++ ds) answer
  passed_before answer checked then = checked_behind cs ds answer (passed_if_not_refused cs (accepted 0) checked refl) then

-- ---- one check that another function makes

-- it refuses: so do all that begin with it,
pub refused_first : (c : Check) (cs : List Check) (refusal : Refusal) → Checked (c ∷ []) (refusal_of refusal) → Checked (c ∷ cs) (refusal_of refusal)
refused_first c cs refusal checked = refused_before (c ∷ []) cs refusal checked

-- and where it passes the others go on
pub passed_next : (c : Check) (cs : List Check) (answer : Answer) → Checked (c ∷ []) (accepted 0) → Checked cs answer → Checked (c ∷ cs) answer
passed_next c cs answer checked then = passed_before (c ∷ []) cs answer checked then

-- a call that hands on the numbers of another promises what that one does
pub numbers_handed_on : {B : Type 0} (cs : List Check) (old new : B) (A : ℕ → B → Type 0) (mine its : Answer)
    → mine ≡ its → Ends cs old A its new → Ends cs old A mine new
numbers_handed_on cs old new A mine its e h = subst (λ (a : Answer). Ends cs old A a new) (sym e) h
