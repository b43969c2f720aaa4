-- The table holds: one computed test of a row, and the theorem that every row that passes it holds.
-- Leans on SplitRows, SameRows, AuditRows and DeployRows, and on exists: `parts_of` computes the parts.
use mathlib.Core.Path.{◌≡◌, refl, sym, ap, ap₂, ◌∙◌, subst}
use mathlib.Core.Bool.{Bool, true, false, ◌&&◌, beq}
use mathlib.Core.List.{List, [], ◌∷◌, map}
use mathlib.Core.Logic.{◌⊎◌, inl, inr}
use Prim.Native.Nat.{ℕ, ◌+◌, ◌≤◌, zero-le}
use native.Mathlib.Nat.{le_antisymm}
use native.Mathlib.Omega.{arith}
use borrow.Author.Tests.{ltb-true, ltb-false}
use lib.Dec.{T, eqb, leb, ltb, eqb→eq, leb→le, ltb→lt}
use lib.ListN.{length, get_or}
use Rattle.answer.specs.declared.Answer.{Answer}
use Rattle.answer.specs.Table.{accepted, refused}
use Rattle.polys.specs.Parts.{IsParts, Each}
use Rattle.terms.specs.Order.{unordered}
use Rattle.terms.proofs.Order.{in_order, unordered_le}
use Rattle.taking.specs.Joined.{joined}
use Rattle.exists.specs.PartsOf.{parts_of}
use Rattle.exists.proofs.Tests.{and_T, T_and, eq_eqb}
use Rattle.exists.proofs.Exist.{parts_of_is_parts}
use Rattle.table.specs.Examples.{Row, splits, refuses, same_products, audits, deploys, undeployed, Holds, AllHold}
use Rattle.table.proofs.SplitRows.{Passes, splits_holds, zero_holds, order_holds}
use Rattle.table.proofs.SameTest.{is_same}
use Rattle.table.proofs.SameRows.{same_products_holds}
use Rattle.table.proofs.AuditRows.{AllPass, audits_holds}
use Rattle.table.proofs.DeployRows.{Fares, gathered, deploys_holds, code_of, undeployed_holds}

-- ---- equal lists, by test

unfoldable pub equal : List ℕ → List ℕ → Bool
equal [] [] = true
equal [] (y ∷ b) = false
equal (x ∷ a) [] = false
equal (x ∷ a) (y ∷ b) = eqb x y && equal a b

equal_is : (a b : List ℕ) → T (equal a b) → a ≡ b
unfolding equal
equal_is [] [] p = refl
equal_is [] (y ∷ b) p = absurd p
equal_is (x ∷ a) [] p = absurd p
equal_is (x ∷ a) (y ∷ b) p =
    let q = and_T (eqb x y) (equal a b) p in ap₂ ◌∷◌ (eqb→eq x y q.0) (equal_is a b q.1)

unfoldable pub all_equal : List (List ℕ) → List (List ℕ) → Bool
all_equal [] [] = true
all_equal [] (q ∷ qs) = false
all_equal (p ∷ ps) [] = false
all_equal (p ∷ ps) (q ∷ qs) = equal p q && all_equal ps qs

all_equal_is : (ps qs : List (List ℕ)) → T (all_equal ps qs) → ps ≡ qs
unfolding all_equal
all_equal_is [] [] p = refl
all_equal_is [] (q ∷ qs) p = absurd p
all_equal_is (r ∷ ps) [] p = absurd p
all_equal_is (r ∷ ps) (q ∷ qs) p =
    let s = and_T (equal r q) (all_equal ps qs) p in ap₂ ◌∷◌ (equal_is r q s.0) (all_equal_is ps qs s.1)

equal_self : (a : List ℕ) → T (equal a a)
unfolding equal
equal_self [] = tt
equal_self (x ∷ a) = T_and (eqb x x) (equal a a) (eq_eqb x x refl) (equal_self a)

all_equal_self : (ps : List (List ℕ)) → T (all_equal ps ps)
unfolding all_equal
all_equal_self [] = tt
all_equal_self (p ∷ ps) = T_and (equal p p) (all_equal ps ps) (equal_self p) (all_equal_self ps)

same_bool : (p q : Bool) → T (beq p q) → p ≡ q
same_bool true true h = refl
same_bool true false h = absurd h
same_bool false true h = absurd h
same_bool false false h = refl

is_true : (b : Bool) → T b → b ≡ true
is_true true h = refl
is_true false h = absurd h

-- ---- equal answers, by test

-- the four numbers of an answer, and back
abbrev four : Answer → List ℕ
four a = a.code ∷ a.operand ∷ a.place ∷ a.count ∷ []

abbrev answer : List ℕ → Answer
answer l = record { code = get_or l 0 0; operand = get_or l 1 0; place = get_or l 2 0; count = get_or l 3 0 }

unfoldable pub same_answers : List Answer → List Answer → Bool
same_answers [] [] = true
same_answers [] (b ∷ ys) = false
same_answers (a ∷ xs) [] = false
same_answers (a ∷ xs) (b ∷ ys) = equal (four a) (four b) && same_answers xs ys

same_answers_are : (xs ys : List Answer) → T (same_answers xs ys) → xs ≡ ys
unfolding same_answers
same_answers_are [] [] p = refl
same_answers_are [] (b ∷ ys) p = absurd p
same_answers_are (a ∷ xs) [] p = absurd p
same_answers_are (a ∷ xs) (b ∷ ys) p =
    let q = and_T (equal (four a) (four b)) (same_answers xs ys) p in
    ap₂ ◌∷◌ (ap answer (equal_is (four a) (four b) q.0)) (same_answers_are xs ys q.1)

-- ---- what a board gets alone

-- the one where the test is true, else the other
abbrev chosen : {A : Type 0} → Bool → A → A → A
chosen true x y = x
chosen false x y = y

unfoldable pub said : List ℕ → Answer
said [] = refused 1 1 0
said (t ∷ f) = chosen (ltb (unordered (t ∷ f)) (length (t ∷ f))) (refused 3 1 (unordered (t ∷ f))) (accepted (length (parts_of (t ∷ f))))

unfoldable pub found : List ℕ → List (List ℕ)
found [] = []
found (t ∷ f) = chosen (ltb (unordered (t ∷ f)) (length (t ∷ f))) [] (parts_of (t ∷ f))

-- ---- the test of a row

module _ (max_boards max_terms max_vars : ℕ) where
  unfoldable pub passes : List ℕ → Bool
  passes f = leb (length f) max_terms && leb (length f) (unordered f)

  unfoldable pub all_pass : List (List ℕ) → Bool
  all_pass [] = true
  all_pass (f ∷ fs) = passes f && all_pass fs

  -- a board is not too long, and what it gets has room
  unfoldable pub fits : List ℕ → Bool
  fits f = leb (length f) max_terms && (leb (length (found f)) max_vars && leb (length (joined (found f))) (length f + max_vars))

  unfoldable pub all_fit : List (List ℕ) → Bool
  all_fit [] = true
  all_fit (f ∷ fs) = fits f && all_fit fs

  unfoldable pub right : Row → Bool
  right (splits [] ps) = false
  right (splits (t ∷ f) ps) = passes (t ∷ f) && all_equal (parts_of (t ∷ f)) ps
  right (refuses [] code place) = eqb 1 code && eqb 0 place
  right (refuses (t ∷ f) code place) =
      leb (length (t ∷ f)) max_terms && (ltb (unordered (t ∷ f)) (length (t ∷ f)) && (eqb 3 code && eqb (unordered (t ∷ f)) place))
  right (same_products a d b c answer) =
      (passes a && passes d) && ((passes b && passes c) && beq (is_same max_vars a d b c) answer)
  right (audits [] given ps answer) = false
  right (audits (t ∷ f) given ps answer) =
      all_pass ((t ∷ f) ∷ given) && (leb (length given) max_vars && (all_equal (parts_of (t ∷ f)) ps && beq (all_equal given ps) answer))
  right (deploys fs answers ps) =
      (leb (length fs) max_boards && all_fit fs) && (same_answers (map said fs) answers && all_equal (gathered found fs) ps)
  right (undeployed words ls code) = ltb 0 code && eqb (code_of max_boards (length words) ls) code

  unfoldable pub all_right : List Row → Bool
  all_right [] = true
  all_right (row ∷ rows) = right row && all_right rows

  -- ---- a row that passes holds

  passed : (f : List ℕ) → T (passes f) → Passes max_terms f
  unfolding passes
  passed f p =
      let q = and_T (leb (length f) max_terms) (leb (length f) (unordered f)) p in
      record { few = leb→le (length f) max_terms q.0; rises = leb→le (length f) (unordered f) q.1 }

  not_none : (t : ℕ) (f : List ℕ) → ¬ (length (t ∷ f) ≡ 0)
  not_none t f e = omega arith

  all_passed : (fs : List (List ℕ)) → T (all_pass fs) → AllPass max_terms fs
  unfolding all_pass AllPass
  all_passed [] p = tt
  all_passed (f ∷ fs) p = let q = and_T (passes f) (all_pass fs) p in (passed f q.0, all_passed fs q.1)

  first_passes : (t : ℕ) (f : List ℕ) (fs : List (List ℕ)) → AllPass max_terms ((t ∷ f) ∷ fs) → Passes max_terms (t ∷ f)
  unfolding AllPass
  first_passes t f fs h = h.0

  -- its parts are those that are computed
  parts_told : (t : ℕ) (f : List ℕ) (ps : List (List ℕ)) → Passes max_terms (t ∷ f) → T (all_equal (parts_of (t ∷ f)) ps) → IsParts (t ∷ f) ps
  parts_told t f ps l e =
      subst (IsParts (t ∷ f)) (all_equal_is (parts_of (t ∷ f)) ps e)
      (parts_of_is_parts (t ∷ f) (in_order (t ∷ f) (le_antisymm (unordered_le (t ∷ f)) l.rises)) (λ e. not_none t f (ap length e)))

  -- whether the given parts are those
  verdict : (given ps : List (List ℕ)) (answer : Bool) → T (beq (all_equal given ps) answer)
      → ((answer ≡ true) × (given ≡ ps)) ⊎ ((answer ≡ false) × ¬ (given ≡ ps))
  verdict given ps true h = inl (refl, all_equal_is given ps (subst T (sym (same_bool (all_equal given ps) true h)) tt))
  verdict given ps false h =
      inr (refl, λ e. subst T (same_bool (all_equal given ps) false h) (subst (λ (qs : List (List ℕ)). T (all_equal given qs)) e (all_equal_self given)))

  -- a board gets alone what is said and found of it
  fare : (f : List ℕ) → T (fits f) → Fares max_terms max_vars f (said f) (found f)
  unfolding fits said found joined
  fare [] p =
      record {
        ends = λ old room. (zero_holds max_boards max_terms max_vars [] zero-le refl old).allowed;
        counted = refl;
        few = zero-le;
        short = zero-le;
      }
  fare (t ∷ f) p =
      let u = unordered (t ∷ f) in
      let n = length (t ∷ f) in
      let qs = found (t ∷ f) in
      let q = and_T (leb n max_terms) (leb (length qs) max_vars && leb (length (joined qs)) (n + max_vars)) p in
      let r = and_T (leb (length qs) max_vars) (leb (length (joined qs)) (n + max_vars)) q.1 in
      by (ltb u n) refl (leb→le n max_terms q.0) (leb→le (length qs) max_vars r.0) (leb→le (length (joined qs)) (n + max_vars) r.1)
    where
      by : (b : Bool) → ltb (unordered (t ∷ f)) (length (t ∷ f)) ≡ b → length (t ∷ f) ≤ max_terms → length (chosen b [] (parts_of (t ∷ f))) ≤ max_vars
          → length (joined (chosen b [] (parts_of (t ∷ f)))) ≤ length (t ∷ f) + max_vars
          → Fares max_terms max_vars (t ∷ f) (chosen b (refused 3 1 (unordered (t ∷ f))) (accepted (length (parts_of (t ∷ f))))) (chosen b [] (parts_of (t ∷ f)))
      by true e short few room =
          record {
            ends =
                λ old _. (order_holds max_boards max_terms max_vars (t ∷ f) short (not_none t f) (ltb-true (unordered (t ∷ f)) (length (t ∷ f)) e) old).allowed;
            counted = refl;
            few = few;
            short = room;
          }
      by false e short few room =
          let rises = ltb-false (unordered (t ∷ f)) (length (t ∷ f)) e in
          let parts = parts_told t f (parts_of (t ∷ f)) (record { few = short; rises = rises }) (all_equal_self (parts_of (t ∷ f))) in
          record {
            ends =
                λ old enough. (splits_holds max_boards max_terms max_vars (t ∷ f) short (not_none t f) (parts_of (t ∷ f)) rises parts old enough).allowed;
            counted = refl;
            few = few;
            short = room;
          }

  all_fare : (fs : List (List ℕ)) → T (all_fit fs) → Each (λ (f : List ℕ). Fares max_terms max_vars f (said f) (found f)) fs
  unfolding all_fit
  all_fare [] p = tt
  all_fare (f ∷ fs) p = let q = and_T (fits f) (all_fit fs) p in (fare f q.0, all_fare fs q.1)

  pub right_holds : (row : Row) → T (right row) → Holds max_boards max_terms max_vars row
  unfolding right
  right_holds (splits [] ps) p = absurd p
  right_holds (splits (t ∷ f) ps) p =
      let q = and_T (passes (t ∷ f)) (all_equal (parts_of (t ∷ f)) ps) p in
      let l = passed (t ∷ f) q.0 in
      splits_holds max_boards max_terms max_vars (t ∷ f) l.few (not_none t f) ps l.rises (parts_told t f ps l q.1)
  right_holds (refuses [] code place) p =
      let q = and_T (eqb 1 code) (eqb 0 place) p in
      subst (λ k. Holds max_boards max_terms max_vars (refuses [] k place)) (eqb→eq 1 code q.0)
      (subst (λ k. Holds max_boards max_terms max_vars (refuses [] 1 k)) (eqb→eq 0 place q.1) (zero_holds max_boards max_terms max_vars [] zero-le refl))
  right_holds (refuses (t ∷ f) code place) p =
      let q = and_T (leb (length (t ∷ f)) max_terms) (ltb (unordered (t ∷ f)) (length (t ∷ f)) && (eqb 3 code && eqb (unordered (t ∷ f)) place)) p in
      let r = and_T (ltb (unordered (t ∷ f)) (length (t ∷ f))) (eqb 3 code && eqb (unordered (t ∷ f)) place) q.1 in
      let s = and_T (eqb 3 code) (eqb (unordered (t ∷ f)) place) r.1 in
      subst (λ k. Holds max_boards max_terms max_vars (refuses (t ∷ f) k place)) (eqb→eq 3 code s.0)
      (subst (λ k. Holds max_boards max_terms max_vars (refuses (t ∷ f) 3 k)) (eqb→eq (unordered (t ∷ f)) place s.1)
      (order_holds max_boards max_terms max_vars (t ∷ f) (leb→le (length (t ∷ f)) max_terms q.0) (not_none t f)
      (ltb→lt (unordered (t ∷ f)) (length (t ∷ f)) r.0)))
  right_holds (same_products a d b c answer) p =
      let q = and_T (passes a && passes d) ((passes b && passes c) && beq (is_same max_vars a d b c) answer) p in
      let ad = and_T (passes a) (passes d) q.0 in
      let r = and_T (passes b && passes c) (beq (is_same max_vars a d b c) answer) q.1 in
      let bc = and_T (passes b) (passes c) r.0 in
      same_products_holds max_boards max_terms max_vars a d b c (passed a ad.0) (passed d ad.1) (passed b bc.0) (passed c bc.1) answer
      (same_bool (is_same max_vars a d b c) answer r.1)
  right_holds (audits [] given ps answer) p = absurd p
  right_holds (audits (t ∷ f) given ps answer) p =
      let q = and_T (all_pass ((t ∷ f) ∷ given)) (leb (length given) max_vars && (all_equal (parts_of (t ∷ f)) ps && beq (all_equal given ps) answer)) p in
      let r = and_T (leb (length given) max_vars) (all_equal (parts_of (t ∷ f)) ps && beq (all_equal given ps) answer) q.1 in
      let s = and_T (all_equal (parts_of (t ∷ f)) ps) (beq (all_equal given ps) answer) r.1 in
      let pass = all_passed ((t ∷ f) ∷ given) q.0 in
      audits_holds max_boards max_terms max_vars (t ∷ f) (not_none t f) given pass (leb→le (length given) max_vars r.0) ps
      (parts_told t f ps (first_passes t f given pass) s.0) answer (verdict given ps answer s.1)
  right_holds (deploys fs answers ps) p =
      let q = and_T (leb (length fs) max_boards && all_fit fs) (same_answers (map said fs) answers && all_equal (gathered found fs) ps) p in
      let r = and_T (leb (length fs) max_boards) (all_fit fs) q.0 in
      let s = and_T (same_answers (map said fs) answers) (all_equal (gathered found fs) ps) q.1 in
      subst (λ (l : List Answer). Holds max_boards max_terms max_vars (deploys fs l ps)) (same_answers_are (map said fs) answers s.0)
      (subst (λ (l : List (List ℕ)). Holds max_boards max_terms max_vars (deploys fs (map said fs) l)) (all_equal_is (gathered found fs) ps s.1)
      (deploys_holds max_terms max_vars said found max_boards fs (leb→le (length fs) max_boards r.0) (all_fare fs r.1)))
  right_holds (undeployed words ls code) p =
      let q = and_T (ltb 0 code) (eqb (code_of max_boards (length words) ls) code) p in
      let e = eqb→eq (code_of max_boards (length words) ls) code q.1 in
      subst (λ k. Holds max_boards max_terms max_vars (undeployed words ls k)) e
      (undeployed_holds max_boards max_terms max_vars words ls (ap (ltb 0) e ∙ is_true (ltb 0 code) q.0))

  pub all_right_hold : (rows : List Row) → T (all_right rows) → AllHold max_boards max_terms max_vars rows
  unfolding all_right
  all_right_hold [] p = tt
  all_right_hold (row ∷ rows) p =
      let q = and_T (right row) (all_right rows) p in (right_holds row q.0, all_right_hold rows q.1)
