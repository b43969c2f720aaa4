-- What the promises of the reader and the writer come to: two endings that a promise allows coincide; what is read is what is written an odd
-- number of times, in whatever order it is typed; reading what the writer wrote gives the same list; one text, one list. Assumes nothing.
use mathlib.Core.Path.{◌≡◌, refl, sym, ap, ap₂, ◌∙◌, subst}
use mathlib.Core.Bool.{Bool, true, false, false≢true}
use mathlib.Core.List.{List, [], ◌∷◌, map}
use mathlib.Core.Logic.{◌↔◌}
use Prim.Native.Nat.{ℕ, ◌^◌, ◌<◌, ◌≤◌}
use native.Mathlib.Nat.{lt_irrefl}
use native.Mathlib.Omega.{arith}
use borrow.Author.Tests.{lt-ltb, le-ltb, ltb-true, ltb-false}
use lib.Dec.{ltb}
use lib.ListN.{length, take, drop, length-map}
use lib.Seq.{take_at}
use Rattle.answer.specs.declared.Answer.{Answer}
use Rattle.answer.specs.Table.{accepted}
use Rattle.answer.specs.Ends.{Check, check, Ends, Writes, over}
use Rattle.answer.specs.Checked.{Passed, coded}
use Rattle.answer.proofs.Ends.{ends_coincide, writes_once, accepted_passed, passed_writes, counted}
use Rattle.polys.specs.List.{Mem, Asc}
use Rattle.polys.proofs.Lists.{above_mem}
use Rattle.terms.specs.Order.{unordered}
use Rattle.terms.proofs.Order.{ascends_if_passed, passed_if_ascends}
use Rattle.typed.specs.Form.{text_of, Equation}
use Rattle.typed.specs.Shown.{sign, twice, many, Verdict, long, shown, equation, Reads}
use Rattle.typed.specs.Distinct.{Distinct, AllDistinct}
use Rattle.typed.specs.Says.{mask, oddly, sum, held, written}
use Rattle.typed.specs.Order.{Rearranged, EachRearranged}
use Rattle.typed.proofs.Left.{left_ascends, left_member, left_holds, sum_rearranged, sum_each_rearranged}
use Rattle.typed.proofs.Held.{masks_held, held_ascends, all_held_named, sum_of_written}
use Rattle.typed.proofs.Completes.{text_once}
use Rattle.typed.proofs.Once.{reads_once}
use Rattle.typed.proofs.Rearranging.{Fit, fit_rearranged}
use Rattle.typed.proofs.Taken.{equation_reads, reads_equation}
use Rattle.text.specs.Calls.{room_checks, read_text_checks, read_terms, ReadTextEnds, write_text_checks, WriteTextEnds}

-- ---- the writer's text

-- each term of a list has only variables below a number
abbrev pub AllBelow : ℕ → List ℕ → Type 0
AllBelow vars terms = (t : ℕ) → Mem terms t → t < 2 ^ vars

-- what is written is an equation,
pub written_is_equation : (vars : ℕ) (terms : List ℕ) → AllBelow vars terms → Equation vars (written terms)
written_is_equation vars terms below = (map held terms, all_held_named vars terms below, refl)

-- and of one list only
pub one_text_one_list : (vars : ℕ) → vars ≤ 100 → (terms us : List ℕ) → AllBelow vars terms → AllBelow vars us → written terms ≡ written us → terms ≡ us
one_text_one_list vars few terms us p q e =
    sym (masks_held terms) ∙ ap (map mask) (text_once vars few (map held terms) (map held us) (all_held_named vars terms p) (all_held_named vars us q) e) ∙ masks_held us

-- no variable stands in its terms twice
ascending_distinct : (l : List ℕ) → Asc l → Distinct l
ascending_distinct [] a = tt
ascending_distinct (v ∷ l) a = (λ m. lt_irrefl v (above_mem v l v a.0 m), ascending_distinct l a.1)

written_distinct : (terms : List ℕ) → AllDistinct (map held terms)
written_distinct [] = tt
written_distinct (t ∷ terms) = (ascending_distinct (held t) (held_ascends t), written_distinct terms)

-- ---- the writer

module _ (longest most : ℕ) (terms old : List ℕ) where
  -- two endings coincide, in the four numbers and in the buffer
  pub writer_is_determined : (a b : Answer) (new other : List ℕ) → WriteTextEnds longest most terms old a new → WriteTextEnds longest most terms old b other
      → (a ≡ b) × (new ≡ other)
  writer_is_determined a b new other e f =
      ends_coincide old (Writes (written terms) old) (writes_once (written terms) old) (write_text_checks longest most terms (length old)) a b new other e f

  -- a list that is neither too long nor out of order is refused as TooLarge exactly if its text has too many bytes
  pub too_large_exactly : (a : Answer) (new : List ℕ) → WriteTextEnds longest most terms old a new → length terms ≤ most → Asc terms
      → (a.code ≡ 5) ↔ (longest < length (written terms))
  unfolding Ends
  too_large_exactly a new e few ordered =
      let w = third_check (ltb most (length terms)) (ltb (unordered terms) (length terms)) (ltb longest (length (written terms)))
      (ltb (length old) (length (written terms))) (unordered terms) a new (le-ltb most (length terms) few) (passed_if_ascends terms ordered) e in
      (λ c. ltb-true longest (length (written terms)) (w.0 c), λ h. w.1 (lt-ltb longest (length (written terms)) h))
    where
      third_check : (p q r s : Bool) (u : ℕ) (a : Answer) (new : List ℕ) → p ≡ false → q ≡ false
          → Ends (check p 2 1 0 ∷ check q 3 1 u ∷ check r 5 1 0 ∷ check s 6 1 0 ∷ []) old (Writes (written terms) old) a new → (a.code ≡ 5) ↔ (r ≡ true)
      third_check p q r s u a new e f ends = checked r s (rw (e, f) at ends)
        where
          checked : (r s : Bool) → Ends (check false 2 1 0 ∷ check false 3 1 u ∷ check r 5 1 0 ∷ check s 6 1 0 ∷ []) old (Writes (written terms) old) a new
              → (a.code ≡ 5) ↔ (r ≡ true)
          checked true s x = ((λ _. refl), (λ _. ap (λ (y : Answer). y.code) x.0))
          checked false true x = ((λ c. absurd (let z : ⊥ = omega (arith, ap (λ (y : Answer). y.code) x.0) in z)), (λ h. absurd (false≢true h)))
          checked false false x = ((λ c. absurd (let z : ⊥ = omega (arith, ap (λ (y : Answer). y.code) x.1) in z)), (λ h. absurd (false≢true h)))

-- ---- the reader

module _ (vars : ℕ) (some : 0 < vars) (few : vars ≤ 100) (longest most : ℕ) where
  -- two endings coincide, in the four numbers and in the buffer
  pub reader_is_determined : (text old : List ℕ) (a b : Answer) (new other : List ℕ) → ReadTextEnds longest most vars text old a new
      → ReadTextEnds longest most vars text old b other → (a ≡ b) × (new ≡ other)
  reader_is_determined text old a b new other (v, r, e) (w, s, f) =
      ends_coincide old (Writes (read_terms v) old) (writes_once (read_terms v) old) (read_text_checks v (length old)) a b new other e
      (subst (λ (u : Verdict). Ends (read_text_checks u (length old)) old (Writes (read_terms u) old) b other) (reads_once vars some few longest most text w v s r) f)

  -- the ending of an equation that is within the limits and holds no variable twice in a term
  ends_with : (ts : List (List ℕ)) → Fit vars most longest ts → (old : List ℕ) (answer : Answer) (new : List ℕ) → ReadTextEnds longest most vars (text_of ts) old answer new
      → Ends (read_text_checks (equation ts) (length old)) old (Writes (sum ts) old) answer new
  ends_with ts f old answer new (v, r, e) =
      subst (λ (u : Verdict). Ends (read_text_checks u (length old)) old (Writes (read_terms u) old) answer new)
      (reads_once vars some few longest most (text_of ts) v (equation ts) r
      (equation_reads vars some few longest most ts f.named f.distinct f.few f.short)) e

  -- the reader accepts a text: it is such an equation, there is room for its sum, and that is counted and written
  pub record Accepts (text old : List ℕ) (answer : Answer) (new : List ℕ) : Type 0 where
    pub ts : List (List ℕ)
    pub fit : Fit vars most longest ts
    pub is : text ≡ text_of ts
    pub room : length (sum ts) ≤ length old
    pub counts : answer ≡ accepted (length (sum ts))
    pub writes : new ≡ over (sum ts) old

  -- it does wherever the code is 0,
  pub reader_accepts : (text old : List ℕ) (answer : Answer) (new : List ℕ) → ReadTextEnds longest most vars text old answer new → answer.code ≡ 0
      → Accepts text old answer new
  unfolding Ends coded Passed
  reader_accepts text old answer new (v, r, e) z = by_verdict v r e
    where
      by_verdict : (v : Verdict) → Reads longest most vars text v → Ends (read_text_checks v (length old)) old (Writes (read_terms v) old) answer new
          → Accepts text old answer new
      by_verdict long r e = absurd (let x : ⊥ = omega (arith, ap (λ (y : Answer). y.code) e.0) in x)
      by_verdict (shown sign i) r e = absurd (let x : ⊥ = omega (arith, ap (λ (y : Answer). y.code) e.0) in x)
      by_verdict (shown twice i) r e = absurd (let x : ⊥ = omega (arith, ap (λ (y : Answer). y.code) e.0) in x)
      by_verdict (shown many i) r e = absurd (let x : ⊥ = omega (arith, ap (λ (y : Answer). y.code) e.0) in x)
      by_verdict (equation ts) r e =
          let w = reads_equation vars some few longest most text ts r in
          let passed = accepted_passed old (Writes (sum ts) old) (read_text_checks (equation ts) (length old)) answer new refl e z in
          let done = passed_writes (read_text_checks (equation ts) (length old)) (sum ts) old answer new passed e in
          record {
            ts = ts;
            fit =
                record { named = r.1; distinct = w.0; few = w.1; short = subst (λ (l : List ℕ). length l ≤ longest) r.2 r.0 };
            is = r.2;
            room = ltb-false (length old) (length (sum ts)) passed.0;
            counts = done.0;
            writes = done.1;
          }

  -- and of every such equation that finds room
  pub every_equation_is_accepted : (ts : List (List ℕ)) → Fit vars most longest ts → (old : List ℕ) (answer : Answer) (new : List ℕ) → length (sum ts) ≤ length old
      → ReadTextEnds longest most vars (text_of ts) old answer new → (answer ≡ accepted (length (sum ts))) × (new ≡ over (sum ts) old)
  unfolding Passed
  every_equation_is_accepted ts f old answer new room e =
      passed_writes (read_text_checks (equation ts) (length old)) (sum ts) old answer new (le-ltb (length old) (length (sum ts)) room, tt)
      (ends_with ts f old answer new e)

  -- what comes out ascends and holds exactly the terms that are written an odd number of times
  pub read_oddly : (text old : List ℕ) (answer : Answer) (new : List ℕ) (a : Accepts text old answer new)
      → Asc (take answer.count new) × ((x : ℕ) → Mem (take answer.count new) x ↔ (oddly (map mask a.ts) x ≡ true))
  read_oddly text old answer new a = (
    subst Asc (sym read) (left_ascends (map mask a.ts)),
    λ x. (
      (λ m. left_member (map mask a.ts) x (subst (λ (l : List ℕ). Mem l x) read m)),
      (λ h. subst (λ (l : List ℕ). Mem l x) (sym read) (left_holds (map mask a.ts) x h)),
    ),
  )
    where
      read : take answer.count new ≡ sum a.ts
      read =
          ap₂ take (ap (λ (y : Answer). y.count) a.counts) a.writes
          ∙ take_at (sum a.ts) (drop (length (sum a.ts)) old) (length (sum a.ts)) refl

  -- such an equation with its terms, and the variables of its terms, in another order: the reader ends alike, in the four numbers and the buffer
  pub order_does_not_matter : (ts vs us : List (List ℕ)) → Fit vars most longest ts → EachRearranged ts vs → Rearranged vs us
      → (old : List ℕ) (a b : Answer) (new other : List ℕ) → ReadTextEnds longest most vars (text_of ts) old a new → ReadTextEnds longest most vars (text_of us) old b other
      → (a ≡ b) × (new ≡ other)
  order_does_not_matter ts vs us f each order old a b new other e g =
      ends_coincide old (Writes (sum ts) old) (writes_once (sum ts) old) (read_text_checks (equation ts) (length old)) a b new other (ends_with ts f old a new e)
      (subst (λ (l : List ℕ). Ends (room_checks l (length old)) old (Writes l old) b other) (sym (sum_each_rearranged ts vs each ∙ sum_rearranged order))
      (ends_with us (fit_rearranged vars most longest ts vs us each order f) old b other g))

  -- reading what the writer wrote gives the same list
  pub read_of_written : (terms old out : List ℕ) (wrote : Answer) (new : List ℕ) (got : Answer) (new' : List ℕ) → AllBelow vars terms → length terms ≤ length out
      → WriteTextEnds longest most terms old wrote new → wrote.code ≡ 0 → ReadTextEnds longest most vars (take wrote.count new) out got new'
      → (got ≡ accepted (length terms)) × (new' ≡ over terms out)
  unfolding Passed coded
  read_of_written terms old out wrote new got new' below room e z f =
      again (subst (λ (text : List ℕ). ReadTextEnds longest most vars text out got new') (counted checks (written terms) old wrote new passed e) f)
    where
      checks : List Check
      checks = write_text_checks longest most terms (length old)

      passed : Passed checks
      passed = accepted_passed old (Writes (written terms) old) checks wrote new refl e z

      fit : Fit vars most longest (map held terms)
      fit =
          record {
            named = all_held_named vars terms below;
            distinct = written_distinct terms;
            few = omega (arith, length-map terms held, ltb-false most (length terms) passed.0);
            short = ltb-false longest (length (written terms)) passed.1.1.0;
          }

      back : sum (map held terms) ≡ terms
      back = sum_of_written terms (ascends_if_passed terms passed.1.0)

      again : ReadTextEnds longest most vars (written terms) out got new' → (got ≡ accepted (length terms)) × (new' ≡ over terms out)
      again g =
          subst (λ (l : List ℕ). (got ≡ accepted (length l)) × (new' ≡ over l out)) back
          (every_equation_is_accepted (map held terms) fit out got new' (omega (arith, ap length back)) g)
