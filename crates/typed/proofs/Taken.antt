-- Which equations are read (RULES 12.2): those in which no term holds a variable twice, that have no more terms than a list may have
-- and are not too long; and no others. Assumes nothing.
use Prim.Native.Nat.{ℕ, suc, ◌≤◌, ◌<◌}
use native.Mathlib.Omega.{arith}
use mathlib.Core.Path.{◌≡◌, refl, sym, ap, subst, ◌∙◌}
use mathlib.Core.Bool.{Bool, true, false, ◌&&◌, ◌||◌, and-true, and-false, true≢false}
use mathlib.Core.List.{List, [], ◌∷◌, ◌++◌}
use mathlib.Core.Logic.{inl, inr, ⊎_elim}
use lib.Dec.{eqb}
use lib.ListN.{length, length-append}
use borrow.Author.Tests.{eqb-false, ne_eqb}
use Rattle.polys.specs.List.{Mem}
use Rattle.polys.proofs.Lists.{mem_left, mem_right, mem_append}
use Rattle.typed.specs.Form.{star, plus, feed, digit, text_of, AllNamed}
use Rattle.typed.specs.Shown.{Fault, sign, twice, many, shown, equation, Reads}
use Rattle.typed.specs.Distinct.{Distinct, AllDistinct}
use Rattle.typed.specs.Machine.{State, start, named, number, one, zero, end, Move, on, off}
use Rattle.typed.specs.Machine.{within, moved, repeats, overflows, ending, judge, onward, reads}
use Rattle.typed.proofs.Steps.{After, constant, variables, Step}
use Rattle.typed.proofs.Steps.{variable, lone_one, lone_zero, first_digit, next_digit, next_variable, next_term, last_term, no_term}
use Rattle.typed.proofs.Steps.{moved_step, same_state, somewhere}
use Rattle.typed.proofs.Forward.{follow, run, run_text}
use Rattle.typed.proofs.Shows.{within_mem, mem_within}
use Rattle.typed.proofs.Decides.{reads_decides}
use Rattle.typed.proofs.Once.{reads_once}

-- ---- one variable and one term more

-- a variable that did not stand in a term leaves it distinct
distinct_more : (vs : List ℕ) (v : ℕ) → Distinct vs → within v vs ≡ false → Distinct (vs ++ v ∷ [])
distinct_more vs v d e = go vs d (λ m. true≢false (sym (mem_within v vs m) ∙ e))
  where
    go : (us : List ℕ) → Distinct us → ¬ Mem us v → Distinct (us ++ v ∷ [])
    go [] d n = ((λ m. m), tt)
    go (u ∷ us) d n =
        (λ m. ⊎_elim d.0 (⊎_elim (λ e. n (inl (sym e))) (λ b. b)) (mem_append us (v ∷ []) u m), go us d.1 (λ m. n (inr m)))

-- and where the last one leaves it distinct, it did not stand in the term
distinct_less : (vs : List ℕ) (v : ℕ) → Distinct (vs ++ v ∷ []) → Distinct vs × (within v vs ≡ false)
distinct_less vs v d = ((go vs d).0, none (within v vs) refl)
  where
    go : (us : List ℕ) → Distinct (us ++ v ∷ []) → Distinct us × (¬ Mem us v)
    go [] d = (tt, (λ m. m))
    go (u ∷ us) d =
        let r = go us d.1 in
        ((λ m. d.0 (mem_left us (v ∷ []) u m), r.0), ⊎_elim (λ e. d.0 (mem_right us (v ∷ []) u (inl (sym e)))) r.1)

    none : (b : Bool) → within v vs ≡ b → within v vs ≡ false
    none true e = absurd ((go vs d).1 (within_mem v vs e))
    none false e = e

-- one term more
all_distinct_more : (ts : List (List ℕ)) (t : List ℕ) → AllDistinct ts → Distinct t → AllDistinct (ts ++ t ∷ [])
all_distinct_more [] t d e = (e, tt)
all_distinct_more (u ∷ ts) t d e = (d.0, all_distinct_more ts t d.1 e)

-- one term less
all_distinct_less : (ts : List (List ℕ)) (t : List ℕ) → AllDistinct (ts ++ t ∷ []) → AllDistinct ts × Distinct t
all_distinct_less [] t d = (tt, d.0)
all_distinct_less (u ∷ ts) t d = let r = all_distinct_less ts t d.1 in ((d.0, r.0), r.1)

-- it counts one
length_more : (ts : List (List ℕ)) (t : List ℕ) → length (ts ++ t ∷ []) ≡ suc (length ts)
length_more ts t = length-append ts (t ∷ []) ∙ omega arith

-- ---- the states before which neither a variable again nor a term too many was shown

-- no term so far holds a variable twice
abbrev Unrepeated : State → Type 0
Unrepeated (start ts vs) = AllDistinct ts × Distinct vs
Unrepeated (named ts vs) = AllDistinct ts × Distinct vs
Unrepeated (number ts vs n) = AllDistinct ts × Distinct vs
Unrepeated (one ts) = AllDistinct ts
Unrepeated zero = Unit {0}
Unrepeated (end ts) = AllDistinct ts

-- there are no more terms so far than a list may have, the one that is being read among them
abbrev Few : ℕ → State → Type 0
Few most (start ts []) = length ts ≤ most
Few most (start ts (v ∷ vs)) = length ts < most
Few most (named ts vs) = length ts < most
Few most (number ts vs n) = length ts < most
Few most (one ts) = length ts < most
Few most zero = Unit {0}
Few most (end ts) = length ts ≤ most

-- behind a term: a byte that ends the term, and does not repeat, leaves the terms distinct
after_unrepeated : {s : State} {ts : List (List ℕ)} {t : List ℕ} → After s ts t → (c : ℕ) → (eqb c star || (eqb c plus || eqb c feed)) ≡ true →
    Unrepeated s → repeats s c ≡ false → AllDistinct (ts ++ t ∷ [])
after_unrepeated (constant {ts = ts}) c h a e = all_distinct_more ts [] a tt
after_unrepeated (variables {ts = ts} {vs = vs} {n = n}) c h a e =
    all_distinct_more ts (vs ++ n ∷ []) a.0 (distinct_more vs n a.1 (sym (and-true (within n vs)) ∙ ap (λ b. within n vs && b) (sym h) ∙ e))

-- and where the terms are distinct, the byte behind them does not repeat
unrepeated_after : {s : State} {ts : List (List ℕ)} {t : List ℕ} → After s ts t → (c : ℕ) → AllDistinct (ts ++ t ∷ []) →
    Unrepeated s × (repeats s c ≡ false)
unrepeated_after (constant {ts = ts}) c a = ((all_distinct_less ts [] a).0, refl)
unrepeated_after (variables {ts = ts} {vs = vs} {n = n}) c a =
    let q = all_distinct_less ts (vs ++ n ∷ []) a in
    let r = distinct_less vs n q.1 in
    ((q.0, r.0), rw r.1)

-- behind a term: it counts
after_few : (most : ℕ) {s : State} {ts : List (List ℕ)} {t : List ℕ} → After s ts t → Few most s → length (ts ++ t ∷ []) ≤ most
after_few most (constant {ts = ts}) f = omega (arith, length_more ts [])
after_few most (variables {ts = ts} {vs = vs} {n = n}) f = omega (arith, length_more ts (vs ++ n ∷ []))

-- and where the terms are few enough, no byte behind them overflows
few_after : (most : ℕ) {s : State} {ts : List (List ℕ)} {t : List ℕ} → After s ts t → (c : ℕ) → length (ts ++ t ∷ []) ≤ most →
    Few most s × (overflows most s c ≡ false)
few_after most (constant {ts = ts}) c f = (omega (arith, length_more ts []), refl)
few_after most (variables {ts = ts} {vs = vs} {n = n}) c f = (omega (arith, length_more ts (vs ++ n ∷ [])), refl)

-- a digit is none of the bytes behind a variable
digit_no_stop : (b : Bool) (d : ℕ) → (b && (eqb (digit d) star || (eqb (digit d) plus || eqb (digit d) feed))) ≡ false
digit_no_stop b d = rw (other star (omega arith), other plus (omega arith), other feed (omega arith)) (and-false b)
  where
    other : (c : ℕ) → c < 0x30 → eqb (digit d) c ≡ false
    other c h = ne_eqb (digit d) c (λ e. let k : ⊥ = omega arith in k)

-- fewer terms than a list may have, where another one that begins is not one too many
below : {most : ℕ} (ts : List (List ℕ)) → length ts ≤ most → (eqb (length ts) most && true) ≡ false → length ts < most
below {most} ts f e = let n : (length ts ≡ most) → ⊥ = eqb-false (length ts) most (sym (and-true (eqb (length ts) most)) ∙ e) in omega arith

-- what is shown is no equation
not_equation : (f : Fault) (i : ℕ) (ts : List (List ℕ)) → shown f i ≡ equation ts → ⊥
not_equation f i ts e = let z : ◌≡◌ {A = ℕ} 0 1 = cc in omega arith

module _ (vars most : ℕ) where
  -- a step that does not repeat
  step_unrepeated : {s : State} {c : ℕ} {r : State} → Step vars s c r → Unrepeated s → repeats s c ≡ false → Unrepeated r
  step_unrepeated variable a e = a
  step_unrepeated lone_one a e = a.0
  step_unrepeated lone_zero a e = tt
  step_unrepeated (first_digit d h k) a e = a
  step_unrepeated (next_digit d h p k) a e = a
  step_unrepeated (next_variable {vs = vs} {n = n}) a e = (a.0, distinct_more vs n a.1 (sym (and-true (within n vs)) ∙ e))
  step_unrepeated (next_term f) a e = (after_unrepeated f plus refl a e, tt)
  step_unrepeated (last_term f) a e = after_unrepeated f feed refl a e
  step_unrepeated no_term a e = tt

  -- and one to terms that are distinct
  unrepeated_step : {s : State} {c : ℕ} {r : State} → Step vars s c r → Unrepeated r → Unrepeated s × (repeats s c ≡ false)
  unrepeated_step variable a = (a, refl)
  unrepeated_step lone_one a = ((a, tt), refl)
  unrepeated_step lone_zero a = ((tt, tt), refl)
  unrepeated_step (first_digit d h k) a = (a, refl)
  unrepeated_step (next_digit {vs = vs} {n = n} d h p k) a = (a, digit_no_stop (within n vs) d)
  unrepeated_step (next_variable {vs = vs} {n = n}) a =
      let r = distinct_less vs n a.1 in
      ((a.0, r.0), and-true (within n vs) ∙ r.1)
  unrepeated_step (next_term f) a = unrepeated_after f plus a.0
  unrepeated_step (last_term f) a = unrepeated_after f feed a
  unrepeated_step no_term a = (tt, refl)

  -- a step that does not overflow
  step_few : {s : State} {c : ℕ} {r : State} → Step vars s c r → Few most s → overflows most s c ≡ false → Few most r
  step_few (variable {ts = ts} {vs = []}) f e = below ts f e
  step_few (variable {vs = v ∷ vs}) f e = f
  step_few (lone_one {ts = ts}) f e = below ts f e
  step_few lone_zero f e = tt
  step_few (first_digit d h k) f e = f
  step_few (next_digit d h p k) f e = f
  step_few (next_variable {vs = []}) f e = f
  step_few (next_variable {vs = v ∷ vs}) f e = f
  step_few (next_term a) f e = after_few most a f
  step_few (last_term a) f e = after_few most a f
  step_few no_term f e = omega arith

  -- and one to terms that are few enough
  few_step : {s : State} {c : ℕ} {r : State} → Step vars s c r → Few most r → Few most s × (overflows most s c ≡ false)
  few_step (variable {ts = ts} {vs = []}) f = (omega arith, rw (ne_eqb (length ts) most (λ e. let c : ⊥ = omega arith in c)))
  few_step (variable {vs = v ∷ vs}) f = (f, refl)
  few_step (lone_one {ts = ts}) f = (omega arith, rw (ne_eqb (length ts) most (λ e. let c : ⊥ = omega arith in c)))
  few_step lone_zero f = (omega arith, and-false (eqb 0 most))
  few_step (first_digit d h k) f = (f, refl)
  few_step (next_digit d h p k) f = (f, refl)
  few_step (next_variable {vs = []}) f = (f, refl)
  few_step (next_variable {vs = v ∷ vs}) f = (f, refl)
  few_step (next_term a) f = few_after most a plus f
  few_step (last_term a) f = few_after most a feed f
  few_step no_term f = (tt, refl)

  -- ---- to the end

  -- a way to terms that are distinct and few enough is read to its end
  read_to_end : (s : State) (cs : List ℕ) (ts : List (List ℕ)) → run vars s cs ≡ on (end ts) → AllDistinct ts → length ts ≤ most →
      Unrepeated s × Few most s × ((i : ℕ) → reads vars most s i cs ≡ equation ts)
  unfolding run reads
  read_to_end s [] ts e a f =
      subst (λ r. Unrepeated r × Few most r × ((i : ℕ) → ending r i ≡ equation ts)) (sym (same_state s (end ts) e)) (a, f, (λ i. refl))
  read_to_end s (c ∷ cs) ts e a f = go (λ r k. read_to_end r cs ts k a f) (moved vars s c) refl e
    where
      go : ((r : State) → run vars r cs ≡ on (end ts) → Unrepeated r × Few most r × ((i : ℕ) → reads vars most r i cs ≡ equation ts)) →
          (m : Move) → moved vars s c ≡ m → follow m (λ r. run vars r cs) ≡ on (end ts) →
          Unrepeated s × Few most s × ((i : ℕ) → reads vars most s i (c ∷ cs) ≡ equation ts)
      go ih (on r) h k =
          let q = ih r k in
          let p = moved_step vars s c r h in
          let x = unrepeated_step p q.0 in
          let y = few_step p q.1 in
          (x.0, y.0, (λ i. rw (x.1, y.1, h) (q.2 (suc i))))
      go ih off h k = absurd (somewhere (end ts) k)

  -- an equation that is read has terms that are distinct and few enough
  end_of_read : (s : State) (i : ℕ) (cs : List ℕ) (ts : List (List ℕ)) → reads vars most s i cs ≡ equation ts → Unrepeated s → Few most s →
      AllDistinct ts × (length ts ≤ most)
  unfolding reads
  end_of_read s i [] ts e a f = go s e a f
    where
      go : (r : State) → ending r i ≡ equation ts → Unrepeated r → Few most r → AllDistinct ts × (length ts ≤ most)
      go (start us vs) k x y = absurd (not_equation sign i ts k)
      go (named us vs) k x y = absurd (not_equation sign i ts k)
      go (number us vs n) k x y = absurd (not_equation sign i ts k)
      go (one us) k x y = absurd (not_equation sign i ts k)
      go zero k x y = absurd (not_equation sign i ts k)
      go (end us) k x y = let h : us ≡ ts = cc in subst (λ l. AllDistinct l × (length l ≤ most)) h (x, y)
  end_of_read s i (c ∷ cs) ts e a f =
      go (λ r. end_of_read r (suc i) cs ts) (repeats s c) refl (overflows most s c) refl (moved vars s c) refl e
    where
      go : ((r : State) → reads vars most r (suc i) cs ≡ equation ts → Unrepeated r → Few most r → AllDistinct ts × (length ts ≤ most)) →
          (p : Bool) → repeats s c ≡ p → (q : Bool) → overflows most s c ≡ q → (m : Move) → moved vars s c ≡ m →
          judge p (shown twice i) (judge q (shown many i) (onward m (shown sign i) (λ r. reads vars most r (suc i) cs))) ≡ equation ts →
          AllDistinct ts × (length ts ≤ most)
      go ih true x q y m h k = absurd (not_equation twice i ts k)
      go ih false x true y m h k = absurd (not_equation many i ts k)
      go ih false x false y off h k = absurd (not_equation sign i ts k)
      go ih false x false y (on r) h k = let p = moved_step vars s c r h in ih r k (step_unrepeated p a x) (step_few p f y)

module _ (vars : ℕ) (some : 0 < vars) (small : vars ≤ 100) (longest most : ℕ) where
  -- an equation whose terms are distinct and few enough is read, if it is not too long
  pub equation_reads : (ts : List (List ℕ)) → AllNamed vars ts → AllDistinct ts → length ts ≤ most → length (text_of ts) ≤ longest →
      Reads longest most vars (text_of ts) (equation ts)
  equation_reads ts h d f l =
      subst (Reads longest most vars (text_of ts)) ((read_to_end vars most (start [] []) (text_of ts) ts (run_text vars small ts h) d f).2 0)
      (reads_decides vars some small longest most (text_of ts) l)

  -- and an equation that is read is such a one
  pub reads_equation : (text : List ℕ) (ts : List (List ℕ)) → Reads longest most vars text (equation ts) → AllDistinct ts × (length ts ≤ most)
  reads_equation text ts h =
      end_of_read vars most (start [] []) 0 text ts
      (reads_once vars some small longest most text (reads vars most (start [] []) 0 text) (equation ts)
      (reads_decides vars some small longest most text h.0) h)
      (tt, tt) (omega arith)
