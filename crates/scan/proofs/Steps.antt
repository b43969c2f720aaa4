-- One byte after the other: where the next byte of a text leads from a state, and what it shows. Assumes nothing.
use mathlib.Core.Path.{◌≡◌, refl, ap, ◌∙◌}
use mathlib.Core.Bool.{Bool, true, false}
use mathlib.Core.List.{List, [], ◌∷◌, ◌++◌}
use Prim.Native.Nat.{ℕ, suc, ◌<◌, ◌≤◌}
use native.Mathlib.Omega.{arith}
use borrow.Author.Tests.{ltb-true, ltb-false}
use lib.Dec.{ltb}
use lib.ListN.{length, get_or, get_or-eq_default}
use lib.Seq.{drop-cons, drop-length}
use Rattle.typed.specs.Shown.{sign, twice, many, Verdict, shown}
use Rattle.typed.specs.Machine.{State, Move, on, off, none, moved, repeats, overflows, ending, judge, onward, reads}
use Rattle.scan.specs.Told.{on_from}

-- a list with a last member is not empty
pub some : {A : Type 0} (l : List A) (x : A) → none (l ++ x ∷ []) ≡ false
some [] x = refl
some (y ∷ l) x = refl

-- a test and its answers
pub by_test : (t : Bool) {P : Type 0} → (t ≡ true → P) → (t ≡ false → P) → P
by_test true f g = f refl
by_test false f g = g refl

-- what a byte comes to, with the three tests as they turned out
abbrev met : (r o : Bool) (m : Move) (i : ℕ) → (State → Verdict) → Verdict
met r o m i further = judge r (shown twice i) (judge o (shown many i) (onward m (shown sign i) further))

module _ (vars most : ℕ) (text : List ℕ) (s : State) (i : ℕ) (inside : i < length text) where
  abbrev byte : ℕ
  byte = get_or text i 0

  one_byte : on_from vars most text s i ≡ met (repeats s byte) (overflows most s byte) (moved vars s byte) i (λ t. on_from vars most text t (suc i))
  unfolding reads
  one_byte = ap (reads vars most s i) (drop-cons text i 0 inside)

  -- the byte leads on,
  pub leads_on : (t : State) → repeats s (get_or text i 0) ≡ false → overflows most s (get_or text i 0) ≡ false → moved vars s (get_or text i 0) ≡ on t
      → on_from vars most text s i ≡ on_from vars most text t (suc i)
  leads_on t r o m = one_byte ∙ rw (r, o, m) refl

  -- or nowhere,
  pub leads_nowhere : repeats s (get_or text i 0) ≡ false → overflows most s (get_or text i 0) ≡ false → moved vars s (get_or text i 0) ≡ off
      → on_from vars most text s i ≡ shown sign i
  leads_nowhere r o m = one_byte ∙ rw (r, o, m) refl

  -- or shows one of the others
  pub shows_twice : repeats s (get_or text i 0) ≡ true → on_from vars most text s i ≡ shown twice i
  shows_twice r = one_byte ∙ rw r refl

  pub shows_many : repeats s (get_or text i 0) ≡ false → overflows most s (get_or text i 0) ≡ true → on_from vars most text s i ≡ shown many i
  shows_many r o = one_byte ∙ rw (r, o) refl

-- a byte that is not 0 stands inside the text
pub inside_if_byte : (text : List ℕ) (i : ℕ) → ¬ (get_or text i 0 ≡ 0) → i < length text
inside_if_byte text i h = by_test (ltb i (length text)) (ltb-true i (length text)) (λ e. absurd (h (get_or-eq_default text 0 (ltb-false i (length text) e))))

-- no byte is left
at_the_end : (vars most : ℕ) (text : List ℕ) (s : State) → on_from vars most text s (length text) ≡ ending s (length text)
unfolding reads
at_the_end vars most text s = ap (reads vars most s (length text)) (drop-length text)

-- a byte that leads nowhere, or none where the text may not end
pub stops : (vars most : ℕ) (text : List ℕ) (s : State) (i : ℕ) → i ≤ length text → ((j : ℕ) → ending s j ≡ shown sign j)
    → repeats s (get_or text i 0) ≡ false → overflows most s (get_or text i 0) ≡ false → moved vars s (get_or text i 0) ≡ off → on_from vars most text s i ≡ shown sign i
stops vars most text s i inside unfinished r o m =
    by_test (ltb i (length text)) (λ e. leads_nowhere vars most text s i (ltb-true i (length text) e) r o m)
    (λ e. let z : i ≡ length text = omega (arith, ltb-false i (length text) e) in rw z (at_the_end vars most text s ∙ unfinished (length text)))
