-- How the highest variable stands in the four lists: in AD = BC it stands in as many operands of either side, and divides as many, so
-- the operands can be paired by shape. Leans on ring's law of degrees and a truth table.
use mathlib.Core.Path.{◌≡◌, refl, sym, ◌∙◌}
use mathlib.Core.Bool.{Bool, true, false, true≢false, false≢true, not, ◌&&◌, ◌||◌}
use mathlib.Core.List.{List, [], ◌∷◌}
use mathlib.Core.Logic.{◌⊎◌, inl, inr, ⊎_elim}
use Prim.Native.Nat.{ℕ, ◌+◌, ◌<◌}
use native.Mathlib.Omega.{arith}
use lib.Dec.{eqb}
use lib.ListN.{length}
use borrow.Author.Tests.{eqb-true}
use Rattle.ring.specs.Run.{Run, Decides}
use Rattle.ring.proofs.Series.{nought}
use Rattle.ring.proofs.Value.{value, value_none}
use Rattle.ring.proofs.Cases.{mirror, Tells, stands_in_both, stands_in_one}
use Rattle.ring.proofs.Runs.{run_nonzero}
use Rattle.runs.specs.Read.{shape, Pairing}
use Rattle.cross.specs.Asked.{Halved, Halves, Joined, Ratios, OneRatio, Whole}
use Rattle.cross.proofs.Halved.{three_of, Three, joined_if_free, joined_if_divided, halves_exchanged, joined_exchanged}

-- whether a list has a term
filled : List ℕ → Bool
filled [] = false
filled (t ∷ l) = true

tells : (k : ℕ) (l : List ℕ) → Run k l → Tells k (filled l) (value k l)
unfolding filled
tells k [] r = value_none k
tells k (t ∷ l) r = run_nonzero k (t ∷ l) r (omega arith)

-- the shape, from what is filled
number : Bool → Bool → ℕ
number false q = 1
number true false = 0
number true true = 2

shape_number : (l h : List ℕ) → shape l h ≡ number (filled l) (filled h)
unfolding shape number filled
shape_number [] h = refl
shape_number (t ∷ l) [] = refl
shape_number (t ∷ l) (u ∷ h) = refl

-- a law of eight truth values, by its table
same : Bool → Bool → Bool
same true b = b
same false b = not b

implies : Bool → Bool → Bool
implies true b = b
implies false b = true

every : (Bool → Bool) → Bool
every f = f true && f false

from_every : (f : Bool → Bool) → every f ≡ true → (b : Bool) → f b ≡ true
unfolding every
from_every f e b = go (f true) (f false) refl refl e b
  where
    go : (p q : Bool) → f true ≡ p → f false ≡ q → p && q ≡ true → (b : Bool) → f b ≡ true
    go true true ep eq h true = ep
    go true true ep eq h false = eq
    go true false ep eq h b = absurd (false≢true h)
    go false q ep eq h b = absurd (false≢true h)

-- with a₀ and so on for "filled": as many filled halves on either side, no list empty; then the shapes agree straight or crosswise
shapes_law : Bool → Bool → Bool → Bool → Bool → Bool → Bool → Bool → Bool
shapes_law a₀ a₁ d₀ d₁ b₀ b₁ c₀ c₁ =
    implies (same (a₁ && d₁) (b₁ && c₁))
    (implies (same (a₀ && d₀) (b₀ && c₀))
    (implies (same (a₁ || d₁) (b₁ || c₁))
    (implies (same (a₀ || d₀) (b₀ || c₀))
    (implies (a₀ || a₁)
    (implies (d₀ || d₁)
    (implies (b₀ || b₁)
    (implies (c₀ || c₁)
    (eqb (number a₀ a₁) (number b₀ b₁) && eqb (number d₀ d₁) (number c₀ c₁)
    || eqb (number a₀ a₁) (number c₀ c₁) && eqb (number d₀ d₁) (number b₀ b₁)))))))))

shapes_law_holds : (a₀ a₁ d₀ d₁ b₀ b₁ c₀ c₁ : Bool) → shapes_law a₀ a₁ d₀ d₁ b₀ b₁ c₀ c₁ ≡ true
unfolding every shapes_law same implies number
shapes_law_holds a₀ a₁ d₀ d₁ b₀ b₁ c₀ =
    from_every (shapes_law a₀ a₁ d₀ d₁ b₀ b₁ c₀)
    (from_every (λ c₀. every (shapes_law a₀ a₁ d₀ d₁ b₀ b₁ c₀))
    (from_every (λ b₁. every (λ c₀. every (shapes_law a₀ a₁ d₀ d₁ b₀ b₁ c₀)))
    (from_every (λ b₀. every (λ b₁. every (λ c₀. every (shapes_law a₀ a₁ d₀ d₁ b₀ b₁ c₀))))
    (from_every (λ d₁. every (λ b₀. every (λ b₁. every (λ c₀. every (shapes_law a₀ a₁ d₀ d₁ b₀ b₁ c₀)))))
    (from_every (λ d₀. every (λ d₁. every (λ b₀. every (λ b₁. every (λ c₀. every (shapes_law a₀ a₁ d₀ d₁ b₀ b₁ c₀))))))
    (from_every (λ a₁. every (λ d₀. every (λ d₁. every (λ b₀. every (λ b₁. every (λ c₀. every (shapes_law a₀ a₁ d₀ d₁ b₀ b₁ c₀)))))))
    (from_every (λ a₀. every (λ a₁. every (λ d₀. every (λ d₁. every (λ b₀. every (λ b₁. every (λ c₀. every (shapes_law a₀ a₁ d₀ d₁ b₀ b₁ c₀)))))))) refl a₀)
    a₁)
    d₀)
    d₁)
    b₀)
    b₁)
    c₀)

implied : (p q : Bool) → implies p q ≡ true → p ≡ true → q ≡ true
unfolding implies
implied true q h e = h
implied false q h e = absurd (false≢true e)

same_of : (p q : Bool) → p ≡ q → same p q ≡ true
unfolding same
same_of true true e = refl
same_of true false e = absurd (true≢false e)
same_of false true e = absurd (false≢true e)
same_of false false e = refl

both_true : (p q : Bool) → p && q ≡ true → (p ≡ true) × (q ≡ true)
both_true true q e = (refl, e)
both_true false q e = absurd (false≢true e)

either_true : (p q : Bool) → p || q ≡ true → (p ≡ true) ⊎ (q ≡ true)
either_true true q e = inl refl
either_true false q e = inr e

one_filled : (l h : List ℕ) → 0 < length l + length h → filled l || filled h ≡ true
unfolding filled
one_filled [] [] s = absurd (omega arith)
one_filled [] (u ∷ h) s = refl
one_filled (t ∷ l) h s = refl

not_nought : (k : ℕ) (l h : List ℕ) → Halved k l h → ¬ ((value k l ≡ nought k) × (value k h ≡ nought k))
not_nought k [] [] p e = absurd (omega (arith, p.some))
not_nought k [] (u ∷ h) p e = run_nonzero k (u ∷ h) p.run_high (omega arith) e.1
not_nought k (t ∷ l) h p e = run_nonzero k (t ∷ l) p.run_low (omega arith) e.0

-- straight or crosswise
abbrev pub Paired : ℕ → ℕ → ℕ → ℕ → Type 0
Paired s t u v = ((s ≡ u) × (t ≡ v)) ⊎ ((s ≡ v) × (t ≡ u))

paired_by_test : (s t u v : ℕ) → eqb s u && eqb t v || eqb s v && eqb t u ≡ true → Paired s t u v
paired_by_test s t u v h =
    ⊎_elim
    (λ e. inl (eqb-true s u (both_true (eqb s u) (eqb t v) e).0, eqb-true t v (both_true (eqb s u) (eqb t v) e).1))
    (λ e. inr (eqb-true s v (both_true (eqb s v) (eqb t u) e).0, eqb-true t u (both_true (eqb s v) (eqb t u) e).1))
    (either_true (eqb s u && eqb t v) (eqb s v && eqb t u) h)

module _ (k : ℕ) (a₀ a₁ d₀ d₁ b₀ b₁ c₀ c₁ : List ℕ) (p : Halves k a₀ a₁ d₀ d₁ b₀ b₁ c₀ c₁) where
  numbers_paired : Three k a₀ a₁ d₀ d₁ b₀ b₁ c₀ c₁
      → Paired (number (filled a₀) (filled a₁)) (number (filled d₀) (filled d₁)) (number (filled b₀) (filled b₁)) (number (filled c₀) (filled c₁))
  unfolding shapes_law
  numbers_paired e =
      let m = mirror k (value k a₀) (value k a₁) (value k d₀) (value k d₁) (value k b₀) (value k b₁) (value k c₀) (value k c₁) e in
      let ta₀ = tells k a₀ p.of_a.run_low in let ta₁ = tells k a₁ p.of_a.run_high in
      let td₀ = tells k d₀ p.of_d.run_low in let td₁ = tells k d₁ p.of_d.run_high in
      let tb₀ = tells k b₀ p.of_b.run_low in let tb₁ = tells k b₁ p.of_b.run_high in
      let tc₀ = tells k c₀ p.of_c.run_low in let tc₁ = tells k c₁ p.of_c.run_high in
      let na = not_nought k a₀ a₁ p.of_a in let nd = not_nought k d₀ d₁ p.of_d in
      let nb = not_nought k b₀ b₁ p.of_b in let nc = not_nought k c₀ c₁ p.of_c in
      paired_by_test (number (filled a₀) (filled a₁)) (number (filled d₀) (filled d₁)) (number (filled b₀) (filled b₁)) (number (filled c₀) (filled c₁))
      (implied (filled c₀ || filled c₁) _
      (implied (filled b₀ || filled b₁) _
      (implied (filled d₀ || filled d₁) _
      (implied (filled a₀ || filled a₁) _
      (implied (same (filled a₀ || filled d₀) (filled b₀ || filled c₀)) _
      (implied (same (filled a₁ || filled d₁) (filled b₁ || filled c₁)) _
      (implied (same (filled a₀ && filled d₀) (filled b₀ && filled c₀)) _
      (implied (same (filled a₁ && filled d₁) (filled b₁ && filled c₁)) _
      (shapes_law_holds (filled a₀) (filled a₁) (filled d₀) (filled d₁) (filled b₀) (filled b₁) (filled c₀) (filled c₁))
      (same_of (filled a₁ && filled d₁) (filled b₁ && filled c₁)
      (stands_in_both k (value k a₀) (value k a₁) (value k d₀) (value k d₁) (value k b₀) (value k b₁) (value k c₀) (value k c₁) (filled a₁) (filled d₁) (filled b₁) (filled c₁) ta₁ td₁ tb₁ tc₁ e)))
      (same_of (filled a₀ && filled d₀) (filled b₀ && filled c₀)
      (stands_in_both k (value k a₁) (value k a₀) (value k d₁) (value k d₀) (value k b₁) (value k b₀) (value k c₁) (value k c₀) (filled a₀) (filled d₀) (filled b₀) (filled c₀) ta₀ td₀ tb₀ tc₀ m)))
      (same_of (filled a₁ || filled d₁) (filled b₁ || filled c₁)
      (stands_in_one k (value k a₀) (value k a₁) (value k d₀) (value k d₁) (value k b₀) (value k b₁) (value k c₀) (value k c₁) (filled a₁) (filled d₁) (filled b₁) (filled c₁) ta₁ td₁ tb₁ tc₁ e na nd nb nc)))
      (same_of (filled a₀ || filled d₀) (filled b₀ || filled c₀)
      (stands_in_one k (value k a₁) (value k a₀) (value k d₁) (value k d₀) (value k b₁) (value k b₀) (value k c₁) (value k c₀) (filled a₀) (filled d₀) (filled b₀) (filled c₀) ta₀ td₀ tb₀ tc₀ m
      (λ z. na (z.1, z.0)) (λ z. nd (z.1, z.0)) (λ z. nb (z.1, z.0)) (λ z. nc (z.1, z.0)))))
      (one_filled a₀ a₁ p.of_a.some))
      (one_filled d₀ d₁ p.of_d.some))
      (one_filled b₀ b₁ p.of_b.some))
      (one_filled c₀ c₁ p.of_c.some))

  -- the shapes of a and d are those of b and c
  pub shapes_paired : Joined k a₀ a₁ d₀ d₁ b₀ b₁ c₀ c₁ → Paired (shape a₀ a₁) (shape d₀ d₁) (shape b₀ b₁) (shape c₀ c₁)
  shapes_paired j =
      rw (shape_number a₀ a₁, shape_number d₀ d₁, shape_number b₀ b₁, shape_number c₀ c₁)
      (numbers_paired (three_of k a₀ a₁ d₀ d₁ b₀ b₁ c₀ c₁ p j))

-- ---- what one shape says of another list

pub free_too : (l h m n : List ℕ) → shape l h ≡ shape m n → 0 < length l + length h → length h ≡ 0 → (length n ≡ 0) × (0 < length m)
unfolding shape
free_too [] h m n e s z = absurd (omega arith)
free_too (t ∷ l) (u ∷ h) m n e s z = absurd (omega arith)
free_too (t ∷ l) [] [] n e s z = absurd (omega arith)
free_too (t ∷ l) [] (x ∷ m) [] e s z = (refl, omega arith)
free_too (t ∷ l) [] (x ∷ m) (y ∷ n) e s z = absurd (omega arith)

pub divided_too : (l h m n : List ℕ) → shape l h ≡ shape m n → 0 < length m + length n → length l ≡ 0 → (length m ≡ 0) × (0 < length n)
unfolding shape
divided_too (t ∷ l) h m n e s z = absurd (omega arith)
divided_too [] h [] n e s z = (refl, omega arith)
divided_too [] h (x ∷ m) [] e s z = absurd (omega arith)
divided_too [] h (x ∷ m) (y ∷ n) e s z = absurd (omega arith)

pub mixed_too : (l h m n : List ℕ) → shape l h ≡ shape m n → ¬ (length l ≡ 0) → ¬ (length h ≡ 0) → (0 < length m) × (0 < length n)
unfolding shape
mixed_too [] h m n e p q = absurd (p refl)
mixed_too (t ∷ l) [] m n e p q = absurd (q refl)
mixed_too (t ∷ l) (u ∷ h) [] n e p q = absurd (omega arith)
mixed_too (t ∷ l) (u ∷ h) (x ∷ m) [] e p q = absurd (omega arith)
mixed_too (t ∷ l) (u ∷ h) (x ∷ m) (y ∷ n) e p q = (omega arith, omega arith)

-- ---- what the cross test makes of shapes

module _ {g s t u v s' t' u' v' : ℕ} (p : Pairing g s t u v) where
  pub paired_straight : g ≡ 0 → s ≡ s' → t ≡ t' → u ≡ u' → v ≡ v' → (s' ≡ u') × (t' ≡ v')
  paired_straight z es et eu ev = (sym es ∙ (p.straight z).0 ∙ eu, sym et ∙ (p.straight z).1 ∙ ev)

  pub paired_crosswise : g ≡ 1 → s ≡ s' → t ≡ t' → u ≡ u' → v ≡ v' → (s' ≡ v') × (t' ≡ u')
  paired_crosswise z es et eu ev = (sym es ∙ (p.swapped z).0 ∙ ev, sym et ∙ (p.swapped z).1 ∙ eu)

module _ (k : ℕ) (a₀ a₁ d₀ d₁ b₀ b₁ c₀ c₁ : List ℕ) (p : Halves k a₀ a₁ d₀ d₁ b₀ b₁ c₀ c₁) where
  pub differ_if_unpaired : {g s t u v : ℕ} → Pairing g s t u v → s ≡ shape a₀ a₁ → t ≡ shape d₀ d₁ → u ≡ shape b₀ b₁ → v ≡ shape c₀ c₁
      → ¬ (g ≡ 0) → ¬ (g ≡ 1) → ¬ Joined k a₀ a₁ d₀ d₁ b₀ b₁ c₀ c₁
  differ_if_unpaired g es et eu ev n m j =
      g.neither n m
      (⊎_elim (λ e. inl (es ∙ e.0 ∙ sym eu, et ∙ e.1 ∙ sym ev)) (λ e. inr (es ∙ e.0 ∙ sym ev, et ∙ e.1 ∙ sym eu))
      (shapes_paired k a₀ a₁ d₀ d₁ b₀ b₁ c₀ c₁ p j))

  module _ (e : shape a₀ a₁ ≡ shape b₀ b₁) where
    -- variable k stands neither in a nor in b
    pub ratios_if_free : length a₁ ≡ 0 → Ratios k a₀ b₀ c₁ d₁ c₀ d₀
    ratios_if_free z = record {
      run_p₁ = p.of_a.run_low;
      run_q₁ = p.of_b.run_low;
      run_p₂ = p.of_c.run_high;
      run_q₂ = p.of_d.run_high;
      run_p₃ = p.of_c.run_low;
      run_q₃ = p.of_d.run_low;
      some_q₁ = (free_too a₀ a₁ b₀ b₁ e p.of_a.some z).1;
    }

    pub opposed_if_free : length a₁ ≡ 0 → (r : Bool) → Decides r (OneRatio k a₀ b₀ c₁ d₁ c₀ d₀) → Decides r (Joined k a₀ a₁ d₀ d₁ b₀ b₁ c₀ c₁)
    opposed_if_free z = joined_if_free k a₀ a₁ d₀ d₁ b₀ b₁ c₀ c₁ p z (free_too a₀ a₁ b₀ b₁ e p.of_a.some z).0

    -- it divides both
    pub ratios_if_divided : length a₀ ≡ 0 → Ratios k a₁ b₁ c₁ d₁ c₀ d₀
    ratios_if_divided z = record {
      run_p₁ = p.of_a.run_high;
      run_q₁ = p.of_b.run_high;
      run_p₂ = p.of_c.run_high;
      run_q₂ = p.of_d.run_high;
      run_p₃ = p.of_c.run_low;
      run_q₃ = p.of_d.run_low;
      some_q₁ = (divided_too a₀ a₁ b₀ b₁ e p.of_b.some z).1;
    }

    pub opposed_if_divided : length a₀ ≡ 0 → (r : Bool) → Decides r (OneRatio k a₁ b₁ c₁ d₁ c₀ d₀) → Decides r (Joined k a₀ a₁ d₀ d₁ b₀ b₁ c₀ c₁)
    opposed_if_divided z = joined_if_divided k a₀ a₁ d₀ d₁ b₀ b₁ c₀ c₁ p z (divided_too a₀ a₁ b₀ b₁ e p.of_b.some z).0

  -- all halves are there
  pub whole_if_mixed : shape a₀ a₁ ≡ shape b₀ b₁ → shape d₀ d₁ ≡ shape c₀ c₁
      → ¬ (length a₁ ≡ 0) → ¬ (length a₀ ≡ 0) → ¬ (length d₁ ≡ 0) → ¬ (length d₀ ≡ 0) → Whole k a₀ a₁ d₀ d₁ b₀ b₁ c₀ c₁
  whole_if_mixed e f na₁ na₀ nd₁ nd₀ = record {
    halves = p;
    some_a₀ = omega arith;
    some_a₁ = omega arith;
    some_d₀ = omega arith;
    some_d₁ = omega arith;
    some_b₀ = (mixed_too a₀ a₁ b₀ b₁ e na₀ na₁).0;
    some_b₁ = (mixed_too a₀ a₁ b₀ b₁ e na₀ na₁).1;
    some_c₀ = (mixed_too d₀ d₁ c₀ c₁ f nd₀ nd₁).0;
    some_c₁ = (mixed_too d₀ d₁ c₀ c₁ f nd₀ nd₁).1;
  }

-- ---- the same with A and D, B and C exchanged

module _ (k : ℕ) (a₀ a₁ d₀ d₁ b₀ b₁ c₀ c₁ : List ℕ) (p : Halves k a₀ a₁ d₀ d₁ b₀ b₁ c₀ c₁) (e : shape d₀ d₁ ≡ shape c₀ c₁) where
  exchanged : Halves k d₀ d₁ a₀ a₁ c₀ c₁ b₀ b₁
  exchanged = halves_exchanged k a₀ a₁ d₀ d₁ b₀ b₁ c₀ c₁ p

  pub ratios_if_free_other : length d₁ ≡ 0 → Ratios k d₀ c₀ b₁ a₁ b₀ a₀
  ratios_if_free_other = ratios_if_free k d₀ d₁ a₀ a₁ c₀ c₁ b₀ b₁ exchanged e

  pub opposed_if_free_other : length d₁ ≡ 0 → (r : Bool) → Decides r (OneRatio k d₀ c₀ b₁ a₁ b₀ a₀) → Decides r (Joined k a₀ a₁ d₀ d₁ b₀ b₁ c₀ c₁)
  opposed_if_free_other z r h = joined_exchanged k a₀ a₁ d₀ d₁ b₀ b₁ c₀ c₁ r (opposed_if_free k d₀ d₁ a₀ a₁ c₀ c₁ b₀ b₁ exchanged e z r h)

  pub ratios_if_divided_other : length d₀ ≡ 0 → Ratios k d₁ c₁ b₁ a₁ b₀ a₀
  ratios_if_divided_other = ratios_if_divided k d₀ d₁ a₀ a₁ c₀ c₁ b₀ b₁ exchanged e

  pub opposed_if_divided_other : length d₀ ≡ 0 → (r : Bool) → Decides r (OneRatio k d₁ c₁ b₁ a₁ b₀ a₀) → Decides r (Joined k a₀ a₁ d₀ d₁ b₀ b₁ c₀ c₁)
  opposed_if_divided_other z r h = joined_exchanged k a₀ a₁ d₀ d₁ b₀ b₁ c₀ c₁ r (opposed_if_divided k d₀ d₁ a₀ a₁ c₀ c₁ b₀ b₁ exchanged e z r h)
