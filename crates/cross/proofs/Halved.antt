-- The cross test: what the questions about halves say of the whole lists. Leans on ring's three equations and ratios.
use mathlib.Core.Path.{◌≡◌, sym, ap₂, ◌∙◌}
use mathlib.Core.Bool.{Bool, true, false}
use mathlib.Core.List.{List, ◌++◌}
use Prim.Native.Nat.{ℕ, suc, ◌<◌}
use lib.ListN.{length}
use Rattle.ring.specs.Same.{SameProducts}
use Rattle.ring.specs.Run.{Decides}
use Rattle.ring.proofs.Series.{times, laws}
use Rattle.ring.proofs.Ratio.{ratio_trans, ratio_sym}
use Rattle.ring.proofs.Value.{value, join, Equal, Equations, halves_from_product, product_from_halves}
use Rattle.ring.proofs.Cases.{mirror, free_split, free_join}
use Rattle.ring.proofs.Bridge.{same_from_equal, equal_from_same}
use Rattle.ring.proofs.Runs.{run_nonzero}
use Rattle.cross.specs.Asked.{Runs, Halved, Halves, Joined, Ratios, OneRatio, Both}
use Rattle.cross.proofs.Uncut.{decides_by, value_of_empty, decided_yes, decided_no, same_swapped, same_exchanged}

-- ---- the three equations

value_joined : (k : ℕ) (l h : List ℕ) → Halved k l h → value (suc k) (l ++ h) ≡ join k (value k l) (value k h)
unfolding value
value_joined k l h p = ap₂ (λ (x y : List ℕ). join k (value k x) (value k y)) p.low p.high

-- the three equations of the values of halves
abbrev pub Three : ℕ → List ℕ → List ℕ → List ℕ → List ℕ → List ℕ → List ℕ → List ℕ → List ℕ → Type 0
Three k a₀ a₁ d₀ d₁ b₀ b₁ c₀ c₁ =
    Equations k (value k a₀) (value k a₁) (value k d₀) (value k d₁) (value k b₀) (value k b₁) (value k c₀) (value k c₁)

module _ (k : ℕ) (a₀ a₁ d₀ d₁ b₀ b₁ c₀ c₁ : List ℕ) (p : Halves k a₀ a₁ d₀ d₁ b₀ b₁ c₀ c₁) where
  pub three_of : Joined k a₀ a₁ d₀ d₁ b₀ b₁ c₀ c₁ → Three k a₀ a₁ d₀ d₁ b₀ b₁ c₀ c₁
  three_of h =
      halves_from_product k (value k a₀) (value k a₁) (value k d₀) (value k d₁) (value k b₀) (value k b₁) (value k c₀) (value k c₁)
      (sym (ap₂ (times (suc k)) (value_joined k a₀ a₁ p.of_a) (value_joined k d₀ d₁ p.of_d))
      ∙ equal_from_same (suc k) (a₀ ++ a₁) (d₀ ++ d₁) (b₀ ++ b₁) (c₀ ++ c₁) h
      ∙ ap₂ (times (suc k)) (value_joined k b₀ b₁ p.of_b) (value_joined k c₀ c₁ p.of_c))

  pub joined_of : Three k a₀ a₁ d₀ d₁ b₀ b₁ c₀ c₁ → Joined k a₀ a₁ d₀ d₁ b₀ b₁ c₀ c₁
  joined_of e =
      same_from_equal (suc k) (a₀ ++ a₁) (d₀ ++ d₁) (b₀ ++ b₁) (c₀ ++ c₁)
      (ap₂ (times (suc k)) (value_joined k a₀ a₁ p.of_a) (value_joined k d₀ d₁ p.of_d)
      ∙ product_from_halves k (value k a₀) (value k a₁) (value k d₀) (value k d₁) (value k b₀) (value k b₁) (value k c₀) (value k c₁) e
      ∙ sym (ap₂ (times (suc k)) (value_joined k b₀ b₁ p.of_b) (value_joined k c₀ c₁ p.of_c)))

  pub halves_swapped : Halves k a₀ a₁ d₀ d₁ c₀ c₁ b₀ b₁
  halves_swapped = record { of_a = p.of_a; of_d = p.of_d; of_b = p.of_c; of_c = p.of_b }

  pub joined_swapped : (r : Bool) → Decides r (Joined k a₀ a₁ d₀ d₁ c₀ c₁ b₀ b₁) → Decides r (Joined k a₀ a₁ d₀ d₁ b₀ b₁ c₀ c₁)
  joined_swapped r =
      decides_by r (same_swapped (suc k) (a₀ ++ a₁) (d₀ ++ d₁) (b₀ ++ b₁) (c₀ ++ c₁)) (same_swapped (suc k) (a₀ ++ a₁) (d₀ ++ d₁) (c₀ ++ c₁) (b₀ ++ b₁))

-- ---- three ratios

module _ (k : ℕ) (p₁ q₁ p₂ q₂ p₃ q₃ : List ℕ) where
  module _ (u : Ratios k p₁ q₁ p₂ q₂ p₃ q₃) where
    -- the lists of the two questions
    pub runs_second : Runs k p₁ q₂ q₁ p₂
    runs_second = record { run_a = u.run_p₁; run_d = u.run_q₂; run_b = u.run_q₁; run_c = u.run_p₂ }

    pub runs_third : Runs k p₁ q₃ q₁ p₃
    runs_third = record { run_a = u.run_p₁; run_d = u.run_q₃; run_b = u.run_q₁; run_c = u.run_p₃ }

    -- the second or the third comes first
    pub ratios_second : 0 < length q₂ → Ratios k p₂ q₂ p₁ q₁ p₃ q₃
    ratios_second h = record {
      run_p₁ = u.run_p₂;
      run_q₁ = u.run_q₂;
      run_p₂ = u.run_p₁;
      run_q₂ = u.run_q₁;
      run_p₃ = u.run_p₃;
      run_q₃ = u.run_q₃;
      some_q₁ = h;
    }

    pub ratios_third : 0 < length q₃ → Ratios k p₃ q₃ p₁ q₁ p₂ q₂
    ratios_third h = record {
      run_p₁ = u.run_p₃;
      run_q₁ = u.run_q₃;
      run_p₂ = u.run_p₁;
      run_q₂ = u.run_q₁;
      run_p₃ = u.run_p₂;
      run_q₃ = u.run_q₂;
      some_q₁ = h;
    }

  -- the two questions in the other order
  pub ratio_turned_round : (r : Bool) → Decides r (OneRatio k p₁ q₁ p₃ q₃ p₂ q₂) → Decides r (OneRatio k p₁ q₁ p₂ q₂ p₃ q₃)
  ratio_turned_round r = decides_by r (λ t. (t.1, t.0)) (λ t. (t.1, t.0))

  -- asked from the second: p₂ / q₂ = p₁ / q₁ and p₂ / q₂ = p₃ / q₃
  ratio_moved : Ratios k p₁ q₁ p₂ q₂ p₃ q₃ → OneRatio k p₁ q₁ p₂ q₂ p₃ q₃ → OneRatio k p₂ q₂ p₁ q₁ p₃ q₃
  ratio_moved u s =
      let first_two : Equal k p₂ q₁ q₂ p₁ = ratio_sym (laws k) (value k p₁) (value k q₁) (value k p₂) (value k q₂) (equal_from_same k p₁ q₂ q₁ p₂ s.0) in (
        same_from_equal k p₂ q₁ q₂ p₁ first_two,
        same_from_equal k p₂ q₃ q₂ p₃
            (ratio_trans (laws k) (value k p₂) (value k q₂) (value k p₁) (value k q₁) (value k p₃) (value k q₃) (run_nonzero k q₁ u.run_q₁ u.some_q₁) first_two (equal_from_same k p₁ q₃ q₁ p₃ s.1)),
      )

pub ratio_from_second : (k : ℕ) (p₁ q₁ p₂ q₂ p₃ q₃ : List ℕ) → Ratios k p₁ q₁ p₂ q₂ p₃ q₃ → 0 < length q₂ → (r : Bool)
    → Decides r (OneRatio k p₂ q₂ p₁ q₁ p₃ q₃) → Decides r (OneRatio k p₁ q₁ p₂ q₂ p₃ q₃)
ratio_from_second k p₁ q₁ p₂ q₂ p₃ q₃ u h r =
    decides_by r (ratio_moved k p₂ q₂ p₁ q₁ p₃ q₃ (ratios_second k p₁ q₁ p₂ q₂ p₃ q₃ u h)) (ratio_moved k p₁ q₁ p₂ q₂ p₃ q₃ u)

pub ratio_from_third : (k : ℕ) (p₁ q₁ p₂ q₂ p₃ q₃ : List ℕ) → Ratios k p₁ q₁ p₂ q₂ p₃ q₃ → 0 < length q₃ → (r : Bool)
    → Decides r (OneRatio k p₃ q₃ p₁ q₁ p₂ q₂) → Decides r (OneRatio k p₁ q₁ p₂ q₂ p₃ q₃)
ratio_from_third k p₁ q₁ p₂ q₂ p₃ q₃ u h r s =
    ratio_turned_round k p₁ q₁ p₂ q₂ p₃ q₃ r
    (ratio_from_second k p₁ q₁ p₃ q₃ p₂ q₂
    (record { run_p₁ = u.run_p₁; run_q₁ = u.run_q₁; run_p₂ = u.run_p₃; run_q₂ = u.run_q₃; run_p₃ = u.run_p₂; run_q₃ = u.run_q₂; some_q₁ = u.some_q₁ })
    h r s)

-- ---- the variable does not occur in a and b, or divides both

module _ (k : ℕ) (a₀ a₁ d₀ d₁ b₀ b₁ c₀ c₁ : List ℕ) (p : Halves k a₀ a₁ d₀ d₁ b₀ b₁ c₀ c₁) where
  pub joined_if_free : length a₁ ≡ 0 → length b₁ ≡ 0 → (r : Bool) → Decides r (OneRatio k a₀ b₀ c₁ d₁ c₀ d₀) → Decides r (Joined k a₀ a₁ d₀ d₁ b₀ b₁ c₀ c₁)
  joined_if_free ea eb r = decides_by r forth back_again
    where
      forth : OneRatio k a₀ b₀ c₁ d₁ c₀ d₀ → Joined k a₀ a₁ d₀ d₁ b₀ b₁ c₀ c₁
      forth s =
          joined_of k a₀ a₁ d₀ d₁ b₀ b₁ c₀ c₁ p
          (free_join k (value k a₀) (value k a₁) (value k d₀) (value k d₁) (value k b₀) (value k b₁) (value k c₀) (value k c₁) (value_of_empty k a₁ ea) (value_of_empty k b₁ eb)
          (equal_from_same k a₀ d₁ b₀ c₁ s.0, equal_from_same k a₀ d₀ b₀ c₀ s.1))

      back_again : Joined k a₀ a₁ d₀ d₁ b₀ b₁ c₀ c₁ → OneRatio k a₀ b₀ c₁ d₁ c₀ d₀
      back_again j =
          let e = free_split k (value k a₀) (value k a₁) (value k d₀) (value k d₁) (value k b₀) (value k b₁) (value k c₀) (value k c₁) (value_of_empty k a₁ ea) (value_of_empty k b₁ eb)
          (three_of k a₀ a₁ d₀ d₁ b₀ b₁ c₀ c₁ p j) in
          (same_from_equal k a₀ d₁ b₀ c₁ e.0, same_from_equal k a₀ d₀ b₀ c₀ e.1)

  pub joined_if_divided : length a₀ ≡ 0 → length b₀ ≡ 0 → (r : Bool) → Decides r (OneRatio k a₁ b₁ c₁ d₁ c₀ d₀) → Decides r (Joined k a₀ a₁ d₀ d₁ b₀ b₁ c₀ c₁)
  joined_if_divided ea eb r = decides_by r forth back_again
    where
      forth : OneRatio k a₁ b₁ c₁ d₁ c₀ d₀ → Joined k a₀ a₁ d₀ d₁ b₀ b₁ c₀ c₁
      forth s =
          joined_of k a₀ a₁ d₀ d₁ b₀ b₁ c₀ c₁ p
          (mirror k (value k a₁) (value k a₀) (value k d₁) (value k d₀) (value k b₁) (value k b₀) (value k c₁) (value k c₀)
          (free_join k (value k a₁) (value k a₀) (value k d₁) (value k d₀) (value k b₁) (value k b₀) (value k c₁) (value k c₀) (value_of_empty k a₀ ea) (value_of_empty k b₀ eb)
          (equal_from_same k a₁ d₀ b₁ c₀ s.1, equal_from_same k a₁ d₁ b₁ c₁ s.0)))

      back_again : Joined k a₀ a₁ d₀ d₁ b₀ b₁ c₀ c₁ → OneRatio k a₁ b₁ c₁ d₁ c₀ d₀
      back_again j =
          let e = free_split k (value k a₁) (value k a₀) (value k d₁) (value k d₀) (value k b₁) (value k b₀) (value k c₁) (value k c₀) (value_of_empty k a₀ ea) (value_of_empty k b₀ eb)
          (mirror k (value k a₀) (value k a₁) (value k d₀) (value k d₁) (value k b₀) (value k b₁) (value k c₀) (value k c₁)
          (three_of k a₀ a₁ d₀ d₁ b₀ b₁ c₀ c₁ p j)) in
          (same_from_equal k a₁ d₁ b₁ c₁ e.1, same_from_equal k a₁ d₀ b₁ c₀ e.0)

  -- A with D and B with C change places
  pub halves_exchanged : Halves k d₀ d₁ a₀ a₁ c₀ c₁ b₀ b₁
  halves_exchanged = record { of_a = p.of_d; of_d = p.of_a; of_b = p.of_c; of_c = p.of_b }

pub joined_exchanged : (k : ℕ) (a₀ a₁ d₀ d₁ b₀ b₁ c₀ c₁ : List ℕ) (r : Bool)
    → Decides r (Joined k d₀ d₁ a₀ a₁ c₀ c₁ b₀ b₁) → Decides r (Joined k a₀ a₁ d₀ d₁ b₀ b₁ c₀ c₁)
joined_exchanged k a₀ a₁ d₀ d₁ b₀ b₁ c₀ c₁ r =
    decides_by r (same_exchanged (suc k) (a₀ ++ a₁) (d₀ ++ d₁) (b₀ ++ b₁) (c₀ ++ c₁)) (same_exchanged (suc k) (d₀ ++ d₁) (a₀ ++ a₁) (c₀ ++ c₁) (b₀ ++ b₁))

-- ---- two questions

module _ (k : ℕ) (a₀ a₁ d₀ d₁ b₀ b₁ c₀ c₁ : List ℕ) (q : Bool) (asked : Decides q (SameProducts k a₁ d₁ b₁ c₁)) where
  pub both_by_second : q ≡ true → (r : Bool) → Decides r (SameProducts k a₀ d₀ b₀ c₀) → Decides r (Both k a₀ a₁ d₀ d₁ b₀ b₁ c₀ c₁)
  both_by_second e r = decides_by r (λ t. (decided_yes q e asked, t)) (λ z. z.1)

  pub differ_if_first_fails : q ≡ false → ¬ Both k a₀ a₁ d₀ d₁ b₀ b₁ c₀ c₁
  differ_if_first_fails e o = decided_no q e asked o.0
