-- The cross test where all eight halves are there: AD = BC exactly if four ratios are one in one of two ways, and along which questions
-- that is told. Leans on ring's three equations and ratios.
use mathlib.Core.Path.{◌≡◌, refl}
use mathlib.Core.Bool.{Bool, true, false}
use mathlib.Core.List.{List}
use Prim.Native.Nat.{ℕ, ◌<◌}
use native.Mathlib.Omega.{arith}
use lib.ListN.{length}
use Rattle.ring.specs.Same.{SameProducts}
use Rattle.ring.specs.Run.{Decides, Run}
use Rattle.ring.proofs.Series.{laws}
use Rattle.ring.proofs.Ratio.{ratio_trans, ratio_sym}
use Rattle.ring.proofs.Value.{value}
use Rattle.ring.proofs.Cases.{mirror, exchange_right, equations_stable, equations_one_way, other_way}
use Rattle.ring.proofs.Bridge.{same_from_equal, equal_from_same}
use Rattle.ring.proofs.Runs.{run_nonzero}
use Rattle.cross.specs.Asked.{Joined, Ratios, OneRatio, Whole, Eight, Agree, Stands}
use Rattle.cross.proofs.Uncut.{decides_by, decided_yes, decided_no, same_swapped}
use Rattle.cross.proofs.Halved.{Three, three_of, joined_of}

-- ---- ratios of lists

-- p₁ / q₁ = p₂ / q₂ and p₂ / q₂ = p₃ / q₃ give p₁ / q₁ = p₃ / q₃
same_ratio : (k : ℕ) (p₁ q₁ p₂ q₂ p₃ q₃ : List ℕ) → Run k q₂ → 0 < length q₂ → SameProducts k p₁ q₂ q₁ p₂ → SameProducts k p₂ q₃ q₂ p₃ → SameProducts k p₁ q₃ q₁ p₃
same_ratio k p₁ q₁ p₂ q₂ p₃ q₃ run some e f =
    same_from_equal k p₁ q₃ q₁ p₃
    (ratio_trans (laws k) (value k p₁) (value k q₁) (value k p₂) (value k q₂) (value k p₃) (value k q₃) (run_nonzero k q₂ run some)
    (equal_from_same k p₁ q₂ q₁ p₂ e) (equal_from_same k p₂ q₃ q₂ p₃ f))

-- read the other way round
ratio_turned : (k : ℕ) (p q r s : List ℕ) → SameProducts k p s q r → SameProducts k r q s p
ratio_turned k p q r s e = same_from_equal k r q s p (ratio_sym (laws k) (value k p) (value k q) (value k r) (value k s) (equal_from_same k p s q r e))

-- ---- how a ratio stands to two others

module _ (k : ℕ) (p₁ q₁ p₂ q₂ p₃ q₃ : List ℕ) where
  module _ (h : Bool) (first : Decides h (SameProducts k p₁ q₂ q₁ p₂)) where
    pub stands_off : h ≡ false → Stands 0 k p₁ q₁ p₂ q₂ p₃ q₃
    stands_off fails = record {
      one = λ e. absurd (omega arith);
      not_one = λ e o. decided_no h fails first o.0;
      differ = λ e. absurd (omega arith);
    }

    module _ (yes : h ≡ true) (g : Bool) (second : Decides g (SameProducts k p₁ q₃ q₁ p₃)) where
      pub stands_by_both : g ≡ true → Stands 2 k p₁ q₁ p₂ q₂ p₃ q₃
      stands_by_both e = record {
        one = λ z. (decided_yes h yes first, decided_yes g e second);
        not_one = λ n. absurd (n refl);
        differ = λ z. absurd (omega arith);
      }

      pub stands_by_one : Ratios k p₁ q₁ p₂ q₂ p₃ q₃ → 0 < length q₂ → g ≡ false → Stands 1 k p₁ q₁ p₂ q₂ p₃ q₃
      stands_by_one u some e = record {
        one = λ z. absurd (omega arith);
        not_one = λ z o. decided_no g e second o.1;
        differ = λ z s. decided_no g e second (same_ratio k p₁ q₁ p₂ q₂ p₃ q₃ u.run_q₂ some (decided_yes h yes first) s);
      }

-- ---- eight halves

module _ (k : ℕ) (a₀ a₁ d₀ d₁ b₀ b₁ c₀ c₁ : List ℕ) where
  pub eight_of : Whole k a₀ a₁ d₀ d₁ b₀ b₁ c₀ c₁ → Eight k a₀ a₁ d₀ d₁ b₀ b₁ c₀ c₁
  eight_of w =
      let h = w.halves in record {
        runs_low = record { run_a = h.of_a.run_low; run_d = h.of_d.run_low; run_b = h.of_b.run_low; run_c = h.of_c.run_low };
        runs_high = record { run_a = h.of_a.run_high; run_d = h.of_d.run_high; run_b = h.of_b.run_high; run_c = h.of_c.run_high };
        some_a₀ = w.some_a₀;
        some_a₁ = w.some_a₁;
        some_d₀ = w.some_d₀;
        some_d₁ = w.some_d₁;
        some_b₀ = w.some_b₀;
        some_b₁ = w.some_b₁;
        some_c₀ = w.some_c₀;
        some_c₁ = w.some_c₁;
      }

  -- with the variable and without it change places
  pub mirrored_of : Whole k a₀ a₁ d₀ d₁ b₀ b₁ c₀ c₁ → Eight k a₁ a₀ d₁ d₀ b₁ b₀ c₁ c₀
  mirrored_of w =
      let e = eight_of w in record {
        runs_low = e.runs_high;
        runs_high = e.runs_low;
        some_a₀ = w.some_a₁;
        some_a₁ = w.some_a₀;
        some_d₀ = w.some_d₁;
        some_d₁ = w.some_d₀;
        some_b₀ = w.some_b₁;
        some_b₁ = w.some_b₀;
        some_c₀ = w.some_c₁;
        some_c₁ = w.some_c₀;
      }

  module _ (e : Eight k a₀ a₁ d₀ d₁ b₀ b₁ c₀ c₁) where
    -- B and C change places
    pub eight_swapped : Eight k a₀ a₁ d₀ d₁ c₀ c₁ b₀ b₁
    eight_swapped =
        let l = e.runs_low in let h = e.runs_high in record {
          runs_low = record { run_a = l.run_a; run_d = l.run_d; run_b = l.run_c; run_c = l.run_b };
          runs_high = record { run_a = h.run_a; run_d = h.run_d; run_b = h.run_c; run_c = h.run_b };
          some_a₀ = e.some_a₀;
          some_a₁ = e.some_a₁;
          some_d₀ = e.some_d₀;
          some_d₁ = e.some_d₁;
          some_b₀ = e.some_c₀;
          some_b₁ = e.some_c₁;
          some_c₀ = e.some_b₀;
          some_c₁ = e.some_b₁;
        }

    pub ratios_of : Ratios k a₁ b₁ a₀ b₀ c₀ d₀
    ratios_of =
        let l = e.runs_low in let h = e.runs_high in record {
          run_p₁ = h.run_a;
          run_q₁ = h.run_b;
          run_p₂ = l.run_a;
          run_q₂ = l.run_b;
          run_p₃ = l.run_c;
          run_q₃ = l.run_d;
          some_q₁ = e.some_b₁;
        }

    pub ratios_of_other : Ratios k c₁ d₁ a₀ b₀ c₀ d₀
    ratios_of_other =
        let l = e.runs_low in let h = e.runs_high in record {
          run_p₁ = h.run_c;
          run_q₁ = h.run_d;
          run_p₂ = l.run_a;
          run_q₂ = l.run_b;
          run_p₃ = l.run_c;
          run_q₃ = l.run_d;
          some_q₁ = e.some_d₁;
        }

    -- what c₁ / d₁ tells of two ratios a₁ / b₁ tells too: they are one
    pub stands_by_other : SameProducts k a₁ d₁ b₁ c₁ → {r : ℕ} → Stands r k c₁ d₁ a₀ b₀ c₀ d₀ → Stands r k a₁ b₁ a₀ b₀ c₀ d₀
    stands_by_other high s = record {
      one = λ z. let o = s.one z in (forth a₀ b₀ o.0, forth c₀ d₀ o.1);
      not_one = λ n o. s.not_one n (back_again a₀ b₀ o.0, back_again c₀ d₀ o.1);
      differ = s.differ;
    }
      where
        forth : (p q : List ℕ) → SameProducts k c₁ q d₁ p → SameProducts k a₁ q b₁ p
        forth p q = same_ratio k a₁ b₁ c₁ d₁ p q e.runs_high.run_d e.some_d₁ high

        back_again : (p q : List ℕ) → SameProducts k a₁ q b₁ p → SameProducts k c₁ q d₁ p
        back_again p q = same_ratio k c₁ d₁ a₁ b₁ p q e.runs_high.run_b e.some_b₁ (ratio_turned k a₁ b₁ c₁ d₁ high)

    -- ---- the law: the three equations hold exactly if four ratios are one, one way or the other

    three_one_way : SameProducts k a₁ d₁ b₁ c₁ → OneRatio k a₁ b₁ a₀ b₀ c₀ d₀ → Three k a₀ a₁ d₀ d₁ b₀ b₁ c₀ c₁
    three_one_way high o =
        equations_one_way k (value k a₀) (value k a₁) (value k d₀) (value k d₁) (value k b₀) (value k b₁) (value k c₀) (value k c₁)
        (run_nonzero k b₀ e.runs_low.run_b e.some_b₀) (run_nonzero k b₁ e.runs_high.run_b e.some_b₁)
        (equal_from_same k a₁ d₁ b₁ c₁ high) (equal_from_same k a₁ b₀ b₁ a₀ o.0, equal_from_same k a₁ d₀ b₁ c₀ o.1)

    pub agree_of_three : Three k a₀ a₁ d₀ d₁ b₀ b₁ c₀ c₁ → Agree k a₀ a₁ d₀ d₁ b₀ b₁ c₀ c₁
    agree_of_three t = record {
      first = same_from_equal k a₁ d₁ b₁ c₁ t.high;
      ways = λ n.
          let o =
          other_way k (value k a₀) (value k a₁) (value k d₀) (value k d₁) (value k b₀) (value k b₁) (value k c₀) (value k c₁)
          (run_nonzero k b₀ e.runs_low.run_b e.some_b₀) (run_nonzero k c₀ e.runs_low.run_c e.some_c₀) t
          (λ z. n (same_from_equal k a₁ b₀ b₁ a₀ z.0, same_from_equal k a₁ d₀ b₁ c₀ z.1)) in
          (same_from_equal k a₁ c₀ c₁ a₀ o.0, same_from_equal k a₁ d₀ c₁ b₀ o.1);
    }

module _ (k : ℕ) (a₀ a₁ d₀ d₁ b₀ b₁ c₀ c₁ : List ℕ) (e : Eight k a₀ a₁ d₀ d₁ b₀ b₁ c₀ c₁) where
  three_other_way : SameProducts k a₁ d₁ b₁ c₁ → OneRatio k a₁ c₁ a₀ c₀ b₀ d₀ → Three k a₀ a₁ d₀ d₁ b₀ b₁ c₀ c₁
  three_other_way high o =
      exchange_right k (value k a₀) (value k a₁) (value k d₀) (value k d₁) (value k c₀) (value k c₁) (value k b₀) (value k b₁)
      (three_one_way k a₀ a₁ d₀ d₁ c₀ c₁ b₀ b₁ (eight_swapped k a₀ a₁ d₀ d₁ b₀ b₁ c₀ c₁ e) (same_swapped k a₁ d₁ c₁ b₁ high) o)

  pub three_of_agree : Agree k a₀ a₁ d₀ d₁ b₀ b₁ c₀ c₁ → Three k a₀ a₁ d₀ d₁ b₀ b₁ c₀ c₁
  three_of_agree g =
      equations_stable k (value k a₀) (value k a₁) (value k d₀) (value k d₁) (value k b₀) (value k b₁) (value k c₀) (value k c₁)
      (λ n. n (three_other_way g.first (g.ways (λ o. n (three_one_way k a₀ a₁ d₀ d₁ b₀ b₁ c₀ c₁ e g.first o)))))

  -- ---- what the questions tell

  module _ (q : Bool) (asked : Decides q (SameProducts k a₁ d₁ b₁ c₁)) where
    pub differ_if_none : q ≡ false → ¬ Agree k a₀ a₁ d₀ d₁ b₀ b₁ c₀ c₁
    differ_if_none fails g = decided_no q fails asked g.first

    module _ (yes : q ≡ true) where
      pub first_holds : SameProducts k a₁ d₁ b₁ c₁
      first_holds = decided_yes q yes asked

      pub first_holds_swapped : SameProducts k a₁ d₁ c₁ b₁
      first_holds_swapped = same_swapped k a₁ d₁ c₁ b₁ first_holds

      module _ (r : ℕ) (s : Stands r k a₁ b₁ a₀ b₀ c₀ d₀) where
        pub agree_one_way : r ≡ 2 → Agree k a₀ a₁ d₀ d₁ b₀ b₁ c₀ c₁
        agree_one_way z = record { first = first_holds; ways = λ n. absurd (n (s.one z)) }

        pub differ_if_apart : r ≡ 1 → ¬ Agree k a₀ a₁ d₀ d₁ b₀ b₁ c₀ c₁
        differ_if_apart z g = s.differ z (same_from_equal k a₀ d₀ b₀ c₀ (three_of_agree g).low)

        module _ (not_one : ¬ (r ≡ 2)) (v : ℕ) (t : Stands v k a₁ c₁ a₀ c₀ b₀ d₀) where
          pub agree_other_way : v ≡ 2 → Agree k a₀ a₁ d₀ d₁ b₀ b₁ c₀ c₁
          agree_other_way z = record { first = first_holds; ways = λ n. t.one z }

          pub differ_if_neither : ¬ (v ≡ 2) → ¬ Agree k a₀ a₁ d₀ d₁ b₀ b₁ c₀ c₁
          differ_if_neither z g = t.not_one z (g.ways (s.not_one not_one))

module _ (k : ℕ) (a₀ a₁ d₀ d₁ b₀ b₁ c₀ c₁ : List ℕ) (w : Whole k a₀ a₁ d₀ d₁ b₀ b₁ c₀ c₁) (r : Bool) where
  pub joined_if_agree : Decides r (Agree k a₀ a₁ d₀ d₁ b₀ b₁ c₀ c₁) → Decides r (Joined k a₀ a₁ d₀ d₁ b₀ b₁ c₀ c₁)
  joined_if_agree =
      let e = eight_of k a₀ a₁ d₀ d₁ b₀ b₁ c₀ c₁ w in
      decides_by r
      (λ g. joined_of k a₀ a₁ d₀ d₁ b₀ b₁ c₀ c₁ w.halves (three_of_agree k a₀ a₁ d₀ d₁ b₀ b₁ c₀ c₁ e g))
      (λ j. agree_of_three k a₀ a₁ d₀ d₁ b₀ b₁ c₀ c₁ e (three_of k a₀ a₁ d₀ d₁ b₀ b₁ c₀ c₁ w.halves j))

  -- asked of the halves in the other order
  pub joined_if_mirrored : Decides r (Agree k a₁ a₀ d₁ d₀ b₁ b₀ c₁ c₀) → Decides r (Joined k a₀ a₁ d₀ d₁ b₀ b₁ c₀ c₁)
  joined_if_mirrored =
      let m = mirrored_of k a₀ a₁ d₀ d₁ b₀ b₁ c₀ c₁ w in
      decides_by r
      (λ g.
      joined_of k a₀ a₁ d₀ d₁ b₀ b₁ c₀ c₁ w.halves
      (mirror k (value k a₁) (value k a₀) (value k d₁) (value k d₀) (value k b₁) (value k b₀) (value k c₁) (value k c₀)
      (three_of_agree k a₁ a₀ d₁ d₀ b₁ b₀ c₁ c₀ m g)))
      (λ j.
      agree_of_three k a₁ a₀ d₁ d₀ b₁ b₀ c₁ c₀ m
      (mirror k (value k a₀) (value k a₁) (value k d₀) (value k d₁) (value k b₀) (value k b₁) (value k c₀) (value k c₁)
      (three_of k a₀ a₁ d₀ d₁ b₀ b₁ c₀ c₁ w.halves j)))
