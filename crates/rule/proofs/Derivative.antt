-- The derivative by a variable and the value at zero: which terms stand in them, that they ascend, and that a factor without the variable
-- goes through. Leans on the laws of lists and products of polys. Assumes nothing.
use Prim.Native.Nat.{ℕ, ◌^◌}
use mathlib.Core.Path.{◌≡◌, refl, sym, ap, ◌∙◌}
use mathlib.Core.Bool.{Bool, true, false, not, ◌&&◌, ◌||◌, true≢false, false≢true, and-false}
use mathlib.Core.List.{List, [], ◌∷◌}
use mathlib.Core.Logic.{inl, inr}
use native.Mathlib.Decide.{ℕ_discrete}
use lib.Bits.{bit_and, bit_or}
use Rattle.masks.specs.Bit.{bit, without}
use Rattle.masks.proofs.Bits.{bit_and_lem, bit_or_lem, bit_without, bit_zero, bit_ext, bit_power_same, bit_power_other}
use Rattle.masks.proofs.Reflect.{identity, ◌∩◌, ◌∪◌, ◌∖◌, ◌≐◌, ◌⊆◌, apart, ∴◌, ◌⇒◌}
use Rattle.masks.proofs.Sets.{power_subset}
use Rattle.masks.proofs.Order.{order_by_outside}
use Rattle.polys.specs.List.{Mem, Asc, either}
use Rattle.polys.specs.Poly.{vars, times}
use Rattle.polys.proofs.Lists.{mem_subst, mem_map, mem_map_from, above_by_mem, above_mem, asc_map}
use Rattle.polys.proofs.Polys.{Union, mem_times, times_mem, times_asc, times_by_mem, vars_hold, vars_least}
use Rattle.ring.specs.Run.{lacking, holding}
use Rattle.rule.specs.Rule.{derivative}

-- no term of f holds variable i
abbrev pub Lacks : ℕ → List ℕ → Type 0
Lacks i f = (t : ℕ) → Mem f t → bit t i ≡ false

-- a variable that is not in z has nothing in common with it
pub power_apart : (i z : ℕ) → bit z i ≡ false → bit_and (2 ^ i) z ≡ 0
power_apart i z h = bit_ext (bit_and (2 ^ i) z) 0 (λ j. bit_and_lem (2 ^ i) z j ∙ at_bit j (ℕ_discrete i j) ∙ sym (bit_zero j))
  where
    at_bit : (j : ℕ) → Dec (i ≡ j) → bit (2 ^ i) j && bit z j ≡ false
    at_bit j (yes e) = ap (λ b. bit (2 ^ i) j && b) (ap (bit z) (sym e) ∙ h) ∙ and-false (bit (2 ^ i) j)
    at_bit j (no n) = ap (λ b. b && bit z j) (bit_power_other i j n)

-- ---- members

module _ (i : ℕ) where
  pub mem_lacking : (f : List ℕ) (t : ℕ) → Mem f t → bit t i ≡ false → Mem (lacking i f) t
  unfolding lacking
  mem_lacking [] t m h = m
  mem_lacking (s ∷ f) t m h = go (bit s i) refl m (mem_lacking f t)
    where
      go : (b : Bool) → bit s i ≡ b → Mem (s ∷ f) t → (Mem f t → bit t i ≡ false → Mem (lacking i f) t) → Mem (either b (lacking i f) (s ∷ lacking i f)) t
      go true e (inl p) later = absurd (true≢false (sym (ap (λ u. bit u i) p ∙ e) ∙ h))
      go true e (inr n) later = later n h
      go false e (inl p) later = inl p
      go false e (inr n) later = inr (later n h)

  pub lacking_mem : (f : List ℕ) (t : ℕ) → Mem (lacking i f) t → Mem f t × (bit t i ≡ false)
  unfolding lacking
  lacking_mem [] t m = absurd m
  lacking_mem (s ∷ f) t m = go (bit s i) refl m (lacking_mem f t)
    where
      go : (b : Bool) → bit s i ≡ b → Mem (either b (lacking i f) (s ∷ lacking i f)) t → (Mem (lacking i f) t → Mem f t × (bit t i ≡ false))
          → Mem (s ∷ f) t × (bit t i ≡ false)
      go true e n later = let r = later n in (inr r.0, r.1)
      go false e (inl p) later = (inl p, ap (λ u. bit u i) p ∙ e)
      go false e (inr n) later = let r = later n in (inr r.0, r.1)

  pub mem_holding : (f : List ℕ) (t : ℕ) → Mem f t → bit t i ≡ true → Mem (holding i f) t
  unfolding holding
  mem_holding [] t m h = m
  mem_holding (s ∷ f) t m h = go (bit s i) refl m (mem_holding f t)
    where
      go : (b : Bool) → bit s i ≡ b → Mem (s ∷ f) t → (Mem f t → bit t i ≡ true → Mem (holding i f) t) → Mem (either b (s ∷ holding i f) (holding i f)) t
      go false e (inl p) later = absurd (false≢true (sym (ap (λ u. bit u i) p ∙ e) ∙ h))
      go false e (inr n) later = later n h
      go true e (inl p) later = inl p
      go true e (inr n) later = inr (later n h)

  pub holding_mem : (f : List ℕ) (t : ℕ) → Mem (holding i f) t → Mem f t × (bit t i ≡ true)
  unfolding holding
  holding_mem [] t m = absurd m
  holding_mem (s ∷ f) t m = go (bit s i) refl m (holding_mem f t)
    where
      go : (b : Bool) → bit s i ≡ b → Mem (either b (s ∷ holding i f) (holding i f)) t → (Mem (holding i f) t → Mem f t × (bit t i ≡ true))
          → Mem (s ∷ f) t × (bit t i ≡ true)
      go false e n later = let r = later n in (inr r.0, r.1)
      go true e (inl p) later = (inl p, ap (λ u. bit u i) p ∙ e)
      go true e (inr n) later = let r = later n in (inr r.0, r.1)

  pub mem_derivative : (f : List ℕ) (t : ℕ) → Mem f t → bit t i ≡ true → Mem (derivative i f) (without (2 ^ i) t)
  unfolding derivative
  mem_derivative f t m h = mem_map (without (2 ^ i)) (holding i f) t (mem_holding f t m h)

  pub derivative_mem : (f : List ℕ) (x : ℕ) → Mem (derivative i f) x → (t : ℕ) × Mem f t × (bit t i ≡ true) × (x ≡ without (2 ^ i) t)
  unfolding derivative
  derivative_mem f x m =
      let u = mem_map_from (without (2 ^ i)) (holding i f) x m in
      let r = holding_mem f u.0 u.1 in
      (u.0, r.0, r.1, u.2)

  -- what is cleared does not hold the variable, and other variables stay
  pub cleared : (t : ℕ) → bit (without (2 ^ i) t) i ≡ false
  cleared t = bit_without (2 ^ i) t i ∙ ap (λ b. bit t i && not b) (bit_power_same i) ∙ and-false (bit t i)

  pub kept : (j t : ℕ) → ¬ (i ≡ j) → bit (without (2 ^ i) t) j ≡ bit t j
  kept j t n = bit_without (2 ^ i) t j ∙ ap (λ b. bit t j && not b) (bit_power_other i j n) ∙ stays (bit t j)
    where
      stays : (b : Bool) → b && true ≡ b
      stays true = refl
      stays false = refl

-- ---- both ascend, and have no other variables

module _ (i : ℕ) where
  pub lacking_asc : (f : List ℕ) → Asc f → Asc (lacking i f)
  unfolding lacking
  lacking_asc [] a = tt
  lacking_asc (t ∷ f) a = step (bit t i) (lacking_asc f a.1)
    where
      step : (b : Bool) → Asc (lacking i f) → Asc (either b (lacking i f) (t ∷ lacking i f))
      step true r = r
      step false r = (above_by_mem t (lacking i f) (λ u m. above_mem t f u a.0 (lacking_mem i f u m).0), r)

  holding_asc : (f : List ℕ) → Asc f → Asc (holding i f)
  unfolding holding
  holding_asc [] a = tt
  holding_asc (t ∷ f) a = step (bit t i) (holding_asc f a.1)
    where
      step : (b : Bool) → Asc (holding i f) → Asc (either b (t ∷ holding i f) (holding i f))
      step false r = r
      step true r = (above_by_mem t (holding i f) (λ u m. above_mem t f u a.0 (holding_mem i f u m).0), r)

  pub derivative_asc : (f : List ℕ) → Asc f → Asc (derivative i f)
  unfolding derivative
  derivative_asc f a =
      asc_map (without (2 ^ i)) (holding i f)
      (λ s t ms mt l. (order_by_outside (2 ^ i) s t (both s t (held s ms) (held t mt))).0 l) (holding_asc f a)
    where
      held : (t : ℕ) → Mem (holding i f) t → bit_and (2 ^ i) t ≡ 2 ^ i
      held t m = power_subset i t (holding_mem i f t m).1

      both : (s t : ℕ) → bit_and (2 ^ i) s ≡ 2 ^ i → bit_and (2 ^ i) t ≡ 2 ^ i → bit_and s (2 ^ i) ≡ bit_and t (2 ^ i)
      both s t = identity 3 (λ s t p. p ⊆ s ⇒ p ⊆ t ⇒ ∴ s ∩ p ≐ t ∩ p) tt s t (2 ^ i)

  pub lacking_vars : (f : List ℕ) → bit_and (vars (lacking i f)) (vars f) ≡ vars (lacking i f)
  lacking_vars f = vars_least (lacking i f) (vars f) (λ t m. vars_hold f t (lacking_mem i f t m).0)

  pub derivative_vars : (f : List ℕ) → bit_and (vars (derivative i f)) (vars f) ≡ vars (derivative i f)
  derivative_vars f =
      vars_least (derivative i f) (vars f)
      (λ x m. let u = derivative_mem i f x m in inside x u.0 (2 ^ i) (vars f) u.3 (vars_hold f u.0 u.1))
    where
      inside : (x t p v : ℕ) → x ≡ without p t → bit_and t v ≡ t → bit_and x v ≡ x
      inside = identity 4 (λ x t p v. x ≐ t ∖ p ⇒ t ⊆ v ⇒ ∴ x ⊆ v) tt

-- ---- a factor without the variable goes through

module _ (i : ℕ) (g h : List ℕ) (free : Lacks i h) where
  bit_of_union : (s t : ℕ) → Mem h t → bit (bit_or s t) i ≡ bit s i
  bit_of_union s t m = bit_or_lem s t i ∙ ap (λ b. bit s i || b) (free t m) ∙ stays (bit s i)
    where
      stays : (b : Bool) → b || false ≡ b
      stays true = refl
      stays false = refl

  clear_union : (s t : ℕ) → Mem h t → without (2 ^ i) (bit_or s t) ≡ bit_or (without (2 ^ i) s) t
  clear_union s t m =
      identity 3 (λ s t p. apart p t ⇒ ∴ (s ∪ t) ∖ p ≐ s ∖ p ∪ t) tt s t (2 ^ i) (power_apart i t (free t m))

  pub lacking_times : lacking i (times g h) ≡ times (lacking i g) h
  lacking_times =
      times_by_mem (lacking i g) h (lacking i (times g h)) (lacking_asc i (times g h) (times_asc g h))
      (λ x m.
      let r = lacking_mem i (times g h) x m in
      let u = times_mem g h x r.0 in
      (u.0, u.1, mem_lacking i g u.0 u.2 (sym (ap (λ n. bit n i) u.4 ∙ bit_of_union u.0 u.1 u.3) ∙ r.1), u.3, u.4))
      (λ x u.
      let r = lacking_mem i g u.0 u.2 in
      mem_subst (lacking i (times g h)) (bit_or u.0 u.1) x (sym u.4)
      (mem_lacking i (times g h) (bit_or u.0 u.1) (mem_times g h u.0 u.1 r.0 u.3) (bit_of_union u.0 u.1 u.3 ∙ r.1)))

  pub derivative_times : derivative i (times g h) ≡ times (derivative i g) h
  derivative_times =
      times_by_mem (derivative i g) h (derivative i (times g h)) (derivative_asc i (times g h) (times_asc g h)) on back
    where
      on : (x : ℕ) → Mem (derivative i (times g h)) x → Union (derivative i g) h x
      on x m =
          let r = derivative_mem i (times g h) x m in
          let u = times_mem g h r.0 r.1 in (
            without (2 ^ i) u.0,
            u.1,
            mem_derivative i g u.0 u.2 (sym (ap (λ n. bit n i) u.4 ∙ bit_of_union u.0 u.1 u.3) ∙ r.2),
            u.3,
            r.3 ∙ ap (without (2 ^ i)) u.4 ∙ clear_union u.0 u.1 u.3,
          )

      back : (x : ℕ) → Union (derivative i g) h x → Mem (derivative i (times g h)) x
      back x u =
          let r = derivative_mem i g u.0 u.2 in
          mem_subst (derivative i (times g h)) (without (2 ^ i) (bit_or r.0 u.1)) x
          (clear_union r.0 u.1 u.3 ∙ ap (λ n. bit_or n u.1) (sym r.3) ∙ sym u.4)
          (mem_derivative i (times g h) (bit_or r.0 u.1) (mem_times g h r.0 u.1 r.1 u.3) (bit_of_union r.0 u.1 u.3 ∙ r.2))
