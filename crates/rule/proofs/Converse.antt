-- If AD = BC then F is closed under mixing along a set that holds x and not y. Refine writes the four coefficients of F as products, and so
-- F = (b x + c)(d y + a). The cases that the second paper leaves out, x or x + 1 among the factors, are included: a or c may be zero
-- or one. Leans on ring's Refined, on Listed, Factored, Joined and Cut.
use Prim.Native.Nat.{ℕ, ◌^◌, ◌<◌}
use mathlib.Core.Path.{◌≡◌, refl, sym, ap, ap₂, ◌∙◌, subst}
use mathlib.Core.Bool.{Bool, true, false, ◌||◌, true≢false}
use mathlib.Core.List.{List}
use mathlib.Core.Logic.{⊎_elim}
use native.Mathlib.Nat.{lt_of_le_of_lt}
use lib.Bits.{bit_and, bit_or}
use Rattle.masks.specs.Bit.{bit, without}
use Rattle.masks.proofs.Bits.{bit_or_lem, bit_power_other}
use Rattle.masks.proofs.Sets.{power_subset, bit_of_subset, without_subset}
use Rattle.masks.proofs.Order.{subset_le}
use Rattle.polys.specs.List.{Mem, Asc}
use Rattle.polys.specs.Poly.{vars, times}
use Rattle.polys.proofs.Polys.{mem_times, times_mem, times_comm, vars_hold, vars_bit}
use Rattle.splitting.specs.Mix.{Closed}
use Rattle.splitting.proofs.Splits.{closed_product}
use Rattle.ring.specs.Run.{lacking}
use Rattle.ring.proofs.Domain.{add_mul}
use Rattle.ring.proofs.Series.{R, plus, laws, times as mul}
use Rattle.ring.proofs.Value.{value}
use Rattle.ring.proofs.Built.{Small}
use Rattle.ring.proofs.Multilinear.{M}
use Rattle.ring.proofs.Refine.{σ, Refined}
use Rattle.ring.proofs.Refined.{refine}
use Rattle.rule.specs.Rule.{derivative, Occurs, PapersSay}
use Rattle.rule.proofs.Derivative.{Lacks, mem_lacking, lacking_mem, mem_derivative, derivative_mem, cleared, kept, lacking_asc, derivative_asc}
use Rattle.rule.proofs.Separated.{Separated}
use Rattle.rule.proofs.Listed.{Listed, listed}
use Rattle.rule.proofs.Factored.{polynomial, value_is_polynomial, factors_apart, factored}
use Rattle.rule.proofs.Cut.{variable, value_cut, coefficients_multiply}
use Rattle.rule.proofs.Joined.{joined, joined_asc, joined_mem, mem_joined, joined_small, holds_x, value_joined}

-- (X b + c) (Y d + a) = (a c + Y (c d)) + X (a b + Y (b d))
expanded : (n : ℕ) (X Y a b c d : R n) → mul n (plus n (mul n X b) c) (plus n (mul n Y d) a)
    ≡ plus n (plus n (mul n a c) (mul n Y (mul n c d))) (mul n X (plus n (mul n a b) (mul n Y (mul n b d))))
expanded n X Y a b c d =
    add_mul (laws n) (mul n X b) c (plus n (mul n Y d) a)
    ∙ ap₂ (plus n) ((laws n).mul_assoc X b (plus n (mul n Y d) a) ∙ ap (mul n X) (through b)) (through c)
    ∙ (laws n).add_comm (mul n X (plus n (mul n a b) (mul n Y (mul n b d)))) (plus n (mul n a c) (mul n Y (mul n c d)))
  where
    through : (u : R n) → mul n u (plus n (mul n Y d) a) ≡ plus n (mul n a u) (mul n Y (mul n u d))
    through u =
        (laws n).mul_add u (mul n Y d) a
        ∙ ap₂ (plus n) (sym ((laws n).mul_assoc u Y d) ∙ ap (λ (v : R n). mul n v d) ((laws n).mul_comm u Y) ∙ (laws n).mul_assoc Y u d) ((laws n).mul_comm u a)
        ∙ (laws n).add_comm (mul n Y (mul n u d)) (mul n a u)

-- a product that does not hold i has factors that do not
lacks_left : (i : ℕ) (l g h : List ℕ) (t : ℕ) → l ≡ times g h → Mem h t → Lacks i l → Lacks i g
lacks_left i l g h t e mt free s ms = first (bit s i) (bit t i) (sym (bit_or_lem s t i) ∙ free (bit_or s t) (subst (λ k. Mem k (bit_or s t)) (sym e) (mem_times g h s t ms mt)))
  where
    first : (p q : Bool) → p || q ≡ false → p ≡ false
    first true q h = h
    first false q h = refl

module _ (n : ℕ) (f : List ℕ) (x y : ℕ) (asc : Asc f) (small : Small n f) (in_x : Occurs x f) (in_y : Occurs y f) (other : ¬ (x ≡ y)) (say : PapersSay n f x y) where
  -- the four coefficients of x and y in f: of x y, of x, of y and of 1
  abbrev f₁₁ : List ℕ
  f₁₁ = derivative y (derivative x f)

  abbrev f₁₀ : List ℕ
  f₁₀ = lacking y (derivative x f)

  abbrev f₀₁ : List ℕ
  f₀₁ = derivative y (lacking x f)

  abbrev f₀₀ : List ℕ
  f₀₀ = lacking y (lacking x f)

  refined : Refined n (polynomial n f₁₀) (polynomial n f₀₁) (polynomial n f₀₀) (polynomial n f₁₁)
  refined =
      refine n (polynomial n f₁₀) (polynomial n f₀₁) (polynomial n f₀₀) (polynomial n f₁₁)
      (sym (ap₂ (mul n) (value_is_polynomial n f₁₀) (value_is_polynomial n f₀₁))
      ∙ coefficients_multiply n f x y say
      ∙ ap₂ (mul n) (value_is_polynomial n f₀₀) (value_is_polynomial n f₁₁))

  -- the four factors, as lists
  a : Listed n refined.a
  a = listed n refined.a

  b : Listed n refined.b
  b = listed n refined.b

  c : Listed n refined.c
  c = listed n refined.c

  d : Listed n refined.d
  d = listed n refined.d

  value_of : (l : List ℕ) (u w : M n) (p : Listed n u) (q : Listed n w) → σ n (polynomial n l) ≡ mul n (σ n u) (σ n w)
      → value n l ≡ mul n (value n p.terms) (value n q.terms)
  value_of l u w p q e = value_is_polynomial n l ∙ e ∙ sym (ap₂ (mul n) p.has_value q.has_value)

  list_of : (l : List ℕ) (u w : M n) (p : Listed n u) (q : Listed n w) → Asc l → Small n l → σ n (polynomial n l) ≡ mul n (σ n u) (σ n w)
      → l ≡ times p.terms q.terms
  list_of l u w p q pl sl e =
      factored n l p.terms q.terms pl p.ascending q.ascending sl p.small q.small (value_of l u w p q e)

  lacking_small : (i : ℕ) (l : List ℕ) → Small n l → Small n (lacking i l)
  lacking_small i l s t m = s t (lacking_mem i l t m).0

  derivative_small : (i : ℕ) (l : List ℕ) → Small n l → Small n (derivative i l)
  derivative_small i l s t m =
      let u = derivative_mem i l t m in
      lt_of_le_of_lt (subset_le t u.0 (subst (λ k. bit_and k u.0 ≡ k) (sym u.3) (without_subset (2 ^ i) u.0))) (s u.0 u.1)

  f₁₁_is : f₁₁ ≡ times b.terms d.terms
  f₁₁_is =
      list_of f₁₁ refined.b refined.d b d (derivative_asc y (derivative x f) (derivative_asc x f asc))
      (derivative_small y (derivative x f) (derivative_small x f small)) refined.s_is

  f₁₀_is : f₁₀ ≡ times a.terms b.terms
  f₁₀_is =
      list_of f₁₀ refined.a refined.b a b (lacking_asc y (derivative x f) (derivative_asc x f asc))
      (lacking_small y (derivative x f) (derivative_small x f small)) refined.p_is

  f₀₁_is : f₀₁ ≡ times c.terms d.terms
  f₀₁_is =
      list_of f₀₁ refined.c refined.d c d (derivative_asc y (lacking x f) (lacking_asc x f asc))
      (derivative_small y (lacking x f) (lacking_small x f small)) refined.q_is

  -- b and d are not zero, since x and y occur
  some_b : (t : ℕ) × Mem b.terms t
  some_b = let u = vars_bit f x in_x in go u.0 u.1 u.2 (bit (without (2 ^ x) u.0) y) refl
    where
      go : (t : ℕ) → Mem f t → bit t x ≡ true → (p : Bool) → bit (without (2 ^ x) t) y ≡ p → (t : ℕ) × Mem b.terms t
      go t m h true e =
          let w = times_mem b.terms d.terms (without (2 ^ y) (without (2 ^ x) t)) (subst (λ l. Mem l (without (2 ^ y) (without (2 ^ x) t))) f₁₁_is
          (mem_derivative y (derivative x f) (without (2 ^ x) t) (mem_derivative x f t m h) e)) in
          (w.0, w.2)
      go t m h false e =
          let w = times_mem a.terms b.terms (without (2 ^ x) t) (subst (λ l. Mem l (without (2 ^ x) t)) f₁₀_is
          (mem_lacking y (derivative x f) (without (2 ^ x) t) (mem_derivative x f t m h) e)) in
          (w.1, w.3)

  some_d : (t : ℕ) × Mem d.terms t
  some_d = let u = vars_bit f y in_y in go u.0 u.1 u.2 (bit u.0 x) refl
    where
      go : (t : ℕ) → Mem f t → bit t y ≡ true → (p : Bool) → bit t x ≡ p → (t : ℕ) × Mem d.terms t
      go t m h true e =
          let w = times_mem b.terms d.terms (without (2 ^ y) (without (2 ^ x) t)) (subst (λ l. Mem l (without (2 ^ y) (without (2 ^ x) t))) f₁₁_is
          (mem_derivative y (derivative x f) (without (2 ^ x) t) (mem_derivative x f t m e) (kept x y t other ∙ h))) in
          (w.1, w.3)
      go t m h false e =
          let w = times_mem c.terms d.terms (without (2 ^ y) t) (subst (λ l. Mem l (without (2 ^ y) t)) f₀₁_is
          (mem_derivative y (lacking x f) t (mem_lacking x f t m e) h)) in
          (w.1, w.3)

  -- the coefficients hold neither x nor y, and so the factors do not
  Free : List ℕ → Type 0
  Free l = Lacks x l × Lacks y l

  derivative_lacks : (i : ℕ) (l : List ℕ) → Lacks i (derivative i l)
  derivative_lacks i l t m = let u = derivative_mem i l t m in ap (λ k. bit k i) u.3 ∙ cleared i u.0

  still_lacks_x : (l : List ℕ) → Lacks x l → Lacks x (derivative y l)
  still_lacks_x l free t m =
      let u = derivative_mem y l t m in ap (λ k. bit k x) u.3 ∙ kept y x u.0 (λ e. other (sym e)) ∙ free u.0 u.1

  free_left : (l g h : List ℕ) (t : ℕ) → l ≡ times g h → Mem h t → Lacks x l → Lacks y l → Free g
  unfolding Free
  free_left l g h t e m fx fy = (lacks_left x l g h t e m fx, lacks_left y l g h t e m fy)

  free_a : Free a.terms
  free_a =
      free_left f₁₀ a.terms b.terms some_b.0 f₁₀_is some_b.1
      (λ t m. derivative_lacks x f t (lacking_mem y (derivative x f) t m).0) (λ t m. (lacking_mem y (derivative x f) t m).1)

  free_b : Free b.terms
  free_b =
      free_left f₁₁ b.terms d.terms some_d.0 f₁₁_is some_d.1
      (still_lacks_x (derivative x f) (derivative_lacks x f)) (derivative_lacks y (derivative x f))

  free_c : Free c.terms
  free_c =
      free_left f₀₁ c.terms d.terms some_d.0 f₀₁_is some_d.1
      (still_lacks_x (lacking x f) (λ t m. (lacking_mem x f t m).1)) (derivative_lacks y (lacking x f))

  free_d : Free d.terms
  free_d =
      free_left f₁₁ d.terms b.terms some_b.0 (f₁₁_is ∙ times_comm b.terms d.terms) some_b.1
      (still_lacks_x (derivative x f) (derivative_lacks x f)) (derivative_lacks y (derivative x f))

  -- b x + c and d y + a
  g : List ℕ
  g = joined x b.terms c.terms

  h : List ℕ
  h = joined y d.terms a.terms

  values_multiply : value n f ≡ mul n (value n g) (value n h)
  unfolding g h Free
  values_multiply =
      value_cut n x f
      ∙ ap₂ (λ (u v : R n). plus n u (mul n (variable n x) v))
      (value_cut n y (lacking x f)
      ∙ ap₂ (λ (u v : R n). plus n u (mul n (variable n y) v))
      (value_of f₀₀ refined.a refined.c a c refined.r_is) (value_of f₀₁ refined.c refined.d c d refined.q_is))
      (value_cut n y (derivative x f)
      ∙ ap₂ (λ (u v : R n). plus n u (mul n (variable n y) v))
      (value_of f₁₀ refined.a refined.b a b refined.p_is) (value_of f₁₁ refined.b refined.d b d refined.s_is))
      ∙ sym (expanded n (variable n x) (variable n y) (value n a.terms) (value n b.terms) (value n c.terms) (value n d.terms))
      ∙ sym (ap₂ (mul n) (value_joined x b.terms c.terms n b.ascending c.ascending free_b.0 free_c.0)
      (value_joined y d.terms a.terms n d.ascending a.ascending free_d.1 free_a.1))

  -- a variable that occurs is below n
  variable_small : (i : ℕ) → Occurs i f → 2 ^ i < 2 ^ n
  variable_small i o = let u = vars_bit f i o in lt_of_le_of_lt (subset_le (2 ^ i) u.0 (power_subset i u.0 u.2)) (small u.0 u.1)

  closed : Closed (vars g) f
  unfolding g h
  closed =
      subst (Closed (vars g)) (sym (factored n f g h asc (joined_asc x b.terms c.terms) (joined_asc y d.terms a.terms) small small_g small_h values_multiply))
      (closed_product g h (factors_apart n f g h asc (joined_asc x b.terms c.terms) (joined_asc y d.terms a.terms) small small_g small_h values_multiply))
    where
      small_g : Small n g
      small_g = joined_small x b.terms c.terms n (variable_small x in_x) b.small c.small

      small_h : Small n h
      small_h = joined_small y d.terms a.terms n (variable_small y in_y) d.small a.small

  -- the second half of the rule
  pub separated_if_papers_say : Separated f x y
  unfolding g Free
  separated_if_papers_say = (
    vars g,
    closed,
    bit_of_subset (bit_or (2 ^ x) some_b.0) (vars g) x
        (vars_hold g (bit_or (2 ^ x) some_b.0) (mem_joined x b.terms c.terms some_b.0 some_b.1)) (holds_x x b.terms c.terms some_b.0),
    go (bit (vars g) y) refl,
  )
    where
      lacks_y : (s : ℕ) → Mem g s → bit s y ≡ false
      lacks_y s m =
          ⊎_elim (λ u. ap (λ k. bit k y) u.2 ∙ bit_or_lem (2 ^ x) u.0 y ∙ ap₂ ◌||◌ (bit_power_other x y other) (free_b.1 u.0 u.1)) (free_c.1 s)
          (joined_mem x b.terms c.terms s m)

      go : (p : Bool) → bit (vars g) y ≡ p → bit (vars g) y ≡ false
      go true e = let u = vars_bit g y e in absurd (true≢false (sym u.2 ∙ lacks_y u.0 u.1))
      go false e = e
