-- The list of p x + q, where neither p nor q holds the variable x: its terms and its value. Leans on ring's values of products.
use Prim.Native.Nat.{ℕ, ◌^◌, ◌<◌}
use mathlib.Core.Path.{◌≡◌, refl, sym, ap, ◌∙◌, subst}
use mathlib.Core.Bool.{true, ◌||◌, true≢false}
use mathlib.Core.List.{List, [], ◌∷◌, ◌++◌}
use mathlib.Core.Logic.{◌⊎◌, inl, inr, ⊎_elim}
use lib.Bits.{bit_and, bit_or, or_lt}
use Rattle.masks.specs.Bit.{bit}
use Rattle.masks.proofs.Bits.{bit_or_lem, bit_power_same}
use Rattle.polys.specs.List.{Mem, Asc, collect}
use Rattle.polys.specs.Poly.{times, Apart}
use Rattle.polys.proofs.Lists.{mem_left, mem_append, collect_mem, mem_collect, collect_asc, collect_of_asc}
use Rattle.polys.proofs.Polys.{mem_times, times_mem, times_asc}
use Rattle.polys.proofs.Counts.{Different, different_of_asc}
use Rattle.ring.proofs.Series.{R, plus, laws, times as mul}
use Rattle.ring.proofs.Value.{value, value_none, value_more}
use Rattle.ring.proofs.Built.{Small, value_insert, value_of_built}
use Rattle.rule.proofs.Derivative.{Lacks, power_apart}
use Rattle.rule.proofs.Factored.{apart_by_terms}
use Rattle.rule.proofs.Cut.{variable}

value_collected : (n : ℕ) (a q : List ℕ) → Different a → Asc q → ((s : ℕ) → Mem a s → Mem q s → ⊥) → value n (collect (a ++ q)) ≡ plus n (value n a) (value n q)
unfolding collect
value_collected n [] q p asc h =
    ap (value n) (collect_of_asc q asc) ∙ sym (ap (λ (u : R n). plus n u (value n q)) (value_none n) ∙ (laws n).zero_add (value n q))
value_collected n (t ∷ a) q p asc h =
    value_insert n t (collect (a ++ q)) (λ m. ⊎_elim p.0 (h t (inl refl)) (mem_append a q t (collect_mem (a ++ q) t m)))
    ∙ ap (plus n (value n (t ∷ []))) (value_collected n a q p.1 asc (λ s m. h s (inr m)))
    ∙ sym ((laws n).add_assoc (value n (t ∷ [])) (value n a) (value n q))
    ∙ ap (λ (u : R n). plus n u (value n q)) (sym (value_more n t a))

module _ (x : ℕ) (p q : List ℕ) where
  pub joined : List ℕ
  joined = collect (times (2 ^ x ∷ []) p ++ q)

  pub joined_asc : Asc joined
  unfolding joined
  joined_asc = collect_asc (times (2 ^ x ∷ []) p ++ q)

  -- its terms: those of p with x, and those of q
  with_x : (s : ℕ) → Mem (times (2 ^ x ∷ []) p) s → (t : ℕ) × Mem p t × (s ≡ bit_or (2 ^ x) t)
  with_x s m =
      let u = times_mem (2 ^ x ∷ []) p s m in
      (u.1, u.3, u.4 ∙ ap (λ k. bit_or k u.1) (⊎_elim (λ e. e) absurd u.2))

  pub joined_mem : (s : ℕ) → Mem joined s → ((t : ℕ) × Mem p t × (s ≡ bit_or (2 ^ x) t)) ⊎ Mem q s
  unfolding joined
  joined_mem s m =
      ⊎_elim (λ u. inl (with_x s u)) (λ u. inr u)
      (mem_append (times (2 ^ x ∷ []) p) q s (collect_mem (times (2 ^ x ∷ []) p ++ q) s m))

  pub mem_joined : (t : ℕ) → Mem p t → Mem joined (bit_or (2 ^ x) t)
  unfolding joined
  mem_joined t m =
      mem_collect (times (2 ^ x ∷ []) p ++ q) (bit_or (2 ^ x) t)
      (mem_left (times (2 ^ x ∷ []) p) q (bit_or (2 ^ x) t) (mem_times (2 ^ x ∷ []) p (2 ^ x) t (inl refl) m))

  pub joined_small : (n : ℕ) → 2 ^ x < 2 ^ n → Small n p → Small n q → Small n joined
  joined_small n l sp sq s m =
      ⊎_elim (λ u. subst (λ k. k < 2 ^ n) (sym u.2) (or_lt n (2 ^ x) u.0 l (sp u.0 u.1))) (sq s) (joined_mem s m)

  pub holds_x : (t : ℕ) → bit (bit_or (2 ^ x) t) x ≡ true
  holds_x t = bit_or_lem (2 ^ x) t x ∙ ap (λ b. b || bit t x) (bit_power_same x)

  pub value_joined : (n : ℕ) → Asc p → Asc q → Lacks x p → Lacks x q → value n joined ≡ plus n (mul n (variable n x) (value n p)) (value n q)
  unfolding joined
  value_joined n pp pq lp lq =
      value_collected n (times (2 ^ x ∷ []) p) q (different_of_asc (times (2 ^ x ∷ []) p) (times_asc (2 ^ x ∷ []) p)) pq
      (λ s m k. let u = with_x s m in true≢false (sym (holds_x u.0) ∙ ap (λ j. bit j x) (sym u.2) ∙ lq s k))
      ∙ ap (λ (u : R n). plus n u (value n q)) (value_of_built n (2 ^ x ∷ []) p (tt, tt) pp apart)
    where
      apart : Apart (2 ^ x ∷ []) p
      apart = apart_by_terms (2 ^ x ∷ []) p (λ s t ms mt. ap (λ k. bit_and k t) (⊎_elim (λ e. e) absurd ms) ∙ power_apart x t (lp t mt))
