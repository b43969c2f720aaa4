-- Counting the terms that hold given variables. Where f is closed along z, a lies in z and b outside, the number of terms times the number
-- that hold a and b is the number that hold a times the number that hold b. So a variable for which this fails lies in every closed
-- set that holds a. Leans on the counts of products.
use mathlib.Core.Path.{◌≡◌, refl, sym, ap, ap₂, ◌∙◌, subst}
use mathlib.Core.Bool.{Bool, true, false, ◌&&◌}
use mathlib.Core.Logic.{inl, inr}
use mathlib.Core.List.{List, [], ◌∷◌}
use Prim.Native.Nat.{ℕ, suc, ◌*◌, ◌^◌, ◌≤◌}
use native.Mathlib.Decide.{ℕ_discrete}
use native.Mathlib.Nat.{mul-mul-mul_comm, mul_comm}
use native.Mathlib.Omega.{arith}
use lib.Bits.{bit_and, bit_or}
use lib.Dec.{T, eqb, eqb→eq, eqb_refl}
use lib.ListN.{length}
use Rattle.masks.specs.Bit.{bit, without}
use Rattle.masks.proofs.Bits.{bit_and_lem, bit_zero, bit_ext, bit_power_other}
use Rattle.masks.proofs.Reflect.{identity, ∅, ◌∩◌, ◌∪◌, ◌∖◌, ◌≐◌, ◌⊆◌, apart, ∴◌, ◌⇒◌}
use Rattle.masks.proofs.Sets.{subset_trans, power_subset}
use Rattle.polys.specs.List.{Mem, Asc, either}
use Rattle.polys.specs.Poly.{vars, onto, off, times, Apart}
use Rattle.polys.proofs.Lists.{mem_subst, asc_ext, above_by_mem, above_mem}
use Rattle.polys.proofs.Polys.{mem_onto, onto_mem, onto_asc, mem_off, off_mem, off_asc, vars_onto, vars_off, times_by_mem, apart_sub}
use Rattle.polys.proofs.Counts.{length_times}
use Rattle.splitting.specs.Mix.{mix, Closed}
use Rattle.splitting.proofs.Forced.{Forced}

-- the terms of f that hold all of s
unfoldable pub having : ℕ → List ℕ → List ℕ
having s [] = []
having s (t ∷ f) = either (eqb (bit_and t s) s) (t ∷ having s f) (having s f)

module _ (s : ℕ) where
  mem_having : (f : List ℕ) (x : ℕ) → Mem f x → bit_and x s ≡ s → Mem (having s f) x
  unfolding having
  mem_having [] x m h = absurd m
  mem_having (t ∷ f) x m h = go (eqb (bit_and t s) s) refl m (λ n. mem_having f x n h)
    where
      go : (b : Bool) → eqb (bit_and t s) s ≡ b → Mem (t ∷ f) x → (Mem f x → Mem (having s f) x) → Mem (either b (t ∷ having s f) (having s f)) x
      go true e (inl p) later = inl p
      go true e (inr n) later = inr (later n)
      go false e (inl p) later = absurd (subst T e (subst (λ n. T (eqb n s)) (sym h ∙ ap (λ n. bit_and n s) p) (eqb_refl s)))
      go false e (inr n) later = later n

  having_mem : (f : List ℕ) (x : ℕ) → Mem (having s f) x → Mem f x × (bit_and x s ≡ s)
  unfolding having
  having_mem [] x m = absurd m
  having_mem (t ∷ f) x m = go (eqb (bit_and t s) s) refl m (having_mem f x)
    where
      go : (b : Bool) → eqb (bit_and t s) s ≡ b → Mem (either b (t ∷ having s f) (having s f)) x → (Mem (having s f) x → Mem f x × (bit_and x s ≡ s))
          → Mem (t ∷ f) x × (bit_and x s ≡ s)
      go true e (inl p) later = (inl p, ap (λ n. bit_and n s) p ∙ eqb→eq (bit_and t s) s (subst T (sym e) tt))
      go true e (inr n) later = let w = later n in (inr w.0, w.1)
      go false e n later = let w = later n in (inr w.0, w.1)

  having_asc : (f : List ℕ) → Asc f → Asc (having s f)
  unfolding having
  having_asc [] a = tt
  having_asc (t ∷ f) a = go (eqb (bit_and t s) s) (having_asc f a.1)
    where
      go : (b : Bool) → Asc (having s f) → Asc (either b (t ∷ having s f) (having s f))
      go true rest = (above_by_mem t (having s f) (λ x m. above_mem t f x a.0 (having_mem f x m).0), rest)
      go false rest = rest

  pub having_length : (f : List ℕ) → length (having s f) ≤ length f
  unfolding having
  having_length [] = omega arith
  having_length (t ∷ f) = go (eqb (bit_and t s) s) (having_length f)
    where
      go : (b : Bool) → length (having s f) ≤ length f → length (either b (t ∷ having s f) (having s f)) ≤ suc (length f)
      go true h = omega arith
      go false h = omega arith

-- every term holds nothing
having_nothing : (f : List ℕ) → Asc f → having 0 f ≡ f
having_nothing f asc =
    asc_ext (having 0 f) f (having_asc 0 f asc) asc (λ x m. (having_mem 0 f x m).0) (λ x m. mem_having 0 f x m (none x))
  where
    none : (x : ℕ) → bit_and x 0 ≡ 0
    none = identity 1 (λ x. ∴ x ∩ ∅ ≐ ∅) tt

module _ (z : ℕ) (f : List ℕ) (asc : Asc f) (closed : Closed z f) where
  no_common : Apart (onto z f) (off z f)
  no_common = ap₂ bit_and (vars_onto z f) (vars_off z f) ∙ law (vars f) z
    where
      law : (v z : ℕ) → bit_and (bit_and v z) (without z v) ≡ 0
      law = identity 2 (λ v z. ∴ apart (v ∩ z) (v ∖ z)) tt

  module _ (a b c : ℕ) (both : c ≡ bit_or a b) (inside : bit_and a z ≡ a) (outside : bit_and b z ≡ 0) where
    -- the terms that hold a and b are the product of those that hold a, seen on z, and those that hold b, seen elsewhere
    holders_split : having c f ≡ times (having a (onto z f)) (having b (off z f))
    holders_split =
        times_by_mem (having a (onto z f)) (having b (off z f)) (having c f) (having_asc c f asc)
        (λ x m.
        let w = having_mem c f x m in
        let h : bit_and x (bit_or a b) ≡ bit_or a b = subst (λ n. bit_and x n ≡ n) both w.1 in (
          bit_and x z,
          without z x,
          mem_having a (onto z f) (bit_and x z) (mem_onto z f x w.0) (on_z x a b z h inside),
          mem_having b (off z f) (without z x) (mem_off z f x w.0) (off_z x a b z h outside),
          halves x z,
        ))
        (λ x u.
        let s = having_mem a (onto z f) u.0 u.2 in
        let t = having_mem b (off z f) u.1 u.3 in
        let p = onto_mem z f u.0 s.0 in
        let q = off_mem z f u.1 t.0 in
        mem_subst (having c f) (bit_or u.0 u.1) x (sym u.4)
        (mem_having c f (bit_or u.0 u.1)
        (mem_subst f (mix z p.0 q.0) (bit_or u.0 u.1) (sym (ap₂ bit_or p.2 q.2)) (closed p.0 q.0 p.1 q.1))
        (subst (λ n. bit_and (bit_or u.0 u.1) n ≡ n) (sym both) (joined u.0 u.1 a b s.1 t.1))))
      where
        on_z : (x a b z : ℕ) → bit_and x (bit_or a b) ≡ bit_or a b → bit_and a z ≡ a → bit_and (bit_and x z) a ≡ a
        on_z = identity 4 (λ x a b z. x ∩ (a ∪ b) ≐ a ∪ b ⇒ a ⊆ z ⇒ ∴ (x ∩ z) ∩ a ≐ a) tt

        off_z : (x a b z : ℕ) → bit_and x (bit_or a b) ≡ bit_or a b → bit_and b z ≡ 0 → bit_and (without z x) b ≡ b
        off_z = identity 4 (λ x a b z. x ∩ (a ∪ b) ≐ a ∪ b ⇒ apart b z ⇒ ∴ (x ∖ z) ∩ b ≐ b) tt

        halves : (x z : ℕ) → x ≡ bit_or (bit_and x z) (without z x)
        halves = identity 2 (λ x z. ∴ x ≐ (x ∩ z) ∪ (x ∖ z)) tt

        joined : (s t a b : ℕ) → bit_and s a ≡ a → bit_and t b ≡ b → bit_and (bit_or s t) (bit_or a b) ≡ bit_or a b
        joined = identity 4 (λ s t a b. s ∩ a ≐ a ⇒ t ∩ b ≐ b ⇒ ∴ (s ∪ t) ∩ (a ∪ b) ≐ a ∪ b) tt

    holders_count : length (having c f) ≡ length (having a (onto z f)) * length (having b (off z f))
    holders_count =
        ap length holders_split
        ∙ length_times (having a (onto z f)) (having b (off z f)) (having_asc a (onto z f) (onto_asc z f)) (having_asc b (off z f) (off_asc z f))
        (apart_sub (onto z f) (off z f) (having a (onto z f)) (having b (off z f)) (λ x m. (having_mem a (onto z f) x m).0) (λ x m. (having_mem b (off z f) x m).0) no_common)

  pub counts_multiply : (a b : ℕ) → bit_and a z ≡ a → bit_and b z ≡ 0
      → length f * length (having (bit_or a b) f) ≡ length (having a f) * length (having b f)
  counts_multiply a b inside outside =
      let all = ap length (sym (having_nothing f asc)) ∙ holders_count 0 0 0 refl (none z) (none z) in
      let both = holders_count a b (bit_or a b) refl inside outside in
      let left = holders_count a 0 a (nothing_more a) inside (none z) in
      let right = holders_count 0 b b (nothing_before b) (none z) outside in
      let g = length (having 0 (onto z f)) in
      let h = length (having 0 (off z f)) in
      let p = length (having a (onto z f)) in
      let q = length (having b (off z f)) in
      ap₂ ◌*◌ all both ∙ ap (λ n. n * (p * q)) (mul_comm g h) ∙ mul-mul-mul_comm h g p q ∙ ap (λ n. n * (g * q)) (mul_comm h p) ∙ sym (ap₂ ◌*◌ left right)
    where
      none : (z : ℕ) → bit_and 0 z ≡ 0
      none = identity 1 (λ z. ∴ ∅ ∩ z ≐ ∅) tt

      nothing_more : (a : ℕ) → a ≡ bit_or a 0
      nothing_more = identity 1 (λ a. ∴ a ≐ a ∪ ∅) tt

      nothing_before : (b : ℕ) → b ≡ bit_or 0 b
      nothing_before = identity 1 (λ b. ∴ b ≐ ∅ ∪ b) tt

power_apart : (j z : ℕ) → bit z j ≡ false → bit_and (2 ^ j) z ≡ 0
power_apart j z h = bit_ext (bit_and (2 ^ j) z) 0 (λ i. bit_and_lem (2 ^ j) z i ∙ at_bit i (ℕ_discrete j i) ∙ sym (bit_zero i))
  where
    no_bit : (b : Bool) → b && false ≡ false
    no_bit true = refl
    no_bit false = refl

    at_bit : (i : ℕ) → Dec (j ≡ i) → bit (2 ^ j) i && bit z i ≡ false
    at_bit i (yes e) = ap (λ b. bit (2 ^ j) i && b) (ap (bit z) (sym e) ∙ h) ∙ no_bit (bit (2 ^ j) i)
    at_bit i (no n) = ap (λ b. b && bit z i) (bit_power_other j i n)

-- a variable for which the counts do not multiply belongs to whatever y belongs to
pub forced_by_counts : (f : List ℕ) (y a j : ℕ) → Asc f → bit_and a y ≡ a
    → ¬ (length f * length (having (bit_or a (2 ^ j)) f) ≡ length (having a f) * length (having (2 ^ j) f))
    → (i : ℕ) → Forced i y f → (z : ℕ) → Closed z f → bit z i ≡ true → bit_and (2 ^ j) z ≡ 2 ^ j
forced_by_counts f y a j asc held uneven i forced z closed holds = go (bit z j) refl
  where
    go : (b : Bool) → bit z j ≡ b → bit_and (2 ^ j) z ≡ 2 ^ j
    go true e = power_subset j z e
    go false e =
        absurd (uneven (counts_multiply z f asc closed a (2 ^ j) (subset_trans a y z held (forced z closed holds)) (power_apart j z e)))
