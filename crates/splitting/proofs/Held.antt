-- Variables that every term of a list holds. Such a list is these variables, as one term, times the list without them; so all of
-- them may be taken out at once, and each given out as a part of its own when it is the lowest. Leans on the laws of products.
use mathlib.Core.Path.{◌≡◌, refl, sym, ap, ap₂, ◌∙◌, subst}
use mathlib.Core.Logic.{inl, inr, ⊎_elim}
use mathlib.Core.List.{List, [], ◌∷◌, map}
use Prim.Native.Nat.{ℕ, ◌<◌}
use native.Mathlib.Nat.{one-mul}
use lib.Bits.{bit_and, bit_or}
use lib.ListN.{length}
use Rattle.masks.specs.Bit.{without}
use Rattle.masks.proofs.Order.{order_by_outside}
use Rattle.masks.proofs.Reflect.{identity, ∅, ◌∩◌, ◌∪◌, ◌∖◌, ◌≐◌, ◌⊆◌, apart, ∴◌, ◌⇒◌}
use Rattle.polys.specs.List.{Mem, Asc}
use Rattle.polys.specs.Poly.{vars, onto, off, times, Apart}
use Rattle.polys.proofs.Lists.{mem_map, mem_map_from, mem_subst, above_by_mem, above_mem}
use Rattle.polys.proofs.Polys.{mem_times, onto_asc, vars_nil, vars_cons, vars_hold, vars_least, vars_times, times_by_mem, times_asc, times_comm, times_assoc, times_term, times_one_left}
use Rattle.polys.proofs.Counts.{length_times}
use Rattle.splitting.specs.Mix.{Closed}
use Rattle.splitting.proofs.Forced.{Forced}
use Rattle.splitting.proofs.Image.{closed_onto, onto_times, off_times, onto_outside, off_outside, onto_product, off_product}
use Rattle.splitting.proofs.Splits.{closed_from_onto, closed_product}

-- the list r with the variables c in every term
abbrev pub held : ℕ → List ℕ → List ℕ
held c r = times (c ∷ []) r

one_vars : (c : ℕ) → vars (c ∷ []) ≡ c
one_vars c = vars_cons c [] ∙ ap (bit_or c) vars_nil ∙ law c
  where
    law : (c : ℕ) → bit_or c 0 ≡ c
    law = identity 1 (λ c. ∴ c ∪ ∅ ≐ c) tt

one_apart : (c : ℕ) (r : List ℕ) → bit_and c (vars r) ≡ 0 → Apart (c ∷ []) r
one_apart c r free = ap (λ (v : ℕ). bit_and v (vars r)) (one_vars c) ∙ free

-- ---- the list that holds them

module _ (c : ℕ) (r : List ℕ) (free : bit_and c (vars r) ≡ 0) where
  pub vars_held : (s : ℕ) → Mem r s → vars (held c r) ≡ bit_or c (vars r)
  vars_held s m = vars_times (c ∷ []) r c s (inl refl) m ∙ ap (λ (v : ℕ). bit_or v (vars r)) (one_vars c)

  pub length_held : Asc r → length (held c r) ≡ length r
  length_held asc = length_times (c ∷ []) r (tt, tt) asc (one_apart c r free) ∙ one-mul (length r)

  onto_rest : Asc r → onto (vars r) (held c r) ≡ r
  onto_rest asc = ap (onto (vars r)) (times_comm (c ∷ []) r) ∙ onto_product r (c ∷ []) (other c (vars r) (vars (c ∷ [])) (one_vars c) free) c asc (inl refl)
    where
      other : (c v k : ℕ) → k ≡ c → bit_and c v ≡ 0 → bit_and v k ≡ 0
      other = identity 3 (λ c v k. k ≐ c ⇒ apart c v ⇒ ∴ apart v k) tt

  -- what is found in r is found in it
  module _ (asc : Asc r) (y : ℕ) (within : bit_and y (vars r) ≡ y) where
    outside : bit_and y (vars (c ∷ [])) ≡ 0
    outside = law c (vars r) y (vars (c ∷ [])) (one_vars c) free within
      where
        law : (c v y k : ℕ) → k ≡ c → bit_and c v ≡ 0 → bit_and y v ≡ y → bit_and y k ≡ 0
        law = identity 4 (λ c v y k. k ≐ c ⇒ apart c v ⇒ y ⊆ v ⇒ ∴ apart y k) tt

    pub onto_held : onto y (held c r) ≡ onto y r
    onto_held = onto_times y (c ∷ []) r ∙ ap (λ (l : List ℕ). times l (onto y r)) (onto_outside y (c ∷ []) c (inl refl) outside) ∙ one_onto
      where
        one_onto : times (0 ∷ []) (onto y r) ≡ onto y r
        one_onto = times_one_left (onto y r) (onto_asc y r)

    pub off_held : off y (held c r) ≡ held c (off y r)
    off_held = off_times y (c ∷ []) r ∙ ap (λ (l : List ℕ). times l (off y r)) (off_outside y (c ∷ []) (tt, tt) outside)

    pub closed_held : Closed y r → Closed y (held c r)
    closed_held closed =
        subst (λ (z : ℕ). Closed z (held c r)) within
        (closed_from_onto y (vars r) (held c r)
        (subst (Closed (vars r)) (times_comm r (c ∷ [])) (closed_product r (c ∷ []) (other c (vars r) (vars (c ∷ [])) (one_vars c) free)))
        (subst (Closed y) (sym (onto_rest asc)) closed))
      where
        other : (c v k : ℕ) → k ≡ c → bit_and c v ≡ 0 → bit_and v k ≡ 0
        other = identity 3 (λ c v k. k ≐ c ⇒ apart c v ⇒ ∴ apart v k) tt

    pub forced_held : (i : ℕ) → Forced i y r → Forced i y (held c r)
    forced_held i forced z closed holds = forced z (subst (Closed z) (onto_rest asc) (closed_onto z (vars r) (held c r) closed)) holds

-- ---- one of them taken out

module _ (c x : ℕ) (r : List ℕ) (free : bit_and c (vars r) ≡ 0) (one : bit_and x c ≡ x) where
  taken_out : held c r ≡ times (x ∷ []) (held (without x c) r)
  taken_out =
      ap (λ (l : List ℕ). times l r) (sym (times_term x (without x c ∷ []) (tt, tt) ∙ ap (λ (k : ℕ). k ∷ []) (law x c one)))
      ∙ times_assoc (x ∷ []) (without x c ∷ []) r
    where
      law : (x c : ℕ) → bit_and x c ≡ x → bit_or x (without x c) ≡ c
      law = identity 2 (λ x c. x ⊆ c ⇒ ∴ x ∪ (c ∖ x) ≐ c) tt

  still_free : bit_and (without x c) (vars r) ≡ 0
  still_free = law x c (vars r) free
    where
      law : (x c v : ℕ) → bit_and c v ≡ 0 → bit_and (without x c) v ≡ 0
      law = identity 3 (λ x c v. apart c v ⇒ ∴ apart (c ∖ x) v) tt

  module _ (s : ℕ) (some : Mem r s) where
    rest_apart : Apart (x ∷ []) (held (without x c) r)
    rest_apart = law x c (vars r) (vars (x ∷ [])) (vars (held (without x c) r)) (one_vars x) (vars_held (without x c) r still_free s some) free one
      where
        law : (x c v k m : ℕ) → k ≡ x → m ≡ bit_or (without x c) v → bit_and c v ≡ 0 → bit_and x c ≡ x → bit_and k m ≡ 0
        law = identity 5 (λ x c v k m. k ≐ x ⇒ m ≐ (c ∖ x) ∪ v ⇒ apart c v ⇒ x ⊆ c ⇒ ∴ apart k m) tt

    a_term : Mem (held (without x c) r) (bit_or (without x c) s)
    a_term = mem_times (without x c ∷ []) r (without x c) s (inl refl) some

    pub onto_one : onto x (held c r) ≡ x ∷ []
    onto_one =
        ap (λ (v : ℕ). onto v (held c r)) (sym (one_vars x)) ∙ ap (onto (vars (x ∷ []))) taken_out
        ∙ onto_product (x ∷ []) (held (without x c) r) rest_apart (bit_or (without x c) s) (tt, tt) a_term

    pub off_one : off x (held c r) ≡ held (without x c) r
    off_one =
        ap (λ (v : ℕ). off v (held c r)) (sym (one_vars x)) ∙ ap (off (vars (x ∷ []))) taken_out
        ∙ off_product (x ∷ []) (held (without x c) r) rest_apart x (times_asc (without x c ∷ []) r) (inl refl)

    pub closed_one : Closed x (held c r)
    closed_one =
        subst (λ (v : ℕ). Closed v (held c r)) (one_vars x)
        (subst (Closed (vars (x ∷ []))) (sym taken_out) (closed_product (x ∷ []) (held (without x c) r) rest_apart))

-- ---- taking all of them out

module _ (c : ℕ) (f : List ℕ) (asc : Asc f) (each : (t : ℕ) → Mem f t → bit_and c t ≡ c) where
  stripped : List ℕ
  stripped = map (without c) f

  pub stripped_ascends : Asc (map (without c) f)
  stripped_ascends = go f asc each
    where
      go : (l : List ℕ) → Asc l → ((t : ℕ) → Mem l t → bit_and c t ≡ c) → Asc (map (without c) l)
      go [] a h = tt
      go (t ∷ l) a h = (
        above_by_mem (without c t) (map (without c) l)
            (λ x m.
            let w = mem_map_from (without c) l x m in
            subst (λ (n : ℕ). without c t < n) (sym w.2)
            ((order_by_outside c t w.0 (same c t w.0 (h t (inl refl)) (h w.0 (inr w.1)))).0 (above_mem t l w.0 a.0 w.1))),
        go l a.1 (λ u m. h u (inr m)),
      )
        where
          same : (c s t : ℕ) → bit_and c s ≡ c → bit_and c t ≡ c → bit_and s c ≡ bit_and t c
          same = identity 3 (λ c s t. c ⊆ s ⇒ c ⊆ t ⇒ ∴ s ∩ c ≐ t ∩ c) tt

  pub stripped_free : bit_and c (vars (map (without c) f)) ≡ 0
  stripped_free = other c (vars (map (without c) f)) (vars f) (vars_least (map (without c) f) (without c (vars f)) inside)
    where
      inside : (x : ℕ) → Mem (map (without c) f) x → bit_and x (without c (vars f)) ≡ x
      inside x m = let w = mem_map_from (without c) f x m in law c x w.0 (vars f) w.2 (vars_hold f w.0 w.1)
        where
          law : (c x t v : ℕ) → x ≡ without c t → bit_and t v ≡ t → bit_and x (without c v) ≡ x
          law = identity 4 (λ c x t v. x ≐ t ∖ c ⇒ t ⊆ v ⇒ ∴ x ⊆ v ∖ c) tt

      other : (c a v : ℕ) → bit_and a (without c v) ≡ a → bit_and c a ≡ 0
      other = identity 3 (λ c a v. a ⊆ v ∖ c ⇒ ∴ apart c a) tt

  pub held_stripped : f ≡ held c (map (without c) f)
  held_stripped =
      times_by_mem (c ∷ []) (map (without c) f) f asc
      (λ x m. (c, without c x, inl refl, mem_map (without c) f x m, whole c x (each x m)))
      (λ x u.
      let w = mem_map_from (without c) f u.1 u.3 in
      mem_subst f w.0 x
      (sym (u.4 ∙ ap₂ bit_or (⊎_elim (λ (e : u.0 ≡ c). e) absurd u.2) w.2 ∙ sym (whole c w.0 (each w.0 w.1)))) w.1)
    where
      whole : (c t : ℕ) → bit_and c t ≡ c → t ≡ bit_or c (without c t)
      whole = identity 2 (λ c t. c ⊆ t ⇒ ∴ t ≐ c ∪ (t ∖ c)) tt
