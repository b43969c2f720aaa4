-- Picking: where f is closed along y, its projections are read off by comparing each term with one term of f. Both come out ascending.
-- Leans on the order of terms that agree on a set (masks).
use mathlib.Core.Path.{◌≡◌, refl, sym, ap, ◌∙◌, subst}
use mathlib.Core.Bool.{Bool, true, false}
use mathlib.Core.Logic.{inl, inr}
use mathlib.Core.List.{List, [], ◌∷◌}
use Prim.Native.Nat.{ℕ, ◌<◌}
use lib.Bits.{bit_and}
use lib.Dec.{T, eqb, eqb→eq, eqb_refl}
use Rattle.masks.specs.Bit.{without}
use Rattle.masks.proofs.Reflect.{identity, ◌∩◌, ◌∖◌, ◌≐◌, ∴◌}
use Rattle.masks.proofs.Sets.{without_within}
use Rattle.masks.proofs.Order.{order_by_inside, order_by_outside}
use Rattle.polys.specs.List.{Mem, Asc, either}
use Rattle.polys.specs.Poly.{vars, onto, off}
use Rattle.polys.proofs.Lists.{mem_subst, asc_ext, above_by_mem, above_mem}
use Rattle.polys.proofs.Polys.{mem_onto, onto_mem, onto_asc, mem_off, off_mem, off_asc, vars_hold}
use Rattle.splitting.specs.Mix.{mix, Closed, pick}
use Rattle.splitting.proofs.Mixing.{mixed}

-- ---- members and order of what is picked

-- x is picked: it is what `keep` leaves of a term of f that has just `value` in `fixed`
abbrev pub Picked : ℕ → ℕ → ℕ → List ℕ → ℕ → Type 0
Picked keep fixed value f x = (t : ℕ) × Mem f t × (bit_and t fixed ≡ value) × (x ≡ bit_and t keep)

module _ (keep fixed value : ℕ) where
  pub mem_pick : (f : List ℕ) (x : ℕ) → Picked keep fixed value f x → Mem (pick keep fixed value f) x
  unfolding pick
  mem_pick [] x w = absurd w.1
  mem_pick (t ∷ f) x w = go (eqb (bit_and t fixed) value) refl w.1 (λ m. mem_pick f x (w.0, m, w.2, w.3))
    where
      go : (b : Bool) → eqb (bit_and t fixed) value ≡ b → Mem (t ∷ f) w.0 → (Mem f w.0 → Mem (pick keep fixed value f) x)
          → Mem (either b (bit_and t keep ∷ pick keep fixed value f) (pick keep fixed value f)) x
      go true e (inl p) later = inl (w.3 ∙ ap (λ n. bit_and n keep) p)
      go true e (inr m) later = inr (later m)
      go false e (inl p) later =
          absurd (subst T e (subst (λ n. T (eqb n value)) (sym w.2 ∙ ap (λ n. bit_and n fixed) p) (eqb_refl value)))
      go false e (inr m) later = later m

  pub pick_mem : (f : List ℕ) (x : ℕ) → Mem (pick keep fixed value f) x → Picked keep fixed value f x
  unfolding pick
  pick_mem [] x m = absurd m
  pick_mem (t ∷ f) x m = go (eqb (bit_and t fixed) value) refl m (pick_mem f x)
    where
      later : Picked keep fixed value f x → Picked keep fixed value (t ∷ f) x
      later w = (w.0, inr w.1, w.2, w.3)

      go : (b : Bool) → eqb (bit_and t fixed) value ≡ b
          → Mem (either b (bit_and t keep ∷ pick keep fixed value f) (pick keep fixed value f)) x
          → (Mem (pick keep fixed value f) x → Picked keep fixed value f x) → Picked keep fixed value (t ∷ f) x
      go true e (inl p) rest = (t, inl refl, eqb→eq (bit_and t fixed) value (subst T (sym e) tt), p)
      go true e (inr n) rest = later (rest n)
      go false e n rest = later (rest n)

  -- ascending, if what is kept tells apart, and in the same order, the terms that agree on what is fixed
  Ordered : List ℕ → Type 0
  Ordered f = (s t : ℕ) → Mem f s → Mem f t → bit_and s fixed ≡ bit_and t fixed → s < t → bit_and s keep < bit_and t keep

  asc_pick : (f : List ℕ) → Ordered f → Asc f → Asc (pick keep fixed value f)
  unfolding pick Ordered
  asc_pick [] h a = tt
  asc_pick (t ∷ f) h a =
      go (eqb (bit_and t fixed) value) refl (asc_pick f (λ s u ms mu. h s u (inr ms) (inr mu)) a.1)
    where
      go : (b : Bool) → eqb (bit_and t fixed) value ≡ b → Asc (pick keep fixed value f)
          → Asc (either b (bit_and t keep ∷ pick keep fixed value f) (pick keep fixed value f))
      go true e rest = (
        above_by_mem (bit_and t keep) (pick keep fixed value f)
            (λ x m.
            let w = pick_mem f x m in
            subst (λ n. bit_and t keep < n) (sym w.3)
            (h t w.0 (inl refl) (inr w.1) (eqb→eq (bit_and t fixed) value (subst T (sym e) tt) ∙ sym w.2)
            (above_mem t f w.0 a.0 w.1))),
        rest,
      )
      go false e rest = rest

-- ---- a mix seen inside y and outside

mix_inside : (y s t : ℕ) → bit_and (mix y s t) y ≡ bit_and s y
mix_inside = identity 3 (λ y s t. ∴ mixed y s t ∩ y ≐ s ∩ y) tt

mix_outside : (y s t : ℕ) → without y (mix y s t) ≡ without y t
mix_outside = identity 3 (λ y s t. ∴ mixed y s t ∖ y ≐ t ∖ y) tt

-- ---- the two projections

module _ (y : ℕ) (f : List ℕ) (first : ℕ) where
  -- the other variables of f; the first term's variables in y, and its others
  abbrev pub rest : ℕ
  rest = without y (vars f)

  abbrev pub inner : List ℕ
  inner = pick y rest (without y first) f

  abbrev pub outer : List ℕ
  outer = pick rest y (bit_and first y) f

  outside : (t : ℕ) → Mem f t → bit_and t rest ≡ without y t
  outside t m = sym (without_within y t (vars f) (vars_hold f t m))

  pub inner_asc : Asc f → Asc inner
  unfolding Ordered
  inner_asc =
      asc_pick y rest (without y first) f
      (λ s t ms mt e l. (order_by_inside y s t (sym (outside s ms) ∙ e ∙ outside t mt)).0 l)

  pub outer_asc : Asc f → Asc outer
  unfolding Ordered
  outer_asc =
      asc_pick rest y (bit_and first y) f
      (λ s t ms mt e l.
      subst (λ n. n < bit_and t rest) (sym (outside s ms))
      (subst (λ n. without y s < n) (sym (outside t mt)) ((order_by_outside y s t e).0 l)))

  pub mem_inner : (s : ℕ) → Mem f (mix y s first) → Mem inner (bit_and s y)
  mem_inner s m =
      mem_pick y rest (without y first) f (bit_and s y)
      (mix y s first, m, outside (mix y s first) m ∙ mix_outside y s first, sym (mix_inside y s first))

  pub mem_outer : (t : ℕ) → Mem f (mix y first t) → Mem outer (without y t)
  mem_outer t m =
      mem_pick rest y (bit_and first y) f (without y t)
      (mix y first t, m, mix_inside y first t, sym (outside (mix y first t) m ∙ mix_outside y first t))

  -- what is picked comes from a term of f
  pub inner_mem : (x : ℕ) → Mem inner x → (s : ℕ) × Mem f s × (x ≡ bit_and s y)
  inner_mem x m = let w = pick_mem y rest (without y first) f x m in (w.0, w.1, w.3)

  pub outer_mem : (x : ℕ) → Mem outer x → (t : ℕ) × Mem f t × (x ≡ without y t)
  outer_mem x m = let w = pick_mem rest y (bit_and first y) f x m in (w.0, w.1, w.3 ∙ outside w.0 w.1)

  pub onto_is_inner : Asc f → Mem f first → Closed y f → onto y f ≡ inner
  onto_is_inner asc mf closed =
      asc_ext (onto y f) inner (onto_asc y f) (inner_asc asc)
      (λ x m.
      let w = onto_mem y f x m in
      mem_subst inner (bit_and w.0 y) x (sym w.2) (mem_inner w.0 (closed w.0 first w.1 mf)))
      (λ x m. let w = inner_mem x m in mem_subst (onto y f) (bit_and w.0 y) x (sym w.2) (mem_onto y f w.0 w.1))

  pub off_is_outer : Asc f → Mem f first → Closed y f → off y f ≡ outer
  off_is_outer asc mf closed =
      asc_ext (off y f) outer (off_asc y f) (outer_asc asc)
      (λ x m.
      let w = off_mem y f x m in
      mem_subst outer (without y w.0) x (sym w.2) (mem_outer w.0 (closed first w.0 mf w.1)))
      (λ x m. let w = outer_mem x m in mem_subst (off y f) (without y w.0) x (sym w.2) (mem_off y f w.0 w.1))
