-- Projections as images: both projections put a function on terms through a list, and that function goes through unions and mixes. So a
-- projection of a closed list is closed, a projection of a product is the product of the projections, and a list is its own projection, or
-- has the projection one, where the function leaves its terms alone, or empties them. Leans on the laws of collect and times.
use mathlib.Core.Path.{◌≡◌, sym, ap, ap₂, ◌∙◌}
use mathlib.Core.Logic.{inl, ⊎_elim}
use mathlib.Core.List.{List, [], ◌∷◌, map}
use Prim.Native.Nat.{ℕ}
use lib.Bits.{bit_and, bit_or, and_self}
use Rattle.masks.specs.Bit.{without}
use Rattle.masks.proofs.Reflect.{identity, ∅, ◌∩◌, ◌∖◌, ◌≐◌, ◌⊆◌, apart, ∴◌, ◌⇒◌}
use Rattle.masks.proofs.Sets.{and_or_distrib, without_or}
use Rattle.polys.specs.List.{Mem, Asc, collect}
use Rattle.polys.specs.Poly.{vars, onto, off, times, Apart}
use Rattle.polys.proofs.Lists.{mem_subst, mem_map, mem_map_from, mem_collect, collect_mem, collect_asc, asc_ext}
use Rattle.polys.proofs.Polys.{mem_times, times_mem, times_by_mem, times_one_left, times_one_right, vars_hold}
use Rattle.splitting.specs.Mix.{mix, Closed}
use Rattle.splitting.proofs.Mixing.{mixed}

-- ---- the image of a list

module _ (k : ℕ → ℕ) where
  abbrev image : List ℕ → List ℕ
  image f = collect (map k f)

  mem_image : (f : List ℕ) (t : ℕ) → Mem f t → Mem (image f) (k t)
  mem_image f t m = mem_collect (map k f) (k t) (mem_map k f t m)

  image_mem : (f : List ℕ) (x : ℕ) → Mem (image f) x → (t : ℕ) × Mem f t × (x ≡ k t)
  image_mem f x m = mem_map_from k f x (collect_mem (map k f) x m)

  closed_image : (z : ℕ) → ((s t : ℕ) → k (mix z s t) ≡ mix z (k s) (k t)) → (f : List ℕ) → Closed z f → Closed z (image f)
  closed_image z through f closed s t ms mt =
      let a = image_mem f s ms in
      let b = image_mem f t mt in
      mem_subst (image f) (k (mix z a.0 b.0)) (mix z s t) (through a.0 b.0 ∙ sym (ap₂ (mix z) a.2 b.2))
      (mem_image f (mix z a.0 b.0) (closed a.0 b.0 a.1 b.1))

  image_times : ((s t : ℕ) → k (bit_or s t) ≡ bit_or (k s) (k t)) → (g h : List ℕ) → image (times g h) ≡ times (image g) (image h)
  image_times through g h =
      times_by_mem (image g) (image h) (image (times g h)) (collect_asc (map k (times g h)))
      (λ x m.
      let w = image_mem (times g h) x m in
      let u = times_mem g h w.0 w.1 in
      (k u.0, k u.1, mem_image g u.0 u.2, mem_image h u.1 u.3, w.2 ∙ ap k u.4 ∙ through u.0 u.1))
      (λ x u.
      let a = image_mem g u.0 u.2 in
      let b = image_mem h u.1 u.3 in
      mem_subst (image (times g h)) (k (bit_or a.0 b.0)) x
      (through a.0 b.0 ∙ sym (u.4 ∙ ap₂ bit_or a.2 b.2))
      (mem_image (times g h) (bit_or a.0 b.0) (mem_times g h a.0 b.0 a.1 b.1)))

  image_same : (f : List ℕ) → Asc f → ((t : ℕ) → Mem f t → k t ≡ t) → image f ≡ f
  image_same f asc same =
      asc_ext (image f) f (collect_asc (map k f)) asc
      (λ x m. let w = image_mem f x m in mem_subst f w.0 x (sym (w.2 ∙ same w.0 w.1)) w.1)
      (λ x m. mem_subst (image f) (k x) x (same x m) (mem_image f x m))

  image_one : (f : List ℕ) (s : ℕ) → Mem f s → ((t : ℕ) → Mem f t → k t ≡ 0) → image f ≡ 0 ∷ []
  image_one f s ms none =
      asc_ext (image f) (0 ∷ []) (collect_asc (map k f)) (tt, tt)
      (λ x m. let w = image_mem f x m in inl (w.2 ∙ none w.0 w.1))
      (λ x m. ⊎_elim (λ e. mem_subst (image f) (k s) x (none s ms ∙ sym e) (mem_image f s ms)) absurd m)

-- ---- the two projections

pub closed_onto : (z y : ℕ) (f : List ℕ) → Closed z f → Closed z (onto y f)
unfolding onto
closed_onto z y = closed_image (λ t. bit_and t y) z (through y z)
  where
    through : (y z s t : ℕ) → bit_and (mix z s t) y ≡ mix z (bit_and s y) (bit_and t y)
    through = identity 4 (λ y z s t. ∴ mixed z s t ∩ y ≐ mixed z (s ∩ y) (t ∩ y)) tt

pub closed_off : (z y : ℕ) (f : List ℕ) → Closed z f → Closed z (off y f)
unfolding off
closed_off z y = closed_image (without y) z (through y z)
  where
    through : (y z s t : ℕ) → without y (mix z s t) ≡ mix z (without y s) (without y t)
    through = identity 4 (λ y z s t. ∴ mixed z s t ∖ y ≐ mixed z (s ∖ y) (t ∖ y)) tt

pub onto_times : (y : ℕ) (g h : List ℕ) → onto y (times g h) ≡ times (onto y g) (onto y h)
unfolding onto
onto_times y = image_times (λ t. bit_and t y) (λ s t. and_or_distrib s t y)

pub off_times : (y : ℕ) (g h : List ℕ) → off y (times g h) ≡ times (off y g) (off y h)
unfolding off
off_times y = image_times (without y) (without_or y)

-- ---- a list inside y, and one outside

module _ (y : ℕ) (f : List ℕ) where
  pub onto_inside : Asc f → bit_and y (vars f) ≡ vars f → onto y f ≡ f
  unfolding onto
  onto_inside asc h = image_same (λ t. bit_and t y) f asc (λ t m. held t y (vars f) (vars_hold f t m) h)
    where
      held : (t y v : ℕ) → bit_and t v ≡ t → bit_and y v ≡ v → bit_and t y ≡ t
      held = identity 3 (λ t y v. t ⊆ v ⇒ y ∩ v ≐ v ⇒ ∴ t ∩ y ≐ t) tt

  pub off_inside : (s : ℕ) → Mem f s → bit_and y (vars f) ≡ vars f → off y f ≡ 0 ∷ []
  unfolding off
  off_inside s ms h = image_one (without y) f s ms (λ t m. emptied t y (vars f) (vars_hold f t m) h)
    where
      emptied : (t y v : ℕ) → bit_and t v ≡ t → bit_and y v ≡ v → without y t ≡ 0
      emptied = identity 3 (λ t y v. t ⊆ v ⇒ y ∩ v ≐ v ⇒ ∴ t ∖ y ≐ ∅) tt

  pub onto_outside : (s : ℕ) → Mem f s → bit_and y (vars f) ≡ 0 → onto y f ≡ 0 ∷ []
  unfolding onto
  onto_outside s ms h = image_one (λ t. bit_and t y) f s ms (λ t m. emptied t y (vars f) (vars_hold f t m) h)
    where
      emptied : (t y v : ℕ) → bit_and t v ≡ t → bit_and y v ≡ 0 → bit_and t y ≡ 0
      emptied = identity 3 (λ t y v. t ⊆ v ⇒ apart y v ⇒ ∴ t ∩ y ≐ ∅) tt

  pub off_outside : Asc f → bit_and y (vars f) ≡ 0 → off y f ≡ f
  unfolding off
  off_outside asc h = image_same (without y) f asc (λ t m. held t y (vars f) (vars_hold f t m) h)
    where
      held : (t y v : ℕ) → bit_and t v ≡ t → bit_and y v ≡ 0 → without y t ≡ t
      held = identity 3 (λ t y v. t ⊆ v ⇒ apart y v ⇒ ∴ t ∖ y ≐ t) tt

-- ---- the projections of a product with no common variable are its factors

module _ (g h : List ℕ) (no_common : Apart g h) where
  pub onto_product : (t : ℕ) → Asc g → Mem h t → onto (vars g) (times g h) ≡ g
  onto_product t asc m =
      onto_times (vars g) g h
      ∙ ap₂ times (onto_inside (vars g) g asc (and_self (vars g))) (onto_outside (vars g) h t m no_common) ∙ times_one_right g asc

  pub off_product : (s : ℕ) → Asc h → Mem g s → off (vars g) (times g h) ≡ h
  off_product s asc m =
      off_times (vars g) g h
      ∙ ap₂ times (off_inside (vars g) g s m (and_self (vars g))) (off_outside (vars g) h asc no_common) ∙ times_one_left h asc
