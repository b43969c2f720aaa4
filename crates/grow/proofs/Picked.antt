-- The two lists that are picked from a list along y: they ascend and share no variable, and what holding the list against their product
-- says of it. Leans on the truth table of masks and on the laws of picking.
use Prim.Native.Nat.{ℕ, ◌<◌}
use mathlib.Core.Path.{◌≡◌, refl, sym, ap, ap₂, ◌∙◌, subst}
use mathlib.Core.List.{List}
use native.Mathlib.Omega.{arith}
use lib.Bits.{bit_and, bit_or}
use lib.ListN.{length}
use Rattle.masks.specs.Bit.{without}
use Rattle.masks.proofs.Reflect.{identity, ◌∩◌, ◌∪◌, ◌∖◌, ◌≐◌, ◌⊆◌, apart, ∴◌, ◌⇒◌}
use Rattle.masks.proofs.Sets.{without_within}
use Rattle.polys.specs.List.{Mem, Asc}
use Rattle.polys.specs.Poly.{vars, times}
use Rattle.polys.proofs.Lists.{mem_subst, mem_at, at_mem}
use Rattle.polys.proofs.Polys.{vars_hold, vars_least, times_mem, mem_times}
use Rattle.splitting.specs.Mix.{mix, Closed, pick}
use Rattle.splitting.proofs.Picks.{mem_pick, pick_mem, inner_asc, outer_asc}
use Rattle.walk.specs.Walk.{Comparable}
use Rattle.grow.specs.Steps.{Picks, first}

-- a term is what it is on y and on the other variables
pub two_halves : (f : List ℕ) (y w : ℕ) → w ≡ without y (vars f) → (u : ℕ) → Mem f u → bit_or (bit_and u y) (bit_and u w) ≡ u
two_halves f y w others u m = ap (λ (k : ℕ). bit_or (bit_and u y) (bit_and u k)) others ∙ law y u (vars f) (vars_hold f u m)
  where
    law : (y u v : ℕ) → bit_and u v ≡ u → bit_or (bit_and u y) (bit_and u (without y v)) ≡ u
    law = identity 3 (λ y u v. u ⊆ v ⇒ ∴ (u ∩ y) ∪ (u ∩ (v ∖ y)) ≐ u) tt

module _ (f : List ℕ) (y w : ℕ) (inside outside : List ℕ) (p : Picks f y w inside outside) where
  pub first_is_picked_from : Mem f (first f)
  first_is_picked_from = mem_at f 0 p.some

  -- ---- the two lists that were picked

  outside_ascends : Asc outside
  outside_ascends =
      subst Asc (sym (p.outer ∙ ap (λ (k : ℕ). pick k y (bit_and (first f) y) f) p.others)) (outer_asc y f (first f) p.ascends)

  inside_ascends : Asc inside
  inside_ascends =
      subst Asc
      (sym (p.inner ∙ ap₂ (λ (k v : ℕ). pick y k v f) p.others (ap (bit_and (first f)) p.others ∙ sym (without_within y (first f) (vars f) (vars_hold f (first f) first_is_picked_from)))))
      (inner_asc y f (first f) p.ascends)

  -- what each is picked from
  inside_from : (x : ℕ) → Mem inside x → (s : ℕ) × Mem f s × (bit_and s w ≡ bit_and (first f) w) × (x ≡ bit_and s y)
  inside_from x m = pick_mem y w (bit_and (first f) w) f x (subst (λ (l : List ℕ). Mem l x) p.inner m)

  outside_from : (x : ℕ) → Mem outside x → (t : ℕ) × Mem f t × (bit_and t y ≡ bit_and (first f) y) × (x ≡ bit_and t w)
  outside_from x m = pick_mem w y (bit_and (first f) y) f x (subst (λ (l : List ℕ). Mem l x) p.outer m)

  picked_inside : (s : ℕ) → Mem f s → bit_and s w ≡ bit_and (first f) w → Mem inside (bit_and s y)
  picked_inside s m e =
      subst (λ (l : List ℕ). Mem l (bit_and s y)) (sym p.inner) (mem_pick y w (bit_and (first f) w) f (bit_and s y) (s, m, e, refl))

  picked_outside : (t : ℕ) → Mem f t → bit_and t y ≡ bit_and (first f) y → Mem outside (bit_and t w)
  picked_outside t m e =
      subst (λ (l : List ℕ). Mem l (bit_and t w)) (sym p.outer) (mem_pick w y (bit_and (first f) y) f (bit_and t w) (t, m, e, refl))

  -- the one lies in y, the other outside
  within_y : (x : ℕ) → Mem inside x → bit_and x y ≡ x
  within_y x m = let s = inside_from x m in kept y x s.0 s.3
    where
      kept : (k x t : ℕ) → x ≡ bit_and t k → bit_and x k ≡ x
      kept = identity 3 (λ k x t. x ≐ t ∩ k ⇒ ∴ x ⊆ k) tt

  within_w : (x : ℕ) → Mem outside x → bit_and x w ≡ x
  within_w x m = let t = outside_from x m in kept w x t.0 t.3
    where
      kept : (k x t : ℕ) → x ≡ bit_and t k → bit_and x k ≡ x
      kept = identity 3 (λ k x t. x ≐ t ∩ k ⇒ ∴ x ⊆ k) tt

  -- so the list can be held against their product
  pub comparable : Comparable inside outside f
  comparable =
      record {
        factors = record {
          first = inside_ascends;
          second = outside_ascends;
          apart = law y w (vars inside) (vars outside) (vars f) p.others (vars_least inside y within_y) (vars_least outside w within_w);
          some_first = some_inside;
          some_second = some_outside;
        };
        list = p.ascends;
      }
    where
      law : (y w a b v : ℕ) → w ≡ without y v → bit_and a y ≡ a → bit_and b w ≡ b → bit_and a b ≡ 0
      law = identity 5 (λ y w a b v. w ≐ v ∖ y ⇒ a ⊆ y ⇒ b ⊆ w ⇒ ∴ apart a b) tt

      some_inside : 0 < length inside
      some_inside = let k = at_mem inside (bit_and (first f) y) (picked_inside (first f) first_is_picked_from refl) in omega (arith, k.1)

      some_outside : 0 < length outside
      some_outside = let k = at_mem outside (bit_and (first f) w) (picked_outside (first f) first_is_picked_from refl) in omega (arith, k.1)

  -- ---- what is inside or outside, with the first term on the other side, is the term that it was picked from

  pub found_inside : (u : ℕ) → Mem f (bit_or (bit_and u y) (bit_and (first f) w)) → Mem inside (bit_and u y)
  found_inside u m =
      subst (Mem inside) (on_y y w u (first f) (vars f) p.others)
      (picked_inside (bit_or (bit_and u y) (bit_and (first f) w)) m (on_w y w u (first f) (vars f) p.others))
    where
      on_y : (y w u a v : ℕ) → w ≡ without y v → bit_and (bit_or (bit_and u y) (bit_and a w)) y ≡ bit_and u y
      on_y = identity 5 (λ y w u a v. w ≐ v ∖ y ⇒ ∴ ((u ∩ y) ∪ (a ∩ w)) ∩ y ≐ u ∩ y) tt

      on_w : (y w u a v : ℕ) → w ≡ without y v → bit_and (bit_or (bit_and u y) (bit_and a w)) w ≡ bit_and a w
      on_w = identity 5 (λ y w u a v. w ≐ v ∖ y ⇒ ∴ ((u ∩ y) ∪ (a ∩ w)) ∩ w ≐ a ∩ w) tt

  pub found_outside : (u : ℕ) → Mem f (bit_or (bit_and (first f) y) (bit_and u w)) → Mem outside (bit_and u w)
  found_outside u m =
      subst (Mem outside) (on_w y w u (first f) (vars f) p.others)
      (picked_outside (bit_or (bit_and (first f) y) (bit_and u w)) m (on_y y w u (first f) (vars f) p.others))
    where
      on_y : (y w u a v : ℕ) → w ≡ without y v → bit_and (bit_or (bit_and a y) (bit_and u w)) y ≡ bit_and a y
      on_y = identity 5 (λ y w u a v. w ≐ v ∖ y ⇒ ∴ ((a ∩ y) ∪ (u ∩ w)) ∩ y ≐ a ∩ y) tt

      on_w : (y w u a v : ℕ) → w ≡ without y v → bit_and (bit_or (bit_and a y) (bit_and u w)) w ≡ bit_and u w
      on_w = identity 5 (λ y w u a v. w ≐ v ∖ y ⇒ ∴ ((a ∩ y) ∪ (u ∩ w)) ∩ w ≐ u ∩ w) tt

  -- ---- what stands in the product of the two

  -- it is on y what some term is, and on w what some term is
  pub union_halves : (u : ℕ) → Mem (times inside outside) u
      → ((s : ℕ) × Mem f s × (bit_and s y ≡ bit_and u y)) × ((t : ℕ) × Mem f t × (bit_and t w ≡ bit_and u w)) × (bit_or (bit_and u y) (bit_and u w) ≡ u)
  union_halves u m =
      let a = times_mem inside outside u m in
      let on : bit_and u y ≡ a.0 = law_y y w (vars f) u a.0 a.1 p.others a.4 (within_y a.0 a.2) (within_w a.1 a.3) in
      let out : bit_and u w ≡ a.1 = law_w y w (vars f) u a.0 a.1 p.others a.4 (within_y a.0 a.2) (within_w a.1 a.3) in
      let s = inside_from a.0 a.2 in
      let t = outside_from a.1 a.3 in (
        (s.0, s.1, sym s.3 ∙ sym on),
        (t.0, t.1, sym t.3 ∙ sym out),
        ap₂ bit_or on out ∙ sym a.4,
      )
    where
      law_y : (y w v u a b : ℕ) → w ≡ without y v → u ≡ bit_or a b → bit_and a y ≡ a → bit_and b w ≡ b → bit_and u y ≡ a
      law_y = identity 6 (λ y w v u a b. w ≐ v ∖ y ⇒ u ≐ a ∪ b ⇒ a ⊆ y ⇒ b ⊆ w ⇒ ∴ u ∩ y ≐ a) tt

      law_w : (y w v u a b : ℕ) → w ≡ without y v → u ≡ bit_or a b → bit_and a y ≡ a → bit_and b w ≡ b → bit_and u w ≡ b
      law_w = identity 6 (λ y w v u a b. w ≐ v ∖ y ⇒ u ≐ a ∪ b ⇒ a ⊆ y ⇒ b ⊆ w ⇒ ∴ u ∩ w ≐ b) tt

  -- a term whose halves were both picked stands in it
  pub union_of_halves : (u : ℕ) → Mem f u → Mem inside (bit_and u y) → Mem outside (bit_and u w) → Mem (times inside outside) u
  union_of_halves u m a b =
      mem_subst (times inside outside) (bit_or (bit_and u y) (bit_and u w)) u (two_halves f y w p.others u m) (mem_times inside outside (bit_and u y) (bit_and u w) a b)

  -- a list that is this product is closed along y
  pub closed_if_same : f ≡ times inside outside → Closed y f
  closed_if_same e s t ms mt =
      let a = times_mem inside outside s (subst (λ (l : List ℕ). Mem l s) e ms) in
      let b = times_mem inside outside t (subst (λ (l : List ℕ). Mem l t) e mt) in
      let same : bit_or a.0 b.1 ≡ mix y s t =
      law y w (vars f) s t a.0 a.1 b.0 b.1 p.others a.4 b.4
      (within_y a.0 a.2) (within_w a.1 a.3) (within_y b.0 b.2) (within_w b.1 b.3)
      in
      subst (λ (l : List ℕ). Mem l (mix y s t)) (sym e)
      (mem_subst (times inside outside) (bit_or a.0 b.1) (mix y s t) same (mem_times inside outside a.0 b.1 a.2 b.3))
    where
      law : (y w v s t a b c d : ℕ) → w ≡ without y v → s ≡ bit_or a b → t ≡ bit_or c d → bit_and a y ≡ a → bit_and b w ≡ b
          → bit_and c y ≡ c → bit_and d w ≡ d → bit_or a d ≡ mix y s t
      law = identity 9 (λ y w v s t a b c d. w ≐ v ∖ y ⇒ s ≐ a ∪ b ⇒ t ≐ c ∪ d ⇒ a ⊆ y ⇒ b ⊆ w ⇒ c ⊆ y ⇒ d ⊆ w ⇒ ∴ a ∪ d ≐ (s ∩ y) ∪ (t ∖ y)) tt
