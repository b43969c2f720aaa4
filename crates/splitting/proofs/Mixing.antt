-- Sets of variables along which a polynomial is closed under mixing: they are closed under intersection, union and difference, and
-- only the polynomial's own variables matter. Leans on the truth table of masks alone, and on vars-hold.
use mathlib.Core.Path.{◌≡◌, sym}
use mathlib.Core.Logic.{◌↔◌}
use mathlib.Core.List.{List}
use Prim.Native.Nat.{ℕ}
use lib.Bits.{bit_and, bit_or}
use Rattle.masks.specs.Bit.{without}
use Rattle.masks.proofs.Reflect.{identity, Set, ∅, ◌∩◌, ◌∪◌, ◌∖◌, ◌≐◌, ◌⊆◌, ∴◌, ◌⇒◌}
use Rattle.polys.specs.List.{Mem}
use Rattle.polys.specs.Poly.{vars}
use Rattle.polys.proofs.Lists.{mem_subst}
use Rattle.polys.proofs.Polys.{vars_hold}
use Rattle.splitting.specs.Mix.{mix, Closed}

-- mix, written for the truth table
abbrev pub mixed : Set → Set → Set → Set
mixed y s t = s ∩ y ∪ t ∖ y

-- ---- the three laws of mixing

pub mix_of_intersection : (y z s t : ℕ) → mix (bit_and y z) s t ≡ mix y (mix z s t) t
mix_of_intersection = identity 4 (λ y z s t. ∴ mixed (y ∩ z) s t ≐ mixed y (mixed z s t) t) tt

pub mix_of_union : (y z s t : ℕ) → mix (bit_or y z) s t ≡ mix y s (mix z s t)
mix_of_union = identity 4 (λ y z s t. ∴ mixed (y ∪ z) s t ≐ mixed y s (mixed z s t)) tt

pub mix_of_difference : (y z s t : ℕ) → mix (without y z) s t ≡ mix y t (mix z s t)
mix_of_difference = identity 4 (λ y z s t. ∴ mixed (z ∖ y) s t ≐ mixed y t (mixed z s t)) tt

pub mix_within : (y s t v : ℕ) → bit_and s v ≡ s → bit_and t v ≡ t → mix (bit_and y v) s t ≡ mix y s t
mix_within = identity 4 (λ y s t v. s ⊆ v ⇒ t ⊆ v ⇒ ∴ mixed (y ∩ v) s t ≐ mixed y s t) tt

-- ---- closed sets

module _ (f : List ℕ) where
  pub closed_intersection : (y z : ℕ) → Closed y f → Closed z f → Closed (bit_and y z) f
  closed_intersection y z p q s t ms mt =
      mem_subst f (mix y (mix z s t) t) (mix (bit_and y z) s t) (sym (mix_of_intersection y z s t)) (p (mix z s t) t (q s t ms mt) mt)

  pub closed_union : (y z : ℕ) → Closed y f → Closed z f → Closed (bit_or y z) f
  closed_union y z p q s t ms mt =
      mem_subst f (mix y s (mix z s t)) (mix (bit_or y z) s t) (sym (mix_of_union y z s t)) (p s (mix z s t) ms (q s t ms mt))

  pub closed_difference : (y z : ℕ) → Closed y f → Closed z f → Closed (without y z) f
  closed_difference y z p q s t ms mt =
      mem_subst f (mix y t (mix z s t)) (mix (without y z) s t) (sym (mix_of_difference y z s t)) (p t (mix z s t) mt (q s t ms mt))

  mix_in_vars : (y s t : ℕ) → Mem f s → Mem f t → mix (bit_and y (vars f)) s t ≡ mix y s t
  mix_in_vars y s t ms mt = mix_within y s t (vars f) (vars_hold f s ms) (vars_hold f t mt)

  -- only the variables of f matter
  pub closed_in_vars : (y : ℕ) → Closed y f ↔ Closed (bit_and y (vars f)) f
  closed_in_vars y = (
    (λ p s t ms mt. mem_subst f (mix y s t) (mix (bit_and y (vars f)) s t) (sym (mix_in_vars y s t ms mt)) (p s t ms mt)),
    (λ p s t ms mt. mem_subst f (mix (bit_and y (vars f)) s t) (mix y s t) (mix_in_vars y s t ms mt) (p s t ms mt)),
  )

  pub closed_vars : Closed (vars f) f
  closed_vars s t ms mt = mem_subst f s (mix (vars f) s t) (sym (all s t (vars f) (vars_hold f s ms) (vars_hold f t mt))) ms
    where
      all : (s t v : ℕ) → bit_and s v ≡ s → bit_and t v ≡ t → mix v s t ≡ s
      all = identity 3 (λ s t v. s ⊆ v ⇒ t ⊆ v ⇒ ∴ mixed v s t ≐ s) tt

  pub closed_nothing : Closed 0 f
  closed_nothing s t ms mt = mem_subst f t (mix 0 s t) (sym (none s t)) mt
    where
      none : (s t : ℕ) → mix 0 s t ≡ t
      none = identity 2 (λ s t. ∴ mixed ∅ s t ≐ t) tt
