-- What stands in the two rooms: what was picked from the list, as the calls are lent it; where y is closed, the two picks are the two
-- projections. Leans on the theory of picking.
use Prim.Native.Nat.{ℕ, ◌-◌}
use mathlib.Core.Path.{◌≡◌, sym, ap, ap₂, ◌∙◌, subst}
use mathlib.Core.List.{List, [], ◌∷◌}
use native.Mathlib.Omega.{arith}
use lib.Bits.{bit_and, bit_or, and_self}
use lib.ListN.{length, take}
use Rattle.masks.specs.Bit.{without}
use Rattle.masks.proofs.Lowest.{low}
use Rattle.masks.proofs.Reflect.{identity, ∅, ◌∪◌, ◌∖◌, ◌≐◌, ◌⊆◌, ∴◌, ◌⇒◌}
use Rattle.masks.proofs.Sets.{without_within}
use Rattle.polys.specs.List.{Mem, Asc}
use Rattle.polys.specs.Poly.{vars, onto, off}
use Rattle.polys.proofs.Lists.{mem_at}
use Rattle.polys.proofs.Polys.{vars_hold}
use Rattle.splitting.specs.Mix.{Closed, pick}
use Rattle.splitting.proofs.Image.{onto_inside, off_inside}
use Rattle.splitting.proofs.Mixing.{closed_vars}
use Rattle.splitting.proofs.Picks.{inner, outer, onto_is_inner, off_is_outer}
use Rattle.counts.specs.Planes.{Tallied}
use Rattle.grow.specs.Steps.{first, Picks, Laid, LaidWhole, Stands, Growable, Belongs, Brings, StepWhole, StepMore}
use Rattle.grow.proofs.Bringing.{belongs_both}

module _ (f : List ℕ) (y w : ℕ) (others : w ≡ without y (vars f)) (mf : Mem f (first f)) where
  first_outside : bit_and (first f) w ≡ without y (first f)
  first_outside = ap (bit_and (first f)) others ∙ sym (without_within y (first f) (vars f) (vars_hold f (first f) mf))

  inside_is_inner : pick y w (bit_and (first f) w) f ≡ inner y f (first f)
  inside_is_inner = ap₂ (λ (k v : ℕ). pick y k v f) others first_outside

  outside_is_outer : pick w y (bit_and (first f) y) f ≡ outer y f (first f)
  outside_is_outer = ap (λ (k : ℕ). pick k y (bit_and (first f) y) f) others

  -- where y is closed, what is laid out are the two projections
  projections_stand : Asc f → Closed y f → (inside outside : List ℕ) (part rest : ℕ) → Laid f y w inside outside part rest
      → Stands f y inside outside part rest
  projections_stand asc closed inside outside part rest l =
      let i : pick y w (bit_and (first f) w) f ≡ onto y f = inside_is_inner ∙ sym (onto_is_inner y f (first f) asc mf closed) in
      let o : pick w y (bit_and (first f) y) f ≡ off y f = outside_is_outer ∙ sym (off_is_outer y f (first f) asc mf closed) in
      record {
        onto_y = l.inner ∙ i;
        off_y = l.outer ∙ o;
        part_count = l.part_count ∙ ap length i;
        rest_count = l.rest_count ∙ ap length o;
        part_fits = l.part_fits;
        rest_fits = l.rest_fits;
      }

module _ (f : List ℕ) (y all w : ℕ) (is : w ≡ without y all) (ready : Growable f y all) where
  all_others : w ≡ without y (vars f)
  all_others = is ∙ ap (without y) ready.variables

  module _ (inside outside : List ℕ) (part rest : ℕ) (laid : Laid f y w inside outside part rest) where
    -- what was picked from it
    pub picks_stand : (a b : List ℕ) → a ≡ take part inside → b ≡ take rest outside → Picks f y w a b
    picks_stand a b lent_inner lent_outer =
        record {
          ascends = ready.ascends;
          some = ready.some;
          others = all_others;
          inner = lent_inner ∙ laid.inner;
          outer = lent_outer ∙ laid.outer;
        }

    -- y is closed: the step ends with the whole part, where a difference brings nothing
    pub whole_if_none : (d : ℕ) → Brings f y d → d ≡ 0 → StepWhole f y inside outside part rest
    whole_if_none d b e =
        let closed = b.closed e in
        (closed, projections_stand f y w all_others (mem_at f 0 ready.some) ready.ascends closed inside outside part rest laid)

  -- what it brings is asked about by counting,
  pub ready_to_count : (d x y' w' : ℕ) (alone : List ℕ) → Tallied f alone → x ≡ low d → y' ≡ bit_or y d → w' ≡ without d w
      → Asc f × Tallied f alone × (w' ≡ without y' (vars f)) × (bit_and x y' ≡ x)
  ready_to_count d x y' w' alone tallied lowest more less =
      (ready.ascends, tallied, both d y y' w w' (vars f) all_others more less, lowest_inside d (d - 1) y y' x lowest more)
    where
      both : (d y y' w w' v : ℕ) → w ≡ without y v → y' ≡ bit_or y d → w' ≡ without d w → w' ≡ without y' v
      both = identity 6 (λ d y y' w w' v. w ≐ v ∖ y ⇒ y' ≐ y ∪ d ⇒ w' ≐ w ∖ d ⇒ ∴ w' ≐ v ∖ y') tt

      lowest_inside : (d k y y' x : ℕ) → x ≡ without k d → y' ≡ bit_or y d → bit_and x y' ≡ x
      lowest_inside = identity 5 (λ d k y y' x. x ≐ d ∖ k ⇒ y' ≐ y ∪ d ⇒ ∴ x ⊆ y') tt

-- and the step ends with both
pub grows_as_said : (f : List ℕ) (y d y' more r : ℕ) → Brings f y d → ¬ (d ≡ 0) → y' ≡ bit_or y d → Belongs f y' more → r ≡ bit_or d more
    → StepMore f y r
grows_as_said f y d y' more r b some joined m all_of = (
  subst (Belongs f y) (sym all_of) (belongs_both f y d more b.belongs (subst (λ (z : ℕ). Belongs f z more) joined m)),
  (λ e. some (left_none d more r all_of e)),
)
  where
    left_none : (d m r : ℕ) → r ≡ bit_or d m → r ≡ 0 → d ≡ 0
    left_none = identity 3 (λ d m r. r ≐ d ∪ m ⇒ r ≐ ∅ ⇒ ∴ d ≐ ∅) tt

-- all variables are closed: the whole list is the part
pub whole_list : (f : List ℕ) (y all : ℕ) → Growable f y all → y ≡ all → (inside outside : List ℕ) (part rest : ℕ)
    → LaidWhole f inside outside part rest → StepWhole f y inside outside part rest
whole_list f y all ready e inside outside part rest l =
    let same : y ≡ vars f = e ∙ ready.variables in
    let covers : bit_and y (vars f) ≡ vars f = ap (λ (k : ℕ). bit_and k (vars f)) same ∙ and_self (vars f) in
    let on : onto y f ≡ f = onto_inside y f ready.ascends covers in
    let out : off y f ≡ 0 ∷ [] = off_inside y f (first f) (mem_at f 0 ready.some) covers in (
      subst (λ (v : ℕ). Closed v f) (sym same) (closed_vars f),
      record {
        onto_y = l.inner ∙ sym on;
        off_y = l.outer ∙ sym out;
        part_count = l.part_count ∙ ap length (sym on);
        rest_count = l.rest_count ∙ ap length (sym out);
        part_fits = omega (arith, l.part_count);
        rest_fits = omega (arith, l.rest_count, ready.some);
      },
    )
