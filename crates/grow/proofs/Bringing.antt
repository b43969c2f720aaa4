-- What belongs to whatever y belongs to: what the counts of a variable of y say, and the least difference from a term, outside y, of the
-- terms that are one and the same on y. Leans on the laws of counting and on what was picked.
use Prim.Native.Nat.{ℕ, ◌≤◌, ◌^◌}
use mathlib.Core.Path.{◌≡◌, refl, sym, ap, ap₂, ◌∙◌, subst}
use mathlib.Core.Bool.{Bool, true, false, ◌&&◌}
use mathlib.Core.List.{List}
use native.Mathlib.Nat.{le_trans, le_of_eq, le_antisymm}
use lib.Bits.{bit_and, bit_or, and_le_l}
use lib.ListN.{get_or}
use Rattle.masks.specs.Bit.{bit, without}
use Rattle.masks.proofs.Bits.{bit_and_lem, bit_ext}
use Rattle.masks.proofs.Reflect.{identity, ∅, ◌∩◌, ◌∪◌, ◌⊕◌, ◌∖◌, ◌≐◌, ◌⊆◌, apart, ∴◌, ◌⇒◌}
use Rattle.masks.proofs.Sets.{or_subset, bit_of_power_subset}
use Rattle.polys.specs.List.{Mem, Asc}
use Rattle.polys.specs.Poly.{vars, times}
use Rattle.polys.proofs.Lists.{mem_subst, mem_at, at_mem}
use Rattle.splitting.specs.Mix.{mix, Closed}
use Rattle.splitting.proofs.Forced.{Forced}
use Rattle.splitting.proofs.Holding.{forced_by_counts}
use Rattle.counts.specs.Planes.{Uneven}
use Rattle.grow.specs.Steps.{differs, first, Agrees, Least, Picks, Belongs, Brings}
use Rattle.grow.proofs.Picked.{two_halves, first_is_picked_from, found_inside, found_outside, union_halves, union_of_halves, closed_if_same}

-- ---- none, and more and more

pub belongs_none : (f : List ℕ) (y : ℕ) → Belongs f y 0
belongs_none f y =
    record {
      outside = none y;
      inside = none (vars f);
      forced = λ i h. subst (λ (v : ℕ). Forced i v f) (same y) h;
    }
  where
    none : (y : ℕ) → bit_and 0 y ≡ 0
    none = identity 1 (λ y. ∴ ∅ ∩ y ≐ ∅) tt

    same : (y : ℕ) → y ≡ bit_or y 0
    same = identity 1 (λ y. ∴ y ≐ y ∪ ∅) tt

pub belongs_both : (f : List ℕ) (y d more : ℕ) → Belongs f y d → Belongs f (bit_or y d) more → Belongs f y (bit_or d more)
belongs_both f y d more a b =
    record {
      outside = apart_both d more y a.outside b.outside;
      inside = or_subset d more (vars f) a.inside b.inside;
      forced = λ i h. subst (λ (v : ℕ). Forced i v f) (together y d more) (b.forced i (a.forced i h));
    }
  where
    apart_both : (d m y : ℕ) → bit_and d y ≡ 0 → bit_and m (bit_or y d) ≡ 0 → bit_and (bit_or d m) y ≡ 0
    apart_both = identity 3 (λ d m y. apart d y ⇒ apart m (y ∪ d) ⇒ ∴ apart (d ∪ m) y) tt

    together : (y d m : ℕ) → bit_or (bit_or y d) m ≡ bit_or y (bit_or d m)
    together = identity 3 (λ y d m. ∴ (y ∪ d) ∪ m ≐ y ∪ (d ∪ m)) tt

-- ---- by counting

-- a set whose every variable is in another lies in it
subset_by_bits : (a b : ℕ) → ((i : ℕ) → bit a i ≡ true → bit b i ≡ true) → bit_and a b ≡ a
subset_by_bits a b h = bit_ext (bit_and a b) a (λ i. bit_and_lem a b i ∙ both (bit a i) (bit b i) (h i))
  where
    both : (p q : Bool) → (p ≡ true → q ≡ true) → p && q ≡ p
    both true q k = k refl
    both false q k = refl

-- those whose counts are uneven with a variable of y
pub belongs_by_counts : (f : List ℕ) (y w x more : ℕ) → Asc f → w ≡ without y (vars f) → bit_and x y ≡ x → bit_and more w ≡ more
    → ((v : ℕ) → bit more v ≡ true → Uneven f x (2 ^ v)) → Belongs f y more
belongs_by_counts f y w x more asc others held among uneven =
    record {
      outside = beyond more y w (vars f) others among;
      inside = within more y w (vars f) others among;
      forced = λ i h z closed holds.
          or_subset y more z (h z closed holds)
          (subset_by_bits more z (λ v e. bit_of_power_subset v z (forced_by_counts f y x v asc held (uneven v e) i h z closed holds)));
    }
  where
    beyond : (m y w v : ℕ) → w ≡ without y v → bit_and m w ≡ m → bit_and m y ≡ 0
    beyond = identity 4 (λ m y w v. w ≐ v ∖ y ⇒ m ⊆ w ⇒ ∴ apart m y) tt

    within : (m y w v : ℕ) → w ≡ without y v → bit_and m w ≡ m → bit_and m v ≡ m
    within = identity 4 (λ m y w v. w ≐ v ∖ y ⇒ m ⊆ w ⇒ ∴ m ⊆ v) tt

-- ---- by the least difference

module _ (f : List ℕ) (y w : ℕ) (others : w ≡ without y (vars f)) where
  pub agrees_if_term : (s : ℕ) → Mem f s → Agrees f y s
  agrees_if_term s m = let p = at_mem f s m in (p.0, p.1, ap (λ (u : ℕ). bit_and u y) (sym p.2))

  -- t counts on w alone, where some term is what it is
  module _ (s t t' r : ℕ) (mt : Mem f t') (same : bit_and t' w ≡ bit_and t w) (least : Least f y w s t r) where
    u : ℕ
    u = get_or f least.from.0 0

    -- where z holds y and f is closed along z, the least difference lies in z: mixed with t' along z, its term would differ less
    in_closed : (z : ℕ) → Closed z f → bit_and y z ≡ y → bit_and r z ≡ r
    unfolding u
    in_closed z closed within =
        let k = least.from in
        let v = mix z u t' in
        let p = at_mem f v (closed u t' (mem_at f k.0 k.1) mt) in
        let on_y : bit_and v y ≡ bit_and s y = mix_on y z u t' within ∙ k.2 in
        let bound : r ≤ differs w t v =
        subst (λ (x : ℕ). r ≤ differs w t x) (sym p.2)
        (least.bound p.0 p.1 (ap (λ (x : ℕ). bit_and x y) (sym p.2) ∙ on_y))
        in
        let less : differs w t v ≡ bit_and r z = mixed_differs z w u t t' same ∙ ap (λ (d : ℕ). bit_and d z) (sym k.3) in
        le_antisymm (and_le_l r z) (le_trans bound (le_of_eq less))
      where
        mix_on : (y z u t : ℕ) → bit_and y z ≡ y → bit_and (mix z u t) y ≡ bit_and u y
        mix_on = identity 4 (λ y z u t. y ⊆ z ⇒ ∴ ((u ∩ z) ∪ (t ∖ z)) ∩ y ≐ u ∩ y) tt

        mixed_differs : (z w u t t' : ℕ) → bit_and t' w ≡ bit_and t w → differs w t (mix z u t') ≡ bit_and (differs w t u) z
        mixed_differs = identity 5 (λ z w u t t'. t' ∩ w ≐ t ∩ w ⇒ ∴ (((u ∩ z) ∪ (t' ∖ z)) ⊕ t) ∩ w ≐ ((u ⊕ t) ∩ w) ∩ z) tt

    pub least_belongs : Belongs f y r
    unfolding u
    least_belongs =
        record {
          outside = beyond y w (vars f) r u t others least.from.3;
          inside = within y w (vars f) r u t others least.from.3;
          forced = λ i h z closed holds. or_subset y r z (h z closed holds) (in_closed z closed (h z closed holds));
        }
      where
        beyond : (y w v r u t : ℕ) → w ≡ without y v → r ≡ differs w t u → bit_and r y ≡ 0
        beyond = identity 6 (λ y w v r u t. w ≐ v ∖ y ⇒ r ≐ (u ⊕ t) ∩ w ⇒ ∴ apart r y) tt

        within : (y w v r u t : ℕ) → w ≡ without y v → r ≡ differs w t u → bit_and r v ≡ r
        within = identity 6 (λ y w v r u t. w ≐ v ∖ y ⇒ r ≐ (u ⊕ t) ∩ w ⇒ ∴ r ⊆ v) tt

    -- no difference: the mix is a term
    pub least_none : r ≡ 0 → Mem f (bit_or (bit_and s y) (bit_and t w))
    unfolding u
    least_none e =
        let k = least.from in
        let m : Mem f u = mem_at f k.0 k.1 in
        mem_subst f u (bit_or (bit_and s y) (bit_and t w))
        (sym (two_halves f y w others u m) ∙ ap₂ bit_or k.2 (alike w u t (sym k.3 ∙ e))) m
      where
        alike : (w u t : ℕ) → differs w t u ≡ 0 → bit_and u w ≡ bit_and t w
        alike = identity 3 (λ w u t. (u ⊕ t) ∩ w ≐ ∅ ⇒ ∴ u ∩ w ≐ t ∩ w) tt

-- ---- what the comparison of the list with the product of its picks brings

module _ (f : List ℕ) (y w : ℕ) (inside outside : List ℕ) (p : Picks f y w inside outside) where
  -- no difference
  pub brings_none : (r : ℕ) → r ≡ 0 → f ≡ times inside outside → Brings f y r
  brings_none r is e = rw is (record { belongs = belongs_none f y; closed = λ z. closed_if_same f y w inside outside p e })

  -- a term of the product that f lacks
  module _ (u : ℕ) (m : Mem (times inside outside) u) (n : ¬ Mem f u) where
    pub agrees_if_missing : Agrees f y u
    agrees_if_missing =
        let s = (union_halves f y w inside outside p u m).0 in
        let k = at_mem f s.0 s.1 in
        (k.0, k.1, ap (λ (x : ℕ). bit_and x y) (sym k.2) ∙ s.2)

    pub brings_if_missing : (r : ℕ) → Least f y w u u r → Brings f y r
    brings_if_missing r least =
        let h = union_halves f y w inside outside p u m in
        record {
          belongs = least_belongs f y w p.others u u h.1.0 r h.1.1 h.1.2 least;
          closed = λ e.
              absurd (n (mem_subst f (bit_or (bit_and u y) (bit_and u w)) u h.2
              (least_none f y w p.others u u h.1.0 r h.1.1 h.1.2 least e)));
        }

  -- a term of f that the product lacks: with the first term v on the one side,
  module _ (u : ℕ) (m : Mem f u) (n : ¬ Mem (times inside outside) u) (v d : ℕ) (is : v ≡ first f) (found : Least f y w u v d) where
    first_term : Mem f (first f)
    first_term = first_is_picked_from f y w inside outside p

    one : Least f y w u (first f) d
    one = subst (λ (t : ℕ). Least f y w u t d) is found

    pub brings_if_extra : ¬ (d ≡ 0) → Brings f y d
    brings_if_extra some =
        record {
          belongs = least_belongs f y w p.others u (first f) (first f) d first_term refl one;
          closed = λ e. absurd (some e);
        }

    -- or on the other
    pub brings_on_the_other_side : d ≡ 0 → (r : ℕ) → Least f y w v u r → Brings f y r
    brings_on_the_other_side none r found' =
        let other = subst (λ (s : ℕ). Least f y w s u r) is found' in
        record {
          belongs = least_belongs f y w p.others (first f) u u r m refl other;
          closed = λ e.
              absurd (n (union_of_halves f y w inside outside p u m
              (found_inside f y w inside outside p u (least_none f y w p.others u (first f) (first f) d first_term refl one none))
              (found_outside f y w inside outside p u (least_none f y w p.others (first f) u u r m refl other e))));
        }
