-- The next part of a list with more variables in every term: the lowest of these, or the part of the lowest variable of the list.
-- Leans on the laws of variables that every term holds.
use Prim.Native.Nat.{ℕ, ◌^◌, ◌≤◌, ◌<◌}
use mathlib.Core.Path.{◌≡◌, refl, sym, ap, ap₂, ◌∙◌, subst}
use mathlib.Core.Bool.{Bool, true, false, ◌||◌, true≢false}
use mathlib.Core.List.{List, [], ◌∷◌}
use native.Mathlib.Omega.{arith}
use native.Mathlib.Nat.{pos_of_ne-zero}
use native.Mathlib.Decide.{dec_le}
use lib.Bits.{bit_and, bit_or}
use lib.ListN.{length, get_or, take, set}
use lib.Seq.{length-take-le}
use Rattle.masks.specs.Bit.{bit, without}
use Rattle.masks.proofs.Bits.{bit_or_lem, bit_zero, bit_power_same}
use Rattle.masks.proofs.Lowest.{low, IsLowest, low_is_lowest}
use Rattle.masks.proofs.Reflect.{identity, ◌∪◌, ◌∖◌, ◌≐◌, ◌⊆◌, apart, ∴◌, ◌⇒◌}
use Rattle.masks.proofs.Sets.{power_subset}
use Rattle.polys.specs.List.{Mem, Asc}
use Rattle.polys.specs.Poly.{vars, onto, off}
use Rattle.polys.proofs.Lists.{mem_at}
use Rattle.polys.proofs.Polys.{vars_off, off_asc}
use Rattle.splitting.proofs.Forced.{Forced}
use Rattle.splitting.proofs.Part.{forced_start}
use Rattle.splitting.proofs.Held.{held, vars_held, length_held, onto_held, off_held, closed_held, forced_held, onto_one, off_one, closed_one}
use Rattle.grow.specs.Steps.{PartOfLowest}
use Rattle.answer.specs.Ends.{over}
use Rattle.taking.specs.Steps.{Ready, Taken, TakenNext}

module _ (c all : ℕ) (work : List ℕ) (n : ℕ) (ready : Ready (take n work) work n all) (free : bit_and c all ≡ 0)
    (some : ¬ (bit_or c all ≡ 0)) where
  g : List ℕ
  g = take n work

  g_length : length g ≡ n
  unfolding g
  g_length = length-take-le n work (omega (arith, ready.room))

  g_asc : Asc g
  unfolding g
  g_asc = ready.ascends

  g_free : bit_and c (vars g) ≡ 0
  unfolding g
  g_free = ap (bit_and c) (sym ready.variables) ∙ free

  g_vars : all ≡ vars g
  unfolding g
  g_vars = ready.variables

  g_first : Mem g (get_or g 0 0)
  g_first = mem_at g 0 (omega (arith, g_length, ready.some))

  whole_vars : vars (held c g) ≡ bit_or c all
  whole_vars = vars_held c g g_free (get_or g 0 0) g_first ∙ ap (bit_or c) (sym g_vars)

  -- the lowest variable of both
  found : (i : ℕ) × (low (bit_or c all) ≡ 2 ^ i) × IsLowest (bit_or c all) i
  found = low_is_lowest (bit_or c all) (pos_of_ne-zero some)

  -- ---- it is one that every term holds

  module _ (x : ℕ) (is : x ≡ low (bit_or c all)) (one : bit_and x c ≡ x) where
    power : x ≡ 2 ^ found.0
    power = is ∙ found.1

    alone : PartOfLowest (held c g) x
    alone =
        record {
          inside = ap (bit_and x) whole_vars ∙ within x c all one;
          closed = closed_one c x g g_free one (get_or g 0 0) g_first;
          lowest = (
            found.0,
            ap (λ (m : ℕ). bit m found.0) power ∙ bit_power_same found.0,
            subst (λ (m : ℕ). IsLowest m found.0) (sym whole_vars) found.2,
            subst (λ (m : ℕ). Forced found.0 m (held c g)) (sym power) (forced_start found.0 (held c g)),
          );
        }
      where
        within : (x c v : ℕ) → bit_and x c ≡ x → bit_and x (bit_or c v) ≡ x
        within = identity 3 (λ x c v. x ⊆ c ⇒ ∴ x ⊆ c ∪ v) tt

    set_first : (room : List ℕ) → 0 < length room → set room 0 x ≡ over (x ∷ []) room
    set_first [] h = absurd (let e : ⊥ = omega arith in e)
    set_first (r ∷ room) h = refl

    pub next_held : (room : List ℕ) → n ≤ length room → TakenNext c (take n work) room (set room 0 x) work n all x 1 n
    unfolding g
    next_held room fits =
        let onto_x : onto x (held c g) ≡ x ∷ [] = onto_one c x g g_free one (get_or g 0 0) g_first in
        let off_x : off x (held c g) ≡ held (without x c) g = off_one c x g g_free one (get_or g 0 0) g_first in
        record {
          lowest = alone;
          written = set_first room (omega (arith, ready.some)) ∙ ap (λ (p : List ℕ). over p room) (sym onto_x);
          part_count = sym (ap length onto_x);
          left = sym off_x;
          ascends = g_asc;
          variables = elsewhere x c all free one ∙ g_vars;
          rest_count = sym (ap length off_x ∙ length_held (without x c) g (still x c (vars g) g_free) g_asc ∙ g_length);
          part_fits = omega (arith, ready.some);
          rest_fits = omega arith;
        }
      where
        elsewhere : (x c v : ℕ) → bit_and c v ≡ 0 → bit_and x c ≡ x → without x v ≡ v
        elsewhere = identity 3 (λ x c v. apart c v ⇒ x ⊆ c ⇒ ∴ v ∖ x ≐ v) tt

        still : (x c v : ℕ) → bit_and c v ≡ 0 → bit_and (without x c) v ≡ 0
        still = identity 3 (λ x c v. apart c v ⇒ ∴ apart (c ∖ x) v) tt

  -- ---- it is one of the list

  module _ (x : ℕ) (is : x ≡ low (bit_or c all)) (other : bit_and x c ≡ x → ⊥) where
    not_held : bit c found.0 ≡ false
    not_held = go (bit c found.0) refl
      where
        go : (b : Bool) → bit c found.0 ≡ b → bit c found.0 ≡ false
        go true e = absurd (other (subst (λ (m : ℕ). bit_and m c ≡ m) (sym (is ∙ found.1)) (power_subset found.0 c e)))
        go false e = e

    in_list : bit all found.0 ≡ true
    in_list = sym (bit_or_lem c all found.0 ∙ ap (λ (b : Bool). b || bit all found.0) not_held) ∙ found.2.0

    pub list_varies : 0 < all
    list_varies = pos_of_ne-zero (λ e. true≢false (sym in_list ∙ ap (λ (m : ℕ). bit m found.0) e ∙ bit_zero found.0))

    -- the lowest of the list is the lowest of both
    lowest_of_both : (i : ℕ) → IsLowest (vars g) i → IsLowest (bit_or c all) i
    lowest_of_both i l = go (dec_le i found.0) (dec_le found.0 i)
      where
        same : i ≡ found.0 → IsLowest (bit_or c all) i
        same e = subst (IsLowest (bit_or c all)) (sym e) found.2

        go : Dec (i ≤ found.0) → Dec (found.0 ≤ i) → IsLowest (bit_or c all) i
        go (yes p) (yes q) = same (omega arith)
        go (no p) q = absurd (true≢false (sym in_list ∙ ap (λ (m : ℕ). bit m found.0) g_vars ∙ l.1 found.0 (omega arith)))
        go (yes p) (no q) =
            absurd
            (true≢false
            (sym (bit_or_lem c all i ∙ ap (λ (b : Bool). bit c i || b) (ap (λ (m : ℕ). bit m i) g_vars ∙ l.0) ∙ either_true (bit c i)) ∙ found.2.1 i (omega arith)))
          where
            either_true : (b : Bool) → b || true ≡ true
            either_true true = refl
            either_true false = refl

    module _ (room room' work' : List ℕ) (y part rest : ℕ) (taken : Taken (take n work) room room' work' n y part rest) where
      within : bit_and y (vars g) ≡ y
      unfolding g
      within = taken.lowest.inside

      rest_free : bit_and c (vars (off y g)) ≡ 0
      rest_free = ap (bit_and c) (vars_off y g) ∙ law c y (vars g) g_free
        where
          law : (c y v : ℕ) → bit_and c v ≡ 0 → bit_and c (without y v) ≡ 0
          law = identity 3 (λ c y v. apart c v ⇒ ∴ apart c (v ∖ y)) tt

      part_of_both : PartOfLowest (held c g) y
      unfolding g
      part_of_both =
          let l = taken.lowest.lowest in
          record {
            inside = ap (bit_and y) whole_vars ∙ law y c all (vars g) g_vars within;
            closed = closed_held c g g_free g_asc y within taken.lowest.closed;
            lowest = (
              l.0,
              l.1,
              subst (λ (m : ℕ). IsLowest m l.0) (sym whole_vars) (lowest_of_both l.0 l.2),
              forced_held c g g_free g_asc y within l.0 l.3,
            );
          }
        where
          law : (y c a v : ℕ) → a ≡ v → bit_and y v ≡ y → bit_and y (bit_or c a) ≡ y
          law = identity 4 (λ y c a v. a ≐ v ⇒ y ⊆ v ⇒ ∴ y ⊆ c ∪ a) tt

      pub next_found : TakenNext c (take n work) room room' work' n all y part rest
      unfolding g
      next_found =
          let onto_y : onto y (held c g) ≡ onto y g = onto_held c g g_free g_asc y within in
          let off_y : off y (held c g) ≡ held c (off y g) = off_held c g g_free g_asc y within in
          record {
            lowest = part_of_both;
            written = taken.written ∙ ap (λ (p : List ℕ). over p room) (sym onto_y);
            part_count = taken.part_count ∙ ap length (sym onto_y);
            left = ap₂ held (kept y c (vars g) g_free within) taken.left ∙ sym off_y;
            ascends = subst Asc (sym taken.left) (off_asc y g);
            variables = ap (without y) g_vars ∙ sym (vars_off y g) ∙ ap vars (sym taken.left);
            rest_count = taken.rest_count ∙ sym (ap length off_y ∙ length_held c (off y g) rest_free (off_asc y g));
            part_fits = taken.part_fits;
            rest_fits = taken.rest_fits;
          }
        where
          kept : (y c v : ℕ) → bit_and c v ≡ 0 → bit_and y v ≡ y → without y c ≡ c
          kept = identity 3 (λ y c v. apart c v ⇒ y ⊆ v ⇒ ∴ c ∖ y ≐ c) tt
