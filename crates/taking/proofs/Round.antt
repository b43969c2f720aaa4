-- One round of split: a part is taken out of the rest and written, and what is left has fewer variables. Leans on the theory of
-- splitting for the parts, on the counts of products for the room.
use Prim.Native.Nat.{ℕ, suc, ◌+◌, ◌*◌, ◌≤◌, ◌<◌}
use mathlib.Core.Path.{◌≡◌, refl, sym, ap, ap₂, ◌∙◌, subst}
use mathlib.Core.Bool.{Bool, false}
use mathlib.Core.List.{List, [], ◌∷◌, ◌++◌, append_assoc, append-nil}
use native.Mathlib.Omega.{arith}
use borrow.Author.Tests.{eqb-false}
use lib.Bits.{bit_and, bit_or}
use lib.Count.{ones}
use lib.Dec.{eqb}
use lib.ListN.{length, get_or, take, drop, set, length-append, length-set, length-drop}
use lib.Seq.{length-take-le}
use Rattle.masks.specs.Bit.{without}
use Rattle.masks.proofs.Number.{ones_pos}
use Rattle.masks.proofs.Reflect.{identity, ∅, ◌∩◌, ◌∪◌, ◌∖◌, ◌≐◌, apart, ∴◌, ◌⇒◌}
use Rattle.masks.proofs.Sets.{without_or}
use Rattle.polys.specs.List.{Mem, Asc}
use Rattle.polys.specs.Poly.{vars, onto, off, Apart}
use Rattle.polys.specs.Parts.{IsParts}
use Rattle.polys.proofs.Lists.{mem_at}
use Rattle.polys.proofs.Polys.{vars_onto, vars_off, onto_asc, off_asc, mem_onto, mem_off, times_asc, times_one_left}
use Rattle.polys.proofs.Counts.{length_times}
use Rattle.splitting.proofs.Held.{held, vars_held, length_held}
use Rattle.splitting.proofs.Part.{no_parts}
use Rattle.splitting.proofs.Splits.{splits_of_closed}
use Rattle.splitting.proofs.Growing.{Growing, growing_done, rest_falls, rest_has_fewer}
use Rattle.unique.proofs.Counts.{sum_below_product}
use Rattle.grow.specs.Steps.{PartOfLowest}
use Rattle.taking.specs.Joined.{joined, lengths}
use Rattle.taking.specs.Steps.{Ready, TakenNext, Written}
use Rattle.taking.proofs.Splitting.{Splitting, stored_one_more, noted_one_more, joined_append, joined_one, lengths_append}

-- ---- the two projections along a part

module _ (g : List ℕ) (y : ℕ) (asc : Asc g) (lowest : PartOfLowest g y) where
  pub growing : Growing g lowest.lowest.0 y
  growing =
      record {
        lowest = lowest.lowest.2;
        holds = lowest.lowest.1;
        within = lowest.inside;
        forced = lowest.lowest.3;
      }

  apart_projections : Apart (onto y g) (off y g)
  apart_projections = ap₂ bit_and (vars_onto y g) (vars_off y g) ∙ law (vars g) y
    where
      law : (v y : ℕ) → bit_and (bit_and v y) (without y v) ≡ 0
      law = identity 2 (λ v y. ∴ (v ∩ y) ∩ (v ∖ y) ≐ ∅) tt

  -- their counts multiply to the list's
  counts : length (onto y g) * length (off y g) ≡ length g
  counts =
      sym (length_times (onto y g) (off y g) (onto_asc y g) (off_asc y g) apart_projections)
      ∙ ap length (sym (splits_of_closed y g asc lowest.closed))

  some_of : (l : List ℕ) (t : ℕ) → Mem l t → 0 < length l
  some_of [] t m = absurd m
  some_of (x ∷ l) t m = omega arith

  -- so together they are at most one longer
  pub room_of_projections : (t : ℕ) → Mem g t → (0 < length (off y g)) × (length (onto y g) + length (off y g) ≤ length g + 1)
  room_of_projections t m =
      let p : 0 < length (onto y g) = some_of (onto y g) (bit_and t y) (mem_onto y g t m) in
      let q : 0 < length (off y g) = some_of (off y g) (without y t) (mem_off y g t m) in
      (q, omega (arith, sum_below_product (length (onto y g)) (length (off y g)) p q, counts))

length_of_lengths : (ps : List (List ℕ)) → length (lengths ps) ≡ length ps
length_of_lengths [] = refl
length_of_lengths (q ∷ ps) = ap suc (length_of_lengths ps)

-- ---- the round

-- variables are left where a round begins
pub some_left : (empty : Bool) (u v : ℕ) → empty ≡ eqb u 0 → empty ≡ false → u ≡ v → v ≡ 0 → ⊥
some_left empty u v asked other is e = eqb-false u 0 (sym asked ∙ other) (is ∙ e)

module _ (f terms lens : List ℕ) (t m : ℕ) (terms' lens' work : List ℕ) (n at k c all : ℕ)
    (s : Splitting f terms lens t m terms' lens' work n at k c all) (more : bit_or c all ≡ 0 → ⊥) (lens_room : m ≤ length lens) (terms_room : t + m ≤ length terms) where
  left : 0 < ones (bit_or c all)
  left = ones_pos (bit_or c all) more

  -- what the round finds in the work area
  pub ready : Ready (take n work) work n all
  ready =
      record {
        list = refl;
        ascends = s.ascends;
        some = s.some;
        short = s.short;
        room = s.room;
        variables = s.variables;
      }

  pub length_fits : k < length lens'
  length_fits = omega (arith, left, s.few, s.lens_long)

  pub terms_fit : at + n ≤ length terms'
  terms_fit = omega (arith, left, s.few, s.fits, s.terms_long)

  -- the room that is lent holds the part, whatever it is
  pub part_fits : n ≤ length (drop at terms')
  part_fits = omega (arith, terms_fit, length-drop at terms')

  -- what the call of a round left, by the terms behind those written
  module _ (lent filled after : List ℕ) (is_lent : lent ≡ drop at terms') (y part rest : ℕ)
      (took : TakenNext c (take n work) lent filled after n all y part rest)
      (same : length after ≡ length work) (c' all' : ℕ) (c_left : c' ≡ without y c) (all_left : all' ≡ without y all) where
    taken : TakenNext c (take n work) (drop at terms') filled after n all y part rest
    taken = subst (λ (l : List ℕ). TakenNext c (take n work) l filled after n all y part rest) is_lent took

    g : List ℕ
    g = held c (take n work)

    free : bit_and c (vars (take n work)) ≡ 0
    free = ap (bit_and c) (sym s.variables) ∙ s.free

    g_asc : Asc g
    unfolding g
    g_asc = times_asc (c ∷ []) (take n work)

    list_length : length (take n work) ≡ n
    list_length = length-take-le n work (omega (arith, s.room))

    g_length : length g ≡ n
    unfolding g
    g_length = length_held c (take n work) free s.ascends ∙ list_length

    g_vars : vars g ≡ bit_or c all
    unfolding g
    g_vars =
        vars_held c (take n work) free (get_or (take n work) 0 0) (mem_at (take n work) 0 (omega (arith, list_length, s.some)))
        ∙ ap (bit_or c) (sym s.variables)

    left_over : held (without y c) (take rest after) ≡ off y g
    unfolding g
    left_over = taken.left

    grown : Growing g taken.lowest.lowest.0 y
    unfolding g
    grown = growing g y g_asc taken.lowest

    next_vars : bit_or (without y c) (without y all) ≡ vars (off y g)
    next_vars = sym (without_or y c all) ∙ ap (without y) (sym g_vars) ∙ sym (vars_off y g)

    rooms : (0 < length (off y g)) × (length (onto y g) + length (off y g) ≤ length g + 1)
    unfolding g
    rooms = room_of_projections g y g_asc taken.lowest (get_or g 0 0) (mem_at g 0 (omega (arith, g_length, s.some)))

    -- the variables left are fewer, as a number too
    pub falls : bit_or c' all' < bit_or c all
    unfolding g
    falls = subst₂_lt (sym (ap₂ bit_or c_left all_left ∙ next_vars)) g_vars (rest_falls g taken.lowest.lowest.0 y grown)
      where
        subst₂_lt : {a b c d : ℕ} → a ≡ b → c ≡ d → a < c → b < d
        subst₂_lt p q h = omega arith

    fewer : ones (bit_or (without y c) (without y all)) < ones (bit_or c all)
    unfolding g
    fewer = omega (arith, ap ones next_vars, ap ones g_vars, rest_has_fewer g taken.lowest.lowest.0 y grown)

    round_done : Splitting f terms lens t m (take at terms' ++ filled) (set lens' k part) after rest (at + part) (k + 1) (without y c) (without y all)
    unfolding g
    round_done =
        let p = onto y g in
        let front = joined s.done in
        let joins : joined (s.done ++ (p ∷ [])) ≡ front ++ p = joined_append s.done (p ∷ []) ∙ ap (◌++◌ front) (joined_one p) in
        let behind : at + part ≡ length (joined (s.done ++ (p ∷ []))) =
        ap₂ ◌+◌ s.placed taken.part_count ∙ sym (ap length joins ∙ length-append front p)
        in
        let whole : take at terms' ++ filled ≡ joined (s.done ++ (p ∷ [])) ++ drop (at + part) terms =
        ap (λ (l : List ℕ). take at terms' ++ l) taken.written
        ∙ stored_one_more front terms' terms at s.placed s.stored s.terms_long p
        ∙ ap₂ (λ (l : List ℕ) (j : ℕ). l ++ drop (at + j) terms) (sym joins) (sym taken.part_count)
        in
        record {
          done = s.done ++ (p ∷ []);
          counted = ap (λ (j : ℕ). j + 1) s.counted ∙ sym (length-append s.done (p ∷ []));
          placed = behind;
          stored = whole;
          noted =
              noted_one_more (lengths s.done) lens lens' k part (s.counted ∙ sym (length_of_lengths s.done)) s.noted (omega (arith, length_fits, s.lens_long))
              ∙ ap (λ (l : List ℕ). l ++ drop (k + 1) lens) (ap (λ (v : ℕ). lengths s.done ++ (v ∷ [])) taken.part_count ∙ sym (lengths_append s.done (p ∷ [])));
          terms_long =
              ap length whole ∙ length-append (joined (s.done ++ (p ∷ []))) (drop (at + part) terms)
              ∙ omega (arith, behind, length-drop (at + part) terms, taken.part_fits, terms_fit, s.terms_long);
          lens_long = length-set lens' k part ∙ s.lens_long;
          ascends = taken.ascends;
          some = omega (arith, rooms.0, taken.rest_count);
          short = omega (arith, taken.rest_fits, s.short);
          room = omega (arith, taken.rest_fits, s.room, same);
          variables = taken.variables;
          free = still y c all s.free;
          few = omega (arith, fewer, s.few);
          fits = omega (arith, rooms.1, taken.part_count, taken.rest_count, g_length, s.fits);
          onwards = λ qs parts.
              subst (IsParts f) (sym (append_assoc s.done (p ∷ []) qs))
              (s.onwards (p ∷ qs) (growing_done g taken.lowest.lowest.0 y grown g_asc taken.lowest.closed qs (subst (λ (l : List ℕ). IsParts l qs) left_over parts)));
        }
      where
        still : (y c v : ℕ) → bit_and c v ≡ 0 → bit_and (without y c) (without y v) ≡ 0
        still = identity 3 (λ y c v. apart c v ⇒ ∴ apart (c ∖ y) (v ∖ y)) tt

    -- by what was counted and written
    pub round : (now : List ℕ) → now ≡ take at terms' ++ filled
        → Splitting f terms lens t m now (set lens' k part) after rest (at + part) (k + 1) c' all'
    round now e = rw (e, c_left, all_left) round_done

-- ---- the end

-- no variable is left: what is written are the parts
pub all_written : (f terms lens : List ℕ) (t m : ℕ) (terms' lens' work : List ℕ) (n at k c all : ℕ)
    → Splitting f terms lens t m terms' lens' work n at k c all → bit_or c all ≡ 0 → Written f terms lens terms' lens' k
all_written f terms lens t m terms' lens' work n at k c all s none =
    let g = take n work in
    let nothing : c ≡ 0 = either c all none in
    let first : Mem g (get_or g 0 0) = mem_at g 0 (omega (arith, length-take-le n work (omega (arith, s.room)), s.some)) in
    let same : g ≡ held c g = sym (times_one_left g s.ascends) ∙ ap (λ (v : ℕ). held v g) (sym nothing) in
    let parts : IsParts f (s.done ++ []) =
    s.onwards [] (subst (λ (l : List ℕ). IsParts l []) same (no_parts g (get_or g 0 0) s.ascends first (sym s.variables ∙ other c all none)))
    in (
      s.done,
      subst (IsParts f) (append-nil s.done) parts,
      s.counted,
      s.stored ∙ ap (λ (j : ℕ). joined s.done ++ drop j terms) s.placed,
      s.noted ∙ ap (λ (j : ℕ). lengths s.done ++ drop j lens) (s.counted ∙ sym (length_of_lengths s.done)),
    )
  where
    either : (c v : ℕ) → bit_or c v ≡ 0 → c ≡ 0
    either = identity 2 (λ c v. c ∪ v ≐ ∅ ⇒ ∴ c ≐ ∅) tt

    other : (c v : ℕ) → bit_or c v ≡ 0 → v ≡ 0
    other = identity 2 (λ c v. c ∪ v ≐ ∅ ⇒ ∴ v ≐ ∅) tt
