-- One part taken out: how the work area is lent, and what the calls of a round leave, put together. Leans on grow and on the laws of terms.
use Prim.Native.Nat.{ℕ, ◌+◌, ◌-◌, ◌≤◌, ◌<◌}
use mathlib.Core.Path.{◌≡◌, refl, sym, ap, ap₂, ◌∙◌, subst}
use mathlib.Core.List.{List, ◌++◌, append_assoc}
use native.Mathlib.Omega.{arith}
use lib.ListN.{length, take, drop, length-take, length-drop}
use lib.Seq.{length-take-le, take_all, take_at, drop-drop}
use Rattle.term.specs.Laws.{Laws}
use Rattle.term.proofs.Places.{part_at, rest_at, front_at_written}
use Rattle.grow.specs.Steps.{Growable, PartOfLowest, Stands}
use Rattle.grow.proofs.Rooms.{front_there, front_lent}
use Rattle.polys.specs.Poly.{onto}
use Rattle.taking.specs.Steps.{Ready, Taken}

-- a list whose first k terms are k terms holds as many
as_many : (l p : List ℕ) (k : ℕ) → take k l ≡ p → k ≡ length p → k ≤ length l
as_many l p k is count = omega (arith, ap length is, length-take k l, count)

module _ {numbers : List ℕ → List ℕ} {room : ℕ → ℕ} {lines : ℕ} (laws : Laws numbers room lines) where
  -- the first m terms, written over the front of a room
  pub filled : (m x : ℕ) (ws ys : List ℕ) → m ≤ length (numbers ws) → x ≡ room m → length ys ≡ x
      → numbers (ys ++ drop x ws) ≡ numbers ys ++ drop m (numbers ws)
  filled m x ws ys fits is long =
      ap (λ (k : ℕ). numbers (ys ++ drop k ws)) (omega arith)
      ∙ front_at_written laws m x ws ys fits is (long ∙ sym (length-take-le x ws (front_there laws m x ws fits is)) ∙ ap (λ (k : ℕ). length (take k ws)) (omega arith))

  -- ---- the list and the two rooms behind it

  module _ (ws : List ℕ) (n x z all : ℕ) (ready : Ready (take n (numbers ws)) (numbers ws) n all) (pos : 0 < all) (start : x ≡ room n)
      (next : z ≡ room (n + n)) (list behind inner outer : List ℕ) (front : list ≡ take x ws) (back : behind ≡ drop x ws)
      (one : inner ≡ take (z - x) behind) (other : outer ≡ drop (z - x) behind) where
    pub is_list : numbers list ≡ take n (numbers ws)
    is_list = ap numbers front ∙ front_lent laws n x ws start

    pub list_length : length (numbers list) ≡ n
    list_length = ap length is_list ∙ length-take-le n (numbers ws) (omega (arith, ready.room))

    inner_length : length (numbers inner) ≡ n
    inner_length =
        ap (λ (l : List ℕ). length (numbers l)) (one ∙ ap (take (z - x)) back)
        ∙ ap length (part_at laws n (n + n) x z ws start next)
        ∙ length-take-le (n + n - n) (drop n (numbers ws)) (omega (arith, length-drop n (numbers ws), ready.room)) ∙ omega arith

    outer_is : outer ≡ take (length ws - z) (drop z ws)
    outer_is =
        other ∙ ap (drop (z - x)) back ∙ drop-drop (z - x) x ws
        ∙ ap (λ (k : ℕ). drop k ws) (omega (arith, start, next, laws.room_mono n (n + n) (omega arith)))
        ∙ sym (take_all (length ws - z) (drop z ws) (omega (arith, length-drop z ws)))

    outer_length : length (numbers outer) ≡ length (numbers ws) - (n + n)
    outer_length =
        ap (λ (l : List ℕ). length (numbers l)) outer_is ∙ ap length (rest_at laws (n + n) z ws next) ∙ length-drop (n + n) (numbers ws)

    pub rooms_lent : Growable (numbers list) 0 all × (0 < all) × (length (numbers list) ≤ length (numbers inner))
        × (length (numbers list) ≤ length (numbers outer))
    rooms_lent = (
      subst (λ (f : List ℕ). Growable f 0 all) (sym is_list)
          (record {
            ascends = ready.ascends;
            some = omega (arith, list_length, ap length is_list, ready.some);
            short = omega (arith, list_length, ap length is_list, ready.short);
            variables = ready.variables;
            inside = refl;
          }),
      pos,
      omega (arith, list_length, inner_length),
      omega (arith, list_length, outer_length, ready.room),
    )

    -- ---- what is left of them

    module _ (inner' outer' : List ℕ) (y part rest : ℕ)
        (found : PartOfLowest (numbers list) y × Stands (numbers list) y (numbers inner') (numbers outer') part rest) (p r : ℕ)
        (part_words : p ≡ room part) (rest_words : r ≡ room rest) where
      pub part_lent : length (take p inner') ≡ p
      part_lent = length-take-le p inner' (front_there laws part p inner' (as_many (numbers inner') _ part found.1.onto_y found.1.part_count) part_words)

      pub rest_lent : length (take r outer') ≡ r
      rest_lent = length-take-le r outer' (front_there laws rest r outer' (as_many (numbers outer') _ rest found.1.off_y found.1.rest_count) rest_words)

      pub list_lent : length (take r list) ≡ r
      list_lent = length-take-le r list (front_there laws rest r list (found.1.rest_fits) rest_words)

      module _ (space : List ℕ) (fits : n ≤ length (numbers space)) where
        part_few : part ≤ length (numbers space)
        part_few = omega (arith, found.1.part_fits, list_length, fits)

        pub space_there : p ≤ length space
        space_there = front_there laws part p space part_few part_words

        pub space_lent : length (take p space) ≡ p
        space_lent = length-take-le p space space_there

        pub taken : (ys zs : List ℕ) → ys ≡ take p inner' → zs ≡ take r outer'
            → Taken (take n (numbers ws)) (numbers space) (numbers (ys ++ drop p space)) (numbers ((zs ++ drop r list) ++ (inner' ++ outer'))) n y part rest
        taken ys zs is_part is_rest =
            let f = take n (numbers ws) in
            let lowest = subst (λ (g : List ℕ). PartOfLowest g y) is_list found.0 in
            let stands = subst (λ (g : List ℕ). Stands g y (numbers inner') (numbers outer') part rest) is_list found.1 in
            let after = (zs ++ drop r list) ++ (inner' ++ outer') in
            let written : numbers ys ≡ onto y f = ap numbers is_part ∙ front_lent laws part p inner' part_words ∙ stands.onto_y in
            let moved : take r after ≡ take r outer' =
            ap (take r) (append_assoc zs (drop r list) (inner' ++ outer'))
            ∙ take_at zs (drop r list ++ (inner' ++ outer')) r (ap length is_rest ∙ rest_lent) ∙ is_rest
            in
            record {
              lowest = lowest;
              written =
                  filled part p space ys part_few part_words (ap length is_part ∙ part_lent)
                  ∙ ap₂ (λ (g : List ℕ) (k : ℕ). g ++ drop k (numbers space)) written stands.part_count;
              part_count = stands.part_count;
              left = sym (front_lent laws rest r after rest_words) ∙ ap numbers moved ∙ front_lent laws rest r outer' rest_words ∙ stands.off_y;
              rest_count = stands.rest_count;
              part_fits = omega (arith, found.1.part_fits, list_length);
              rest_fits = omega (arith, found.1.rest_fits, list_length);
            }
