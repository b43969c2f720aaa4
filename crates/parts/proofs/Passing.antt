-- What split's checks (specs/Split.antt) tell where they pass, and that the steps then leave the parts. Leans on terms' laws of order.
-- Assumes nothing.
use Prim.Native.Nat.{ℕ, ◌+◌, ◌*◌, ◌^◌, ◌≤◌, ◌<◌}
use mathlib.Core.Path.{◌≡◌, refl, sym, ap, ap₂, ◌∙◌, subst}
use mathlib.Core.List.{List, map}
use native.Mathlib.Omega.{arith}
use borrow.Author.Tests.{ltb-false, eqb-false}
use lib.Bits.{bit_and, and_le_r}
use lib.ListN.{length, get_or, take, drop, replicate, length-map}
use lib.Seq.{take_at}
use Rattle.answer.specs.Ends.{over}
use Rattle.answer.specs.Checked.{Passed}
use Rattle.masks.specs.Bit.{without}
use Rattle.polys.specs.List.{Mem, Asc}
use Rattle.polys.specs.Poly.{vars}
use Rattle.polys.proofs.Lists.{at_mem}
use Rattle.splitting.proofs.Held.{held, stripped_ascends, stripped_free, held_stripped}
use Rattle.polys.specs.Parts.{IsParts}
use Rattle.terms.proofs.Order.{ascends_if_passed}
use Rattle.parts.specs.Split.{split_checks, Splits}
use Rattle.taking.specs.Steps.{InEach, Written}

-- what each index tells of a term, each term does
each_term : (c : ℕ) (f : List ℕ) → InEach c f → (t : ℕ) → Mem f t → bit_and c t ≡ c
each_term c f each t m = let p = at_mem f t m in subst (λ (u : ℕ). bit_and c u ≡ c) (sym p.2) (each p.0 p.1)

-- a list without some variables, put at the start of some words, stands there
front_is_list : (f words filled : List ℕ) (c : ℕ) → filled ≡ over (map (without c) f) words → take (length f) filled ≡ map (without c) f
front_is_list f words filled c put =
    let g = map (without c) f in
    ap₂ take (sym (length-map f (without c))) put ∙ take_at g (drop (length g) words) (length g) refl

module _ (max_terms max_vars : ℕ) (f : List ℕ) (room lengths work : ℕ) (p : Passed (split_checks max_terms max_vars f room lengths work)) where
  not_empty : length f ≡ 0 → ⊥
  unfolding Passed
  not_empty = search eqb-false

  pub some : 0 < length f
  some = omega (arith, not_empty)

  pub few : length f ≤ max_terms
  unfolding Passed
  few = search ltb-false

  pub ascends : Asc f
  unfolding Passed
  ascends = search ascends_if_passed

  pub terms_fit : length f + max_vars ≤ room
  unfolding Passed
  terms_fit = search ltb-false

  pub lengths_fit : max_vars ≤ lengths
  unfolding Passed
  lengths_fit = search ltb-false

  pub work_fits : 4 * length f ≤ work
  unfolding Passed
  work_fits = search ltb-false

  -- so the list can be put into the work area,
  pub list_fits : length f ≤ work
  list_fits = omega (arith, work_fits)

  -- what every term holds fits a term
  pub held_fits : (k c : ℕ) → InEach c f → ((i : ℕ) → get_or f i 0 < 2 ^ k) → c < 2 ^ k
  held_fits k c each fit = omega (arith, each 0 some, fit 0, and_le_r c (get_or f 0 0))

  -- and ascends there, without the variables that every term holds,
  pub ascends_there : (words filled : List ℕ) (c : ℕ) → InEach c f → filled ≡ over (map (without c) f) words → Asc (take (length f) filled)
  ascends_there words filled c each put =
      subst Asc (sym (front_is_list f words filled c put)) (stripped_ascends c f ascends (each_term c f each))

  -- which do not stand in it
  pub free_there : (words filled : List ℕ) (c : ℕ) → InEach c f → filled ≡ over (map (without c) f) words
      → bit_and c (vars (take (length f) filled)) ≡ 0
  free_there words filled c each put =
      ap (λ (l : List ℕ). bit_and c (vars l)) (front_is_list f words filled c put) ∙ stripped_free c f ascends (each_term c f each)

  -- with them it is the list again
  pub whole_there : (words filled : List ℕ) (c : ℕ) → InEach c f → filled ≡ over (map (without c) f) words
      → held c (take (length f) filled) ≡ f
  whole_there words filled c each put =
      ap (held c) (front_is_list f words filled c put) ∙ sym (held_stripped c f ascends (each_term c f each))

  -- all that is asked before the parts are written, by the number of terms that was counted
  pub ready : (t m : ℕ) → t ≡ length f → (words filled : List ℕ) (c : ℕ) → InEach c f → ((i : ℕ) → get_or f i 0 < 2 ^ m)
      → filled ≡ over (map (without c) f) words → length filled ≡ work
      → Asc (take t filled) × (0 < t) × (t ≤ max_terms) × (t + (t + t) ≤ length filled) × (bit_and c (vars (take t filled)) ≡ 0) × (c < 2 ^ m)
      × (max_vars ≤ lengths) × (t + max_vars ≤ room)
  ready t m e words filled c each fit put same = (
    subst (λ (n : ℕ). Asc (take n filled)) (sym e) (ascends_there words filled c each put),
    omega (arith, e, some),
    omega (arith, e, few),
    omega (arith, e, same, work_fits),
    ap (λ (n : ℕ). bit_and c (vars (take n filled))) e ∙ free_there words filled c each put,
    held_fits m c each fit,
    lengths_fit,
    omega (arith, e, terms_fit),
  )

-- what the steps leave, the list put into the work area, its parts written, the work area cleared, is what acceptance asks
pub parts_left : (max_terms max_vars : ℕ) (f terms lengths work filled terms' lengths' used work' : List ℕ) (c t count : ℕ) → t ≡ length f
    → Passed (split_checks max_terms max_vars f (length terms) (length lengths) (length work)) → InEach c f → filled ≡ over (map (without c) f) work
    → length filled ≡ length work → Written (held c (take t filled)) terms lengths terms' lengths' count → length used ≡ length filled
    → work' ≡ replicate (length used) 0
    → Splits f (record { terms = terms; lengths = lengths; work = work }) count (record { terms = terms'; lengths = lengths'; work = work' })
parts_left max_terms max_vars f terms lengths work filled terms' lengths' used work' c t count e passed each put long written kept cleared = (
  written.0,
  subst (λ (g : List ℕ). IsParts g written.0) (ap (λ (n : ℕ). held c (take n filled)) e ∙ whole_there max_terms max_vars f (length terms) (length lengths) (length work) passed work filled c each put) written.1,
  written.2,
  (λ i. record { terms = written.3 i; lengths = written.4 i; work = (cleared ∙ ap (λ (n : ℕ). replicate n 0) (kept ∙ long)) i }),
)
