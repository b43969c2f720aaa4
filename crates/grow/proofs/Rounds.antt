-- One round after the other: what holds of the list before a step, and what a step's end says of it. Leans on the theory of growing.
use Prim.Native.Nat.{ℕ, ◌+◌, ◌≤◌, ◌<◌}
use mathlib.Core.Path.{◌≡◌, sym, ap, ◌∙◌, subst}
use mathlib.Core.Bool.{Bool, ◌||◌}
use mathlib.Core.List.{List}
use native.Mathlib.Omega.{arith}
use lib.Bits.{bit_and, bit_or, or_disjoint, and_self}
use Rattle.masks.specs.Bit.{bit, without}
use Rattle.masks.proofs.Bits.{bit_or_lem}
use Rattle.masks.proofs.Lowest.{low}
use Rattle.masks.proofs.Order.{subset_le}
use Rattle.masks.proofs.Sets.{or_subset, apart_sym}
use Rattle.polys.specs.List.{Asc}
use Rattle.polys.specs.Poly.{vars}
use Rattle.splitting.proofs.Growing.{Growing, growing_start}
use Rattle.counts.specs.Planes.{Tallied}
use Rattle.grow.specs.Steps.{Growable, StepWhole, StepMore, Belongs, Stands, PartOfLowest}

-- with what belongs to y it goes on holding the lowest variable, within the variables of f
belongs_on : (f : List ℕ) (i y more : ℕ) → Growing f i y → Belongs f y more → Growing f i (bit_or y more)
belongs_on f i y more g m =
    record {
      lowest = g.lowest;
      holds = bit_or_lem y more i ∙ ap (λ (b : Bool). b || bit more i) g.holds;
      within = or_subset y more (vars f) g.within m.inside;
      forced = m.forced i g.forced;
    }

-- and rises, as a number, if it is something
belongs_up : (f : List ℕ) (y more : ℕ) → Belongs f y more → ¬ (more ≡ 0) → y < bit_or y more
belongs_up f y more m some =
    let sum : bit_or y more ≡ y + more = or_disjoint y more (apart_sym more y m.outside) in
    omega arith

module _ (f : List ℕ) (all : ℕ) (ready : Growable f 0 all) where
  module _ (pos : 0 < all) (x : ℕ) (is : x ≡ low all) where
    -- the lowest variable is asked about by counting,
    pub ready_to_count : (w : ℕ) (alone : List ℕ) → Tallied f alone → w ≡ without x all
        → Asc f × Tallied f alone × (w ≡ without x (vars f)) × (bit_and x x ≡ x)
    ready_to_count w alone tallied others = (ready.ascends, tallied, others ∙ ap (without x) ready.variables, and_self x)

    -- and before the first round y is what belongs to it
    pub first_round : (more y : ℕ) → Belongs f x more → y ≡ bit_or x more → (i : ℕ) × Growing f i y
    first_round more y b joined =
        let g = growing_start f (λ e. absurd (no_more (ready.variables ∙ e))) in (
          g.0,
          subst (Growing f g.0) (sym joined) (belongs_on f g.0 x more (subst (Growing f g.0) (sym (is ∙ ap low ready.variables)) g.1) b),
        )
      where
        no_more : all ≡ 0 → ⊥
        no_more e = omega arith

  module _ (y i : ℕ) (growing : Growing f i y) where
    pub ready_for_step : Growable f y all
    ready_for_step =
        record {
          ascends = ready.ascends;
          some = ready.some;
          short = ready.short;
          variables = ready.variables;
          inside = ap (bit_and y) ready.variables ∙ growing.within;
        }

    -- the step ends with the whole part
    pub ends_whole : (inside outside : List ℕ) (part rest : ℕ) → StepWhole f y inside outside part rest
        → PartOfLowest f y × Stands f y inside outside part rest
    ends_whole inside outside part rest s =
        (record { inside = growing.within; closed = s.0; lowest = (i, growing.holds, growing.lowest, growing.forced) }, s.1)

    -- the step ends with more variables
    pub ends_growing : (more z : ℕ) → StepMore f y more → z ≡ bit_or y more → Growing f i z × (y < z) × (z ≤ all)
    ends_growing more z s joined =
        let on = subst (Growing f i) (sym joined) (belongs_on f i y more growing s.0) in (
          on,
          subst (λ (v : ℕ). y < v) (sym joined) (belongs_up f y more s.0 s.1),
          subst (λ (v : ℕ). z ≤ v) (sym ready.variables) (subset_le z (vars f) on.within),
        )
