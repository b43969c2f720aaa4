-- What stands in the outputs after boards were split in turn: the parts of all accepted ones, and behind them what stood there. Serves Demands.
-- Assumes nothing.
use Prim.Native.Nat.{ℕ}
use mathlib.Core.Path.{◌≡◌, refl, sym, ap, ap₂, ◌∙◌}
use mathlib.Core.List.{List, [], ◌∷◌, ◌++◌}
use mathlib.Core.Logic.{◌⊎◌, inl, inr}
use lib.ListN.{length, take, drop}
use Rattle.answer.specs.declared.Answer.{Answer}
use Rattle.answer.specs.Table.{accepted}
use Rattle.answer.specs.Ends.{over}
use Rattle.answer.proofs.Ends.{Accepts, Refuses}
use Rattle.taking.specs.Joined.{joined, lengths}
use Rattle.parts.specs.Split.{Buffers, Splits}
use Rattle.taking.proofs.Splitting.{joined_append, lengths_append}
use Rattle.lists.specs.Lists.{added}
use Rattle.lists.proofs.Cutting.{length_of_lengths, length_joined, counted_lengths, over_behind}
use Rattle.deploy.specs.Deploy.{filled, left, InTurn}
use Rattle.deploy.proofs.Boards.{split_accepted_or_refused}
use Rattle.demands.specs.Boards.{PartsOf, AllParts}

-- what was written is taken off its buffer again, and the rest stands behind it
taken_off : (p q d e : List ℕ) (n : ℕ) → n ≡ length p → e ≡ over p d → (r : List ℕ) → r ≡ over q (drop n e) → take n e ++ r ≡ over (p ++ q) d
taken_off p q d e n h stands r rest =
    ap₂ ◌++◌ (ap (take n) stands) (rest ∙ ap (λ (l : List ℕ). over q (drop n l)) stands) ∙ over_behind p q d n h

-- the parts of all accepted boards are in the outputs
abbrev Written : Buffers → List (List ℕ) → Buffers → Type 0
Written old all new = (new.terms ≡ over (joined all) old.terms) × (new.lengths ≡ over (lengths all) old.lengths)

pub in_turn_writes_all_parts : (max_terms max_vars : ℕ) (fs : List (List ℕ)) (old : Buffers) (answers : List Answer) (new : Buffers)
    → InTurn max_terms max_vars fs old answers new → (all : List (List ℕ)) × AllParts fs answers all × Written old all new
unfolding InTurn AllParts joined
in_turn_writes_all_parts max_terms max_vars [] old answers new (e, stands) =
    ([], (e, refl), (ap (λ (b : Buffers). b.terms) stands, ap (λ (b : Buffers). b.lengths) stands))
in_turn_writes_all_parts max_terms max_vars (f ∷ fs) old answers new (answer, after, later, rest, split, turn, e, stands) =
    let others = in_turn_writes_all_parts max_terms max_vars fs (left answer.count after) later rest turn in
    let first = written (split_accepted_or_refused max_terms max_vars f old answer after split) in
    let ps = first.0 in
    let qs = others.0 in (
      ps ++ qs,
      (answer, later, ps, qs, first.1, others.1, e, refl),
      (
        ap (λ (b : Buffers). b.terms) stands
            ∙ taken_off (joined ps) (joined qs) old.terms after.terms (filled answer.count after) first.2.1 first.3.0 rest.terms others.2.0
            ∙ ap (λ (l : List ℕ). over l old.terms) (sym (joined_append ps qs)),
        ap (λ (b : Buffers). b.lengths) stands
            ∙ taken_off (lengths ps) (lengths qs) old.lengths after.lengths answer.count first.2.0 first.3.1 rest.lengths others.2.1
            ∙ ap (λ (l : List ℕ). over l old.lengths) (sym (lengths_append ps qs)),
      ),
    )
  where
    -- what the first board wrote
    written : Accepts (Splits f old) answer after ⊎ Refuses old answer after
        → (ps : List (List ℕ)) × PartsOf f answer ps × ((answer.count ≡ length (lengths ps)) × (filled answer.count after ≡ length (joined ps)))
        × Written old ps after
    written (inl (count, e, (ps, parts, counted, stands))) =
        let c : answer.count ≡ length ps = ap (λ (a : Answer). a.count) e ∙ counted in
        let l : take answer.count after.lengths ≡ lengths ps =
        ap (λ (b : Buffers). take answer.count b.lengths) stands ∙ counted_lengths ps old.lengths answer.count c in (
          ps,
          inl (e ∙ ap accepted counted, parts),
          (c ∙ sym (length_of_lengths ps), ap added l ∙ sym (length_joined ps)),
          (ap (λ (b : Buffers). b.terms) stands, ap (λ (b : Buffers). b.lengths) stands),
        )
    written (inr (refused, none, same)) = (
      [],
      inr (refused, refl),
      (none, ap (λ (n : ℕ). filled n after) none),
      (ap (λ (b : Buffers). b.terms) same, ap (λ (b : Buffers). b.lengths) same),
    )
