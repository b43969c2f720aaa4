-- `taking::write_parts`: between two parts it stands as Splitting says; each turn is a round (Round), and the variables left fall. Assumes nothing.
use native.Mathlib.Omega.{arith}
use borrow.Author.Tests.{eqb-true}
use borrow.Author.Rules.{rules}
use Prim.Native.Nat.{ℕ, ◌<◌, ◌^◌}
use mathlib.Core.Path.{refl, sym, ap, subst, ◌∙◌}
use lib.Bits.{bit_or, or_lt}
use lib.Count.{ones-le}
use lib.ListN.{length}
use Rattle.polys.specs.Poly.{vars}
use Rattle.terms.proofs.Vars.{front_below}
use Rattle.grow.proofs.Rooms.{front_lent, front_there}
use Rattle.term.proofs.Places.{rest_at, rest_at_written}
use Rattle.taking.proofs.Splitting.{splitting_start, long_as_before}
use Rattle.taking.proofs.Round.{some_left, ready, length_fits, terms_fit, part_fits, round, falls, all_written}
use Rattle.taking.proofs.write_parts.Goals as goal

pub loop-left-init : goal.loop-left-init
loop-left-init g c =
    let v = g.T.Term.value in
    let lines = g.T.Term.LINES in
    let a = c.args in
    let words = a.work.now in
    let numbers = g.T.Term.numbers words in
    let all = c.variables-all.ensures ∙ ap vars (front_lent g.T.Term.laws a.t c.words-end.result words c.words-end.ensures) in
    let fits = g.T.Term.laws.numbers_fit words (λ i. (c.slice_known-3-1.given i).fits) in
    let all_fits = subst (λ (m : ℕ). m < 2 ^ lines) (sym all) (front_below lines a.t numbers fits) in (
      splitting_start _ _ numbers a.t lines (v a.held) (v c.variables-all.result) c.requires.0 c.requires.1 (omega (arith, c.requires.2)) c.requires.3 all
          c.requires.4 (ones-le lines (bit_or (v a.held) (v c.variables-all.result)) (or_lt lines (v a.held) (v c.variables-all.result) c.requires.5 all_fits)),
      refl,
      refl,
    )

pub loop-left-preserved : goal.loop-left-preserved
loop-left-preserved g c =
    let more = some_left c.empty.result _ _ c.empty.ensures c.loop-left-test.true c.or.ensures in
    let fit = terms_fit _ _ _ _ _ _ _ _ _ _ _ _ _ c.loop-left.invariant.0 more c.requires.6 c.requires.7 in
    let laws = g.T.Term.laws in
    let part = c.take_next-next in
    let here = c.loop-left in
    let terms = here.part_terms in (
      round _ _ _ _ _ _ _ _ _ _ _ _ _ here.invariant.0 more c.requires.6 c.requires.7 _ _ _ (rest_at laws here.at c.words-from.result terms c.words-from.ensures)
          _ _ _ part.ensures (laws.numbers_same_length part.new.work here.work part.auto.work) _ _ c.off-left.ensures c.off-all.ensures _
          (rest_at_written laws here.at c.words-from.result terms part.new.room (omega (arith, fit)) c.words-from.ensures),
      part.auto.work ∙ here.invariant.1,
      long_as_before c.words-from.result terms part.new.room (front_there g.T.Term.laws c.loop-left.at c.words-from.result c.loop-left.part_terms (omega (arith, fit)) c.words-from.ensures) part.auto.room
          ∙ here.invariant.2,
    )

pub loop-left-smaller : goal.loop-left-smaller
loop-left-smaller g c =
    let more = some_left c.empty.result _ _ c.empty.ensures c.loop-left-test.true c.or.ensures in
    let part = c.take_next-next in
    let here = c.loop-left in
    falls _ _ _ _ _ _ _ _ _ _ _ _ _ here.invariant.0 more c.requires.6 c.requires.7 _ _ _
    (rest_at g.T.Term.laws here.at c.words-from.result here.part_terms c.words-from.ensures) _ _ _ part.ensures
    (g.T.Term.laws.numbers_same_length part.new.work here.work part.auto.work) _ _ c.off-left.ensures c.off-all.ensures

pub returns : goal.returns
returns g c =
    all_written _ _ _ _ _ _ _ _ _ _ _ _ _ c.loop-left.invariant.0 (sym c.or.ensures ∙ eqb-true _ 0 (sym c.empty.ensures ∙ c.loop-left-test.false))

pub take_next-next-requires : goal.take_next-next-requires
take_next-next-requires g c =
    let more = some_left c.empty.result _ _ c.empty.ensures c.loop-left-test.true c.or.ensures in
    let inv = c.loop-left.invariant.0 in
    let lent = rest_at g.T.Term.laws c.loop-left.at c.words-from.result c.loop-left.part_terms c.words-from.ensures in (
      ready _ _ _ _ _ _ _ _ _ _ _ _ _ inv more c.requires.6 c.requires.7,
      inv.free,
      more,
      omega (arith, ap length lent, part_fits _ _ _ _ _ _ _ _ _ _ _ _ _ inv more c.requires.6 c.requires.7),
    )

pub bounds-part_lengths-k : goal.bounds-part_lengths-k
bounds-part_lengths-k g c =
    let more = some_left c.empty.result _ _ c.empty.ensures c.loop-left-test.true c.or.ensures in
    length_fits _ _ _ _ _ _ _ _ _ _ _ _ _ c.loop-left.invariant.0 more c.requires.6 c.requires.7

pub offset_bounds-part_terms-from : goal.offset_bounds-part_terms-from
offset_bounds-part_terms-from g c =
    let more = some_left c.empty.result _ _ c.empty.ensures c.loop-left-test.true c.or.ensures in
    let fit = terms_fit _ _ _ _ _ _ _ _ _ _ _ _ _ c.loop-left.invariant.0 more c.requires.6 c.requires.7 in
    let lent_there = front_there g.T.Term.laws c.loop-left.at c.words-from.result c.loop-left.part_terms (omega (arith, fit)) c.words-from.ensures in
    search (rules, lent_there)
