-- The answers of the four-list test and the cross test, one cycle of calls. Each is one law of Uncut, Halved, Ways or Shapes, which
-- `search` puts together with the facts of its place; the check finds the others by itself. Assumes nothing.
use borrow.Author.Rules.{rules}
use mathlib.Core.Path.{◌≡◌}
use mathlib.Core.List.{List}
use Prim.Native.Nat.{ℕ, ◌-◌}
use lib.ListN.{length, take, drop}
use Rattle.term.specs.Laws.{Laws}
use Rattle.term.proofs.Places.{front_at, rest_at}
use Rattle.ring.specs.Run.{Cut, lacking}
use Rattle.cross.proofs.Lent.{Parts, parts_at, Cuts, halves_lent, same_of_lent}
use Rattle.cross.proofs.Uncut.{one_counted, none_counted, some_counted, not_none_counted, same_if_vanishing, differ_if_one_vanishes, Skips, differ_if_uneven, four_left, same_if_left, same_if_none_left, same_if_alike, same_if_alike_other, same_if_lone_ab, same_if_lone_ac, same_if_lone_db, same_if_lone_dc}
use Rattle.cross.proofs.Halved.{joined_swapped, ratio_from_second, ratio_from_third}
use Rattle.cross.proofs.Ways.{stands_by_one, eight_swapped, stands_by_other, first_holds_swapped, differ_if_apart, joined_if_agree, joined_if_mirrored}
use Rattle.cross.proofs.Shapes.{differ_if_unpaired, ratios_if_free, ratios_if_divided, ratios_if_free_other, ratios_if_divided_other, opposed_if_free, opposed_if_divided, opposed_if_free_other, opposed_if_divided_other, whole_if_mixed}
use Rattle.cross.proofs.+tests.Goals as goal

pub same-returns-then-vanish : goal.same-returns-then-vanish
same-returns-then-vanish g t c = search same_if_vanishing

pub same-returns-then-vanish-2 : goal.same-returns-then-vanish-2
same-returns-then-vanish-2 g t c = search differ_if_one_vanishes

pub settle-returns-then-count-eq1-2 : goal.settle-returns-then-count-eq1-2
settle-returns-then-count-eq1-2 g t c = let told = rw (c.at.ensures, c.at-then-count-eq1-2.ensures) at c.matched.ensures in search (same_if_lone_ab, one_counted)

pub settle-returns-then-count-eq1-3 : goal.settle-returns-then-count-eq1-3
settle-returns-then-count-eq1-3 g t c = let told = rw (c.at-then-count-eq1-3.ensures, c.at-then-count-eq1-3-2.ensures) at c.matched-then-count-eq1-3.ensures in search (same_if_lone_ac, one_counted)

pub settle-returns-then-count-eq1-5 : goal.settle-returns-then-count-eq1-5
settle-returns-then-count-eq1-5 g t c = let told = rw (c.at-then-count-eq1-5.ensures, c.at-then-count-eq1-5-2.ensures) at c.matched-then-count-eq1-5.ensures in search (same_if_lone_db, one_counted)

pub settle-returns-then-count-eq1-6 : goal.settle-returns-then-count-eq1-6
settle-returns-then-count-eq1-6 g t c = let told = rw (c.at-then-count-eq1-6.ensures, c.at-then-count-eq1-6-2.ensures) at c.matched-then-count-eq1-6.ensures in search (same_if_lone_dc, one_counted)

pub skip-returns-then-within : goal.skip-returns-then-within
skip-returns-then-within g t c =
    -- what is known once the masks are read
    let skips : Skips c.args.k c.left-w.result (g.T.Term.numbers c.args.a.now) (g.T.Term.numbers c.args.d.now) (g.T.Term.numbers c.args.b.now) (g.T.Term.numbers c.args.c.now) c.within.result = record {
      four = search;
      left = rw c.vary.ensures at c.left-w.ensures;
      told = rw c.clash.ensures at c.within.ensures;
    } in
    differ_if_uneven skips c.if-within.true

pub skip-unlike-requires : goal.skip-unlike-requires
skip-unlike-requires g t c =
    -- what is known once the masks are read
    let skips : Skips c.args.k c.left-w.result (g.T.Term.numbers c.args.a.now) (g.T.Term.numbers c.args.d.now) (g.T.Term.numbers c.args.b.now) (g.T.Term.numbers c.args.c.now) c.within.result = record {
      four = search;
      left = rw c.vary.ensures at c.left-w.ensures;
      told = rw c.clash.ensures at c.within.ensures;
    } in
    (λ κs sub. (search rules, (sub, (search rules, four_left skips c.if-within.false))))

pub skip-returns : goal.skip-returns
skip-returns g t c =
    -- what is known once the masks are read
    let skips : Skips c.args.k c.left-w.result (g.T.Term.numbers c.args.a.now) (g.T.Term.numbers c.args.d.now) (g.T.Term.numbers c.args.b.now) (g.T.Term.numbers c.args.c.now) c.within.result = record {
      four = search;
      left = rw c.vary.ensures at c.left-w.ensures;
      told = rw c.clash.ensures at c.within.ensures;
    } in
    same_if_left skips c.if-within.false c.unlike.result c.unlike.ensures

pub unlike-returns-then-k-eq0 : goal.unlike-returns-then-k-eq0
unlike-returns-then-k-eq0 g t c = search same_if_none_left

pub unlike-returns-then-alike : goal.unlike-returns-then-alike
unlike-returns-then-alike g t c = search same_if_alike

pub unlike-returns-then-alike-2 : goal.unlike-returns-then-alike-2
unlike-returns-then-alike-2 g t c = search same_if_alike_other

module _ {numbers : List ℕ → List ℕ} {room : ℕ → ℕ} {lines : ℕ} (laws : Laws numbers room lines) where
  -- the terms before and from the word x on, as they are lent
  lent : {k : ℕ} (i x : ℕ) (ws : List ℕ) → Cut k (numbers ws) → i ≡ length (lacking k (numbers ws)) → x ≡ room i
      → Parts k (numbers ws) (numbers (take (x - 0) ws)) (numbers (take (length ws - x) (drop x ws)))
  lent i x ws cut e f = parts_at i cut e (front_at laws i x ws f) (rest_at laws i x ws f)

pub cross-halves-requires : goal.cross-halves-requires
cross-halves-requires g t c =
    let e = c.args in
    let f = c.requires.1 in
    -- what is known once the lists are cut
    let cuts : Cuts e.k (g.T.Term.numbers e.a.now) (g.T.Term.numbers e.d.now) (g.T.Term.numbers e.b.now) (g.T.Term.numbers e.c.now)
    (g.T.Term.numbers (take (c.words-i.result - 0) e.a.now)) (g.T.Term.numbers (take (length e.a.now - c.words-i.result) (drop c.words-i.result e.a.now))) (g.T.Term.numbers (take (c.words-j.result - 0) e.d.now)) (g.T.Term.numbers (take (length e.d.now - c.words-j.result) (drop c.words-j.result e.d.now)))
    (g.T.Term.numbers (take (c.words-m.result - 0) e.b.now)) (g.T.Term.numbers (take (length e.b.now - c.words-m.result) (drop c.words-m.result e.b.now))) (g.T.Term.numbers (take (c.words-n.result - 0) e.c.now)) (g.T.Term.numbers (take (length e.c.now - c.words-n.result) (drop c.words-n.result e.c.now))) = record {
      four = f;
      of_a = lent g.T.Term.laws c.cut.result c.words-i.result _ f.run_a.0 c.cut.ensures.0 c.words-i.ensures;
      of_d = lent g.T.Term.laws c.cut-2.result c.words-j.result _ f.run_d.0 c.cut-2.ensures.0 c.words-j.ensures;
      of_b = lent g.T.Term.laws c.cut-3.result c.words-m.result _ f.run_b.0 c.cut-3.ensures.0 c.words-m.ensures;
      of_c = lent g.T.Term.laws c.cut-4.result c.words-n.result _ f.run_c.0 c.cut-4.ensures.0 c.words-n.ensures;
    } in
    (λ κs sub. (search rules, (sub, (search rules, halves_lent cuts))))

pub cross-returns : goal.cross-returns
cross-returns g t c =
    let e = c.args in
    let f = c.requires.1 in
    -- what is known once the lists are cut
    let cuts : Cuts e.k (g.T.Term.numbers e.a.now) (g.T.Term.numbers e.d.now) (g.T.Term.numbers e.b.now) (g.T.Term.numbers e.c.now)
    (g.T.Term.numbers (take (c.words-i.result - 0) e.a.now)) (g.T.Term.numbers (take (length e.a.now - c.words-i.result) (drop c.words-i.result e.a.now))) (g.T.Term.numbers (take (c.words-j.result - 0) e.d.now)) (g.T.Term.numbers (take (length e.d.now - c.words-j.result) (drop c.words-j.result e.d.now)))
    (g.T.Term.numbers (take (c.words-m.result - 0) e.b.now)) (g.T.Term.numbers (take (length e.b.now - c.words-m.result) (drop c.words-m.result e.b.now))) (g.T.Term.numbers (take (c.words-n.result - 0) e.c.now)) (g.T.Term.numbers (take (length e.c.now - c.words-n.result) (drop c.words-n.result e.c.now))) = record {
      four = f;
      of_a = lent g.T.Term.laws c.cut.result c.words-i.result _ f.run_a.0 c.cut.ensures.0 c.words-i.ensures;
      of_d = lent g.T.Term.laws c.cut-2.result c.words-j.result _ f.run_d.0 c.cut-2.ensures.0 c.words-j.ensures;
      of_b = lent g.T.Term.laws c.cut-3.result c.words-m.result _ f.run_b.0 c.cut-3.ensures.0 c.words-m.ensures;
      of_c = lent g.T.Term.laws c.cut-4.result c.words-n.result _ f.run_c.0 c.cut-4.ensures.0 c.words-n.ensures;
    } in
    same_of_lent cuts c.halves.result c.halves.ensures

pub halves-returns-then-p-eq1 : goal.halves-returns-then-p-eq1
halves-returns-then-p-eq1 g t c = search joined_swapped

pub halves-returns : goal.halves-returns
halves-returns g t c = search differ_if_unpaired

pub opposed-ratios-requires : goal.opposed-ratios-requires
opposed-ratios-requires g t c = (λ κs sub. (search rules, (sub, (search rules, search (ratios_if_free, none_counted)))))

pub opposed-returns-then-count-eq0 : goal.opposed-returns-then-count-eq0
opposed-returns-then-count-eq0 g t c = search (opposed_if_free, none_counted)

pub opposed-ratios-requires-then-count-eq0-2 : goal.opposed-ratios-requires-then-count-eq0-2
opposed-ratios-requires-then-count-eq0-2 g t c = (λ κs sub. (search rules, (sub, (search rules, search (ratios_if_divided, none_counted)))))

pub opposed-returns-then-count-eq0-2 : goal.opposed-returns-then-count-eq0-2
opposed-returns-then-count-eq0-2 g t c = search (opposed_if_divided, none_counted)

pub opposed-ratios-requires-then-count-eq0-3 : goal.opposed-ratios-requires-then-count-eq0-3
opposed-ratios-requires-then-count-eq0-3 g t c = (λ κs sub. (search rules, (sub, (search rules, search (ratios_if_free_other, none_counted)))))

pub opposed-returns-then-count-eq0-3 : goal.opposed-returns-then-count-eq0-3
opposed-returns-then-count-eq0-3 g t c = search (opposed_if_free_other, none_counted)

pub opposed-ratios-requires-then-count-eq0-4 : goal.opposed-ratios-requires-then-count-eq0-4
opposed-ratios-requires-then-count-eq0-4 g t c = (λ κs sub. (search rules, (sub, (search rules, search (ratios_if_divided_other, none_counted)))))

pub opposed-returns-then-count-eq0-4 : goal.opposed-returns-then-count-eq0-4
opposed-returns-then-count-eq0-4 g t c = search (opposed_if_divided_other, none_counted)

pub opposed-whole-requires : goal.opposed-whole-requires
opposed-whole-requires g t c =
    let a₁ = not_none_counted c.count.ensures c.if-count-eq0.false in
    let a₀ = not_none_counted c.count-2.ensures c.if-count-eq0-2.false in
    let d₁ = not_none_counted c.count-3.ensures c.if-count-eq0-3.false in
    let d₀ = not_none_counted c.count-4.ensures c.if-count-eq0-4.false in
    (λ κs sub. (search rules, (sub, (search rules, search whole_if_mixed))))

pub ratios-returns-then-s2-s3 : goal.ratios-returns-then-s2-s3
ratios-returns-then-s2-s3 g t c = let some = some_counted c.count.ensures c.if-count-gt0.true in search ratio_from_second

pub ratios-returns-then-s3-s1 : goal.ratios-returns-then-s3-s1
ratios-returns-then-s3-s1 g t c = let some = some_counted c.count-2.ensures c.if-count-gt0-2.true in search ratio_from_third

pub whole-returns-then-low-high : goal.whole-returns-then-low-high
whole-returns-then-low-high g t c = search joined_if_mirrored

pub whole-returns : goal.whole-returns
whole-returns g t c = search joined_if_agree

pub agree-returns-then-one-eq1 : goal.agree-returns-then-one-eq1
agree-returns-then-one-eq1 g t c = search differ_if_apart

pub agree-stand-other-requires : goal.agree-stand-other-requires
agree-stand-other-requires g t c = (λ κs sub. (search rules, (sub, ((search rules, search eight_swapped), search first_holds_swapped))))

pub stand-returns-then-size : goal.stand-returns-then-size
stand-returns-then-size g t c = search stands_by_other

pub compared-returns-then-same : goal.compared-returns-then-same
compared-returns-then-same g t c = search stands_by_one
