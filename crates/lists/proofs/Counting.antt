-- The checks of lists that are lent one behind the other (specs/Lists.antt). Assumes nothing.
use Prim.Native.Nat.{ℕ, ◌+◌, ◌≤◌, ◌<◌}
use native.Mathlib.Numerals.{add-one}
use mathlib.Core.Path.{◌≡◌, sym, ap, ◌∙◌}
use mathlib.Core.List.{List}
use native.Mathlib.Omega.{arith}
use borrow.Author.Tests.{ltb-false}
use lib.ListN.{length, get_or, drop, drop_of_length-le}
use lib.Seq.{drop-cons}
use Rattle.answer.specs.Table.{accepted, refused}
use Rattle.answer.specs.Checked.{Passed, Checked}
use Rattle.answer.proofs.Checking.{checking}
use Rattle.lists.specs.Lists.{added, lent_checks}

module _ (most words : ℕ) (ls : List ℕ) where
  pub too_many : most < length ls → Checked (lent_checks most words ls) (refused 2 0 0)
  too_many h = search checking

  pub too_few_words : length ls ≤ most → words < added ls → Checked (lent_checks most words ls) (refused 10 0 0)
  too_few_words h s = search checking

  pub words_behind : length ls ≤ most → added ls < words → Checked (lent_checks most words ls) (refused 12 0 0)
  words_behind h s = let enough : added ls ≤ words = omega (arith, s) in search checking

  pub words_match : length ls ≤ most → added ls ≡ words → Checked (lent_checks most words ls) (accepted 0)
  words_match h e = let enough : added ls ≤ words = omega (arith, e) in let all : words ≤ added ls = omega (arith, e) in search checking

-- the lengths from a place on: the one there, and those behind it
pub added_from : (ls : List ℕ) (i : ℕ) → i < length ls → added (drop i ls) ≡ get_or ls i 0 + added (drop (i + 1) ls)
added_from ls i h = ap added (drop-cons ls i 0 h) ∙ ap (λ (n : ℕ). get_or ls i 0 + added (drop n ls)) (sym (add-one i))

-- what is left at a place, and the lengths from there on, stand as the words to all lengths: so a length there above what is left makes
-- them too many,
pub too_few_left : (most words : ℕ) (ls : List ℕ) (i left : ℕ) → length ls ≤ most → left + added ls ≡ words + added (drop i ls) → i < length ls
    → left < get_or ls i 0 → Checked (lent_checks most words ls) (refused 10 0 0)
too_few_left most words ls i left few rest here h = too_few_words most words ls few (omega (arith, rest, added_from ls i here))

-- and behind the last length what is left are the words behind the lists
pub left_behind : (words : ℕ) (ls : List ℕ) (i left : ℕ) → left + added ls ≡ words + added (drop i ls) → length ls ≤ i → left + added ls ≡ words
left_behind words ls i left rest end = omega (arith, rest, ap added (drop_of_length-le ls end))

-- ---- what passed checks tell

pub few_lists : (most words : ℕ) (ls : List ℕ) → Passed (lent_checks most words ls) → length ls ≤ most
unfolding Passed
few_lists most words ls p = ltb-false most (length ls) p.0

pub words_all : (most words : ℕ) (ls : List ℕ) → Passed (lent_checks most words ls) → added ls ≡ words
unfolding Passed
words_all most words ls p = omega (arith, ltb-false words (added ls) p.1.0, ltb-false (added ls) words p.1.1.0)
