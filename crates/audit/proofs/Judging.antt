-- The given parts are those of the approved list exactly if their words and their lengths are what split wrote. Leans on the theorem that a
-- polynomial has one list of parts. Assumes nothing.
use Prim.Native.Nat.{ℕ}
use mathlib.Core.Path.{◌≡◌, refl, sym, ap, ap₂, ◌∙◌, subst}
use mathlib.Core.Bool.{Bool, true, false, true≢false}
use mathlib.Core.List.{List, [], ◌++◌, append-nil}
use mathlib.Core.Logic.{◌↔◌, ◌⊎◌, inl, inr}
use native.Mathlib.Omega.{arith}
use lib.ListN.{length, take, drop}
use lib.Seq.{take_at}
use Rattle.std.specs.Bool.{IsTrue}
use Rattle.std.specs.Int.{from_bool}
use Rattle.answer.specs.declared.Answer.{Answer}
use Rattle.answer.specs.Checked.{Passed}
use Rattle.answer.proofs.Ends.{passed_accepts}
use Rattle.polys.specs.Parts.{IsParts}
use Rattle.unique.proofs.Same.{parts_are_unique}
use Rattle.taking.specs.Joined.{joined, lengths}
use Rattle.parts.specs.Split.{Buffers, split_checks, Splits, SplitEnds}
use Rattle.lists.specs.Lists.{cut, added}
use Rattle.audit.specs.Audit.{audit_checks, Audited}
use Rattle.audit.specs.Agree.{Agree}
use Rattle.lists.proofs.Cutting.{length_of_lengths, cut_joined, length_joined, lengths_cut, joined_cut, counted_lengths}
use Rattle.audit.proofs.Passing.{words_whole}

module _ (f words ls : List ℕ) (old new : Buffers) (parts : ℕ) (whole : added ls ≡ length words) (splits : Splits f old parts new) where
  ps : List (List ℕ)
  ps = splits.0

  -- the buffers begin with the lengths and the words of the parts
  lengths_there : (n : ℕ) → n ≡ length ps → take n new.lengths ≡ lengths ps
  unfolding ps
  lengths_there n e = ap (λ (b : Buffers). take n b.lengths) splits.3 ∙ counted_lengths ps old.lengths n e

  words_there : (n : ℕ) → length (joined ps) ≡ n → take n new.terms ≡ joined ps
  unfolding ps
  words_there n e = ap (λ (b : Buffers). take n b.terms) splits.3 ∙ take_at (joined ps) (drop (length (joined ps)) old.terms) n e

  -- what agrees with them is cut into the parts
  agree_parts : Agree words ls new.terms new.lengths parts → IsParts f (cut ls words)
  unfolding ps
  agree_parts (counted, same, all) =
      let few : ls ≡ lengths ps = same ∙ lengths_there (length ls) (counted ∙ splits.2) in
      let size : length (joined ps) ≡ length words = length_joined ps ∙ ap added (sym few) ∙ whole in
      let list : words ≡ joined ps ++ [] = all ∙ words_there (length words) size ∙ sym (append-nil (joined ps)) in
      subst (IsParts f) (sym (ap₂ cut few list ∙ cut_joined ps [])) splits.1

  -- and the parts agree with them
  parts_agree : IsParts f (cut ls words) → Agree words ls new.terms new.lengths parts
  unfolding ps
  parts_agree p =
      let same : cut ls words ≡ ps = parts_are_unique f (cut ls words) ps p splits.1 in
      let few : ls ≡ lengths ps = sym (lengths_cut ls words (omega (arith, whole))) ∙ ap lengths same in
      let list : words ≡ joined ps = sym (joined_cut ls words whole) ∙ ap joined same in
      let number : length ls ≡ length ps = ap length few ∙ length_of_lengths ps in
      (number ∙ sym splits.2, few ∙ sym (lengths_there (length ls) number), list ∙ sym (words_there (length words) (ap length (sym list))))

-- the verdict is what was said of words and lengths
pub judged : (max_terms max_vars : ℕ) (f words ls : List ℕ) (old new : Buffers) (parts : ℕ) (r : Bool)
    → Passed (audit_checks max_terms max_vars f words ls (length old.terms) (length old.lengths) (length old.work)) → Splits f old parts new
    → (IsTrue r ↔ Agree words ls new.terms new.lengths parts) → Audited f (cut ls words) old (from_bool r) new
judged max_terms max_vars f words ls old new parts r p splits said = (by r said, (parts, splits))
  where
    whole : added ls ≡ length words
    whole = words_whole max_terms max_vars f words ls _ _ _ p

    by : (r : Bool) → (IsTrue r ↔ Agree words ls new.terms new.lengths parts)
        → ((from_bool r ≡ 1) × IsParts f (cut ls words)) ⊎ ((from_bool r ≡ 0) × ¬ IsParts f (cut ls words))
    by true (agrees, _) = inl (refl, agree_parts f words ls old new parts whole splits (agrees refl))
    by false (_, if_agrees) = inr (refl, λ is. true≢false (sym (if_agrees (parts_agree f words ls old new parts whole splits is))))

-- the number that an accepted split answers
pub counted_by_split : (max_terms max_vars : ℕ) (f : List ℕ) (old new : Buffers) (its mine : Answer)
    → Passed (split_checks max_terms max_vars f (length old.terms) (length old.lengths) (length old.work))
    → SplitEnds max_terms max_vars f old its new → mine ≡ its → Splits f old mine.count new
counted_by_split max_terms max_vars f old new its mine p ends e =
    let a = passed_accepts old (Splits f old) _ its new p ends in
    subst (λ (n : ℕ). Splits f old n new) (sym (ap (λ (x : Answer). x.count) (e ∙ a.1))) a.2
