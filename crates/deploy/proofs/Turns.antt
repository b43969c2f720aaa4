-- One turn of a deployment behind the other. Leans on the theorems on words cut into lists. Assumes nothing.
use Prim.Native.Nat.{ℕ, ◌+◌, ◌-◌, ◌*◌, ◌≤◌, ◌<◌}
use native.Mathlib.Omega.{arith}
use mathlib.Core.Path.{◌≡◌, refl, sym, ap, ap₂, ◌∙◌, subst}
use mathlib.Core.List.{List, [], ◌∷◌, ◌++◌, append_assoc, append-nil}
use mathlib.Core.Logic.{◌⊎◌, inl, inr}
use lib.ListN.{length, get_or, take, drop, length-append, length-drop, length-take, take-append-drop}
use lib.Seq.{take_at, drop_at, drop-drop, take-add, length-take-le}
use Rattle.std.specs.List.{sum}
use Rattle.std.proofs.lemmas.List.Recursion.{is_sum_by}
use Rattle.answer.specs.declared.Answer.{Answer}
use Rattle.answer.specs.Ends.{over}
use Rattle.answer.proofs.Ends.{Accepts, Refuses}
use Rattle.taking.specs.Joined.{joined, lengths}
use Rattle.lists.specs.Lists.{cut, added}
use Rattle.lists.proofs.Cutting.{length_of_lengths, length_joined, counted_lengths, length_cut, cut_next, none_behind}
use Rattle.parts.specs.Split.{Buffers, Splits, SplitEnds}
use Rattle.deploy.specs.declared.Filled.{Filled}
use Rattle.deploy.specs.Deploy.{filled, left, kept, InTurn, answer_words, Deployed}
use Rattle.deploy.specs.Turn.{behind, SplitBehind, Turned}
use Rattle.deploy.proofs.Boards.{split_accepted_or_refused}
use Rattle.deploy.proofs.Answers.{four_words_each}

-- a list that is written at the start of another fits there
written_fits : (p d : List ℕ) → length p ≤ length (over p d)
written_fits p d = omega (arith, length-append p (drop (length p) d))

-- what a split filled is there
pub fits : (max_terms max_vars : ℕ) (f : List ℕ) (old : Buffers) (answer : Answer) (new : Buffers) → SplitEnds max_terms max_vars f old answer new
    → (answer.count ≤ length new.lengths) × (filled answer.count new ≤ length new.terms)
fits max_terms max_vars f old answer new ends = by (split_accepted_or_refused max_terms max_vars f old answer new ends)
  where
    by : Accepts (Splits f old) answer new ⊎ Refuses old answer new → (answer.count ≤ length new.lengths) × (filled answer.count new ≤ length new.terms)
    by (inr refused) = let e = refused.1 in (omega (arith, e), omega (arith, ap (λ (n : ℕ). filled n new) e))
    by (inl (count, said, (ps, parts, counted, stands))) =
        let all : answer.count ≡ length ps = ap (λ (a : Answer). a.count) said ∙ counted in
        let in_terms : new.terms ≡ over (joined ps) old.terms = ap (λ (b : Buffers). b.terms) stands in
        let in_lengths : new.lengths ≡ over (lengths ps) old.lengths = ap (λ (b : Buffers). b.lengths) stands in
        let whole : filled answer.count new ≡ length (joined ps)
        = ap (λ (l : List ℕ). added (take answer.count l)) in_lengths ∙ ap added (counted_lengths ps old.lengths answer.count all) ∙ sym (length_joined ps) in (
          omega (arith, counted, length_of_lengths ps, written_fits (lengths ps) old.lengths, ap length in_lengths),
          omega (arith, whole, written_fits (joined ps) old.terms, ap length in_terms),
        )

-- the lengths added are their sum
sum_is_added : (ls : List ℕ) → sum ls ≡ added ls
sum_is_added ls = sym (is_sum_by added (λ x. x) refl (λ _ _. refl) ls)

-- a split behind what was filled
module _ {max_terms max_vars : ℕ} {f : List ℕ} {at : Filled} {old : Buffers} {answer : Answer} {new : Buffers}
    (split : SplitBehind max_terms max_vars f at old answer new) {n : ℕ}
    (room : (4 ≤ n) × (at.terms ≤ length old.terms) × (at.parts ≤ length old.lengths)) where
  -- what was filled is there still,
  filled_stays : (at.terms ≤ length new.terms) × (at.parts ≤ length new.lengths)
  filled_stays = (
    stays at.terms old.terms new.terms split.terms_stay room.1,
    stays at.parts old.lengths new.lengths split.lengths_stay room.2,
  )
    where
      stays : (k : ℕ) (l l' : List ℕ) → take k l' ≡ take k l → k ≤ length l → k ≤ length l'
      stays k l l' e h = omega (arith, ap length e, length-take-le k l h, length-take k l')

  -- and so is what it filled,
  pub behind_fits : (at.parts + answer.count ≤ length new.lengths) × (at.terms + filled answer.count (behind at new) ≤ length new.terms)
  behind_fits =
      let fit = fits max_terms max_vars f (behind at old) answer (behind at new) split.ends in (
        omega (arith, fit.0, filled_stays, length-drop at.parts new.lengths),
        omega (arith, fit.1, filled_stays, length-drop at.terms new.terms),
      )

  -- and so many words it is, by its lengths as they are lent
  pub lent_lengths : sum (take (at.parts + answer.count - at.parts) (drop at.parts new.lengths)) ≡ filled answer.count (behind at new)
  lent_lengths =
      let e : at.parts + answer.count - at.parts ≡ answer.count = omega arith in
      sum_is_added (take (at.parts + answer.count - at.parts) (drop at.parts new.lengths)) ∙ ap (λ (n : ℕ). added (take n (drop at.parts new.lengths))) e

  pub lent_fits : at.terms + sum (take (at.parts + answer.count - at.parts) (drop at.parts new.lengths)) ≤ length new.terms
  lent_fits = omega (arith, lent_lengths, behind_fits.1)

  -- with its answer written the turn is done
  pub turn_done : {before now : List ℕ} {total : ℕ} → now ≡ answer_words (answer ∷ []) ++ drop 4 before
      → total ≡ sum (take (at.parts + answer.count - at.parts) (drop at.parts new.lengths))
      → Turned max_terms max_vars f at before old now new (record { terms = at.terms + total; parts = at.parts + answer.count })
  turn_done {before} {now} {total} told counted = record {
    answer = answer;
    split = split;
    told = told;
    terms = ap (◌+◌ at.terms) (counted ∙ lent_lengths);
    parts = refl;
    terms_fit = omega (arith, counted, lent_fits);
    parts_fit = behind_fits.0;
  }

-- ---- between two boards

-- the words of some answers and of others are those of all
words_append : (xs ys : List Answer) → answer_words (xs ++ ys) ≡ answer_words xs ++ answer_words ys
unfolding answer_words
words_append [] ys = refl
words_append (a ∷ xs) ys = ap (λ (l : List ℕ). a.code ∷ a.operand ∷ a.place ∷ a.count ∷ l) (words_append xs ys)

-- what is filled, and behind it what later splits made of the rest
abbrev before : Filled → Buffers → Buffers → Buffers
before at b rest = record { terms = take at.terms b.terms ++ rest.terms; lengths = take at.parts b.lengths ++ rest.lengths; work = rest.work }

-- so many lists have their answers; whatever splitting the others in turn gives now, it is what splitting all of them gives
pub record Standing (max_terms max_vars : ℕ) (words ls answers₀ : List ℕ) (old : Buffers) (i : ℕ) (rest : List ℕ) (at : Filled) (answers : List ℕ) (b : Buffers) : Type 0 where
  pub done : List Answer
  pub counted : length done ≡ i
  pub told : answers ≡ answer_words done ++ drop (4 * i) answers₀
  pub goes_on : (later : List Answer) (end : Buffers) → InTurn max_terms max_vars (cut (drop i ls) rest) (behind at b) later end
      → InTurn max_terms max_vars (cut ls words) old (done ++ later) (before at b end)

module _ (max_terms max_vars : ℕ) (words ls answers₀ : List ℕ) (old : Buffers) where
  -- before the first board nothing is done
  pub standing_first : Standing max_terms max_vars words ls answers₀ old 0 words (record { terms = 0; parts = 0 }) answers₀ old
  unfolding answer_words
  standing_first = record { done = []; counted = refl; told = refl; goes_on = λ later end turn. turn }

  module _ (i : ℕ) (rest : List ℕ) (at : Filled) (answers : List ℕ) (b : Buffers)
      (stands : Standing max_terms max_vars words ls answers₀ old i rest at answers b) where
    abbrev done : List Answer
    done = stands.done

    -- the words of what is done
    four_each : length (answer_words done) ≡ 4 * i
    four_each = four_words_each done ∙ ap (◌*◌ 4) stands.counted

    -- one board more
    module _ (here : i < length ls) (list behind_it : List ℕ) (front : list ≡ take (get_or ls i 0) rest) (back : behind_it ≡ drop (get_or ls i 0) rest)
        (lent room answers' : List ℕ) (there : lent ≡ drop (4 * i) answers) (placed : answers' ≡ take (4 * i) answers ++ room)
        (new : Buffers) (at' : Filled) (turned : Turned max_terms max_vars list at lent b room new at') where
      abbrev answer : Answer
      answer = turned.answer

      abbrev after : Buffers
      after = behind at new

      -- its answer stands behind those before it
      answered : answers' ≡ answer_words (done ++ (answer ∷ [])) ++ drop (4 * (i + 1)) answers₀
      answered =
          let first : take (4 * i) answers ≡ answer_words done = ap (take (4 * i)) stands.told ∙ take_at (answer_words done) (drop (4 * i) answers₀) (4 * i) four_each in
          let then : drop (4 * i) answers ≡ drop (4 * i) answers₀ = ap (drop (4 * i)) stands.told ∙ drop_at (answer_words done) (drop (4 * i) answers₀) (4 * i) four_each in
          let four : 4 * i + 4 ≡ 4 * (i + 1) = omega arith in
          placed
          ∙ ap₂ (λ (p q : List ℕ). p ++ q) first
          (turned.told ∙ ap (λ (l : List ℕ). answer_words (answer ∷ []) ++ drop 4 l) (there ∙ then)
          ∙ ap (λ (l : List ℕ). answer_words (answer ∷ []) ++ l) (drop-drop 4 (4 * i) answers₀ ∙ ap (λ (n : ℕ). drop n answers₀) four))
          ∙ sym (append_assoc (answer_words done) (answer_words (answer ∷ [])) (drop (4 * (i + 1)) answers₀))
          ∙ ap (λ (l : List ℕ). l ++ drop (4 * (i + 1)) answers₀) (sym (words_append done (answer ∷ [])))

      -- the room that it left is what is behind all that is filled,
      room_left : left answer.count after ≡ behind at' new
      room_left =
          ap₂ (λ (p q : List ℕ). record { terms = p; lengths = q; work = new.work })
          (drop-drop (filled answer.count after) at.terms new.terms ∙ ap (λ (n : ℕ). drop n new.terms) (sym turned.terms))
          (drop-drop answer.count at.parts new.lengths ∙ ap (λ (n : ℕ). drop n new.lengths) (sym turned.parts))

      -- and what it wrote stands behind what was filled before
      all_kept : (end : Buffers) → before at b (kept answer.count after end) ≡ before at' new end
      all_kept end =
          ap₂ (λ (p q : List ℕ). record { terms = p; lengths = q; work = end.work })
          (together at.terms (filled answer.count after) at'.terms b.terms new.terms end.terms turned.split.terms_stay turned.terms)
          (together at.parts answer.count at'.parts b.lengths new.lengths end.lengths turned.split.lengths_stay turned.parts)
        where
          together : (m n k : ℕ) (l new end : List ℕ) → take m new ≡ take m l → k ≡ m + n → take m l ++ (take n (drop m new) ++ end) ≡ take k new ++ end
          together m n k l new end e f =
              ap (λ (p : List ℕ). p ++ (take n (drop m new) ++ end)) (sym e)
              ∙ sym (append_assoc (take m new) (take n (drop m new)) end)
              ∙ ap (λ (p : List ℕ). p ++ end) (sym (take-add m n new) ∙ ap (λ (j : ℕ). take j new) (sym f))

      -- the lists from here on are its own and those behind it
      lists_from : cut (drop i ls) rest ≡ list ∷ cut (drop (i + 1) ls) behind_it
      lists_from = cut_next ls rest i here ∙ ap₂ (λ (f r : List ℕ). f ∷ cut (drop (i + 1) ls) r) (sym front) (sym back)

      pub standing_on : Standing max_terms max_vars words ls answers₀ old (i + 1) behind_it at' answers' new
      unfolding InTurn
      standing_on = record {
        done = done ++ (answer ∷ []);
        counted = length-append done (answer ∷ []) ∙ ap (λ (n : ℕ). n + 1) stands.counted;
        told = answered;
        goes_on =
            λ later end turn.
            let fs = cut (drop (i + 1) ls) behind_it in
            let goes_on : InTurn max_terms max_vars fs (left answer.count after) later end
            = subst (λ (room : Buffers). InTurn max_terms max_vars fs room later end) (sym room_left) turn in
            let this : InTurn max_terms max_vars (list ∷ fs) (behind at b) (answer ∷ later) (kept answer.count after end)
            = (answer, after, later, end, turned.split.ends, goes_on, refl, refl) in
            subst (λ (all : List Answer). InTurn max_terms max_vars (cut ls words) old all (before at' new end)) (sym (append_assoc done (answer ∷ []) later))
            (subst (λ (e : Buffers). InTurn max_terms max_vars (cut ls words) old (done ++ (answer ∷ later)) e) (all_kept end)
            (stands.goes_on (answer ∷ later) (kept answer.count after end)
            (subst (λ (gs : List (List ℕ)). InTurn max_terms max_vars gs (behind at b) (answer ∷ later) (kept answer.count after end))
            (sym lists_from) this)));
      }

    -- behind the last board all is done
    pub standing_last : i ≡ length ls → Deployed max_terms max_vars (cut ls words) (record { answers = answers₀; outputs = old }) (length ls) (record { answers = answers; outputs = b })
    unfolding InTurn
    standing_last e = (
      sym (length_cut ls words),
      (
        done,
        stands.told ∙ ap (λ (n : ℕ). answer_words done ++ drop n answers₀) (sym four_each),
        subst (λ (end : Buffers). InTurn max_terms max_vars (cut ls words) old done end)
            (ap₂ (λ (p q : List ℕ). record { terms = p; lengths = q; work = b.work }) (take-append-drop at.terms b.terms) (take-append-drop at.parts b.lengths))
            (subst (λ (all : List Answer). InTurn max_terms max_vars (cut ls words) old all (before at b (behind at b))) (append-nil done)
            (stands.goes_on [] (behind at b)
            (subst (λ (gs : List (List ℕ)). InTurn max_terms max_vars gs (behind at b) [] (behind at b)) (sym (none_behind ls rest i e)) (refl, refl)))),
      ),
    )
