-- Wrong answers that the promises of split and deploy do not allow, for any equation: whatever is not the one ending. A split that refuses, does
-- nothing, answers one part, peels the first part and passes the rest off as whole, invents a count or a length, puts the parts in another order
-- or leaves the work area dirty gives one of these; so does a deploy that keeps room for a refused board, stops there, exchanges two answers or
-- counts only the accepted boards. That there is an ending for every input is what the proofs of the two calls show. Assumes nothing.
use Prim.Native.Nat.{ℕ, zero, suc, ◌≤◌, ◌<◌}
use native.Mathlib.Omega.{arith}
use mathlib.Core.Path.{◌≡◌, refl, sym, ap, ap₂, ◌∙◌, subst}
use mathlib.Core.List.{List, [], ◌∷◌}
use borrow.Author.Tests.{lt-ltb, le-ltb}
use lib.ListN.{length, get_or, replicate}
use lib.Seq.{take-length}
use Rattle.answer.specs.declared.Answer.{Answer}
use Rattle.answer.specs.Table.{accepted, refused}
use Rattle.answer.specs.Ends.{Ends, over}
use Rattle.answer.specs.Checked.{Passed}
use Rattle.answer.proofs.Ends.{passed_accepts}
use Rattle.parts.specs.Split.{Buffers, SplitEnds}
use Rattle.parts.proofs.Determined.{split_is_determined}
use Rattle.lists.specs.Lists.{cut, added}
use Rattle.deploy.specs.Deploy.{InTurn, answer_words, Lent, deploy_checks, Deployed, DeployEnds}
use Rattle.deploy.proofs.Determined.{deploy_is_determined}
use Rattle.deploy.proofs.Boards.{refused_board_takes_no_room, one_board_is_a_split}
use Rattle.demands.proofs.Demands.{accepted_split_holds_the_parts}

-- every word of a cleared area is 0
zeros : (n i : ℕ) → ◌≡◌ {A = ℕ} (get_or (replicate n 0) i 0) 0
zeros zero i = refl
zeros (suc n) zero = refl
zeros (suc n) (suc i) = zeros n i

-- an ending that the promise allows, and the ending of some other program
module _ (max_terms max_vars : ℕ) (f : List ℕ) (old : Buffers) (right : Answer) (left : Buffers) (allowed : SplitEnds max_terms max_vars f old right left)
    (answer : Answer) (new : Buffers) where
  abbrev Allowed : Type 0
  Allowed = SplitEnds max_terms max_vars f old answer new

  only : Allowed → (answer ≡ right) × (new ≡ left)
  only ends = split_is_determined max_terms max_vars f old answer right new left ends allowed

  pub other_endings_are_refuted : ¬ ((answer ≡ right) × (new ≡ left)) → ¬ Allowed
  other_endings_are_refuted isnt ends = isnt (only ends)

  pub any_other_count_is_wrong : ¬ (answer.count ≡ right.count) → ¬ Allowed
  any_other_count_is_wrong isnt ends = isnt (ap (λ (a : Answer). a.count) (only ends).0)

  pub any_other_term_is_wrong : (i : ℕ) → ¬ (get_or new.terms i 0 ≡ get_or left.terms i 0) → ¬ Allowed
  any_other_term_is_wrong i isnt ends = isnt (ap (λ (b : Buffers). get_or b.terms i 0) (only ends).1)

  pub any_other_length_is_wrong : (i : ℕ) → ¬ (get_or new.lengths i 0 ≡ get_or left.lengths i 0) → ¬ Allowed
  any_other_length_is_wrong i isnt ends = isnt (ap (λ (b : Buffers). get_or b.lengths i 0) (only ends).1)

  -- where the equation is accepted
  module _ (taken : right.code ≡ 0) where
    pub any_refusal_is_wrong : 0 < answer.code → ¬ Allowed
    any_refusal_is_wrong h ends = omega (arith, ap (λ (a : Answer). a.code) (only ends).0)

    -- any word of the work area, also behind 4 t
    pub dirty_work_is_wrong : (i : ℕ) → ¬ (get_or new.work i 0 ≡ 0) → ¬ Allowed
    dirty_work_is_wrong i isnt ends =
        let h = accepted_split_holds_the_parts max_terms max_vars f old right left allowed taken in
        isnt (ap (λ (b : Buffers). get_or b.work i 0) (only ends).1 ∙ ap (λ (l : List ℕ). get_or l i 0) h.work ∙ zeros (length old.work) i)

-- ---- deployments

-- an ending of a deployment that the promise allows, and the ending of some other program
module _ (max_lists max_terms max_vars : ℕ) (words ls : List ℕ) (old : Lent) (right : Answer) (left : Lent)
    (allowed : DeployEnds max_lists max_terms max_vars words ls old right left) (answer : Answer) (new : Lent) where
  abbrev AllowedDeployment : Type 0
  AllowedDeployment = DeployEnds max_lists max_terms max_vars words ls old answer new

  pub other_deployments_are_refuted : ¬ ((answer ≡ right) × (new ≡ left)) → ¬ AllowedDeployment
  other_deployments_are_refuted isnt ends = isnt (deploy_is_determined max_lists max_terms max_vars words ls old answer right new left ends allowed)

  -- any word of any board's answer, and any word behind them
  pub any_other_answer_word_is_wrong : (i : ℕ) → ¬ (get_or new.answers i 0 ≡ get_or left.answers i 0) → ¬ AllowedDeployment
  any_other_answer_word_is_wrong i isnt = other_deployments_are_refuted (λ same. isnt (ap (λ (b : Lent). get_or b.answers i 0) same.1))

-- lengths that add to more words than were lent, by the exact sum: every answer but Short is wrong, also where a sum of words of a machine would wrap
pub any_answer_but_short_is_wrong : (max_lists max_terms max_vars : ℕ) (words ls : List ℕ) (old : Lent) (answer : Answer) (new : Lent) → length ls ≤ max_lists
    → length words < added ls → ¬ (answer ≡ refused 10 0 0) → ¬ DeployEnds max_lists max_terms max_vars words ls old answer new
unfolding Ends
any_answer_but_short_is_wrong max_lists max_terms max_vars words ls old answer new few more isnt ends =
    isnt (rw (lt-ltb (length words) (added ls) more) at (rw (le-ltb max_lists (length ls) few) at ends)).0

-- two boards, of which the first is empty and refused; the second alone ends so
module _ (max_lists max_terms max_vars : ℕ) (g : List ℕ) (old : Lent) (two : 2 ≤ max_lists) (room : 8 ≤ length old.answers) (own : Answer) (after : Buffers)
    (alone : SplitEnds max_terms max_vars g old.outputs own after) (answer : Answer) (new : Lent) where
  abbrev AllowedOfTwo : Type 0
  AllowedOfTwo = DeployEnds max_lists max_terms max_vars g (0 ∷ length g ∷ []) old answer new

  passes : Passed (deploy_checks max_lists (length g) (0 ∷ length g ∷ []) (length old.answers))
  unfolding Passed
  passes =
      let all = added (0 ∷ length g ∷ []) in
      (le-ltb max_lists 2 two, (le-ltb (length g) all (omega arith), (le-ltb all (length g) (omega arith), (le-ltb (length old.answers) 8 room, tt))))

  boards : cut (0 ∷ length g ∷ []) g ≡ [] ∷ g ∷ []
  unfolding cut
  boards = ap (λ (l : List ℕ). [] ∷ l ∷ []) (take-length g)

  -- the empty board is refused as zero
  empty_is_refused : (first : Answer) (middle : Buffers) → SplitEnds max_terms max_vars [] old.outputs first middle → first ≡ refused 1 1 0
  unfolding Ends
  empty_is_refused first middle split = (rw (le-ltb max_terms 0 (omega arith)) at split).0

  in_turn : (answers : List Answer) → InTurn max_terms max_vars ([] ∷ g ∷ []) old.outputs answers new.outputs
      → (answers ≡ refused 1 1 0 ∷ own ∷ []) × (new.outputs ≡ after)
  unfolding InTurn
  in_turn answers (first, middle, later, rest, split, turn, e, stands) =
      let zero_first = empty_is_refused first middle split in
      let none = refused_board_takes_no_room max_terms max_vars [] old.outputs first middle split (subst (λ (a : Answer). 0 < a.code) (sym zero_first) (omega arith)) in
      let one = one_board_is_a_split max_terms max_vars g old.outputs later rest (subst (λ (b : Buffers). InTurn max_terms max_vars (g ∷ []) b later rest) none.1 turn) in
      let same = split_is_determined max_terms max_vars g old.outputs one.0 own rest after one.1 alone in
      (e ∙ ap₂ (λ (a : Answer) (l : List Answer). a ∷ l) zero_first (one.2 ∙ ap (λ (a : Answer). a ∷ []) same.0), stands ∙ none.2 rest ∙ same.1)

  only_of_two : AllowedOfTwo → (answer ≡ accepted 2) × (new.answers ≡ over (answer_words (refused 1 1 0 ∷ own ∷ [])) old.answers) × (new.outputs ≡ after)
  only_of_two ends =
      let d = passed_accepts old (Deployed max_terms max_vars (cut (0 ∷ length g ∷ []) g) old) (deploy_checks max_lists (length g) (0 ∷ length g ∷ []) (length old.answers)) answer new passes ends in
      let t = in_turn d.2.1.0 (subst (λ (fs : List (List ℕ)). InTurn max_terms max_vars fs old.outputs d.2.1.0 new.outputs) boards d.2.1.2) in
      (d.1 ∙ ap accepted (d.2.0 ∙ ap length boards), d.2.1.1 ∙ ap (λ (l : List Answer). over (answer_words l) old.answers) t.0, t.1)

  -- parts that stand behind room that the refused board kept, or no parts since it stopped the call: some word is another than after the split alone
  pub gap_for_a_refused_board_is_wrong : (i : ℕ) → ¬ (get_or new.outputs.terms i 0 ≡ get_or after.terms i 0) → ¬ AllowedOfTwo
  gap_for_a_refused_board_is_wrong i isnt ends = isnt (ap (λ (b : Buffers). get_or b.terms i 0) (only_of_two ends).2)

  -- the boards' answers exchanged, where the second is accepted
  pub exchanged_answers_are_wrong : own.code ≡ 0 → new.answers ≡ over (answer_words (own ∷ refused 1 1 0 ∷ [])) old.answers → ¬ AllowedOfTwo
  unfolding answer_words
  exchanged_answers_are_wrong taken stand ends =
      let e : own.code ≡ 1 = ap (λ (l : List ℕ). get_or l 0 0) (sym stand ∙ (only_of_two ends).1) in omega (arith, taken, e)

  -- a count of the accepted boards, not of all
  pub counting_accepted_boards_is_wrong : answer.count ≡ 1 → ¬ AllowedOfTwo
  counting_accepted_boards_is_wrong one ends = omega (arith, one, ap (λ (a : Answer). a.count) (only_of_two ends).0)
