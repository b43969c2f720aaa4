-- What a deployment means for a single board: a refused one takes no room, the work area is cleared by those that are accepted, and one alone
-- is a split. Assumes nothing.
use Prim.Native.Nat.{ℕ, ◌+◌, ◌≤◌, ◌<◌}
use native.Mathlib.Omega.{arith}
use mathlib.Core.Path.{◌≡◌, refl, sym, ap, ap₂, ◌∙◌, subst}
use mathlib.Core.List.{List, [], ◌∷◌}
use mathlib.Core.Logic.{◌⊎◌, inl, inr}
use borrow.Author.Tests.{le-ltb}
use lib.ListN.{length, replicate, take-append-drop, length-replicate}
use lib.Seq.{take-length}
use Rattle.answer.specs.declared.Answer.{Answer}
use Rattle.answer.specs.Table.{accepted}
use Rattle.answer.specs.Ends.{over}
use Rattle.answer.specs.Checked.{Passed, coded}
use Rattle.answer.proofs.Ends.{Accepts, Refuses, refusal_keeps, passed_accepts, accepted_or_refused, ends_if_passed}
use Rattle.lists.specs.Lists.{cut}
use Rattle.parts.specs.Split.{Buffers, split_checks, Splits, SplitEnds}
use Rattle.deploy.specs.Deploy.{filled, left, kept, InTurn, answer_words, Lent, deploy_checks, Deployed, DeployEnds}
use Rattle.deploy.specs.Work.{WorkAfter}

-- ---- accepted or refused

-- a split is accepted or refused
pub split_accepted_or_refused : (max_terms max_vars : ℕ) (f : List ℕ) (old : Buffers) (answer : Answer) (new : Buffers)
    → SplitEnds max_terms max_vars f old answer new → Accepts (Splits f old) answer new ⊎ Refuses old answer new
unfolding coded
split_accepted_or_refused max_terms max_vars f old answer new ends =
    accepted_or_refused old (Splits f old) (split_checks max_terms max_vars f (length old.terms) (length old.lengths) (length old.work)) answer new refl ends

-- ---- a refused board

-- nothing counted is nothing filled: what is left is what was there, and what is kept is what later splits made of it
nothing_left_out : (count : ℕ) (after old : Buffers) → count ≡ 0 → after ≡ old → left count after ≡ old
nothing_left_out count after old e f = ap₂ left e f

nothing_kept : (count : ℕ) (after rest : Buffers) → count ≡ 0 → kept count after rest ≡ rest
nothing_kept count after rest e = ap (λ (n : ℕ). kept n after rest) e

module _ (max_terms max_vars : ℕ) (f : List ℕ) (old : Buffers) (answer : Answer) (after : Buffers) (split : SplitEnds max_terms max_vars f old answer after)
    (refused : 0 < answer.code) where
  -- its split counts nothing and leaves every buffer
  refuses : Refuses old answer after
  refuses = of (split_accepted_or_refused max_terms max_vars f old answer after split)
    where
      of : Accepts (Splits f old) answer after ⊎ Refuses old answer after → Refuses old answer after
      of (inl a) = absurd (let z : ⊥ = omega (arith, ap (λ (x : Answer). x.code) a.1) in z)
      of (inr r) = r

  -- a refused board takes no room: the next finds what it found, and what the others leave is what is left
  pub refused_board_takes_no_room : (after ≡ old) × (left answer.count after ≡ old) × ((rest : Buffers) → kept answer.count after rest ≡ rest)
  refused_board_takes_no_room =
      (refuses.2, nothing_left_out answer.count after old refuses.1 refuses.2, (λ rest. nothing_kept answer.count after rest refuses.1))

-- so a deployment whose first board is refused goes on as the deployment of the others
pub refused_board_could_stay_away : (max_terms max_vars : ℕ) (f : List ℕ) (fs : List (List ℕ)) (old : Buffers) (answer : Answer) (later : List Answer) (new : Buffers)
    → InTurn max_terms max_vars (f ∷ fs) old (answer ∷ later) new → 0 < answer.code → InTurn max_terms max_vars fs old later new
unfolding InTurn
refused_board_could_stay_away max_terms max_vars f fs old answer later new (x, after, xs, rest, split, turn, e, stands) refused =
    let first : x ≡ answer = cc in
    let others : xs ≡ later = cc in
    let none = refused_board_takes_no_room max_terms max_vars f old x after split (subst (λ (a : Answer). 0 < a.code) (sym first) refused) in
    subst (λ (l : List Answer). InTurn max_terms max_vars fs old l new) others
    (subst (λ (b : Buffers). InTurn max_terms max_vars fs old xs b) (sym (stands ∙ none.2 rest))
    (subst (λ (b : Buffers). InTurn max_terms max_vars fs b xs rest) none.1 turn))

-- ---- the work area

-- the work area after a deployment
pub work_cleared_or_kept : (max_terms max_vars : ℕ) (fs : List (List ℕ)) (old : Buffers) (answers : List Answer) (new : Buffers)
    → InTurn max_terms max_vars fs old answers new → WorkAfter answers old.work new.work
unfolding InTurn
work_cleared_or_kept max_terms max_vars [] old answers new (e, stands) =
    subst (λ (l : List Answer). WorkAfter l old.work new.work) (sym e) (inr (tt, ap (λ (b : Buffers). b.work) stands))
work_cleared_or_kept max_terms max_vars (f ∷ fs) old answers new (answer, after, later, rest, split, turn, e, stands) =
    let ends = split_accepted_or_refused max_terms max_vars f old answer after split in
    let then = work_cleared_or_kept max_terms max_vars fs (left answer.count after) later rest turn in
    subst (λ (l : List Answer). WorkAfter l old.work new.work) (sym e)
    (subst (WorkAfter (answer ∷ later) old.work) (sym (ap (λ (b : Buffers). b.work) stands)) (both_steps ends then))
  where
    as_long : (a b : List ℕ) → a ≡ replicate (length b) 0 → replicate {A = ℕ} (length a) 0 ≡ replicate (length b) 0
    as_long a b e = ap (λ (n : ℕ). replicate {A = ℕ} n 0) (ap length e ∙ length-replicate {A = ℕ} (length b) 0)

    both_steps : Accepts (Splits f old) answer after ⊎ Refuses old answer after → WorkAfter later after.work rest.work
        → WorkAfter (answer ∷ later) old.work rest.work
    both_steps (inl a) (inl b) =
        inl (inr b.0, b.1 ∙ as_long after.work old.work (ap (λ (d : Buffers). d.work) a.2.3))
    both_steps (inl a) (inr b) = inl (inl (ap (λ (x : Answer). x.code) a.1), b.1 ∙ ap (λ (d : Buffers). d.work) a.2.3)
    both_steps (inr a) (inl b) = inl (inr b.0, b.1 ∙ ap (λ (d : Buffers). replicate {A = ℕ} (length d.work) 0) a.2)
    both_steps (inr a) (inr b) = inr ((a.0, b.0), b.1 ∙ ap (λ (d : Buffers). d.work) a.2)

-- ---- one board

-- what a split wrote, and behind it the room that it left: all that it left
kept_left : (count : ℕ) (after : Buffers) → kept count after (left count after) ≡ after
kept_left count after =
    ap₂ (λ (t l : List ℕ). with_work t l) (take-append-drop (filled count after) after.terms) (take-append-drop count after.lengths)
  where
    with_work : List ℕ → List ℕ → Buffers
    with_work t l = record { terms = t; lengths = l; work = after.work }

module _ (max_terms max_vars : ℕ) (f : List ℕ) where
  -- one list in turn is a split of it,
  pub one_board_is_a_split : (old : Buffers) (answers : List Answer) (new : Buffers) → InTurn max_terms max_vars (f ∷ []) old answers new
      → (answer : Answer) × SplitEnds max_terms max_vars f old answer new × (answers ≡ answer ∷ [])
  unfolding InTurn
  one_board_is_a_split old answers new (answer, after, later, rest, split, (none, same), e, stands) = (
    answer,
    subst (SplitEnds max_terms max_vars f old answer) (sym (stands ∙ ap (kept answer.count after) same ∙ kept_left answer.count after)) split,
    e ∙ ap (λ (l : List Answer). answer ∷ l) none,
  )

  -- and a split is one list in turn
  pub split_is_one_board : (old : Buffers) (answer : Answer) (new : Buffers) → SplitEnds max_terms max_vars f old answer new
      → InTurn max_terms max_vars (f ∷ []) old (answer ∷ []) new
  unfolding InTurn
  split_is_one_board old answer new split =
      (answer, new, [], left answer.count new, split, (refl, refl), refl, sym (kept_left answer.count new))

  module _ (max_lists : ℕ) (old : Lent) (some : 1 ≤ max_lists) (room : 4 ≤ length old.answers) where
    -- no check of deploy refuses one list with room for its answer
    passes : Passed (deploy_checks max_lists (length f) (length f ∷ []) (length old.answers))
    unfolding Passed
    passes =
        (le-ltb max_lists 1 some, (le-ltb (length f) (length f + 0) (omega arith), (le-ltb (length f + 0) (length f) (omega arith), (le-ltb (length old.answers) 4 room, tt))))

    -- the list that is cut out of the words is all of them
    whole : cut (length f ∷ []) f ≡ f ∷ []
    unfolding cut
    whole = ap (λ (l : List ℕ). l ∷ []) (take-length f)

    -- a deployment of one board is accepted with count 1, its answer is the one of the split, and the buffers are as the split leaves them,
    pub deployment_of_one_is_a_split : (answer : Answer) (new : Lent) → DeployEnds max_lists max_terms max_vars f (length f ∷ []) old answer new
        → (answer ≡ accepted 1) × ((a : Answer) × (new.answers ≡ over (answer_words (a ∷ [])) old.answers) × SplitEnds max_terms max_vars f old.outputs a new.outputs)
    deployment_of_one_is_a_split answer new ends =
        let d = passed_accepts old (Deployed max_terms max_vars (cut (length f ∷ []) f) old) (deploy_checks max_lists (length f) (length f ∷ []) (length old.answers)) answer new passes ends in
        let s = one_board_is_a_split old.outputs d.2.1.0 new.outputs
        (subst (λ (fs : List (List ℕ)). InTurn max_terms max_vars fs old.outputs d.2.1.0 new.outputs) whole d.2.1.2) in (
          d.1 ∙ ap accepted (d.2.0 ∙ ap length whole),
          (s.0, d.2.1.1 ∙ ap (λ (l : List Answer). over (answer_words l) old.answers) s.2, s.1),
        )

    -- and with what a split leaves it ends so
    pub split_is_a_deployment_of_one : (a : Answer) (new : Buffers) → SplitEnds max_terms max_vars f old.outputs a new
        → DeployEnds max_lists max_terms max_vars f (length f ∷ []) old (accepted 1) (record { answers = over (answer_words (a ∷ [])) old.answers; outputs = new })
    split_is_a_deployment_of_one a new split =
        ends_if_passed old (Deployed max_terms max_vars (cut (length f ∷ []) f) old) (deploy_checks max_lists (length f) (length f ∷ []) (length old.answers)) 1 _ passes (
          ap length (sym whole),
          (
            a ∷ [],
            refl,
            subst (λ (fs : List (List ℕ)). InTurn max_terms max_vars fs old.outputs (a ∷ []) new) (sym whole) (split_is_one_board old.outputs a new split),
          ),
        )

-- ---- a refused deployment

-- every lent buffer is as it was
pub refused_deploy_keeps_every_buffer : (max_lists max_terms max_vars : ℕ) (words ls : List ℕ) (old : Lent) (answer : Answer) (new : Lent)
    → DeployEnds max_lists max_terms max_vars words ls old answer new → 0 < answer.code → new ≡ old
refused_deploy_keeps_every_buffer max_lists max_terms max_vars words ls old =
    refusal_keeps old (Deployed max_terms max_vars (cut ls words) old) (deploy_checks max_lists (length words) ls (length old.answers))
