-- Boards with enough room for all: each gets the answer that it gets alone, whatever the others are. Serves Demands. Leans on the counts of the
-- parts: there are no more than variables, and together they have at most as many terms as the list and there are variables.
use Prim.Native.Nat.{ℕ, zero, suc, ◌+◌, ◌*◌, ◌-◌, ◌^◌, ◌≤◌, ◌<◌}
use native.Mathlib.Omega.{arith}
use mathlib.Core.Path.{◌≡◌, refl, sym, ap, ap₂, ◌∙◌, subst}
use mathlib.Core.Bool.{Bool, true, false}
use mathlib.Core.List.{List, [], ◌∷◌, ◌++◌}
use mathlib.Core.Logic.{◌⊎◌, inl, inr}
use borrow.Author.Tests.{ltb-false, le-ltb}
use lib.Count.{ones-le}
use lib.Dec.{ltb, eqb}
use lib.ListN.{length, get_or, take, drop, length-drop, length-replicate}
use lib.Pow.{pow_pos}
use lib.Seq.{drop_at, get_or-drop}
use Rattle.answer.specs.declared.Answer.{Answer}
use Rattle.answer.specs.Table.{accepted, refused}
use Rattle.answer.specs.Ends.{Check, check, if, Ends, over}
use Rattle.answer.specs.Checked.{Passed, coded}
use Rattle.answer.proofs.Ends.{Accepts, accepted_passed, passed_accepts, Refuses}
use Rattle.answer.proofs.Checking.{passed_first}
use Rattle.polys.specs.Poly.{vars}
use Rattle.polys.specs.Parts.{Each}
use Rattle.terms.specs.Order.{unordered}
use Rattle.terms.proofs.Vars.{vars_below}
use Rattle.unique.proofs.Same.{parts_are_unique}
use Rattle.unique.proofs.Counts.{number_of_parts}
use Rattle.taking.specs.Joined.{joined, lengths}
use Rattle.parts.specs.Split.{Buffers, split_checks, Splits, SplitEnds}
use Rattle.lists.specs.Lists.{cut, added, lent_checks}
use Rattle.lists.proofs.Counting.{words_all}
use Rattle.lists.proofs.Cutting.{length_of_lengths, length_joined, lengths_cut, counted_lengths}
use Rattle.deploy.specs.Deploy.{filled, left, InTurn, answer_words, Lent, deploy_checks, Deployed, DeployEnds}
use Rattle.deploy.proofs.Answers.{as_many_answers}
use Rattle.deploy.proofs.Boards.{split_accepted_or_refused}
use Rattle.demands.specs.Told.{Words}
use Rattle.demands.specs.Room.{WorkFor, Room, Enough, answer_at, EnoughLent}
use Rattle.demands.proofs.Buffers.{added_words, added_at_most}

-- ---- a split with room

-- the checks of split, with the tests of room
tested : ℕ → List ℕ → Bool → Bool → Bool → List Check
tested max_terms f terms lengths work =
    check (ltb max_terms (length f)) 2 1 0
    ∷ check (eqb (length f) 0) 1 1 0
    ∷ check (ltb (unordered f) (length f)) 3 1 (unordered f)
    ∷ check terms 6 1 0
    ∷ check lengths 6 1 0
    ∷ check work 7 1 0
    ∷ []

-- where there is room, none of these fails for a list that is not too long
roomy : (max_terms max_vars : ℕ) (f : List ℕ) (old : Buffers) → Room max_terms max_vars f old → length f ≤ max_terms
    → split_checks max_terms max_vars f (length old.terms) (length old.lengths) (length old.work) ≡ tested max_terms f false false false
unfolding tested
roomy max_terms max_vars f old room few =
    ap₂ (λ (s t : Bool). tested max_terms f s t (ltb (length old.work) (4 * length f)))
    (le-ltb (length old.terms) (length f + max_vars) room.for_terms) (le-ltb (length old.lengths) max_vars room.for_lengths)
    ∙ ap (tested max_terms f false false) (le-ltb (length old.work) (4 * length f) (room.for_work few))

-- two calls with the same checks have the same answer where acceptance counts the same
alike : (t : Bool) {X Y X' Y' Z : Type 0} → (X → X' → Z) → (Y → Y' → Z) → if t X Y → if t X' Y' → Z
alike true f g x x' = f x x'
alike false f g y y' = g y y'

same_checks_same_answer : {B : Type 0} (old old' : B) (A A' : ℕ → B → Type 0) → ((m n : ℕ) (x y : B) → A m x → A' n y → m ≡ n) → (cs : List Check)
    (answer answer' : Answer) (new new' : B) → Ends cs old A answer new → Ends cs old' A' answer' new' → answer ≡ answer'
unfolding Ends
same_checks_same_answer old old' A A' once [] answer answer' new new' (m, e, a) (n, e', a') = e ∙ ap accepted (once m n new new' a a') ∙ sym e'
same_checks_same_answer old old' A A' once (c ∷ cs) answer answer' new new' p q =
    alike c.fails (λ r s. r.0 ∙ sym s.0) (λ r s. same_checks_same_answer old old' A A' once cs answer answer' new new' r s) p q

-- a list that is too long is refused, whatever room there is
too_long : (max_terms max_vars : ℕ) (f : List ℕ) (old : Buffers) (answer : Answer) (new : Buffers) → ltb max_terms (length f) ≡ true
    → SplitEnds max_terms max_vars f old answer new → answer ≡ refused 2 1 0
unfolding Ends
too_long max_terms max_vars f old answer new e split = (rw e at split).0

-- two splits of a list, both with room, have the same answer, whatever the buffers hold
pub answer_with_room : (max_terms max_vars : ℕ) (f : List ℕ) (old old' : Buffers) (answer answer' : Answer) (new new' : Buffers) → Room max_terms max_vars f old
    → Room max_terms max_vars f old' → SplitEnds max_terms max_vars f old answer new → SplitEnds max_terms max_vars f old' answer' new' → answer ≡ answer'
answer_with_room max_terms max_vars f old old' answer answer' new new' room room' split split' =
    by_length (ltb max_terms (length f)) refl
  where
    once : (m n : ℕ) (x y : Buffers) → Splits f old m x → Splits f old' n y → m ≡ n
    once m n x y a b = a.2 ∙ ap length (parts_are_unique f a.0 b.0 a.1 b.1) ∙ sym b.2

    by_length : (t : Bool) → ltb max_terms (length f) ≡ t → answer ≡ answer'
    by_length true e = too_long max_terms max_vars f old answer new e split ∙ sym (too_long max_terms max_vars f old' answer' new' e split')
    by_length false e =
        let few = ltb-false max_terms (length f) e in
        same_checks_same_answer old old' (Splits f old) (Splits f old') once (tested max_terms f false false false) answer answer' new new'
        (subst (λ (cs : List Check). Ends cs old (Splits f old) answer new) (roomy max_terms max_vars f old room few) split)
        (subst (λ (cs : List Check). Ends cs old' (Splits f old') answer' new') (roomy max_terms max_vars f old' room' few) split')

-- ---- what a split leaves

-- no more of each output is taken than a split asks for, and the work area is as long as before
pub record Leaves (max_vars t : ℕ) (old rest : Buffers) : Type 0 where
  pub of_terms : length old.terms ≤ length rest.terms + (t + max_vars)
  pub of_lengths : length old.lengths ≤ length rest.lengths + max_vars
  pub of_work : length rest.work ≡ length old.work

-- written and dropped again, what stood behind it is left
behind : (p d : List ℕ) (n : ℕ) → n ≡ length p → length (drop n (over p d)) ≡ length d - n
behind p d n e = ap length (drop_at p (drop (length p) d) n (sym e)) ∙ length-drop (length p) d ∙ ap (◌-◌ (length d)) (sym e)

pub split_leaves : (max_terms max_vars : ℕ) (f : List ℕ) (old : Buffers) (answer : Answer) (after : Buffers) → Words max_vars f
    → SplitEnds max_terms max_vars f old answer after → Leaves max_vars (length f) old (left answer.count after)
split_leaves max_terms max_vars f old answer after words split = of (split_accepted_or_refused max_terms max_vars f old answer after split)
  where
    of : Accepts (Splits f old) answer after ⊎ Refuses old answer after → Leaves max_vars (length f) old (left answer.count after)
    of (inr (_, none, same)) =
        subst (Leaves max_vars (length f) old) (sym (ap₂ left none same)) (record { of_terms = omega arith; of_lengths = omega arith; of_work = refl })
    of (inl (count, e, (ps, parts, counted, stands))) =
        let c : answer.count ≡ length ps = ap (λ (a : Answer). a.count) e ∙ counted in
        let l : take answer.count after.lengths ≡ lengths ps =
        ap (λ (b : Buffers). take answer.count b.lengths) stands ∙ counted_lengths ps old.lengths answer.count c in
        let n : filled answer.count after ≡ length (joined ps) = ap added l ∙ sym (length_joined ps) in
        let few : length ps ≤ max_vars = omega (arith, number_of_parts f ps parts, ones-le max_vars (vars f) (vars_below max_vars f words)) in
        let short : filled answer.count after ≤ length f + max_vars = omega (arith, ap added l, added_words ps, added_at_most max_vars f ps words parts) in
        let t : length (drop (filled answer.count after) after.terms) ≡ length old.terms - filled answer.count after =
        ap (λ (b : Buffers). length (drop (filled answer.count after) b.terms)) stands ∙ behind (joined ps) old.terms (filled answer.count after) n in
        let k : length (drop answer.count after.lengths) ≡ length old.lengths - answer.count =
        ap (λ (b : Buffers). length (drop answer.count b.lengths)) stands ∙ behind (lengths ps) old.lengths answer.count (c ∙ sym (length_of_lengths ps)) in
        record {
          of_terms = omega arith;
          of_lengths = omega arith;
          of_work = ap (λ (b : Buffers). length b.work) stands ∙ length-replicate {A = ℕ} (length old.work) 0;
        }

-- ---- enough room for all

module _ (max_terms max_vars : ℕ) (f : List ℕ) (fs : List (List ℕ)) (old : Buffers) (enough : Enough max_terms max_vars (f ∷ fs) old) where
  -- it is room for the first,
  room_for_first : Room max_terms max_vars f old
  room_for_first =
      record {
        for_terms = omega (arith, enough.for_terms);
        for_lengths = omega (arith, enough.for_lengths);
        for_work = enough.for_work.0;
      }

  -- and what its split leaves is enough for the others
  enough_for_others : (rest : Buffers) → Leaves max_vars (length f) old rest → Enough max_terms max_vars fs rest
  enough_for_others rest leaves =
      record {
        for_terms = omega (arith, enough.for_terms, leaves.of_terms);
        for_lengths = omega (arith, enough.for_lengths, leaves.of_lengths);
        for_work = subst (λ (n : ℕ). Each (λ (g : List ℕ). length g ≤ max_terms → 4 * length g ≤ n) fs) (sym leaves.of_work) enough.for_work.1;
      }

-- the answer of a split of this list that had room
abbrev AnswerWithRoom : ℕ → ℕ → List ℕ → Answer → Type 0
AnswerWithRoom max_terms max_vars f answer = (old : Buffers) × (new : Buffers) × Room max_terms max_vars f old × SplitEnds max_terms max_vars f old answer new

-- with enough room for all, each answer is that of a split of its list that had room
with_room : (max_terms max_vars : ℕ) (fs : List (List ℕ)) (old : Buffers) (answers : List Answer) (new : Buffers) → Each (Words max_vars) fs
    → Enough max_terms max_vars fs old → InTurn max_terms max_vars fs old answers new → (i : ℕ) → i < length fs
    → AnswerWithRoom max_terms max_vars (get_or fs i []) (answer_at answers i)
unfolding InTurn
with_room max_terms max_vars [] old answers new words enough turn i h = absurd (let z : ⊥ = omega (arith, h) in z)
with_room max_terms max_vars (f ∷ fs) old answers new words enough (answer, after, later, rest, split, turn, e, _) zero h = (
  old,
  after,
  room_for_first max_terms max_vars f fs old enough,
  subst (λ (l : List Answer). SplitEnds max_terms max_vars f old (answer_at l 0) after) (sym e) split,
)
with_room max_terms max_vars (f ∷ fs) old answers new words enough (answer, after, later, rest, split, turn, e, _) (suc i) h =
    let leaves = split_leaves max_terms max_vars f old answer after words.0 split in
    subst (λ (l : List Answer). AnswerWithRoom max_terms max_vars (get_or fs i []) (answer_at l (suc i))) (sym e)
    (with_room max_terms max_vars fs (left answer.count after) later rest words.1
    (enough_for_others max_terms max_vars f fs old enough (left answer.count after) leaves) turn i (omega (arith, h)))

-- with enough room for all, each list has the answer of any split of it alone that has room
pub answers_as_alone : (max_terms max_vars : ℕ) (fs : List (List ℕ)) (old : Buffers) (answers : List Answer) (new : Buffers) → Each (Words max_vars) fs
    → Enough max_terms max_vars fs old → InTurn max_terms max_vars fs old answers new → (i : ℕ) → i < length fs → (own : Buffers) (alone : Answer) (left : Buffers)
    → Room max_terms max_vars (get_or fs i []) own → SplitEnds max_terms max_vars (get_or fs i []) own alone left → answer_at answers i ≡ alone
answers_as_alone max_terms max_vars fs old answers new words enough turn i h own alone left room split =
    let w = with_room max_terms max_vars fs old answers new words enough turn i h in
    answer_with_room max_terms max_vars (get_or fs i []) w.0 own (answer_at answers i) alone w.1 left w.2 room w.3 split

-- so a list that stands in two deployments, at whatever places, has the same answer in both
pub answers_in_two_deployments : (max_terms max_vars : ℕ) (fs gs : List (List ℕ)) (old old' : Buffers) (answers answers' : List Answer) (new new' : Buffers)
    → Each (Words max_vars) fs → Each (Words max_vars) gs → Enough max_terms max_vars fs old → Enough max_terms max_vars gs old' → InTurn max_terms max_vars fs old answers new
    → InTurn max_terms max_vars gs old' answers' new' → (i j : ℕ) → i < length fs → j < length gs → get_or fs i [] ≡ get_or gs j []
    → answer_at answers i ≡ answer_at answers' j
answers_in_two_deployments max_terms max_vars fs gs old old' answers answers' new new' words words' enough enough' turn turn' i j h k same =
    let w = with_room max_terms max_vars gs old' answers' new' words' enough' turn' j k in
    answers_as_alone max_terms max_vars fs old answers new words enough turn i h w.0 (answer_at answers' j) w.1
    (subst (λ (f : List ℕ). Room max_terms max_vars f w.0) (sym same) w.2)
    (subst (λ (f : List ℕ). SplitEnds max_terms max_vars f w.0 (answer_at answers' j) w.1) (sym same) w.3)

-- a work area for the longest list that is not too long is enough for every list
pub full_work_area_suffices : (max_terms : ℕ) (old : Buffers) → 4 * max_terms ≤ length old.work → (fs : List (List ℕ)) → Each (WorkFor max_terms old) fs
full_work_area_suffices max_terms old h [] = tt
full_work_area_suffices max_terms old h (f ∷ fs) = ((λ few. omega (arith, h, few)), full_work_area_suffices max_terms old h fs)

-- ---- the words of the answers

-- the four words of a board's answer, in the words of all
pub four_words_at : (answers : List Answer) (i : ℕ) (rest : List ℕ) → i < length answers
    → take 4 (drop (4 * i) (answer_words answers ++ rest)) ≡ answer_words (answer_at answers i ∷ [])
unfolding answer_words
four_words_at [] i rest h = absurd (let z : ⊥ = omega (arith, h) in z)
four_words_at (answer ∷ later) zero rest h = refl
four_words_at (answer ∷ later) (suc i) rest h =
    let e : 4 * suc i ≡ suc (suc (suc (suc (4 * i)))) = omega arith in
    ap (λ (n : ℕ). take 4 (drop n (answer_words (answer ∷ later) ++ rest))) e ∙ four_words_at later i rest (omega (arith, h))

-- words cut into lists are words
words_taken : (n k : ℕ) (l : List ℕ) → Words n l → Words n (take k l)
words_taken n zero l w i = pow_pos n
words_taken n (suc k) [] w i = w i
words_taken n (suc k) (x ∷ l) w zero = w 0
words_taken n (suc k) (x ∷ l) w (suc i) = words_taken n k l (λ j. w (suc j)) i

words_cut : (n : ℕ) (ls words : List ℕ) → Words n words → Each (Words n) (cut ls words)
unfolding cut
words_cut n [] words w = tt
words_cut n (l ∷ ls) words w =
    (words_taken n l words w, words_cut n ls (drop l words) (λ i. subst (λ (x : ℕ). x < 2 ^ n) (sym (get_or-drop l words i 0)) (w (l + i))))

-- as many lists as lengths
length_cut : (ls words : List ℕ) → length (cut ls words) ≡ length ls
unfolding cut
length_cut [] words = refl
length_cut (l ∷ ls) words = ap suc (length_cut ls (drop l words))

module _ (max_lists max_terms max_vars : ℕ) (words ls : List ℕ) (old : Lent) (answer : Answer) (new : Lent)
    (ends : DeployEnds max_lists max_terms max_vars words ls old answer new) (taken : answer.code ≡ 0) where
  passed : Passed (deploy_checks max_lists (length words) ls (length old.answers))
  unfolding coded
  passed =
      accepted_passed old (Deployed max_terms max_vars (cut ls words) old) (deploy_checks max_lists (length words) ls (length old.answers)) answer new refl ends taken

  -- an accepted deployment counts its lists, and its words are those of the answers
  pub accepted_deployment : (answer ≡ accepted (length ls))
      × ((answers : List Answer) × (length answers ≡ length ls) × (new.answers ≡ over (answer_words answers) old.answers)
      × InTurn max_terms max_vars (cut ls words) old.outputs answers new.outputs)
  accepted_deployment =
      let d = passed_accepts old (Deployed max_terms max_vars (cut ls words) old) (deploy_checks max_lists (length words) ls (length old.answers)) answer new passed ends in (
        d.1 ∙ ap accepted (d.2.0 ∙ length_cut ls words),
        (d.2.1.0, as_many_answers max_terms max_vars (cut ls words) old.outputs d.2.1.0 new.outputs d.2.1.2 ∙ length_cut ls words, d.2.1.1, d.2.1.2),
      )

  -- the words of the lists are all that were lent
  words_are_lent : added ls ≡ length words
  words_are_lent = words_all max_lists (length words) ls (passed_first (lent_checks max_lists (length words) ls) _ passed)

  -- the answers, one for each list
  pub given : List Answer
  given = accepted_deployment.1.0

  in_turn : InTurn max_terms max_vars (cut ls words) old.outputs given new.outputs
  unfolding given
  in_turn = accepted_deployment.1.3

  -- the four words of a board's answer
  words_of_board : (i : ℕ) → i < length ls → take 4 (drop (4 * i) new.answers) ≡ answer_words (answer_at given i ∷ [])
  unfolding given
  words_of_board i h =
      ap (λ (l : List ℕ). take 4 (drop (4 * i) l)) accepted_deployment.1.2
      ∙ four_words_at given i (drop (length (answer_words given)) old.answers) (omega (arith, accepted_deployment.1.1, h))

  module _ (small : Words max_vars words) (lent : EnoughLent max_terms max_vars words ls old) where
    -- what is lent is enough for these lists
    enough : Enough max_terms max_vars (cut ls words) old.outputs
    enough =
        let n : length (cut ls words) ≡ length ls = length_cut ls words in
        let l : lengths (cut ls words) ≡ ls = lengths_cut ls words (omega (arith, words_are_lent)) in
        record {
          for_terms =
              subst (λ (k : ℕ). added (lengths (cut ls words)) + max_vars * k ≤ length old.outputs.terms) (sym n)
              (subst (λ (k : ℕ). k + max_vars * length ls ≤ length old.outputs.terms) (sym (ap added l ∙ words_are_lent)) lent.for_terms);
          for_lengths = subst (λ (k : ℕ). max_vars * k ≤ length old.outputs.lengths) (sym n) lent.for_lengths;
          for_work = lent.for_work;
        }

    -- the four words of each board's answer are those of any split of its list alone that has room
    pub each_board_as_alone : (i : ℕ) → i < length ls → (own : Buffers) (alone : Answer) (after : Buffers)
        → Room max_terms max_vars (get_or (cut ls words) i []) own → SplitEnds max_terms max_vars (get_or (cut ls words) i []) own alone after
        → take 4 (drop (4 * i) new.answers) ≡ answer_words (alone ∷ [])
    each_board_as_alone i h own alone after room split =
        words_of_board i h ∙ ap (λ (a : Answer). answer_words (a ∷ []))
        (answers_as_alone max_terms max_vars (cut ls words) old.outputs given new.outputs (words_cut max_vars ls words small) enough in_turn i
        (omega (arith, length_cut ls words, h)) own alone after room split)

-- a list that stands in two deployments, at whatever places, has the same four words in both
pub board_in_two_deployments : (max_lists max_terms max_vars : ℕ) (words ls words' ls' : List ℕ) (old old' : Lent) (x y : Answer) (new new' : Lent)
    → DeployEnds max_lists max_terms max_vars words ls old x new → x.code ≡ 0 → DeployEnds max_lists max_terms max_vars words' ls' old' y new' → y.code ≡ 0
    → Words max_vars words → EnoughLent max_terms max_vars words ls old → Words max_vars words' → EnoughLent max_terms max_vars words' ls' old'
    → (i j : ℕ) → i < length ls → j < length ls' → get_or (cut ls words) i [] ≡ get_or (cut ls' words') j []
    → take 4 (drop (4 * i) new.answers) ≡ take 4 (drop (4 * j) new'.answers)
board_in_two_deployments max_lists max_terms max_vars words ls words' ls' old old' x y new new' ends taken ends' taken' small lent small' lent' i j h k same =
    words_of_board max_lists max_terms max_vars words ls old x new ends taken i h
    ∙ ap (λ (a : Answer). answer_words (a ∷ []))
    (answers_in_two_deployments max_terms max_vars (cut ls words) (cut ls' words') old.outputs old'.outputs
    (given max_lists max_terms max_vars words ls old x new ends taken) (given max_lists max_terms max_vars words' ls' old' y new' ends' taken') new.outputs new'.outputs
    (words_cut max_vars ls words small) (words_cut max_vars ls' words' small') (enough max_lists max_terms max_vars words ls old x new ends taken small lent)
    (enough max_lists max_terms max_vars words' ls' old' y new' ends' taken' small' lent') (in_turn max_lists max_terms max_vars words ls old x new ends taken)
    (in_turn max_lists max_terms max_vars words' ls' old' y new' ends' taken') i j (omega (arith, length_cut ls words, h)) (omega (arith, length_cut ls' words', k)) same)
    ∙ sym (words_of_board max_lists max_terms max_vars words' ls' old' y new' ends' taken' j k)
