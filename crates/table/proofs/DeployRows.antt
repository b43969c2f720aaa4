-- The rows of deploy: where each board alone ends as the row tells, the boards in turn do, and the contract allows that end and no two. A whole
-- deployment that a check refuses is refused so. Leans on the laws of endings, and on deploy: its contract determines the four numbers and the
-- buffers. Assumes nothing.
use Prim.Native.Nat.{ℕ, ◌+◌, ◌*◌, ◌-◌, ◌≤◌}
use mathlib.Core.Path.{◌≡◌, refl, sym, ap, ap₂, ◌∙◌, subst}
use mathlib.Core.Bool.{Bool, true, false, ◌||◌}
use mathlib.Core.List.{List, [], ◌∷◌, ◌++◌, map}
use native.Mathlib.Omega.{arith}
use borrow.Author.Tests.{le-ltb, ltb-true}
use lib.Dec.{eqb, ltb}
use lib.ListN.{length, replicate, drop, length-append, length-drop, length-replicate}
use lib.Seq.{drop_at}
use Rattle.answer.specs.declared.Answer.{Answer}
use Rattle.answer.specs.Table.{accepted, refused}
use Rattle.answer.specs.Ends.{check, over}
use Rattle.answer.specs.Checked.{Passed, Checked}
use Rattle.answer.proofs.Ends.{ends_if_passed, ends_if_refused}
use Rattle.answer.proofs.Checking.{refused_behind}
use Rattle.polys.specs.Parts.{Each}
use Rattle.taking.specs.Joined.{joined, lengths}
use Rattle.taking.proofs.Splitting.{joined_append, lengths_append}
use Rattle.parts.specs.Split.{Buffers, SplitEnds}
use Rattle.lists.specs.Lists.{cut, added, lent_checks}
use Rattle.lists.proofs.Cutting.{length_of_lengths, length_joined, counted_lengths, over_behind}
use Rattle.deploy.specs.Deploy.{filled, left, kept, InTurn, Lent, deploy_checks, Deployed, DeployEnds}
use Rattle.deploy.proofs.Determined.{deploy_is_determined}
use Rattle.table.specs.Examples.{Enough, EnoughForAll, some_accepted, work_after, written_by, deployed, Holds, deploys, undeployed}
use Rattle.table.proofs.SplitRows.{only_end}
use Rattle.table.proofs.AuditRows.{whole}

-- ---- one board behind another

-- how much is left of the buffer behind the first
rest_length : (p d : List ℕ) (n : ℕ) → n ≡ length p → length (drop n (over p d)) ≡ length d - length p
rest_length p d n e = ap length (drop_at p (drop (length p) d) n (sym e)) ∙ length-drop (length p) d

-- a work area that one board clears or not, and then others
work_once : (s t : Bool) (work : List ℕ) → work_after t (work_after (s || false) work) ≡ work_after (s || t) work
work_once false t work = refl
work_once true false work = refl
work_once true true work = ap (λ (n : ℕ). replicate {A = ℕ} n 0) (length-replicate {A = ℕ} (length work) 0)

-- it stays as long as it was
work_length : (s : Bool) (work : List ℕ) → length (work_after s work) ≡ length work
work_length false work = refl
work_length true work = length-replicate {A = ℕ} (length work) 0

-- each of these boards has work area
abbrev Works : List (List ℕ) → ℕ → Type 0
Works fs n = Each (λ (f : List ℕ). 4 * length f ≤ n) fs

-- the room of split for all of these boards
record Rooms (max_vars : ℕ) (fs : List (List ℕ)) (old : Buffers) : Type 0 where
  terms : length (joined fs) + max_vars * length fs ≤ length old.terms
  lengths : max_vars * length fs ≤ length old.lengths
  work : Works fs (length old.work)

-- a board with room ends with this answer and these parts, which take no more than the room for one
pub record Fares (max_terms max_vars : ℕ) (f : List ℕ) (answer : Answer) (ps : List (List ℕ)) : Type 0 where
  pub ends : (old : Buffers) → Enough max_vars (length f) old → SplitEnds max_terms max_vars f old answer (written_by (answer ∷ []) ps old)
  pub counted : answer.count ≡ length ps
  pub few : length ps ≤ max_vars
  pub short : length (joined ps) ≤ length f + max_vars

-- the parts of all boards, where these are found for each
abbrev pub gathered : (List ℕ → List (List ℕ)) → List (List ℕ) → List (List ℕ)
gathered found [] = []
gathered found (f ∷ fs) = found f ++ gathered found fs

module _ (max_terms max_vars : ℕ) where
  -- ---- the first board

  module _ (f : List ℕ) (fs : List (List ℕ)) (answer : Answer) (ps : List (List ℕ)) (fares : Fares max_terms max_vars f answer ps) (old : Buffers)
      (rooms : Rooms max_vars (f ∷ fs) old) where
    abbrev c : ℕ
    c = answer.count

    abbrev after : Buffers
    after = written_by (answer ∷ []) ps old

    -- it has room,
    room_for_first : Enough max_vars (length f) old
    unfolding joined
    room_for_first =
        record {
          terms = omega (arith, rooms.terms, length-append f (joined fs));
          lengths = omega (arith, rooms.lengths);
          work = rooms.work.0;
        }

    -- fills as much as its parts take,
    all_lengths : c ≡ length (lengths ps)
    all_lengths = fares.counted ∙ sym (length_of_lengths ps)

    all_terms : filled c after ≡ length (joined ps)
    all_terms = ap added (counted_lengths ps old.lengths c fares.counted) ∙ sym (length_joined ps)

    -- leaves room for the others,
    room_for_others : Rooms max_vars fs (left c after)
    unfolding joined
    room_for_others =
        let t = rest_length (joined ps) old.terms (filled c after) all_terms in
        let l = rest_length (lengths ps) old.lengths c all_lengths in
        record {
          terms = omega (arith, t, rooms.terms, length-append f (joined fs), fares.short);
          lengths = omega (arith, l, rooms.lengths, length_of_lengths ps, fares.few);
          work = subst (Works fs) (sym (work_length (eqb answer.code 0 || false) old.work)) rooms.work.1;
        }

    -- and what it wrote, with what the others write behind it, is what all write
    all_stand : (later : List Answer) (qs : List (List ℕ)) → written_by (answer ∷ later) (ps ++ qs) old ≡ kept c after (written_by later qs (left c after))
    all_stand later qs =
        let all = ps ++ qs in
        ap (λ (w : List ℕ). record { terms = over (joined all) old.terms; lengths = over (lengths all) old.lengths; work = w })
        (sym (work_once (eqb answer.code 0) (some_accepted later) old.work))
        ∙ ap₂ (λ (t l : List ℕ). record { terms = t; lengths = l; work = work_after (some_accepted later) after.work })
        (ap (λ (l : List ℕ). over l old.terms) (joined_append ps qs) ∙ sym (over_behind (joined ps) (joined qs) old.terms (filled c after) all_terms))
        (ap (λ (l : List ℕ). over l old.lengths) (lengths_append ps qs) ∙ sym (over_behind (lengths ps) (lengths qs) old.lengths c all_lengths))

  -- ---- all boards, where this is said and found of each

  module _ (said : List ℕ → Answer) (found : List ℕ → List (List ℕ)) where
    abbrev AllFare : List (List ℕ) → Type 0
    AllFare fs = Each (λ (f : List ℕ). Fares max_terms max_vars f (said f) (found f)) fs

    -- in turn they end so
    in_turn : (fs : List (List ℕ)) → AllFare fs → (old : Buffers) → Rooms max_vars fs old
        → InTurn max_terms max_vars fs old (map said fs) (written_by (map said fs) (gathered found fs) old)
    unfolding InTurn joined
    in_turn [] fare old rooms = (refl, refl)
    in_turn (f ∷ fs) fare old rooms =
        let after = written_by (said f ∷ []) (found f) old in
        let rest = left (said f).count after in (
          said f,
          after,
          map said fs,
          written_by (map said fs) (gathered found fs) rest,
          fare.0.ends old (room_for_first f fs (said f) (found f) fare.0 old rooms),
          in_turn fs fare.1 rest (room_for_others f fs (said f) (found f) fare.0 old rooms),
          refl,
          all_stand f fs (said f) (found f) fare.0 old rooms (map said fs) (gathered found fs),
        )

    -- and so does their deployment
    module _ (max_boards : ℕ) (fs : List (List ℕ)) (few : length fs ≤ max_boards) (fare : AllFare fs) where
      passed : (lent : Lent) → EnoughForAll max_vars fs lent
          → Passed (deploy_checks max_boards (length (joined fs)) (lengths fs) (length lent.answers))
      unfolding Passed
      passed lent room =
          let words = length (joined fs) in
          let all = added (lengths fs) in
          let size = length_joined fs in
          let n = length_of_lengths fs in (
            le-ltb max_boards (length (lengths fs)) (omega (arith, n, few)),
            (
              le-ltb words all (omega (arith, size)),
              (le-ltb all words (omega (arith, size)), (le-ltb (length lent.answers) (4 * length (lengths fs)) (omega (arith, n, room.answers)), tt)),
            ),
          )

      pub deploys_holds : Holds max_boards max_terms max_vars (deploys fs (map said fs) (gathered found fs))
      deploys_holds lent room =
          let new = deployed (map said fs) (gathered found fs) lent in
          only_end (DeployEnds max_boards max_terms max_vars (joined fs) (lengths fs) lent)
          (deploy_is_determined max_boards max_terms max_vars (joined fs) (lengths fs) lent) (accepted (length fs)) new
          (ends_if_passed lent (Deployed max_terms max_vars (cut (lengths fs) (joined fs)) lent) _ (length fs) new (passed lent room)
          (subst (λ (gs : List (List ℕ)). Deployed max_terms max_vars gs lent (length fs) new) (sym (whole fs))
          (refl, (map said fs, refl, in_turn fs fare lent.outputs (record { terms = room.terms; lengths = room.lengths; work = room.work })))))

-- ---- a deployment that is refused

-- the one number where the test is true, else the other
abbrev pick : Bool → ℕ → ℕ → ℕ
pick true code otherwise = code
pick false code otherwise = otherwise

-- the code with which the lists are refused; 0 where they are not
unfoldable pub code_of : ℕ → ℕ → List ℕ → ℕ
code_of most words ls = pick (ltb most (length ls)) 2 (pick (ltb words (added ls)) 10 (pick (ltb (added ls) words) 12 0))

-- the checks of the lists refuse with it
refused_by : (most words : ℕ) (ls : List ℕ) → ltb 0 (code_of most words ls) ≡ true → Checked (lent_checks most words ls) (refused (code_of most words ls) 0 0)
unfolding code_of Checked
refused_by most words ls = by (ltb most (length ls)) (ltb words (added ls)) (ltb (added ls) words)
  where
    by : (s t u : Bool) → ltb 0 (pick s 2 (pick t 10 (pick u 12 0))) ≡ true
        → Checked (check s 2 0 0 ∷ check t 10 0 0 ∷ check u 12 0 0 ∷ []) (refused (pick s 2 (pick t 10 (pick u 12 0))) 0 0)
    by true t u h = (omega arith, refl)
    by false true u h = (omega arith, refl)
    by false false true h = (omega arith, refl)
    by false false false h = absurd (let z : ⊥ = omega (arith, ltb-true 0 0 h) in z)

-- and so does deploy
pub undeployed_holds : (max_boards max_terms max_vars : ℕ) (words ls : List ℕ) → ltb 0 (code_of max_boards (length words) ls) ≡ true
    → Holds max_boards max_terms max_vars (undeployed words ls (code_of max_boards (length words) ls))
undeployed_holds max_boards max_terms max_vars words ls h lent =
    let code = code_of max_boards (length words) ls in
    only_end (DeployEnds max_boards max_terms max_vars words ls lent) (deploy_is_determined max_boards max_terms max_vars words ls lent) (refused code 0 0) lent
    (ends_if_refused lent (Deployed max_terms max_vars (cut ls words) lent) _ (refused code 0 0)
    (refused_behind (lent_checks max_boards (length words) ls) _ (refused code 0 0) (refused_by max_boards (length words) ls h) h) h)
