-- The examples of RULES 7, 13 and 15 that are marked P, each once, in their order there, and what it means that one holds.
-- It holds by what the calls promise: the contract allows an end, and every end that it allows is the one that the row states.
use Rattle.std.specs.Prelude.{ℕ, ◌+◌, ◌*◌, ◌≤◌, ◌≡◌, Bool, true, false, ◌||◌, List, [], ◌∷◌, eqb, length, replicate}
use Rattle.answer.specs.declared.Answer.{Answer}
use Rattle.answer.specs.Table.{accepted, refused}
use Rattle.answer.specs.Ends.{over}
use Rattle.polys.specs.Parts.{Each}
use Rattle.taking.specs.Joined.{joined, lengths}
use Rattle.parts.specs.Split.{Buffers, SplitEnds}
use Rattle.ring.specs.Same.{one_if}
use Rattle.same.specs.Same.{SameEnds}
use Rattle.audit.specs.Audit.{AuditEnds}
use Rattle.deploy.specs.Deploy.{answer_words, Lent, DeployEnds}

-- an example: a call on given lists, and what comes back
pub data Row : Type 0 where
  -- split of f is accepted, with these parts
  splits : (f : List ℕ) (ps : List (List ℕ)) → Row
  -- split of f is refused, with this code and place
  refuses : (f : List ℕ) (code place : ℕ) → Row
  -- same products of A, D, B and C is yes or no
  same_products : (a d b c : List ℕ) (answer : Bool) → Row
  -- audit of f, with these given parts, is yes or no; f has these parts
  audits : (f : List ℕ) (given ps : List (List ℕ)) (answer : Bool) → Row
  -- deploy of these boards is accepted, each with its answer; the accepted ones together have these parts
  deploys : (fs : List (List ℕ)) (answers : List Answer) (ps : List (List ℕ)) → Row
  -- deploy of these words, as lists of these lengths, is refused with this code
  undeployed : (words ls : List ℕ) (code : ℕ) → Row

-- the two answers of same products and of audit
abbrev yes : Bool
yes = true

abbrev no : Bool
no = false

-- the examples marked P, in the order of RULES 7, 13 and 15
unfoldable pub examples : List Row
examples =
    refuses [] 1 0
    ∷ splits (0 ∷ []) []
    ∷ splits (1 ∷ []) ((1 ∷ []) ∷ [])
    ∷ splits (0 ∷ 1 ∷ []) ((0 ∷ 1 ∷ []) ∷ [])
    ∷ splits (3 ∷ []) ((1 ∷ []) ∷ (2 ∷ []) ∷ [])
    ∷ splits (0 ∷ 3 ∷ []) ((0 ∷ 3 ∷ []) ∷ [])
    ∷ splits (0 ∷ 1 ∷ 2 ∷ []) ((0 ∷ 1 ∷ 2 ∷ []) ∷ [])
    ∷ splits (1 ∷ 2 ∷ 5 ∷ 6 ∷ []) ((1 ∷ 2 ∷ []) ∷ (0 ∷ 4 ∷ []) ∷ [])
    ∷ splits (6 ∷ 7 ∷ 12 ∷ 13 ∷ []) ((0 ∷ 1 ∷ []) ∷ (2 ∷ 8 ∷ []) ∷ (4 ∷ []) ∷ [])
    ∷ splits (4 ∷ 7 ∷ 12 ∷ 15 ∷ 16 ∷ 19 ∷ []) ((0 ∷ 3 ∷ []) ∷ (4 ∷ 12 ∷ 16 ∷ []) ∷ [])
    ∷ refuses (1 ∷ 1 ∷ []) 3 1
    ∷ refuses (2 ∷ 1 ∷ []) 3 1
    ∷ same_products (1 ∷ []) (1 ∷ []) (1 ∷ []) (0 ∷ []) no
    ∷ same_products (0 ∷ 1 ∷ []) (0 ∷ 2 ∷ []) (0 ∷ 1 ∷ []) (0 ∷ []) no
    ∷ audits (1 ∷ 2 ∷ 5 ∷ 6 ∷ []) ((1 ∷ 2 ∷ []) ∷ (0 ∷ 4 ∷ []) ∷ []) ((1 ∷ 2 ∷ []) ∷ (0 ∷ 4 ∷ []) ∷ []) yes
    ∷ audits (1 ∷ 2 ∷ 5 ∷ 6 ∷ []) ((1 ∷ 2 ∷ []) ∷ (4 ∷ []) ∷ []) ((1 ∷ 2 ∷ []) ∷ (0 ∷ 4 ∷ []) ∷ []) no
    ∷ audits (1 ∷ 2 ∷ 5 ∷ 6 ∷ []) ((1 ∷ 2 ∷ 5 ∷ 6 ∷ []) ∷ []) ((1 ∷ 2 ∷ []) ∷ (0 ∷ 4 ∷ []) ∷ []) no
    ∷ audits (1 ∷ 2 ∷ 5 ∷ 6 ∷ []) ((0 ∷ 4 ∷ []) ∷ (1 ∷ 2 ∷ []) ∷ []) ((1 ∷ 2 ∷ []) ∷ (0 ∷ 4 ∷ []) ∷ []) no
    ∷ audits (1 ∷ 2 ∷ []) ((1 ∷ 2 ∷ []) ∷ (0 ∷ []) ∷ []) ((1 ∷ 2 ∷ []) ∷ []) no
    ∷ audits (0 ∷ []) [] [] yes
    ∷ deploys ((1 ∷ 2 ∷ 5 ∷ 6 ∷ []) ∷ [] ∷ (3 ∷ []) ∷ []) (accepted 2 ∷ refused 1 1 0 ∷ accepted 2 ∷ [])
    ((1 ∷ 2 ∷ []) ∷ (0 ∷ 4 ∷ []) ∷ (1 ∷ []) ∷ (2 ∷ []) ∷ [])
    ∷ deploys ((0 ∷ []) ∷ []) (accepted 0 ∷ []) []
    ∷ deploys [] [] []
    ∷ deploys ((2 ∷ 1 ∷ []) ∷ [] ∷ []) (refused 3 1 1 ∷ refused 1 1 0 ∷ []) []
    ∷ undeployed (0 ∷ []) (18446744073709551615 ∷ 2 ∷ []) 10
    ∷ undeployed (0 ∷ []) (0 ∷ []) 12
    ∷ undeployed [] (replicate 65 0) 2
    ∷ []

-- the lent buffers are as long as split of t terms needs, whatever they hold
pub record Enough (max_vars t : ℕ) (lent : Buffers) : Type 0 where
  pub terms : t + max_vars ≤ length lent.terms
  pub lengths : max_vars ≤ length lent.lengths
  pub work : 4 * t ≤ length lent.work

-- a call ends with these four numbers and these buffers, and in no other way
pub record EndsOnly {B : Type 0} (ends : Answer → B → Type 0) (answer : Answer) (buffers : B) : Type 0 where
  pub allowed : ends answer buffers
  pub only : (other : Answer) (new : B) → ends other new → (other ≡ answer) × (new ≡ buffers)

-- the buffers after an accepted split: the parts one behind the other, their lengths in order, the work area 0
abbrev pub written : List (List ℕ) → Buffers → Buffers
written ps lent =
    record { terms = over (joined ps) lent.terms; lengths = over (lengths ps) lent.lengths; work = replicate (length lent.work) 0 }

-- the lent buffers are as long as deploy of these boards needs, whatever they hold
pub record EnoughForAll (max_vars : ℕ) (fs : List (List ℕ)) (lent : Lent) : Type 0 where
  pub answers : 4 * length fs ≤ length lent.answers
  pub terms : length (joined fs) + max_vars * length fs ≤ length lent.outputs.terms
  pub lengths : max_vars * length fs ≤ length lent.outputs.lengths
  pub work : Each (λ (f : List ℕ). 4 * length f ≤ length lent.outputs.work) fs

-- some board is accepted
abbrev pub some_accepted : List Answer → Bool
some_accepted [] = false
some_accepted (answer ∷ later) = eqb answer.code 0 || some_accepted later

-- the work area after a deployment: 0 if some board is accepted, else as it was
abbrev pub work_after : Bool → List ℕ → List ℕ
work_after true work = replicate (length work) 0
work_after false work = work

-- the buffers after boards with these answers and parts: the parts one behind the other, their lengths in order, the work area
abbrev pub written_by : List Answer → List (List ℕ) → Buffers → Buffers
written_by answers ps lent =
    record { terms = over (joined ps) lent.terms; lengths = over (lengths ps) lent.lengths; work = work_after (some_accepted answers) lent.work }

-- besides, four words for each answer, one answer behind the other
abbrev pub deployed : List Answer → List (List ℕ) → Lent → Lent
deployed answers ps lent = record { answers = over (answer_words answers) lent.answers; outputs = written_by answers ps lent.outputs }

-- the example holds
abbrev pub Holds : (max_boards max_terms max_vars : ℕ) → Row → Type 0
Holds max_boards max_terms max_vars (splits f ps) =
    (lent : Buffers) → Enough max_vars (length f) lent → EndsOnly (SplitEnds max_terms max_vars f lent) (accepted (length ps)) (written ps lent)
Holds max_boards max_terms max_vars (refuses f code place) =
    (lent : Buffers) → EndsOnly (SplitEnds max_terms max_vars f lent) (refused code 1 place) lent
Holds max_boards max_terms max_vars (same_products a d b c answer) =
    EndsOnly {B = Unit {0}} (λ other _. SameEnds max_terms max_vars a d b c other) (accepted (one_if answer)) tt
Holds max_boards max_terms max_vars (audits f given ps answer) =
    (lent : Buffers) → Enough max_vars (length f) lent
    → EndsOnly (AuditEnds max_terms max_vars f (joined given) (lengths given) lent) (accepted (one_if answer)) (written ps lent)
Holds max_boards max_terms max_vars (deploys fs answers ps) =
    (lent : Lent) → EnoughForAll max_vars fs lent
    → EndsOnly (DeployEnds max_boards max_terms max_vars (joined fs) (lengths fs) lent) (accepted (length fs)) (deployed answers ps lent)
Holds max_boards max_terms max_vars (undeployed words ls code) =
    (lent : Lent) → EndsOnly (DeployEnds max_boards max_terms max_vars words ls lent) (refused code 0 0) lent

-- every example of a list holds
abbrev pub AllHold : (max_boards max_terms max_vars : ℕ) → List Row → Type 0
AllHold max_boards max_terms max_vars [] = Unit {0}
AllHold max_boards max_terms max_vars (row ∷ rows) = Holds max_boards max_terms max_vars row × AllHold max_boards max_terms max_vars rows
