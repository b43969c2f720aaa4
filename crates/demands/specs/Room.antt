-- Room for one board, and for all boards of a deployment (docs/RULES.md, 15.4).
use Rattle.std.specs.Prelude.{ℕ, ◌+◌, ◌*◌, ◌≤◌, List, length, get_or}
use Rattle.answer.specs.declared.Answer.{Answer}
use Rattle.answer.specs.Table.{accepted}
use Rattle.polys.specs.Parts.{Each}
use Rattle.taking.specs.Joined.{lengths}
use Rattle.parts.specs.Split.{Buffers}
use Rattle.lists.specs.Lists.{cut, added}
use Rattle.deploy.specs.Deploy.{Lent}

-- a list that is not too long has work area enough: four words for each term
abbrev pub WorkFor : ℕ → Buffers → List ℕ → Type 0
WorkFor max_terms old f = length f ≤ max_terms → 4 * length f ≤ length old.work

-- room for whatever parts this list has, and work area for it
pub record Room (max_terms max_vars : ℕ) (f : List ℕ) (old : Buffers) : Type 0 where
  pub for_terms : length f + max_vars ≤ length old.terms
  pub for_lengths : max_vars ≤ length old.lengths
  pub for_work : WorkFor max_terms old f

-- room for whatever parts these lists have, and work area for each
pub record Enough (max_terms max_vars : ℕ) (fs : List (List ℕ)) (old : Buffers) : Type 0 where
  pub for_terms : added (lengths fs) + max_vars * length fs ≤ length old.terms
  pub for_lengths : max_vars * length fs ≤ length old.lengths
  pub for_work : Each (WorkFor max_terms old) fs

-- the answer that stands at a place; behind the last there is none
abbrev pub answer_at : List Answer → ℕ → Answer
answer_at answers i = get_or answers i (accepted 0)

-- enough is lent for a whole deployment: room for as many part terms as there are words and the variables of each list, for as many parts as there
-- are variables in each list, and work area for each
pub record EnoughLent (max_terms max_vars : ℕ) (words ls : List ℕ) (old : Lent) : Type 0 where
  pub for_terms : length words + max_vars * length ls ≤ length old.outputs.terms
  pub for_lengths : max_vars * length ls ≤ length old.outputs.lengths
  pub for_work : Each (WorkFor max_terms old.outputs) (cut ls words)
