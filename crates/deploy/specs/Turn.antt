-- What one turn of a deployment does. Nothing here has to be believed: it carries the proof of deploy's promise (Deploy.antt).
use Rattle.std.specs.Prelude.{ℕ, ◌+◌, ◌≤◌, ◌≡◌, List, [], ◌∷◌, ◌++◌, length, take, drop}
use Rattle.answer.specs.declared.Answer.{Answer}
use Rattle.parts.specs.Split.{Buffers, SplitEnds}
use Rattle.deploy.specs.declared.Filled.{Filled}
use Rattle.deploy.specs.Deploy.{filled, answer_words}

-- the buffers behind what is filled
abbrev pub behind : Filled → Buffers → Buffers
behind at b = record { terms = drop at.terms b.terms; lengths = drop at.parts b.lengths; work = b.work }

-- a split into the room behind; what stands before it stays
pub record SplitBehind (max_terms max_vars : ℕ) (f : List ℕ) (at : Filled) (old : Buffers) (answer : Answer) (new : Buffers) : Type 0 where
  pub terms_stay : take at.terms new.terms ≡ take at.terms old.terms
  pub lengths_stay : take at.parts new.lengths ≡ take at.parts old.lengths
  pub ends : SplitEnds max_terms max_vars f (behind at old) answer (behind at new)

-- besides, the answer is written at the start of its room, and what is filled then is counted
pub record Turned (max_terms max_vars : ℕ) (f : List ℕ) (at : Filled) (room : List ℕ) (old : Buffers) (room' : List ℕ) (new : Buffers) (at' : Filled) : Type 0 where
  pub answer : Answer
  pub split : SplitBehind max_terms max_vars f at old answer new
  pub told : room' ≡ answer_words (answer ∷ []) ++ drop 4 room
  pub terms : at'.terms ≡ at.terms + filled answer.count (behind at new)
  pub parts : at'.parts ≡ at.parts + answer.count
  pub terms_fit : at'.terms ≤ length new.terms
  pub parts_fit : at'.parts ≤ length new.lengths
