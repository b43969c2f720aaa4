-- How deploy ends, whatever lists are lent and whatever buffers (docs/RULES.md, 15): single splits made in turn. The limits come in as numbers.
use Rattle.std.specs.Prelude.{ℕ, ◌*◌, ◌≡◌, List, [], ◌∷◌, ◌++◌, ltb, length, take, drop}
use Rattle.answer.specs.declared.Answer.{Answer}
use Rattle.answer.specs.Ends.{Check, check, Ends, over}
use Rattle.lists.specs.Lists.{cut, added, lent_checks}
use Rattle.parts.specs.Split.{Buffers, SplitEnds}

-- how many words of part terms a split with this count has filled: what the lengths of its parts add to
abbrev pub filled : ℕ → Buffers → ℕ
filled count after = added (take count after.lengths)

-- the room that it left in the outputs, and the same work area
abbrev pub left : ℕ → Buffers → Buffers
left count after = record { terms = drop (filled count after) after.terms; lengths = drop count after.lengths; work = after.work }

-- what it wrote, and behind that what later splits made of the room that it left
abbrev pub kept : ℕ → Buffers → Buffers → Buffers
kept count after rest =
    record { terms = take (filled count after) after.terms ++ rest.terms; lengths = take count after.lengths ++ rest.lengths; work = rest.work }

-- single splits made in turn, each given the room that earlier ones left in the outputs and the same work area; one answer for each list
unfoldable pub InTurn : ℕ → ℕ → List (List ℕ) → Buffers → List Answer → Buffers → Type 0
InTurn max_terms max_vars [] old answers new = (answers ≡ []) × (new ≡ old)
InTurn max_terms max_vars (f ∷ fs) old answers new =
    (answer : Answer) × (after : Buffers) × (later : List Answer) × (rest : Buffers)
    × SplitEnds max_terms max_vars f old answer after
    × InTurn max_terms max_vars fs (left answer.count after) later rest
    × (answers ≡ answer ∷ later) × (new ≡ kept answer.count after rest)

-- the words of the answers: four for each, code, operand, place, count
unfoldable pub answer_words : List Answer → List ℕ
answer_words [] = []
answer_words (answer ∷ later) = answer.code ∷ answer.operand ∷ answer.place ∷ answer.count ∷ answer_words later

-- the lent buffers: the answers, and those of split
pub record Lent : Type 0 where
  pub answers : List ℕ
  pub outputs : Buffers

-- the checks of deploy in their order; `answers` is how many words are lent for these
abbrev pub deploy_checks : ℕ → ℕ → List ℕ → ℕ → List Check
deploy_checks max_lists words ls answers = lent_checks max_lists words ls ++ (check (ltb answers (4 * length ls)) 6 0 0 ∷ [])

-- accepted: the lists are counted and split in turn, and the answers stand at the start of their buffer
abbrev pub Deployed : ℕ → ℕ → List (List ℕ) → Lent → ℕ → Lent → Type 0
Deployed max_terms max_vars fs old count new =
    (count ≡ length fs)
    × ((answers : List Answer) × (new.answers ≡ over (answer_words answers) old.answers) × InTurn max_terms max_vars fs old.outputs answers new.outputs)

-- how deploy ends: a check refuses, or the lists are split in turn
abbrev pub DeployEnds : ℕ → ℕ → ℕ → List ℕ → List ℕ → Lent → Answer → Lent → Type 0
DeployEnds max_lists max_terms max_vars words ls old answer new =
    Ends (deploy_checks max_lists (length words) ls (length old.answers)) old (Deployed max_terms max_vars (cut ls words) old) answer new
