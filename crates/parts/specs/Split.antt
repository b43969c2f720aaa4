-- How split ends, for every list and all lent buffers (docs/RULES.md, 5.3 and 5.4). The limits are those of the term list and come in as numbers.
use Rattle.std.specs.Prelude.{ℕ, ◌+◌, ◌*◌, ◌≡◌, List, [], ◌∷◌, ltb, eqb, length, replicate}
use Rattle.answer.specs.declared.Answer.{Answer}
use Rattle.answer.specs.Ends.{Check, check, Ends, over}
use Rattle.polys.specs.Parts.{IsParts}
use Rattle.terms.specs.Order.{unordered}
use Rattle.taking.specs.Joined.{joined, lengths}

-- the three lent buffers: part terms, part lengths, work area
pub record Buffers : Type 0 where
  pub terms : List ℕ
  pub lengths : List ℕ
  pub work : List ℕ

-- the checks of split in their order: test, code, operand, place; `terms`, `lengths` and `work` are how many words are lent for each
abbrev pub split_checks : ℕ → ℕ → List ℕ → ℕ → ℕ → ℕ → List Check
split_checks max_terms max_vars f terms lengths work =
    check (ltb max_terms (length f)) 2 1 0
    ∷ check (eqb (length f) 0) 1 1 0
    ∷ check (ltb (unordered f) (length f)) 3 1 (unordered f)
    ∷ check (ltb terms (length f + max_vars)) 6 1 0
    ∷ check (ltb lengths max_vars) 6 1 0
    ∷ check (ltb work (4 * length f)) 7 1 0
    ∷ []

-- the last three of them, where the list has t terms: there is room for the parts' terms, for their lengths and for the work
abbrev pub room_checks : ℕ → ℕ → ℕ → ℕ → ℕ → List Check
room_checks max_vars t terms lengths work =
    check (ltb terms (t + max_vars)) 6 1 0
    ∷ check (ltb lengths max_vars) 6 1 0
    ∷ check (ltb work (4 * t)) 7 1 0
    ∷ []

-- what acceptance means: the parts of f are counted, they and their lengths stand at the start of their buffers, and every word of the work area is 0
abbrev pub Splits : List ℕ → Buffers → ℕ → Buffers → Type 0
Splits f old count new =
    (ps : List (List ℕ)) × IsParts f ps × (count ≡ length ps)
    × (new ≡ record { terms = over (joined ps) old.terms; lengths = over (lengths ps) old.lengths; work = replicate (length old.work) 0 })

-- how split ends: a check refuses, or the buffers hold the parts
abbrev pub SplitEnds : ℕ → ℕ → List ℕ → Buffers → Answer → Buffers → Type 0
SplitEnds max_terms max_vars f old answer new =
    Ends (split_checks max_terms max_vars f (length old.terms) (length old.lengths) (length old.work)) old (Splits f old) answer new
