-- What an accepted split tells whoever reads its answer and its buffers: the parts.
use Rattle.std.specs.Prelude.{ℕ, ◌^◌, ◌<◌, ◌≡◌, List, length, get_or, take, replicate}
use Rattle.answer.specs.declared.Answer.{Answer}
use Rattle.answer.specs.Table.{accepted}
use Rattle.answer.specs.Ends.{over}
use Rattle.polys.specs.Parts.{IsParts}
use Rattle.taking.specs.Joined.{joined, lengths}
use Rattle.parts.specs.Split.{Buffers}
use Rattle.lists.specs.Lists.{cut}

-- as many lengths as were counted, and the part terms cut by them
abbrev pub told : Answer → Buffers → List (List ℕ)
told answer new = cut (take answer.count new.lengths) new.terms

-- what the answer and the buffers tell are the parts of f; they and their lengths stand at the start, what is behind them is as it was, and every
-- word of the work area is 0
pub record Holds (f : List ℕ) (old : Buffers) (answer : Answer) (new : Buffers) : Type 0 where
  pub parts : IsParts f (told answer new)
  pub counted : answer ≡ accepted (length (told answer new))
  pub terms : new.terms ≡ over (joined (told answer new)) old.terms
  pub lengths_stand : new.lengths ≡ over (lengths (told answer new)) old.lengths
  pub work : new.work ≡ replicate (length old.work) 0

-- every term is a word of n bits, as in a lent list of words
abbrev pub Words : ℕ → List ℕ → Type 0
Words n f = (i : ℕ) → get_or f i 0 < 2 ^ n
