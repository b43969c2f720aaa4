-- The buffers that split is lent: what stands in them, and that they stay the ones that were lent, each as long as it was.
use Rattle.std.specs.Prelude.{◌≡◌, ℕ, List, length}
use Rattle.parts.specs.declared.Outputs.{Outputs}
use Rattle.parts.specs.Split.{Buffers}

-- what stands in them, where `numbers` are the numbers of the terms that stand in some words
abbrev pub lent : (List ℕ → List ℕ) → Outputs → Buffers
lent numbers o = record { terms = numbers o.terms.now; lengths = o.lengths.now; work = numbers o.work.now }

-- the references are to the buffers that were lent, and these are as long as they were: at a size of more words than one, a word that is
-- no whole term is part of the length, and `lent` does not see it
pub record SameLoans (old new : Outputs) : Type 0 where
  pub terms : new.terms.ghost_name ≡ old.terms.ghost_name
  pub lengths : new.lengths.ghost_name ≡ old.lengths.ghost_name
  pub work : new.work.ghost_name ≡ old.work.ghost_name
  pub terms_length : length new.terms.now ≡ length old.terms.now
  pub lengths_length : length new.lengths.now ≡ length old.lengths.now
  pub work_length : length new.work.now ≡ length old.work.now
