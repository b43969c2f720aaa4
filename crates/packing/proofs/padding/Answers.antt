-- `padding` gives the bits behind the terms: the block is as long as its size says. Assumes nothing.
use Rattle.packing.proofs.Terms.{behind_terms}
use Rattle.packing.proofs.padding.Goals as goal

pub returns : goal.returns
returns c = search behind_terms
