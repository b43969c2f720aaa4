-- `grow::part_of_lowest` counts all terms once, and grows the part (Rounds). Assumes nothing.
use native.Mathlib.Omega.{arith}
use mathlib.Core.Path.{◌∙◌, ap}
use lib.ListN.{replicate}
use Rattle.std.proofs.lemmas.List.{take-replicate}
use Rattle.grow.proofs.part_of_lowest.Goals as goal

pub tally-requires : goal.tally-requires
tally-requires g c =
    let laws = g.T.Term.laws in (
      c.requires.0.short,
      ap g.T.Term.numbers (take-replicate c.words.result 32 0 (omega (arith, c.words.ensures, laws.room_most 16)) ∙ ap (λ k. replicate k 0) c.words.ensures) ∙ laws.numbers_zeros 16,
    )
