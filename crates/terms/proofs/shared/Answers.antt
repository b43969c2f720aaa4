-- `terms::shared` joins the variables of the two records. Assumes nothing.
use mathlib.Core.Path.{◌∙◌, ap₂}
use lib.Bits.{bit_and}
use Rattle.terms.proofs.shared.Goals as goal

pub returns : goal.returns
returns g c = c.and.ensures ∙ ap₂ bit_and c.variables-first.ensures c.variables.ensures
