-- How a step ends, by its answer; `value` gives the number of a term.
use Rattle.std.specs.Prelude.{ℕ, List}
use Rattle.grow.specs.declared.Step.{Step}
use Rattle.grow.specs.declared.Step.TheVariants.{Whole, Grow}
use Rattle.grow.specs.Steps.{StepWhole, StepMore}

abbrev pub Stepped : {T : Type 0} (value : T → ℕ) → List ℕ → ℕ → List ℕ → List ℕ → Step T → Type 0
Stepped value f y inside outside (Whole counts) = StepWhole f y inside outside counts.part counts.rest
Stepped value f y inside outside (Grow more) = StepMore f y (value more)
