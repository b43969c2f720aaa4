-- What the results of this crate say of numbers, by the number of a term. `Compared` is what `compared` gives.
use Rattle.std.specs.Prelude.{◌≡◌, List, ℕ, Option, Some, None, Result, Ok, Err}
use Rattle.polys.specs.List.{Mem}
use Rattle.walk.specs.Walk.{Way, on, lacks, adds}
use Rattle.walk.specs.declared.Difference.{Difference}
use Rattle.walk.specs.declared.Difference.TheVariants.{Missing, Extra}

-- the list f held against the product p
abbrev pub Compared : {T : Type 0} → (T → ℕ) → List ℕ → List ℕ → Option (Difference T) → Type 0
Compared value p f None = f ≡ p
Compared value p f (Some (Missing u)) = Mem p (value u) × ¬ Mem f (value u)
Compared value p f (Some (Extra u)) = Mem f (value u) × ¬ Mem p (value u)

-- how far a walk came
abbrev pub way : {T : Type 0} → (T → ℕ) → Result ℕ (Difference T) → Way
way value (Ok at) = on at
way value (Err (Missing u)) = lacks (value u)
way value (Err (Extra u)) = adds (value u)
