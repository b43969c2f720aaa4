-- The answers of a deployment: one for each list, and four words for each. Assumes nothing.
use Prim.Native.Nat.{ℕ, suc, ◌*◌}
use mathlib.Core.Path.{◌≡◌, refl, ap, ◌∙◌}
use mathlib.Core.List.{List, [], ◌∷◌}
use native.Mathlib.Omega.{arith}
use lib.ListN.{length}
use Rattle.answer.specs.declared.Answer.{Answer}
use Rattle.parts.specs.Split.{Buffers}
use Rattle.deploy.specs.Deploy.{left, InTurn, answer_words}

-- as many answers as lists
pub as_many_answers : (max_terms max_vars : ℕ) (fs : List (List ℕ)) (old : Buffers) (answers : List Answer) (new : Buffers)
    → InTurn max_terms max_vars fs old answers new → length answers ≡ length fs
unfolding InTurn
as_many_answers max_terms max_vars [] old answers new (e, _) = ap length e
as_many_answers max_terms max_vars (f ∷ fs) old answers new (answer, after, later, rest, _, turn, e, _) =
    ap length e ∙ ap suc (as_many_answers max_terms max_vars fs (left answer.count after) later rest turn)

-- four words for each
pub four_words_each : (answers : List Answer) → length (answer_words answers) ≡ 4 * length answers
unfolding answer_words
four_words_each [] = refl
four_words_each (answer ∷ later) = omega (arith, four_words_each later)
