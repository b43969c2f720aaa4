-- What stands in the buffers after an accepted split, read back: the parts. Serves Demands. Assumes nothing.
use Prim.Native.Nat.{ℕ, ◌+◌, ◌*◌, ◌≤◌}
use mathlib.Core.Path.{◌≡◌, refl, sym, ap, ◌∙◌}
use mathlib.Core.Bool.{true≢false}
use mathlib.Core.List.{List, [], ◌∷◌, foldr}
use native.Mathlib.Nat.{lt_of_not-le}
use native.Mathlib.Omega.{arith}
use lib.Count.{ones-le}
use lib.ListN.{length}
use Rattle.masks.proofs.Bits.{bits_above_vanish}
use Rattle.polys.specs.Poly.{vars}
use Rattle.polys.specs.Parts.{IsParts}
use Rattle.rule.specs.Rule.{Below}
use Rattle.terms.proofs.Vars.{vars_below}
use Rattle.unique.specs.Lengths.{lengths_multiplied, lengths_added}
use Rattle.unique.proofs.Counts.{lengths_sum, number_of_parts}
use Rattle.taking.specs.Joined.{lengths}
use Rattle.demands.specs.Told.{Words}

-- the variables of words of n bits are below n
pub words_below : (n : ℕ) (f : List ℕ) → Words n f → Below n f
words_below n f w i h = lt_of_not-le (λ l. true≢false (sym h ∙ bits_above_vanish n (vars f) i (vars_below n f w) l))

-- the words of the lengths multiplied, and added
pub multiplied_words : (ps : List (List ℕ)) → foldr ◌*◌ 1 (lengths ps) ≡ lengths_multiplied ps
unfolding lengths_multiplied
multiplied_words [] = refl
multiplied_words (p ∷ ps) = ap (◌*◌ (length p)) (multiplied_words ps)

pub added_words : (ps : List (List ℕ)) → foldr ◌+◌ 0 (lengths ps) ≡ lengths_added ps
unfolding lengths_added
added_words [] = refl
added_words (p ∷ ps) = ap (◌+◌ (length p)) (added_words ps)

-- together the parts have at most as many terms as the list and there are variables
pub added_at_most : (n : ℕ) (f : List ℕ) (ps : List (List ℕ)) → Words n f → IsParts f ps → lengths_added ps ≤ length f + n
added_at_most n f ps w parts = omega (arith, lengths_sum f ps parts, number_of_parts f ps parts, ones-le n (vars f) (vars_below n f w))
