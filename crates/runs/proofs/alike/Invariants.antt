-- `runs::alike` compares two lists term by term. The invariant: all terms passed agree below bit k. The measure is what is left of the
-- length. Assumes nothing.
use Prim.Native.Nat.{ℕ, ◌≤◌, ◌<◌, ◌-◌, ◌%◌, ◌^◌}
use mathlib.Core.Path.{◌≡◌}
use lib.ListN.{length, get_or}
use Rattle.runs.proofs.alike.Given as goal

abbrev pub invariant-loop-i : goal.invariant-loop-i
invariant-loop-i g l =
    (l.i ≤ length (g.T.Term.numbers l.a)) × (l.n ≡ length (g.T.Term.numbers l.a)) × (length (g.T.Term.numbers l.a) ≡ length (g.T.Term.numbers l.b))
    × ((j : ℕ) → j < l.i → get_or (g.T.Term.numbers l.a) j 0 % 2 ^ l.k ≡ get_or (g.T.Term.numbers l.b) j 0 % 2 ^ l.k)

abbrev pub decreases-loop-i : goal.decreases-loop-i
decreases-loop-i g l = length (g.T.Term.numbers l.a) - l.i
