-- `runs::size` adds two lengths; no lists are so long that the sum does not fit. Assumes nothing.
use Prim.Native.Nat.{ℕ, ◌≤◌}
use mathlib.Core.List.{List}
use native.Mathlib.Omega.{arith}
use lib.ListN.{length}
use Rattle.runs.proofs.size.Goals as goal

pub overflow_add-result : goal.overflow_add-result
overflow_add-result g c =
    -- a term takes a word at least
    let terms : (ws : List ℕ) → length (g.T.Term.numbers ws) ≤ length ws = λ ws. omega (arith, g.T.Term.laws.room_fits ws, g.T.Term.laws.room_least (length (g.T.Term.numbers ws))) in
    omega (arith, terms c.args.x.now, terms c.args.y.now)

pub returns : goal.returns
returns g c =
    -- a term takes a word at least
    let terms : (ws : List ℕ) → length (g.T.Term.numbers ws) ≤ length ws = λ ws. omega (arith, g.T.Term.laws.room_fits ws, g.T.Term.laws.room_least (length (g.T.Term.numbers ws))) in
    (omega arith, omega (arith, terms c.args.x.now, terms c.args.y.now))
