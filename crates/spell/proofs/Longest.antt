-- The longest text of a term. Assumes nothing.
use Prim.Native.Nat.{ℕ, zero, suc, ◌^◌, ◌≤◌, ◌<◌}
use native.Mathlib.Omega.{arith}
use lib.ListN.{length}
use Rattle.spell.specs.Spelled.{spelled}
use Rattle.spell.proofs.Spelling.{constant_length}
use Rattle.spell.proofs.Sizes.{term_takes, any_byte, few_short, few_long}

-- a term and the byte behind it take at most 246 bytes: ten names of three and 54 of four
pub spelled_longest : (t behind : ℕ) → t < 2 ^ 64 → length (spelled t behind) ≤ 246
spelled_longest zero behind h = omega (arith, constant_length behind)
spelled_longest (suc t) behind h =
    omega (arith, any_byte (suc t) behind 0, term_takes (suc t) h (omega arith), few_short (suc t), few_long (suc t) h)
