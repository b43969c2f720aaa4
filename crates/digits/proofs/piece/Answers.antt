-- `digits::piece` meets its contract: a shift and a mask are a quotient and a remainder.
-- Assumes nothing.
use native.Mathlib.Omega.{arith}
use mathlib.Core.Path.{ap, ◌∙◌}
use Prim.Native.Nat.{ℕ, ◌+◌, ◌-◌, ◌/◌, ◌%◌, ◌^◌}
use lib.Pow.{pow_pos}
use Rattle.masks.proofs.Low.{one_shifted, low_by_mask}
use Rattle.digits.proofs.piece.Goals as goal

pub overflow_sub-result-2 : goal.overflow_sub-result-2
overflow_sub-result-2 c = omega (arith, one_shifted 64 c.args.width (omega arith), pow_pos c.args.width)

pub returns : goal.returns
returns c = low_by_mask 64 _ c.args.width (omega arith) ∙ ap (λ (n : ℕ). n / 2 ^ (8 - (c.args.skip + c.args.width)) % 2 ^ c.args.width) c.from.ensures
