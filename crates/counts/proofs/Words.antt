-- Lists of terms that stand in words: there are no more of them than words, and a front of empty words has empty planes. Leans on the laws
-- that each size proves.
use mathlib.Core.Path.{◌≡◌, ap, ◌∙◌}
use mathlib.Core.List.{List}
use Prim.Native.Nat.{ℕ, ◌+◌, ◌≤◌}
use native.Mathlib.Omega.{arith}
use lib.ListN.{length, take, replicate}
use Rattle.std.proofs.lemmas.List.{take-replicate}
use Rattle.term.specs.Laws.{Laws}

module _ {numbers : List ℕ → List ℕ} {room : ℕ → ℕ} {lines : ℕ} (laws : Laws numbers room lines) where
  pub no_more_than_words : (ws : List ℕ) → length (numbers ws) ≤ length ws
  no_more_than_words ws = omega (arith, laws.room_least (length (numbers ws)), laws.room_fits ws)

  pub empty_planes : (n x k : ℕ) → x ≡ room n → n + n ≤ k → numbers (take x (replicate k 0)) ≡ replicate n 0
  empty_planes n x k is fits =
      ap numbers (take-replicate x k 0 (omega (arith, laws.room_most n))) ∙ ap (λ m. numbers (replicate m 0)) is ∙ laws.numbers_zeros n
