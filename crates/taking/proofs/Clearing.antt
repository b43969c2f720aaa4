-- Words that are all 0 hold the term 1 alone. Leans on the laws of terms.
use Prim.Native.Nat.{ℕ}
use mathlib.Core.Path.{◌≡◌, sym, ap, ◌∙◌}
use mathlib.Core.List.{List}
use native.Mathlib.Omega.{arith}
use lib.ListN.{length, take, replicate, length-replicate}
use lib.Seq.{take-length}
use Rattle.std.proofs.lemmas.List.{take-replicate}
use Rattle.term.specs.Laws.{Laws}
use Rattle.grow.proofs.Rooms.{front_lent}

pub cleared : {numbers : List ℕ → List ℕ} {room : ℕ → ℕ} {lines : ℕ} (laws : Laws numbers room lines) (ws after : List ℕ)
    → after ≡ replicate (length ws) 0 → numbers after ≡ replicate (length (numbers ws)) 0
cleared {numbers} {room} laws ws after is =
    let n = length (numbers ws) in
    let many : length (numbers after) ≡ n = laws.numbers_same_length after ws (ap length is ∙ length-replicate (length ws) 0) in
    sym (take-length (numbers after)) ∙ ap (λ (k : ℕ). take k (numbers after)) many
    ∙ sym (front_lent laws n (room n) after (omega arith))
    ∙ ap numbers (ap (take (room n)) is ∙ take-replicate (room n) (length ws) 0 (laws.room_fits ws)) ∙ laws.numbers_zeros n
