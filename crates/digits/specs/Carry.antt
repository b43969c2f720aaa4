-- What putting bits behind bits asks and gives. No public promise rests on this page: the block that is written is told by its digits.
use Rattle.std.specs.Prelude.{ℕ, ◌+◌, ◌*◌, ◌/◌, ◌%◌, ◌^◌, ◌<◌, ◌≡◌, List, length, take, drop}
use Rattle.digits.specs.Number.{num}

-- the number of the first `at` bits of a row of bytes, those of the last byte that is not full held beside it
abbrev pub held : List ℕ → ℕ → ℕ → ℕ
held bytes at carry = num 8 (take (at / 8) bytes) * 2 ^ (at % 8) + carry

-- x was put behind the first `at` bits: the bits before it and the bytes behind it are as they were
pub record Put (old : List ℕ) (at carry x width : ℕ) (new : List ℕ) (left : ℕ) : Type 0 where
  pub number : held new (at + width) left ≡ held old at carry * 2 ^ width + x
  pub fits : left < 2 ^ ((at + width) % 8)
  pub behind : drop ((at + width) / 8) new ≡ drop ((at + width) / 8) old
  pub same : length new ≡ length old
