-- The rooms that are lent, in words: that the words of so many terms are there, and what a list is that was copied into a room. Leans on the
-- laws of terms.
use Prim.Native.Nat.{ℕ, ◌≤◌}
use mathlib.Core.Path.{◌≡◌, sym, ap, ◌∙◌}
use mathlib.Core.List.{List, ◌++◌}
use native.Mathlib.Omega.{arith}
use native.Mathlib.Nat.{sub-zero}
use lib.ListN.{length, take, drop}
use lib.Seq.{take-length, length-take-le, take_at}
use Rattle.term.specs.Laws.{Laws}
use Rattle.term.proofs.Places.{front_at}

module _ {numbers : List ℕ → List ℕ} {room : ℕ → ℕ} {lines : ℕ} (laws : Laws numbers room lines) where
  -- the words of the first m terms, as many as are there
  pub front_there : (m x : ℕ) (ws : List ℕ) → m ≤ length (numbers ws) → x ≡ room m → x ≤ length ws
  front_there m x ws fits is = omega (arith, is, laws.room_within ws m fits)

  -- a front that is lent, `ws[..words(m)]`
  pub front_lent : (m x : ℕ) (ws : List ℕ) → x ≡ room m → numbers (take x ws) ≡ take m (numbers ws)
  front_lent m x ws is = ap (λ (k : ℕ). numbers (take k ws)) (sym (sub-zero x)) ∙ front_at laws m x ws is

  -- all terms of one list, copied to the front of another
  pub copied : (f inside after lent : List ℕ) (n x : ℕ) → n ≡ length (numbers f) → x ≡ room n → lent ≡ take x f
      → after ≡ lent ++ drop x inside → take (length (numbers f)) (numbers after) ≡ numbers f
  copied f inside after lent n x all is is_lent is_after =
      ap (λ (k : ℕ). take k (numbers after)) (sym all)
      ∙ sym (front_lent n x after is)
      ∙ ap numbers front
      ∙ front_lent n x f is
      ∙ ap (λ (k : ℕ). take k (numbers f)) all ∙ take-length (numbers f)
    where
      there : x ≤ length f
      there = front_there n x f (omega (arith, all)) is

      front : take x after ≡ take x f
      front =
          ap (take x) is_after
          ∙ take_at lent (drop x inside) x (ap length is_lent ∙ length-take-le x f there) ∙ is_lent
