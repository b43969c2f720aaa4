-- What `run` knows after each turn: the term before place i is near the first. Assumes nothing.
use Prim.Native.Nat.{ℕ, ◌+◌, ◌-◌, ◌<◌, ◌≤◌}
use native.Mathlib.Omega.{arith}
use mathlib.Core.Path.{◌≡◌, sym, ap₂, ◌∙◌, subst}
use mathlib.Core.Bool.{Bool, true, false}
use mathlib.Core.List.{List}
use borrow.Author.Tests.{ltb-true, ltb-false}
use lib.Bits.{bit_xor, xor_self}
use lib.Dec.{ltb}
use lib.ListN.{length, get_or}
use Rattle.unions.specs.Unions.{Run}

abbrev pub Near : List ℕ → ℕ → ℕ → Type 0
Near a d i = (0 < i) × (i ≤ length a) × (bit_xor (get_or a 0 0) (get_or a (i - 1) 0) ≤ d)

pub first_near : (a : List ℕ) (d : ℕ) → 0 < length a → Near a d 1
first_near a d h = (omega arith, h, omega (arith, xor_self (get_or a 0 0)))

pub all_near : (a : List ℕ) (d n i : ℕ) → n ≡ length a → Near a d i → n ≤ i → Run a d n
all_near a d n i count near l =
    let same : i ≡ n = omega (arith, near.1) in
    subst (Run a d) same (record { some = near.0; within = near.1; near = near.2; far = λ h. absurd (let e : ⊥ = omega arith in e) })

-- the term at i is held against the first
module _ (a : List ℕ) (d i x y u : ℕ) (less : Bool) (near : Near a d i) (first : x ≡ get_or a 0 0) (this : y ≡ get_or a i 0) (differ : u ≡ bit_xor x y)
    (test : less ≡ ltb d u) where
  differs : u ≡ bit_xor (get_or a 0 0) (get_or a i 0)
  differs = differ ∙ ap₂ bit_xor first this

  pub next_far : less ≡ true → Run a d i
  next_far e = record { some = near.0; within = near.1; near = near.2; far = λ h. omega (arith, ltb-true d u (sym test ∙ e), differs) }

  pub next_near : (n : ℕ) → n ≡ length a → i < n → less ≡ false → Near a d (i + 1)
  next_near n count h e =
      let k : i ≡ i + 1 - 1 = omega arith in
      (omega arith, omega arith, subst (λ (j : ℕ). bit_xor (get_or a 0 0) (get_or a j 0) ≤ d) k (omega (arith, ltb-false d u (sym test ∙ e), differs)))
