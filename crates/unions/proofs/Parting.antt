-- What `unions` does with two lists: a list of one term is a row, and of two others the one that varies by more is cut into runs.
-- Leans on Steps. Assumes nothing.
use Prim.Native.Nat.{ℕ, ◌*◌, ◌<◌, ◌≤◌}
use native.Mathlib.Nat.{mul_comm, one-mul, mul-one}
use native.Mathlib.Omega.{arith}
use mathlib.Core.Path.{◌≡◌, sym, ap, ◌∙◌, subst}
use mathlib.Core.Bool.{Bool, true, false}
use mathlib.Core.List.{List, map}
use borrow.Author.Tests.{ltb-true, ltb-false}
use lib.Bits.{bit_or}
use lib.Dec.{ltb}
use lib.ListN.{length, get_or}
use Rattle.polys.specs.Poly.{times}
use Rattle.polys.proofs.Polys.{times_comm}
use Rattle.unions.proofs.Steps.{factors_swap, times_of_one, second_wider}
use Rattle.unions.specs.Unions.{Factors, Ready, Wider, span}

-- which of them varies by more, after a test
module _ {a b : List ℕ} (h : Factors a b) {x y : ℕ} {less : Bool} (p : x ≡ span a) (q : y ≡ span b) (e : less ≡ ltb y x) where
  pub first_varies : less ≡ true → Wider a b y
  first_varies l =
      let lt : y < x = ltb-true y x (sym e ∙ l) in
      record { factors = h; narrow = sym q; wide = omega arith }

  pub second_varies : {k : ℕ} → k ≡ length a → (k ≡ 1 → ⊥) → less ≡ false → Wider b a x
  second_varies c more l =
      let le : x ≤ y = ltb-false y x (sym e ∙ l) in
      subst (Wider b a) (sym p) (second_wider a b h (λ o. more (c ∙ o)) (omega arith))

-- what is written
module _ {a b : List ℕ} {n : ℕ} (h : Ready a b n) where
  pub row_room : (k : ℕ) → k ≡ length a → k ≡ 1 → n ≡ length b
  row_room k c e = h.fits ∙ ap (λ (k : ℕ). k * length b) (sym c ∙ e) ∙ one-mul (length b)

  pub column_room : (k : ℕ) → k ≡ length b → k ≡ 1 → n ≡ length a
  column_room k c e = h.fits ∙ ap (λ (k : ℕ). length a * k) (sym c ∙ e) ∙ mul-one (length a)

  pub row_written : (k t : ℕ) → k ≡ length a → k ≡ 1 → t ≡ get_or a 0 0 → (new : List ℕ) → new ≡ map (bit_or t) b → new ≡ times a b
  row_written k t c e u new w = w ∙ ap (λ (t : ℕ). map (bit_or t) b) u ∙ sym (times_of_one a b h.factors (sym c ∙ e))

  pub column_written : (k t : ℕ) → k ≡ length b → k ≡ 1 → t ≡ get_or b 0 0 → (new : List ℕ) → new ≡ map (bit_or t) a → new ≡ times a b
  column_written k t c e u new w =
      w ∙ ap (λ (t : ℕ). map (bit_or t) a) u ∙ sym (times_of_one b a (factors_swap a b h.factors) (sym c ∙ e)) ∙ times_comm b a

  pub second_room : n ≡ length b * length a
  second_room = h.fits ∙ mul_comm (length a) (length b)

  pub second_written : (new : List ℕ) → new ≡ times b a → new ≡ times a b
  second_written new w = w ∙ times_comm b a
