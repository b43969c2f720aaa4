-- What multiply's checks (specs/Multiply.antt) tell where they pass, and that the product is then written. Leans on terms' laws of order
-- and polys' count of a product. Assumes nothing.
use Prim.Native.Nat.{ℕ, zero, suc, ◌*◌, ◌<◌, ◌≤◌}
use native.Mathlib.Nat.{zero-mul, mul-zero}
use native.Mathlib.Omega.{arith}
use mathlib.Core.Path.{◌≡◌, refl, sym, ap, ap₂, subst, ◌∙◌}
use mathlib.Core.List.{List, [], ◌∷◌, ◌++◌}
use borrow.Author.Tests.{ltb-false}
use lib.ListN.{length, take, drop}
use lib.Seq.{length-take-le}
use Rattle.answer.specs.Ends.{over, Writes}
use Rattle.answer.specs.Checked.{Passed}
use Rattle.answer.proofs.Checking.{equal_if_passed}
use Rattle.polys.specs.List.{Asc}
use Rattle.polys.specs.Poly.{times, Apart}
use Rattle.polys.proofs.Counts.{length_times}
use Rattle.terms.proofs.Order.{ascends_if_passed}
use Rattle.product.specs.Multiply.{multiply_checks}
use Rattle.unions.specs.Unions.{Ready}

module _ (most : ℕ) (a b out : List ℕ) (p : Passed (multiply_checks most a b (length out))) where
  pub first_few : length a ≤ most
  unfolding Passed
  first_few = search ltb-false

  pub second_few : length b ≤ most
  unfolding Passed
  second_few = search ltb-false

  pub first_ascends : Asc a
  unfolding Passed
  first_ascends = search ascends_if_passed

  pub second_ascends : Asc b
  unfolding Passed
  second_ascends = search ascends_if_passed

  pub apart : Apart a b
  unfolding Passed
  apart = search equal_if_passed

  pub small : length a * length b ≤ most
  unfolding Passed
  small = search ltb-false

  pub fits : length a * length b ≤ length out
  unfolding Passed
  fits = search ltb-false

  pub count : length (times a b) ≡ length a * length b
  count = length_times a b first_ascends second_ascends apart

  -- what `unions` asks of the room lent for so many terms
  pub ready : (n : ℕ) → n ≡ length a * length b → 0 < n → (lent : List ℕ) → lent ≡ take n out → Ready a b (length lent)
  ready n e h lent el =
      let some : 0 < length a * length b = subst (λ (k : ℕ). 0 < k) e h in
      record {
        factors =
            record {
              first = first_ascends;
              second = second_ascends;
              apart = apart;
              some_first = left_positive (length a) (length b) some;
              some_second = right_positive (length a) (length b) some;
            };
        fits = ap length el ∙ length-take-le n out (omega (arith, e, fits)) ∙ e;
      }
    where
      left_positive : (m n : ℕ) → 0 < m * n → 0 < m
      left_positive zero n h = absurd (let e : zero * n ≡ zero = zero-mul n in let c : ⊥ = omega arith in c)
      left_positive (suc m) n h = omega arith

      right_positive : (m n : ℕ) → 0 < m * n → 0 < n
      right_positive m zero h = absurd (let e : m * zero ≡ zero = mul-zero m in let c : ⊥ = omega arith in c)
      right_positive m (suc n) h = omega arith

  -- the product written, where there is something to write,
  pub product_written : (n : ℕ) → n ≡ length a * length b → (product new : List ℕ) → product ≡ times a b → new ≡ product ++ drop n out
      → Writes (times a b) out n new
  product_written n e product new ep en =
      let counted = e ∙ sym count in
      (counted, en ∙ ap₂ (λ (x : List ℕ) (k : ℕ). x ++ drop k out) ep counted)

  -- and where there is nothing
  pub nothing_written : (n : ℕ) → n ≡ length a * length b → n ≤ 0 → Writes (times a b) out n out
  nothing_written n e h =
      let counted = e ∙ sym count in
      (counted, sym (ap (λ (x : List ℕ). over x out) (empty (times a b) (sym counted ∙ (omega arith)))))
    where
      empty : (l : List ℕ) → length l ≡ 0 → l ≡ []
      empty [] e = refl
      empty (x ∷ l) e = absurd (let c : ⊥ = omega arith in c)
