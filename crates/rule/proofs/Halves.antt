-- If F is closed under mixing along a set that holds x and not y, the four lists of the papers are products and AD = BC: with F = G H, x in G and y in H,
-- A = G1 H, B = G0 H, C = G1 H1, D = G0 H1. Leans on Derivative and on ring's value of a built product.
use Prim.Native.Nat.{ℕ}
use mathlib.Core.Path.{◌≡◌, sym, ap, ap₂, ◌∙◌, subst}
use mathlib.Core.Bool.{true, false, not, ◌&&◌, and-false, true≢false}
use mathlib.Core.List.{List}
use lib.Bits.{bit_and, and_self}
use Rattle.masks.specs.Bit.{bit}
use Rattle.masks.proofs.Bits.{bit_and_lem, bit_without}
use Rattle.masks.proofs.Sets.{apart_within, and_apart_without}
use Rattle.polys.specs.List.{Asc}
use Rattle.polys.specs.Poly.{vars, onto, off, times, Apart}
use Rattle.polys.proofs.Polys.{onto_mem, onto_asc, off_mem, off_asc, vars_onto, vars_off, times_comm}
use Rattle.splitting.specs.Mix.{Closed}
use Rattle.splitting.proofs.Splits.{splits_of_closed}
use Rattle.ring.specs.Run.{lacking}
use Rattle.ring.proofs.Domain.{mul_medial}
use Rattle.ring.proofs.Series.{R, laws, times as mul}
use Rattle.ring.proofs.Value.{value}
use Rattle.ring.proofs.Bridge.{same_from_equal}
use Rattle.ring.proofs.Built.{value_of_built}
use Rattle.rule.specs.Rule.{derivative, PapersSay}
use Rattle.rule.proofs.Derivative.{Lacks, lacking_mem, derivative_mem, kept, lacking_asc, derivative_asc, lacking_vars, derivative_vars, lacking_times, derivative_times}

-- (a b)(c d) = (d b)(c a)
ends_exchanged : (n : ℕ) (a b c d : R n) → mul n (mul n a b) (mul n c d) ≡ mul n (mul n d b) (mul n c a)
ends_exchanged n a b c d =
    mul_medial (laws n) a b c d
    ∙ (laws n).mul_comm (mul n a c) (mul n b d)
    ∙ ap₂ (mul n) ((laws n).mul_comm b d) ((laws n).mul_comm a c)

module _ (n : ℕ) (g h : List ℕ) (x y : ℕ) (pg : Asc g) (ph : Asc h) (no_common : Apart g h) (free_h : Lacks x h) (free_g : Lacks y g) (other : ¬ (x ≡ y)) where
  lacks_derivative : Lacks y (derivative x g)
  lacks_derivative t m =
      let u = derivative_mem x g t m in
      ap (λ k. bit k y) u.3 ∙ kept x y u.0 other ∙ free_g u.0 u.1

  lacks_lacking : Lacks y (lacking x g)
  lacks_lacking t m = free_g t (lacking_mem x g t m).0

  -- the value of the product of lists with no other variables than g and h
  value_of : (k l : List ℕ) → Asc k → Asc l → bit_and (vars k) (vars g) ≡ vars k → bit_and (vars l) (vars h) ≡ vars l
      → value n (times k l) ≡ mul n (value n k) (value n l)
  value_of k l pk pl vk vl = value_of_built n k l pk pl (apart_within (vars k) (vars l) (vars g) (vars h) vk vl no_common)

  -- A = G1 H and B = G0 H
  value_a : value n (derivative x (times g h)) ≡ mul n (value n (derivative x g)) (value n h)
  value_a =
      ap (value n) (derivative_times x g h free_h)
      ∙ value_of (derivative x g) h (derivative_asc x g pg) ph (derivative_vars x g) (and_self (vars h))

  value_b : value n (lacking x (times g h)) ≡ mul n (value n (lacking x g)) (value n h)
  value_b =
      ap (value n) (lacking_times x g h free_h) ∙ value_of (lacking x g) h (lacking_asc x g pg) ph (lacking_vars x g) (and_self (vars h))

  -- C = H1 G1 and D = H1 G0
  by_y : (k : List ℕ) → Lacks y k → Asc k → bit_and (vars k) (vars g) ≡ vars k
      → value n (derivative y (times k h)) ≡ mul n (value n (derivative y h)) (value n k)
  by_y k free pk vk =
      ap (value n) (ap (derivative y) (times_comm k h) ∙ derivative_times y h k free ∙ times_comm (derivative y h) k)
      ∙ value_of k (derivative y h) pk (derivative_asc y h ph) vk (derivative_vars y h)
      ∙ (laws n).mul_comm (value n k) (value n (derivative y h))

  value_c : value n (derivative y (derivative x (times g h))) ≡ mul n (value n (derivative y h)) (value n (derivative x g))
  value_c =
      ap (λ k. value n (derivative y k)) (derivative_times x g h free_h)
      ∙ by_y (derivative x g) lacks_derivative (derivative_asc x g pg) (derivative_vars x g)

  value_d : value n (derivative y (lacking x (times g h))) ≡ mul n (value n (derivative y h)) (value n (lacking x g))
  value_d =
      ap (λ k. value n (derivative y k)) (lacking_times x g h free_h)
      ∙ by_y (lacking x g) lacks_lacking (lacking_asc x g pg) (lacking_vars x g)

  pub papers_say_of_product : PapersSay n (times g h) x y
  papers_say_of_product =
      same_from_equal n (derivative x (times g h)) (derivative y (lacking x (times g h))) (lacking x (times g h)) (derivative y (derivative x (times g h)))
      (ap₂ (mul n) value_a value_d
      ∙ ends_exchanged n (value n (derivative x g)) (value n h) (value n (derivative y h)) (value n (lacking x g))
      ∙ sym (ap₂ (mul n) value_b value_c))

-- the first half of the rule
pub papers_say_if_closed : (n : ℕ) (f : List ℕ) (x y z : ℕ) → Asc f → Closed z f → bit z x ≡ true → bit z y ≡ false → PapersSay n f x y
papers_say_if_closed n f x y z asc closed hx hy =
    subst (λ k. PapersSay n k x y) (sym (splits_of_closed z f asc closed))
    (papers_say_of_product n (onto z f) (off z f) x y (onto_asc z f) (off_asc z f)
    (ap₂ bit_and (vars_onto z f) (vars_off z f) ∙ and_apart_without z (vars f) (vars f))
    (λ t m. let u = off_mem z f t m in ap (λ k. bit k x) u.2 ∙ bit_without z u.0 x ∙ ap (λ b. bit u.0 x && not b) hx ∙ and-false (bit u.0 x))
    (λ t m. let u = onto_mem z f t m in ap (λ k. bit k y) u.2 ∙ bit_and_lem u.0 z y ∙ ap (λ b. bit u.0 y && b) hy ∙ and-false (bit u.0 y))
    (λ e. true≢false (sym hx ∙ ap (bit z) e ∙ hy)))
