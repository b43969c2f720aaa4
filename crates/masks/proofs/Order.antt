-- A term is the sum of its bits in y and its bits outside y; so among terms that agree outside y the order is that of their bits
-- in y, and the other way round. A subset is no larger a number. Leans on Sets and on lib.Bits' or_disjoint.
use mathlib.Core.Path.{◌≡◌, sym, ◌∙◌}
use mathlib.Core.Logic.{◌↔◌}
use Prim.Native.Nat.{ℕ, ◌+◌, ◌≤◌, ◌<◌}
use native.Mathlib.Omega.{arith}
use native.Mathlib.Nat.{le_of_eq, le_trans}
use lib.Bits.{bit_and, or_disjoint, and_le_r}
use Rattle.masks.specs.Bit.{without}
use Rattle.masks.proofs.Reflect.{identity, ◌∩◌, ◌∪◌, ◌∖◌, ◌≐◌, ∴◌}
use Rattle.masks.proofs.Sets.{and_apart_without}

pub sum_of_inside_and_outside : (y t : ℕ) → t ≡ bit_and t y + without y t
sum_of_inside_and_outside y t =
    identity 2 (λ y t. ∴ t ≐ t ∩ y ∪ t ∖ y) tt y t ∙ or_disjoint (bit_and t y) (without y t) (and_apart_without y t t)

pub order_by_inside : (y s t : ℕ) → without y s ≡ without y t → (s < t) ↔ (bit_and s y < bit_and t y)
order_by_inside y s t h =
    let p : s ≡ bit_and s y + without y s = sum_of_inside_and_outside y s in
    let q : t ≡ bit_and t y + without y t = sum_of_inside_and_outside y t in
    ((λ l. omega arith), (λ l. omega arith))

pub order_by_outside : (y s t : ℕ) → bit_and s y ≡ bit_and t y → (s < t) ↔ (without y s < without y t)
order_by_outside y s t h =
    let p : s ≡ bit_and s y + without y s = sum_of_inside_and_outside y s in
    let q : t ≡ bit_and t y + without y t = sum_of_inside_and_outside y t in
    ((λ l. omega arith), (λ l. omega arith))

pub subset_le : (a b : ℕ) → bit_and a b ≡ a → a ≤ b
subset_le a b h = le_trans (le_of_eq (sym h)) (and_le_r a b)
