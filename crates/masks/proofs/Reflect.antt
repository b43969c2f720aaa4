-- Identities of masks by truth table. An expression over set operations has a value as a mask and a value as a Bool at each bit;
-- an equation of expressions that holds in every row of the truth table, wherever the given equations hold in that row,
-- holds of the masks. So an identity is proved by naming its two sides: see the examples at the end. Leans on Bits.
use mathlib.Core.Path.{◌≡◌, refl, sym, ap, ap₂, ◌∙◌, subst}
use mathlib.Core.Bool.{Bool, true, false, not, ◌&&◌, ◌||◌, xor, beq}
use mathlib.Core.List.{List, [], ◌∷◌, map}
use Prim.Native.Nat.{ℕ, zero, suc}
use lib.ListN.{length, length-map}
use lib.Bits.{bit_and, bit_or, bit_xor}
use lib.Dec.{T}
use Rattle.masks.specs.Bit.{bit, without}
use Rattle.masks.proofs.Bits.{bit_and_lem, bit_or_lem, bit_xor_lem, bit_without, bit_zero, bit_ext}

infixl 71 ◌∪◌ ◌⊕◌
infixl 73 ◌∖◌
infixl 75 ◌∩◌
infix 68 ◌≐◌ ◌⊆◌
infixr 66 ◌⇒◌
infix 67 ∴◌
-- sets written with variables (by their place in the list of masks), the empty set and the set operations; x ∖ y is x without y
pub data Set : Type 0 where
  at : ℕ → Set
  ∅ : Set
  ◌∩◌ : Set → Set → Set
  ◌∪◌ : Set → Set → Set
  ◌⊕◌ : Set → Set → Set
  ◌∖◌ : Set → Set → Set

pub data Equation : Type 0 where
  ◌≐◌ : Set → Set → Equation

-- given equations, and the one that follows
pub data Claim : Type 0 where
  ∴◌ : Equation → Claim
  ◌⇒◌ : Equation → Claim → Claim

-- x lies in y
abbrev pub ◌⊆◌ : Set → Set → Equation
x ⊆ y = x ∩ y ≐ x

-- x and y have nothing in common
abbrev pub apart : Set → Set → Equation
apart x y = x ∩ y ≐ ∅

abbrev pub entry : {A : Type 0} → A → List A → ℕ → A
entry d [] i = d
entry d (a ∷ l) zero = a
entry d (a ∷ l) (suc i) = entry d l i

abbrev pub mask : List ℕ → Set → ℕ
mask ρ (at i) = entry 0 ρ i
mask ρ ∅ = 0
mask ρ (x ∩ y) = bit_and (mask ρ x) (mask ρ y)
mask ρ (x ∪ y) = bit_or (mask ρ x) (mask ρ y)
mask ρ (x ⊕ y) = bit_xor (mask ρ x) (mask ρ y)
mask ρ (x ∖ y) = without (mask ρ y) (mask ρ x)

-- the same at one bit
abbrev pub truth : List Bool → Set → Bool
truth β (at i) = entry false β i
truth β ∅ = false
truth β (x ∩ y) = truth β x && truth β y
truth β (x ∪ y) = truth β x || truth β y
truth β (x ⊕ y) = not (beq (truth β x) (truth β y))
truth β (x ∖ y) = truth β x && not (truth β y)

-- the equation holds of the masks
abbrev pub Equal : List ℕ → Equation → Type 0
Equal ρ (x ≐ y) = mask ρ x ≡ mask ρ y

-- the claim holds of the masks
abbrev pub Holds : List ℕ → Claim → Type 0
Holds ρ (∴ c) = Equal ρ c
Holds ρ (p ⇒ c) = Equal ρ p → Holds ρ c

-- the equation, and the claim, in a row of the truth table
abbrev pub equal : List Bool → Equation → Bool
equal β (x ≐ y) = beq (truth β x) (truth β y)

abbrev pub holds : List Bool → Claim → Bool
holds β (∴ c) = equal β c
holds β (p ⇒ c) = not (equal β p) || holds β c

-- a test passes in all 2 ^ n rows
abbrev pub every : ℕ → (List Bool → Bool) → Bool
every zero test = test []
every (suc n) test = every n (λ β. test (true ∷ β)) && every n (λ β. test (false ∷ β))

-- a claim about n sets, the claim with the variables from the k-th on put in, and what it says of all masks
abbrev pub About : ℕ → Type 0
About zero = Claim
About (suc n) = Set → About n

abbrev pub named : (n k : ℕ) → About n → Claim
named zero k c = c
named (suc n) k c = named n (suc k) (c (at k))

abbrev pub ForAll : ℕ → (List ℕ → List ℕ) → Claim → Type 0
ForAll zero ρ c = Holds (ρ []) c
ForAll (suc n) ρ c = (m : ℕ) → ForAll n (λ l. ρ (m ∷ l)) c

-- ---- the table is sound

row : List ℕ → ℕ → List Bool
row ρ i = map (λ m. bit m i) ρ

bit_of_entry : (ρ : List ℕ) (i k : ℕ) → bit (entry 0 ρ k) i ≡ entry false (row ρ i) k
unfolding row
bit_of_entry [] i k = bit_zero i
bit_of_entry (m ∷ ρ) i zero = refl
bit_of_entry (m ∷ ρ) i (suc k) = bit_of_entry ρ i k

bit_of_mask : (ρ : List ℕ) (i : ℕ) (x : Set) → bit (mask ρ x) i ≡ truth (row ρ i) x
unfolding xor
bit_of_mask ρ i (at k) = bit_of_entry ρ i k
bit_of_mask ρ i ∅ = bit_zero i
bit_of_mask ρ i (x ∩ y) = bit_and_lem (mask ρ x) (mask ρ y) i ∙ ap₂ ◌&&◌ (bit_of_mask ρ i x) (bit_of_mask ρ i y)
bit_of_mask ρ i (x ∪ y) = bit_or_lem (mask ρ x) (mask ρ y) i ∙ ap₂ ◌||◌ (bit_of_mask ρ i x) (bit_of_mask ρ i y)
bit_of_mask ρ i (x ⊕ y) = bit_xor_lem (mask ρ x) (mask ρ y) i ∙ ap₂ xor (bit_of_mask ρ i x) (bit_of_mask ρ i y)
bit_of_mask ρ i (x ∖ y) =
    bit_without (mask ρ y) (mask ρ x) i ∙ ap₂ (λ p q. p && not q) (bit_of_mask ρ i x) (bit_of_mask ρ i y)

both : (p q : Bool) → T (p && q) → T p × T q
both true q t = (tt, t)
both false q t = absurd t

modus_ponens : (p q : Bool) → T (not p || q) → T p → T q
modus_ponens true q t s = t
modus_ponens false q t s = absurd s

beq→eq : (p q : Bool) → T (beq p q) → p ≡ q
beq→eq true true t = refl
beq→eq true false t = absurd t
beq→eq false true t = absurd t
beq→eq false false t = refl

beq_refl : (p : Bool) → T (beq p p)
beq_refl true = tt
beq_refl false = tt

every_row : (β : List Bool) (test : List Bool → Bool) → T (every (length β) test) → T (test β)
every_row [] test t = t
every_row (true ∷ β) test t =
    every_row β (λ γ. test (true ∷ γ)) (both (every (length β) (λ γ. test (true ∷ γ))) (every (length β) (λ γ. test (false ∷ γ))) t).0
every_row (false ∷ β) test t =
    every_row β (λ γ. test (false ∷ γ)) (both (every (length β) (λ γ. test (true ∷ γ))) (every (length β) (λ γ. test (false ∷ γ))) t).1

equal_in_row : (ρ : List ℕ) (p : Equation) → Equal ρ p → (i : ℕ) → T (equal (row ρ i) p)
equal_in_row ρ (x ≐ y) h i =
    subst (λ q. T (beq (truth (row ρ i) x) q)) (sym (bit_of_mask ρ i x) ∙ ap (λ m. bit m i) h ∙ bit_of_mask ρ i y)
    (beq_refl (truth (row ρ i) x))

equal_from_rows : (ρ : List ℕ) (p : Equation) → ((i : ℕ) → T (equal (row ρ i) p)) → Equal ρ p
equal_from_rows ρ (x ≐ y) h =
    bit_ext (mask ρ x) (mask ρ y)
    (λ i. bit_of_mask ρ i x ∙ beq→eq (truth (row ρ i) x) (truth (row ρ i) y) (h i) ∙ sym (bit_of_mask ρ i y))

holds_from_rows : (ρ : List ℕ) (c : Claim) → ((i : ℕ) → T (holds (row ρ i) c)) → Holds ρ c
holds_from_rows ρ (∴ c) t = equal_from_rows ρ c t
holds_from_rows ρ (p ⇒ c) t =
    λ h. holds_from_rows ρ c (λ i. modus_ponens (equal (row ρ i) p) (holds (row ρ i) c) (t i) (equal_in_row ρ p h i))

holds_from_table : (c : Claim) (ρ : List ℕ) → T (every (length ρ) (λ β. holds β c)) → Holds ρ c
unfolding row
holds_from_table c ρ t =
    holds_from_rows ρ c
    (λ i. every_row (row ρ i) (λ β. holds β c)
    (subst (λ n. T (every n (λ β. holds β c))) (sym (length-map ρ (λ m. bit m i))) t))

for_all : (n : ℕ) (ρ : List ℕ → List ℕ) (c : Claim) → ((l : List ℕ) → length l ≡ n → Holds (ρ l) c) → ForAll n ρ c
for_all zero ρ c h = h [] refl
for_all (suc n) ρ c h = λ m. for_all n (λ l. ρ (m ∷ l)) c (λ l e. h (m ∷ l) (ap suc e))

-- ---- the front

-- a claim about n sets holds of all masks if it holds in the truth table; the last argument is always tt
pub identity : (n : ℕ) (c : About n) → T (every n (λ β. holds β (named n 0 c))) → ForAll n (λ l. l) (named n 0 c)
identity n c t =
    for_all n (λ l. l) (named n 0 c)
    (λ l e. holds_from_table (named n 0 c) l (subst (λ k. T (every k (λ β. holds β (named n 0 c)))) (sym e) t))

-- ---- examples

clearing_twice : (x y t : ℕ) → without x (without y t) ≡ without (bit_or x y) t
clearing_twice = identity 3 (λ x y t. ∴ t ∖ y ∖ x ≐ t ∖ (x ∪ y)) tt

within_and_apart : (x y t : ℕ) → bit_and t y ≡ t → bit_and x y ≡ 0 → without x t ≡ t
within_and_apart = identity 3 (λ x y t. t ⊆ y ⇒ apart x y ⇒ ∴ t ∖ x ≐ t) tt
