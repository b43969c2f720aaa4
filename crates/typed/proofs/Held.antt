-- The variables of a term as numbers: the bits of a term as written are those of its variables, and the variables of a number ascend, are
-- those whose bits are set, and give the number back. So a term list is what is said by the text that is written of it. Assumes nothing.
use Prim.Native.Nat.{ℕ, zero, suc, ◌+◌, ◌^◌, ◌≤◌, ◌<◌}
use native.Mathlib.Decide.{ℕ_discrete, dec_le}
use native.Mathlib.Omega.{arith}
use mathlib.Core.Path.{◌≡◌, refl, sym, ap, ap₂, ◌∙◌}
use mathlib.Core.Bool.{Bool, true, false, ◌||◌, false≢true, or-true}
use mathlib.Core.List.{List, [], ◌∷◌, map}
use mathlib.Core.Logic.{inl, inr, ◌↔◌}
use Rattle.masks.specs.Bit.{bit}
use Rattle.masks.specs.Width.{width}
use Rattle.masks.proofs.Bits.{bit_or_lem, bit_zero, bit_ext, bit_power_same, bit_power_other, bits_above_vanish}
use Rattle.masks.proofs.Width.{width_bounds}
use Rattle.polys.specs.List.{Mem, Asc, either}
use Rattle.polys.proofs.Lists.{above_by_mem}
use Rattle.typed.specs.Form.{Named, AllNamed}
use Rattle.typed.specs.Says.{mask, left, sum, held_from, held}
use Rattle.typed.proofs.Left.{left_of_ascending}

-- ---- the bits of a term as written

-- the bit of a variable of the term is set
pub mask_bit : (vs : List ℕ) (i : ℕ) → Mem vs i → bit (mask vs) i ≡ true
unfolding mask
mask_bit [] i h = absurd h
mask_bit (v ∷ vs) i (inl e) =
    bit_or_lem (2 ^ v) (mask vs) i ∙ ap (λ (b : Bool). b || bit (mask vs) i) (ap (bit (2 ^ v)) e ∙ bit_power_same v)
mask_bit (v ∷ vs) i (inr m) =
    bit_or_lem (2 ^ v) (mask vs) i ∙ ap (λ (b : Bool). bit (2 ^ v) i || b) (mask_bit vs i m) ∙ or-true (bit (2 ^ v) i)

-- and no other
pub mask_member : (vs : List ℕ) (i : ℕ) → bit (mask vs) i ≡ true → Mem vs i
unfolding mask
mask_member [] i h = absurd (false≢true (sym (bit_zero i) ∙ h))
mask_member (v ∷ vs) i h = go (ℕ_discrete v i) (mask_member vs i)
  where
    go : Dec (v ≡ i) → (bit (mask vs) i ≡ true → Mem vs i) → Mem (v ∷ vs) i
    go (yes e) further = inl (sym e)
    go (no n) further =
        inr (further (ap (λ (b : Bool). b || bit (mask vs) i) (sym (bit_power_other v i n)) ∙ sym (bit_or_lem (2 ^ v) (mask vs) i) ∙ h))

-- a bit is set exactly if it is that of a variable of the term
pub bit_mask : (vs : List ℕ) (i : ℕ) → (bit (mask vs) i ≡ true) ↔ Mem vs i
bit_mask vs i = (mask_member vs i, mask_bit vs i)

-- ---- the variables of a number

-- those of k from i on lie there, and their bits are set
pub held_from_mem : (i k t x : ℕ) → Mem (held_from i k t) x → (i ≤ x) × (x < i + k) × (bit t x ≡ true)
unfolding held_from
held_from_mem i zero t x h = absurd h
held_from_mem i (suc k) t x h = go (bit t i) refl h (held_from_mem (suc i) k t x)
  where
    go : (b : Bool) → bit t i ≡ b → Mem (either b (i ∷ held_from (suc i) k t) (held_from (suc i) k t)) x
        → (Mem (held_from (suc i) k t) x → (suc i ≤ x) × (x < suc i + k) × (bit t x ≡ true)) → (i ≤ x) × (x < i + suc k) × (bit t x ≡ true)
    go true e (inl p) further = (omega arith, omega arith, ap (bit t) p ∙ e)
    go true e (inr m) further = let r = further m in (omega (arith, r.0), omega (arith, r.1), r.2)
    go false e m further = let r = further m in (omega (arith, r.0), omega (arith, r.1), r.2)

-- and they are all of these
pub mem_held_from : (i k t x : ℕ) → i ≤ x → x < i + k → bit t x ≡ true → Mem (held_from i k t) x
unfolding held_from
mem_held_from i zero t x l u h = absurd (let c : ⊥ = omega arith in c)
mem_held_from i (suc k) t x l u h = go (bit t i) refl (ℕ_discrete x i) (λ n. mem_held_from (suc i) k t x (omega arith) (omega arith) h)
  where
    go : (b : Bool) → bit t i ≡ b → Dec (x ≡ i) → (¬ (x ≡ i) → Mem (held_from (suc i) k t) x)
        → Mem (either b (i ∷ held_from (suc i) k t) (held_from (suc i) k t)) x
    go true e (yes p) further = inl p
    go true e (no n) further = inr (further n)
    go false e (yes p) further = absurd (false≢true (sym e ∙ ap (bit t) (sym p) ∙ h))
    go false e (no n) further = further n

-- they ascend
pub held_from_asc : (i k t : ℕ) → Asc (held_from i k t)
unfolding held_from
held_from_asc i zero t = tt
held_from_asc i (suc k) t = go (bit t i) (held_from_asc (suc i) k t)
  where
    go : (b : Bool) → Asc (held_from (suc i) k t) → Asc (either b (i ∷ held_from (suc i) k t) (held_from (suc i) k t))
    go true p = (above_by_mem i (held_from (suc i) k t) (λ x m. (held_from_mem (suc i) k t x m).0), p)
    go false p = p

-- they strictly ascend, so none stands there twice
pub held_ascends : (t : ℕ) → Asc (held t)
held_ascends t = held_from_asc 0 (width t) t

-- a variable stands among them exactly if its bit is set
pub held_bit : (t x : ℕ) → Mem (held t) x ↔ (bit t x ≡ true)
held_bit t x = ((λ m. (held_from_mem 0 (width t) t x m).2), (λ h. mem_held_from 0 (width t) t x (omega arith) (within h (dec_le (width t) x)) h))
  where
    within : bit t x ≡ true → Dec (width t ≤ x) → x < 0 + width t
    within h (yes l) = absurd (false≢true (sym (bits_above_vanish (width t) t x (width_bounds t).above l) ∙ h))
    within h (no n) = omega arith

-- they give the number back
pub mask_held : (t : ℕ) → mask (held t) ≡ t
mask_held t =
    bit_ext (mask (held t)) t
    (λ i. same (bit (mask (held t)) i) (bit t i) (λ h. (held_bit t i).0 (mask_member (held t) i h)) (λ h. mask_bit (held t) i ((held_bit t i).1 h)))
  where
    same : (p q : Bool) → (p ≡ true → q ≡ true) → (q ≡ true → p ≡ true) → p ≡ q
    same true q f g = sym (f refl)
    same false true f g = g refl
    same false false f g = refl

-- each is one of those that there are
pub held_named : (w t : ℕ) → t < 2 ^ w → Named w (held t)
held_named w t h = all (held t) (λ v m. below v ((held_bit t v).0 m) (dec_le w v))
  where
    below : (v : ℕ) → bit t v ≡ true → Dec (w ≤ v) → v < w
    below v b (yes l) = absurd (false≢true (sym (bits_above_vanish w t v h l) ∙ b))
    below v b (no n) = omega arith

    all : (vs : List ℕ) → ((v : ℕ) → Mem vs v → v < w) → Named w vs
    all [] f = tt
    all (v ∷ vs) f = (f v (inl refl), all vs (λ u m. f u (inr m)))

-- ---- a term list as written

-- every variable of it is one of those that there are
pub all_held_named : (w : ℕ) (terms : List ℕ) → ((t : ℕ) → Mem terms t → t < 2 ^ w) → AllNamed w (map held terms)
all_held_named w [] f = tt
all_held_named w (t ∷ terms) f = (held_named w t (f t (inl refl)), all_held_named w terms (λ u m. f u (inr m)))

-- written and read, each term is what it was
pub masks_held : (terms : List ℕ) → map mask (map held terms) ≡ terms
masks_held [] = refl
masks_held (t ∷ terms) = ap₂ (λ (x : ℕ) (l : List ℕ). x ∷ l) (mask_held t) (masks_held terms)

-- what is written of a term list says that list
pub sum_of_written : (terms : List ℕ) → Asc terms → sum (map held terms) ≡ terms
sum_of_written terms p = ap left (masks_held terms) ∙ left_of_ascending terms p
