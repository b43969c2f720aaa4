-- Every multilinear polynomial of the ring is the value of an ascending list of terms. Leans on ring's values of lists.
use Prim.Native.Nat.{ℕ, zero, suc, ◌+◌, ◌%◌, ◌^◌, ◌<◌}
use mathlib.Core.Path.{◌≡◌, refl, ap, ap₂, ◌∙◌}
use mathlib.Core.Bool.{Bool, true, false, ◌||◌}
use mathlib.Core.List.{List, [], ◌∷◌, ◌++◌, map}
use mathlib.Core.Logic.{inl, inr, ⊎_elim}
use native.Mathlib.Nat.{le_refl, pow-suc, mod_self}
use native.Mathlib.Omega.{arith}
use lib.Bits.{bit_or, or_mod, or_zero_l, or_disjoint}
use Rattle.masks.specs.Bit.{bit}
use Rattle.masks.proofs.Bits.{bit_or_lem, bit_power_same, bits_above_vanish}
use Rattle.polys.specs.List.{Mem, Asc, either}
use Rattle.polys.proofs.Lists.{mem_append, mem_map_from, asc_append, asc_map}
use Rattle.ring.specs.Run.{lacking, holding, lows}
use Rattle.ring.proofs.Value.{join, odd, value}
use Rattle.ring.proofs.Runs.{AllBits, lacking_of_all, holding_of_all}
use Rattle.ring.proofs.Alike.{value_of_alike}
use Rattle.ring.proofs.Built.{Small}
use Rattle.ring.proofs.Multilinear.{M}
use Rattle.ring.proofs.Refine.{σ}
use Rattle.rule.proofs.Derivative.{power_apart}

-- an ascending list of terms in n variables whose value is m
pub record Listed (n : ℕ) (m : M n) : Type 0 where
  pub terms : List ℕ
  pub ascending : Asc terms
  pub small : Small n terms
  pub has_value : value n terms ≡ σ n m

-- ---- terms without variable k, then terms with it

all_bits : (k : ℕ) (b : Bool) (l : List ℕ) → ((t : ℕ) → Mem l t → bit t k ≡ b) → AllBits k b l
all_bits k b [] h = tt
all_bits k b (t ∷ l) h = (h t (inl refl), all_bits k b l (λ u m. h u (inr m)))

lacking_first : (k : ℕ) (a b : List ℕ) → AllBits k false a → AllBits k true b → lacking k (a ++ b) ≡ a
unfolding lacking
lacking_first k [] b p q = lacking_of_all k true b q
lacking_first k (t ∷ a) b p q =
    ap (λ c. either c (lacking k (a ++ b)) (t ∷ lacking k (a ++ b))) p.0 ∙ ap (λ l. t ∷ l) (lacking_first k a b p.1 q)

holding_last : (k : ℕ) (a b : List ℕ) → AllBits k false a → AllBits k true b → holding k (a ++ b) ≡ b
unfolding holding
holding_last k [] b p q = holding_of_all k true b q
holding_last k (t ∷ a) b p q =
    ap (λ c. either c (t ∷ holding k (a ++ b)) (holding k (a ++ b))) p.0 ∙ holding_last k a b p.1 q

-- ---- a term below 2 ^ n with variable n added

module _ (n : ℕ) where
  with_n : ℕ → ℕ
  with_n t = bit_or (2 ^ n) t

  with_n_sum : (t : ℕ) → t < 2 ^ n → with_n t ≡ 2 ^ n + t
  unfolding with_n
  with_n_sum t h = or_disjoint (2 ^ n) t (power_apart n t (bits_above_vanish n t n h (le_refl n)))

  with_n_holds : (t : ℕ) → bit (with_n t) n ≡ true
  unfolding with_n
  with_n_holds t = bit_or_lem (2 ^ n) t n ∙ ap (λ b. b || bit t n) (bit_power_same n)

  -- below n nothing changes
  with_n_low : (l : List ℕ) → lows n (map with_n l) ≡ lows n l
  unfolding with_n
  with_n_low [] = refl
  with_n_low (t ∷ l) =
      ap₂ ◌∷◌ (or_mod (2 ^ n) t n ∙ ap (λ k. bit_or k (t % 2 ^ n)) (mod_self (2 ^ n)) ∙ or_zero_l (t % 2 ^ n)) (with_n_low l)

  -- the list of a polynomial from the lists of its halves
  step : (m : M (suc n)) → Listed n m.1 → Listed n m.0 → Listed (suc n) m
  unfolding with_n value
  step m low high = record {
    terms = low.terms ++ map with_n high.terms;
    ascending = asc_append low.terms (map with_n high.terms) low.ascending
        (asc_map with_n high.terms (λ s t ms mt l. order s t (high.small s ms) (high.small t mt) l) high.ascending)
        (λ s t ms mt. let u = mem_map_from with_n high.terms t mt in above s t u.0 (low.small s ms) (high.small u.0 u.1) u.2);
    small = λ t m.
        ⊎_elim (λ ms. less t (low.small t ms))
        (λ mt. let u = mem_map_from with_n high.terms t mt in bounded t u.0 (high.small u.0 u.1) u.2)
        (mem_append low.terms (map with_n high.terms) t m);
    has_value =
        ap₂ (λ a b. join n (value n a) (value n b))
        (lacking_first n low.terms (map with_n high.terms) without_n all_with_n)
        (holding_last n low.terms (map with_n high.terms) without_n all_with_n)
        ∙ ap₂ (join n) low.has_value
        (value_of_alike n (map with_n high.terms) high.terms (with_n_low high.terms) ∙ high.has_value);
  }
    where
      order : (s t : ℕ) → s < 2 ^ n → t < 2 ^ n → s < t → with_n s < with_n t
      order s t hs ht l =
          let p : with_n s ≡ 2 ^ n + s = with_n_sum s hs in
          let q : with_n t ≡ 2 ^ n + t = with_n_sum t ht in
          omega arith

      above : (s t u : ℕ) → s < 2 ^ n → u < 2 ^ n → t ≡ with_n u → s < t
      above s t u hs hu e =
          let q : with_n u ≡ 2 ^ n + u = with_n_sum u hu in
          omega arith

      twice : 2 ^ suc n ≡ 2 ^ n + 2 ^ n
      twice = let e = pow-suc 2 n in omega arith

      less : (t : ℕ) → t < 2 ^ n → t < 2 ^ suc n
      less t h = let e : 2 ^ suc n ≡ 2 ^ n + 2 ^ n = twice in omega arith

      bounded : (t u : ℕ) → u < 2 ^ n → t ≡ with_n u → t < 2 ^ suc n
      bounded t u h e =
          let q : with_n u ≡ 2 ^ n + u = with_n_sum u h in
          let d : 2 ^ suc n ≡ 2 ^ n + 2 ^ n = twice in
          omega arith

      without_n : AllBits n false low.terms
      without_n = all_bits n false low.terms (λ t m. bits_above_vanish n t n (low.small t m) (le_refl n))

      all_with_n : AllBits n true (map with_n high.terms)
      all_with_n =
          all_bits n true (map with_n high.terms)
          (λ t m. let u = mem_map_from with_n high.terms t m in ap (λ k. bit k n) u.2 ∙ with_n_holds u.0)

pub listed : (n : ℕ) (m : M n) → Listed n m
unfolding value odd
listed zero true = record { terms = 0 ∷ []; ascending = (tt, tt); small = λ t m. ⊎_elim (λ e. let d : t ≡ 0 = e in omega arith) absurd m; has_value = refl }
listed zero false = record { terms = []; ascending = tt; small = λ t m. absurd m; has_value = refl }
listed (suc n) m = step n m (listed n m.1) (listed n m.0)
