-- Where a product may be cut: if above some bit k the one list is constant and the other rises from its first part to its second,
-- then the unions of the first part stand below those of the second. `run` finds such a cut. Leans on polys' and masks' laws.
use Prim.Native.Nat.{ℕ, suc, ◌+◌, ◌-◌, ◌*◌, ◌/◌, ◌^◌, ◌<◌, ◌≤◌}
use native.Mathlib.Nat.{pow-suc, div-eq_of_lt, zero-div, le-div_iff_mul-le}
use native.Mathlib.Omega.{arith}
use native.Mathlib.Decide.{dec_le}
use mathlib.Core.Path.{◌≡◌, sym, ap, ap₂, ◌∙◌, subst}
use mathlib.Core.List.{List, ◌++◌, append-nil}
use mathlib.Core.Logic.{⊎_elim}
use lib.Arith.{bin_ind}
use lib.Bits.{bit_and, bit_or, bit_xor, and_shr, or_shr, xor_shr, or_disjoint, and_self, xor_self}
use lib.ListN.{length, get_or, take, drop, length-take, length-drop, take-append-drop, drop_of_length-le}
use lib.Pow.{pow_pos, shr_mono}
use lib.Seq.{get_or-take, get_or-drop, take_all}
use Rattle.masks.proofs.Reflect.{∅, ◌∩◌, ◌⊕◌, ◌≐◌, ◌⊆◌, ◌⇒◌, ∴◌, identity}
use Rattle.polys.specs.List.{Mem}
use Rattle.polys.specs.Poly.{vars, times, Apart}
use Rattle.polys.proofs.Lists.{mem_left, mem_right, mem_append, mem_at, at_mem, asc_append, asc_at_le}
use Rattle.polys.proofs.Polys.{Union, times_mem, union_times, times_asc, times_by_mem, times_zero_left, vars_hold, apart_terms}
use Rattle.unions.specs.Unions.{Factors, Run, span}

-- ---- numbers above a bit

lower_above_bit : (k a b : ℕ) → a / 2 ^ k < b / 2 ^ k → a < b
lower_above_bit k a b h = go (dec_le b a)
  where
    go : Dec (b ≤ a) → a < b
    go (yes l) = absurd (let m : b / 2 ^ k ≤ a / 2 ^ k = shr_mono k l in let c : ⊥ = omega arith in c)
    go (no n) = omega arith

-- between two numbers that agree above a bit every number agrees with them
agree_between : (k x y z : ℕ) → x ≤ y → y ≤ z → x / 2 ^ k ≡ z / 2 ^ k → y / 2 ^ k ≡ x / 2 ^ k
agree_between k x y z h i e = let p : x / 2 ^ k ≤ y / 2 ^ k = shr_mono k h in let q : y / 2 ^ k ≤ z / 2 ^ k = shr_mono k i in omega arith

-- numbers agree above a bit if they differ by less
agree_if_near : (k a b : ℕ) → bit_xor a b < 2 ^ k → a / 2 ^ k ≡ b / 2 ^ k
agree_if_near k a b h =
    identity 2 (λ v w. v ⊕ w ≐ ∅ ⇒ ∴ v ≐ w) tt (a / 2 ^ k) (b / 2 ^ k) (sym (xor_shr a b k) ∙ div-eq_of_lt h)

-- and do not if they differ by as much
differ_if_far : (k a b : ℕ) → 2 ^ k ≤ bit_xor a b → a / 2 ^ k ≡ b / 2 ^ k → ⊥
differ_if_far k a b h e =
    let z : bit_xor a b / 2 ^ k ≡ 0 = xor_shr a b k ∙ ap (λ (n : ℕ). bit_xor n (b / 2 ^ k)) e ∙ xor_self (b / 2 ^ k) in
    let l : 1 ≤ bit_xor a b / 2 ^ k = (le-div_iff_mul-le (pow_pos k)).1 (omega arith) in
    omega arith

-- of two sets that are apart the larger number has a bit above the whole other one
bit_between : (d y : ℕ) → bit_and y d ≡ 0 → y < d → (k : ℕ) × (y < 2 ^ k) × (2 ^ k ≤ d)
bit_between = bin_ind (λ (d : ℕ). (y : ℕ) → bit_and y d ≡ 0 → y < d → (k : ℕ) × (y < 2 ^ k) × (2 ^ k ≤ d)) (λ y a h. absurd (let c : ⊥ = omega arith in c)) step
  where
    step : (d : ℕ) → ((y : ℕ) → bit_and y (d / 2) ≡ 0 → y < d / 2 → (k : ℕ) × (y < 2 ^ k) × (2 ^ k ≤ d / 2))
        → (y : ℕ) → bit_and y d ≡ 0 → y < d → (k : ℕ) × (y < 2 ^ k) × (2 ^ k ≤ d)
    step d ih y a h = go (dec_le (d / 2) (y / 2))
      where
        halves : bit_and (y / 2) (d / 2) ≡ 0
        halves = sym (and_shr y d 1) ∙ ap (λ (n : ℕ). n / 2) a

        go : Dec (d / 2 ≤ y / 2) → (k : ℕ) × (y < 2 ^ k) × (2 ^ k ≤ d)
        go (yes l) =
            let e : y / 2 ≡ d / 2 = omega arith in
            let z : y / 2 ≡ 0 = sym (and_self (y / 2)) ∙ ap (bit_and (y / 2)) e ∙ halves in
            (0, omega arith, omega arith)
        go (no n) =
            let r = ih (y / 2) halves (omega arith) in
            let p : 2 ^ suc r.0 ≡ 2 ^ r.0 * 2 = pow-suc 2 r.0 in
            let u : y / 2 < 2 ^ r.0 = r.1 in
            let w : 2 ^ r.0 ≤ d / 2 = r.2 in
            (suc r.0, omega arith, omega arith)

-- ---- the cut

module _ (a₀ a₁ b : List ℕ) (k : ℕ) (free : Apart (a₀ ++ a₁) b)
    (rise : (s s' : ℕ) → Mem a₀ s → Mem a₁ s' → s / 2 ^ k < s' / 2 ^ k)
    (level : (t t' : ℕ) → Mem b t → Mem b t' → t / 2 ^ k ≡ t' / 2 ^ k) where
  -- above bit k a union is a sum
  union_above_bit : (s t : ℕ) → Mem (a₀ ++ a₁) s → Mem b t → bit_or s t / 2 ^ k ≡ s / 2 ^ k + t / 2 ^ k
  union_above_bit s t m n =
      or_shr s t k
      ∙ or_disjoint (s / 2 ^ k) (t / 2 ^ k) (sym (and_shr s t k) ∙ ap (λ (x : ℕ). x / 2 ^ k) (apart_terms (a₀ ++ a₁) b s t free m n) ∙ zero-div (2 ^ k))

  first_below_second : (x y : ℕ) → Union a₀ b x → Union a₁ b y → x < y
  first_below_second x y u w =
      lower_above_bit k x y
      (let p : x / 2 ^ k ≡ u.0 / 2 ^ k + u.1 / 2 ^ k = ap (λ (z : ℕ). z / 2 ^ k) u.4 ∙ union_above_bit u.0 u.1 (mem_left a₀ a₁ u.0 u.2) u.3 in
      let q : y / 2 ^ k ≡ w.0 / 2 ^ k + w.1 / 2 ^ k = ap (λ (z : ℕ). z / 2 ^ k) w.4 ∙ union_above_bit w.0 w.1 (mem_right a₀ a₁ w.0 w.2) w.3 in
      let r : u.0 / 2 ^ k < w.0 / 2 ^ k = rise u.0 w.0 u.2 w.2 in
      let l : u.1 / 2 ^ k ≡ w.1 / 2 ^ k = level u.1 w.1 u.3 w.3 in
      omega arith)

  pub times_cut : times (a₀ ++ a₁) b ≡ times a₀ b ++ times a₁ b
  times_cut =
      sym (times_by_mem (a₀ ++ a₁) b (times a₀ b ++ times a₁ b)
      (asc_append (times a₀ b) (times a₁ b) (times_asc a₀ b) (times_asc a₁ b)
      (λ x y m n. first_below_second x y (times_mem a₀ b x m) (times_mem a₁ b y n)))
      (λ x m. ⊎_elim (λ n. let u = times_mem a₀ b x n in (u.0, u.1, mem_left a₀ a₁ u.0 u.2, u.3, u.4))
      (λ n. let u = times_mem a₁ b x n in (u.0, u.1, mem_right a₀ a₁ u.0 u.2, u.3, u.4))
      (mem_append (times a₀ b) (times a₁ b) x m))
      (λ x u. ⊎_elim (λ n. mem_left (times a₀ b) (times a₁ b) x (union_times a₀ b x (u.0, u.1, n, u.3, u.4)))
      (λ n. mem_right (times a₀ b) (times a₁ b) x (union_times a₁ b x (u.0, u.1, n, u.3, u.4)))
      (mem_append a₀ a₁ u.0 u.2)))

-- ---- the cut that `run` finds

-- a run by less than the list varies is not the whole list
pub run_short : (a : List ℕ) (d r : ℕ) → Run a d r → d < span a → r < length a
run_short a d r cut wide = go (dec_le (length a) r)
  where
    go : Dec (length a ≤ r) → r < length a
    go (no n) = omega arith
    go (yes l) =
        absurd
        (let e : r ≡ length a = omega (arith, cut.within) in
        let n : span a ≤ d = subst (λ (k : ℕ). bit_xor (get_or a 0 0) (get_or a (k - 1) 0) ≤ d) e cut.near in
        let c : ⊥ = omega arith in
        c)

-- where terms are left behind the run
module _ (a b : List ℕ) (d r : ℕ) (h : Factors a b) (narrow : span b ≡ d) (cut : Run a d r) (short : r < length a) where
  -- the bit above which b is constant and a is not
  bit : (k : ℕ) × (d < 2 ^ k) × (2 ^ k ≤ bit_xor (get_or a 0 0) (get_or a r 0))
  bit = bit_between (bit_xor (get_or a 0 0) (get_or a r 0)) d apart_spans (cut.far short)
    where
      first : Mem a (get_or a 0 0)
      first = mem_at a 0 h.some_first

      apart_spans : bit_and d (bit_xor (get_or a 0 0) (get_or a r 0)) ≡ 0
      apart_spans =
          identity 7 (λ p q s t v w d. p ⊆ v ⇒ q ⊆ v ⇒ s ⊆ w ⇒ t ⊆ w ⇒ v ∩ w ≐ ∅ ⇒ s ⊕ t ≐ d ⇒ ∴ d ∩ (p ⊕ q) ≐ ∅) tt
          (get_or a 0 0) (get_or a r 0) (get_or b 0 0) (get_or b (length b - 1) 0) (vars a) (vars b) d
          (vars_hold a (get_or a 0 0) first) (vars_hold a (get_or a r 0) (mem_at a r short))
          (vars_hold b (get_or b 0 0) (mem_at b 0 h.some_second))
          (vars_hold b (get_or b (length b - 1) 0) (mem_at b (length b - 1) (let s : 0 < length b = h.some_second in omega arith)))
          h.apart narrow

  level : (t t' : ℕ) → Mem b t → Mem b t' → t / 2 ^ bit.0 ≡ t' / 2 ^ bit.0
  level t t' m m' = at_first t m ∙ sym (at_first t' m')
    where
      ends : get_or b 0 0 / 2 ^ bit.0 ≡ get_or b (length b - 1) 0 / 2 ^ bit.0
      ends = agree_if_near bit.0 (get_or b 0 0) (get_or b (length b - 1) 0) (let h : d < 2 ^ bit.0 = bit.1 in omega arith)

      at_first : (x : ℕ) → Mem b x → x / 2 ^ bit.0 ≡ get_or b 0 0 / 2 ^ bit.0
      at_first x n =
          let u = at_mem b x n in
          let g : u.0 < length b = u.1 in
          ap (λ (z : ℕ). z / 2 ^ bit.0) u.2
          ∙ agree_between bit.0 (get_or b 0 0) (get_or b u.0 0) (get_or b (length b - 1) 0)
          (asc_at_le b 0 u.0 h.second (omega arith) g) (asc_at_le b u.0 (length b - 1) h.second (omega arith) (omega arith)) ends

  rise : (s s' : ℕ) → Mem (take r a) s → Mem (drop r a) s' → s / 2 ^ bit.0 < s' / 2 ^ bit.0
  rise s s' m m' =
      let low : s / 2 ^ bit.0 ≡ get_or a 0 0 / 2 ^ bit.0 = in_run in
      let high : get_or a r 0 / 2 ^ bit.0 ≤ s' / 2 ^ bit.0 = behind_run in
      let up : get_or a 0 0 / 2 ^ bit.0 ≤ get_or a r 0 / 2 ^ bit.0 = shr_mono bit.0 (asc_at_le a 0 r h.first (omega arith) short) in
      let other : get_or a 0 0 / 2 ^ bit.0 ≡ get_or a r 0 / 2 ^ bit.0 → ⊥ = differ_if_far bit.0 (get_or a 0 0) (get_or a r 0) bit.2 in
      omega arith
    where
      in_run : s / 2 ^ bit.0 ≡ get_or a 0 0 / 2 ^ bit.0
      in_run =
          let u = at_mem (take r a) s m in
          let g : u.0 < length (take r a) = u.1 in
          let w : u.0 < r = omega (arith, length-take r a) in
          ap (λ (z : ℕ). z / 2 ^ bit.0) (u.2 ∙ get_or-take r a u.0 0 w)
          ∙ agree_between bit.0 (get_or a 0 0) (get_or a u.0 0) (get_or a (r - 1) 0)
          (asc_at_le a 0 u.0 h.first (omega arith) (omega arith)) (asc_at_le a u.0 (r - 1) h.first (omega arith) (omega arith))
          (agree_if_near bit.0 (get_or a 0 0) (get_or a (r - 1) 0)
          (let n : bit_xor (get_or a 0 0) (get_or a (r - 1) 0) ≤ d = cut.near in let h : d < 2 ^ bit.0 = bit.1 in omega arith))

      behind_run : get_or a r 0 / 2 ^ bit.0 ≤ s' / 2 ^ bit.0
      behind_run =
          let u = at_mem (drop r a) s' m' in
          let g : u.0 < length (drop r a) = u.1 in
          shr_mono bit.0
          (subst (λ (z : ℕ). get_or a r 0 ≤ z) (sym (u.2 ∙ get_or-drop r a u.0 0))
          (asc_at_le a r (r + u.0) h.first (omega arith) (omega (arith, length-drop r a))))

  times_cut_by_run : times a b ≡ times (take r a) b ++ times (drop r a) b
  times_cut_by_run =
      ap (λ (l : List ℕ). times l b) (sym (take-append-drop r a))
      ∙ times_cut (take r a) (drop r a) b bit.0 (subst (λ (l : List ℕ). Apart l b) (sym (take-append-drop r a)) h.apart) rise level

-- the product is that of the first run followed by that of the rest, if any
pub times_by_runs : (a b : List ℕ) (d r : ℕ) → Factors a b → span b ≡ d → Run a d r → times a b ≡ times (take r a) b ++ times (drop r a) b
times_by_runs a b d r h narrow cut = go (dec_le (length a) r)
  where
    go : Dec (length a ≤ r) → times a b ≡ times (take r a) b ++ times (drop r a) b
    go (no n) = times_cut_by_run a b d r h narrow cut (omega arith)
    go (yes l) =
        sym (ap₂ (λ (x y : List ℕ). times x b ++ times y b) (take_all r a l) (drop_of_length-le a {i = r} l)
        ∙ ap (λ (l : List ℕ). times a b ++ l) (times_zero_left b) ∙ append-nil (times a b))
