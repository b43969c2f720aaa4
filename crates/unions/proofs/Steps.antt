-- The steps of a product on two lists: a list of one term, one turn of the loop over the runs, and which list varies by more.
-- Leans on Cut. Assumes nothing.
use Prim.Native.Nat.{ℕ, ◌+◌, ◌-◌, ◌<◌, ◌≤◌}
use native.Mathlib.Nat.{add-zero}
use native.Mathlib.Omega.{arith}
use native.Mathlib.Decide.{dec_le}
use mathlib.Core.Path.{◌≡◌, refl, sym, ap, ap₂, ◌∙◌, subst}
use mathlib.Core.List.{List, [], ◌∷◌, ◌++◌, map}
use lib.Bits.{bit_or, bit_xor}
use lib.ListN.{length, get_or, take, drop, length-drop}
use lib.Seq.{get_or-take, get_or-drop, length-take-le, drop-drop}
use Rattle.masks.proofs.Reflect.{∅, ◌∩◌, ◌⊕◌, ◌≐◌, ◌⊆◌, ◌⇒◌, ∴◌, identity}
use Rattle.polys.specs.List.{Mem}
use Rattle.polys.specs.Poly.{vars, times}
use Rattle.polys.proofs.Lists.{mem_at, mem_take, mem_drop, asc_take, asc_drop, asc_map, asc_at}
use Rattle.polys.proofs.Polys.{vars_hold, apart_sym, apart_sub, union_is_sum, times_term}
use Rattle.unions.proofs.Cut.{run_short, times_by_runs}
use Rattle.unions.specs.Unions.{Factors, Wider, Run, span}

-- the product is the same the other way round
pub factors_swap : (a b : List ℕ) → Factors a b → Factors b a
factors_swap a b h =
    record { first = h.second; second = h.first; apart = apart_sym a b h.apart; some_first = h.some_second; some_second = h.some_first }

-- ---- a list of one term

only_term : (a : List ℕ) → length a ≡ 1 → a ≡ get_or a 0 0 ∷ []
only_term [] e = absurd (let c : ⊥ = omega arith in c)
only_term (x ∷ []) e = refl
only_term (x ∷ y ∷ a) e = absurd (let c : ⊥ = omega arith in c)

pub times_of_one : (a b : List ℕ) → Factors a b → length a ≡ 1 → times a b ≡ map (bit_or (get_or a 0 0)) b
times_of_one a b h e = ap (λ (l : List ℕ). times l b) (only_term a e) ∙ times_term t b (asc_map (bit_or t) b keeps h.second)
  where
    t : ℕ
    t = get_or a 0 0

    sum : (x : ℕ) → Mem b x → bit_or t x ≡ t + x
    sum x m = union_is_sum a b t x h.apart (mem_at a 0 h.some_first) m

    keeps : (x y : ℕ) → Mem b x → Mem b y → x < y → bit_or t x < bit_or t y
    keeps x y m k l = let p : bit_or t x ≡ t + x = sum x m in let q : bit_or t y ≡ t + y = sum y k in omega arith

-- ---- which list varies by more

-- two lists that share no variable do not vary by the same, unless neither varies
spans_differ : (a b : List ℕ) → Factors a b → (length a ≡ 1 → ⊥) → span a ≡ span b → ⊥
spans_differ a b h more e =
    let m : 1 < length a = many in
    let lt : get_or a 0 0 < get_or a (length a - 1) 0 = asc_at a 0 (length a - 1) h.first (omega arith) (omega arith) in
    let same : get_or a 0 0 ≡ get_or a (length a - 1) 0 =
    identity 6 (λ p q s t v w. p ⊆ v ⇒ q ⊆ v ⇒ s ⊆ w ⇒ t ⊆ w ⇒ v ∩ w ≐ ∅ ⇒ p ⊕ q ≐ s ⊕ t ⇒ ∴ p ≐ q) tt
    (get_or a 0 0) (get_or a (length a - 1) 0) (get_or b 0 0) (get_or b (length b - 1) 0) (vars a) (vars b)
    (vars_hold a (get_or a 0 0) (mem_at a 0 h.some_first))
    (vars_hold a (get_or a (length a - 1) 0) (mem_at a (length a - 1) (omega arith)))
    (vars_hold b (get_or b 0 0) (mem_at b 0 h.some_second))
    (vars_hold b (get_or b (length b - 1) 0) (mem_at b (length b - 1) (let m : 0 < length b = h.some_second in omega arith)))
    h.apart e in
    omega arith
  where
    many : 1 < length a
    many = let s : 0 < length a = h.some_first in omega arith

-- so where the first varies by no more than the second it varies by less
pub second_wider : (a b : List ℕ) → Factors a b → (length a ≡ 1 → ⊥) → span a ≤ span b → Wider b a (span a)
second_wider a b h more l = record { factors = factors_swap a b h; narrow = refl; wide = omega (arith, spans_differ a b h more) }

-- ---- one turn of the loop over the runs of a: from the place `at` on, a run of r terms

-- what one turn counts on: the run is a part of a, and shorter; it is a row if it has one term, and else varies by less than b; its
-- product, followed by that of the rest, is the product from here on
pub record Turn (a b : List ℕ) (at r : ℕ) (part : List ℕ) : Type 0 where
  pub within : at + r ≤ length a
  pub count : length part ≡ r
  pub shorter : length b + length part < length a + length b
  pub factors : Factors part b
  pub lone : r ≡ 1 → times part b ≡ map (bit_or (get_or a at 0)) b
  pub wider : (r ≡ 1 → ⊥) → Wider b part (bit_xor (get_or a at 0) (get_or a (at + r - 1) 0))
  pub tail : times (drop at a) b ≡ times part b ++ times (drop (at + r) a) b

module _ (a b : List ℕ) (d at r : ℕ) (h : Wider a b d) (inside : at < length a) (cut : Run (drop at a) d r) where
  run_within : at + r ≤ length a
  run_within = omega (arith, cut.within, length-drop at a)

  length_part : length (take (at + r - at) (drop at a)) ≡ r
  length_part =
      let e : at + r - at ≡ r = omega arith in
      ap (λ (k : ℕ). length (take k (drop at a))) e ∙ length-take-le r (drop at a) cut.within

  -- the run is shorter than a, which varies by more
  run_shorter : length (take (at + r - at) (drop at a)) < length a
  run_shorter = go (dec_le at 0)
    where
      go : Dec (at ≤ 0) → length (take (at + r - at) (drop at a)) < length a
      go (no n) = omega (arith, length_part, run_within)
      go (yes z) =
          let e : at ≡ 0 = omega arith in
          let s : r < length a = run_short a d r (subst (λ (k : ℕ). Run (drop k a) d r) e cut) h.wide in
          omega (arith, length_part)

  factors_of_tail : Factors (drop at a) b
  factors_of_tail =
      record {
        first = asc_drop at a h.factors.first;
        second = h.factors.second;
        apart = apart_sub a b (drop at a) b (mem_drop at a) (λ x m. m) h.factors.apart;
        some_first = omega (arith, length-drop at a);
        some_second = h.factors.some_second;
      }

  factors_of_part : Factors (take (at + r - at) (drop at a)) b
  factors_of_part =
      record {
        first = asc_take (at + r - at) (drop at a) factors_of_tail.first;
        second = h.factors.second;
        apart = apart_sub (drop at a) b (take (at + r - at) (drop at a)) b (mem_take (at + r - at) (drop at a)) (λ x m. m) factors_of_tail.apart;
        some_first = omega (arith, length_part, cut.some);
        some_second = h.factors.some_second;
      }

  -- where the terms of the run stand in a
  term_of_run : (k : ℕ) → k < r → get_or (take (at + r - at) (drop at a)) k 0 ≡ get_or a (at + k) 0
  term_of_run k l = get_or-take (at + r - at) (drop at a) k 0 (omega arith) ∙ get_or-drop at a k 0

  first_of_run : get_or (take (at + r - at) (drop at a)) 0 0 ≡ get_or a at 0
  first_of_run = term_of_run 0 cut.some ∙ ap (λ (k : ℕ). get_or a k 0) (add-zero at)

  -- the product of a run of one term
  times_of_lone : r ≡ 1 → times (take (at + r - at) (drop at a)) b ≡ map (bit_or (get_or a at 0)) b
  times_of_lone e =
      times_of_one (take (at + r - at) (drop at a)) b factors_of_part (length_part ∙ e) ∙ ap (λ (t : ℕ). map (bit_or t) b) first_of_run

  -- a run of more terms varies by less than b, by what its first and its last term differ by
  wider_than_run : (r ≡ 1 → ⊥) → Wider b (take (at + r - at) (drop at a)) (bit_xor (get_or a at 0) (get_or a (at + r - 1) 0))
  wider_than_run more =
      subst (Wider b (take (at + r - at) (drop at a))) varies
      (second_wider (take (at + r - at) (drop at a)) b factors_of_part (λ e. more (sym length_part ∙ e)) (omega (arith, varies, near, h.narrow)))
    where
      last : at + (length (take (at + r - at) (drop at a)) - 1) ≡ at + r - 1
      last = omega (arith, length_part, cut.some)

      varies : span (take (at + r - at) (drop at a)) ≡ bit_xor (get_or a at 0) (get_or a (at + r - 1) 0)
      varies =
          ap₂ bit_xor first_of_run
          (term_of_run (length (take (at + r - at) (drop at a)) - 1) (omega (arith, length_part, cut.some)) ∙ ap (λ (k : ℕ). get_or a k 0) last)

      near : bit_xor (get_or a at 0) (get_or a (at + r - 1) 0) ≤ d
      near =
          let e : at + (r - 1) ≡ at + r - 1 = omega (arith, cut.some) in
          subst (λ (x : ℕ). x ≤ d)
          (ap₂ bit_xor (get_or-drop at a 0 0 ∙ ap (λ (k : ℕ). get_or a k 0) (add-zero at)) (get_or-drop at a (r - 1) 0 ∙ ap (λ (k : ℕ). get_or a k 0) e))
          cut.near

  -- the product from here on is that of the run followed by that of the rest
  times_of_tail : times (drop at a) b ≡ times (take (at + r - at) (drop at a)) b ++ times (drop (at + r) a) b
  times_of_tail =
      let e : r ≡ at + r - at = omega arith in
      times_by_runs (drop at a) b d r factors_of_tail h.narrow cut
      ∙ ap₂ (λ (k : ℕ) (l : List ℕ). times (take k (drop at a)) b ++ times l b) e (drop-drop r at a)

  pub turn : (part : List ℕ) → part ≡ take (at + r - at) (drop at a) → Turn a b at r part
  turn part e = subst (Turn a b at r) (sym e) (
      record {
        within = run_within;
        count = length_part;
        shorter = omega (arith, run_shorter);
        factors = factors_of_part;
        lone = times_of_lone;
        wider = wider_than_run;
        tail = times_of_tail;
      }
      )
