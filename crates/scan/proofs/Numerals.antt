-- The digits of a variable's number: none, one, or two where there is a variable of that number. Assumes nothing.
use mathlib.Core.Path.{◌≡◌, refl, sym, ap, ap₂, subst, ◌∙◌}
use mathlib.Core.Bool.{Bool, true, false, not, ◌&&◌, ◌||◌, and-false, true≢false}
use mathlib.Core.List.{List, [], ◌∷◌, ◌++◌}
use Prim.Native.Nat.{ℕ, suc, ◌+◌, ◌*◌, ◌<◌, ◌≤◌}
use native.Mathlib.Nat.{pos_of_ne-zero}
use native.Mathlib.Numerals.{add-one}
use native.Mathlib.Omega.{arith}
use borrow.Author.Tests.{lt-ltb, le-ltb, ltb-true, ltb-false, ne_eqb, eq-eqb}
use lib.Dec.{ltb, eqb}
use lib.ListN.{length, get_or, get_or-eq_default}
use Rattle.typed.specs.Form.{star, plus, feed}
use Rattle.typed.specs.Machine.{start, named, number, choose, on, off, behind, is_digit, digit_of, moved, within}
use Rattle.std.specs.Prelude.{Some, None, if◌then◌else◌}
use Rattle.answer.specs.declared.Refusal.{Refusal}
use Rattle.answer.specs.declared.Refusal.TheVariants.{Sign}
use Rattle.scan.specs.Told.{digit_in, on_from, more, Counted, Unread, ends_name}
use Rattle.scan.proofs.Steps.{by_test, leads_on, stops}

-- a byte is a digit exactly if its digit is below 10
digit_range : (c : ℕ) → is_digit c ≡ true → (0x30 ≤ c) × (c < 0x3a)
digit_range c e = by_test (ltb c 0x30) (λ t. absurd (true≢false (sym e ∙ ap (λ (b : Bool). not b && ltb c 0x3a) t))) (λ f. (ltb-false c 0x30 f, ltb-true c 0x3a (sym (ap (λ (b : Bool). not b && ltb c 0x3a) f) ∙ e)))

-- a byte that is a digit, and which
abbrev pub Digit : ℕ → ℕ → Type 0
Digit c d = (is_digit c ≡ true) × (digit_of c ≡ d)

-- the digit that a byte is, if it is one
pub digit_some : (c d : ℕ) → Some d ≡ digit_in c → Digit c d
digit_some c d e =
    by_test (is_digit c)
    (λ t. let f : Some d ≡ Some (digit_of c) = e ∙ ap (λ (b : Bool). if b then Some (digit_of c) else None) t in (t, cc))
    (λ t. let f : Some d ≡ None = e ∙ ap (λ (b : Bool). if b then Some (digit_of c) else None) t in absurd (let x : ⊥ = cc in x))

pub digit_none : (c : ℕ) → None ≡ digit_in c → is_digit c ≡ false
digit_none c e =
    by_test (is_digit c)
    (λ t. let f : None ≡ Some (digit_of c) = e ∙ ap (λ (b : Bool). if b then Some (digit_of c) else None) t in absurd (let x : ⊥ = cc in x))
    (λ t. t)

-- a digit does not stand behind a variable
digit_ends_no_name : (c : ℕ) → is_digit c ≡ true → ends_name c ≡ false
digit_ends_no_name c e =
    let r = digit_range c e in
    rw (ne_eqb c star (λ (q : c ≡ star). omega arith), ne_eqb c plus (λ (q : c ≡ plus). omega arith), ne_eqb c feed (λ (q : c ≡ feed). omega arith)) refl

-- where a byte leads that may not stand behind a variable
pub behind_no_name : (c : ℕ) (ts : List (List ℕ)) (vs : List ℕ) (n : ℕ) → ends_name c ≡ false
    → choose (eqb c star) (on (start ts (vs ++ n ∷ []))) (behind (ts ++ (vs ++ n ∷ []) ∷ []) c) ≡ off
behind_no_name c ts vs n e = let w = all_false (eqb c star) (eqb c plus) (eqb c feed) e in rw (w.0, w.1, w.2) refl
  where
    all_false : (p q r : Bool) → p || (q || r) ≡ false → (p ≡ false) × (q ≡ false) × (r ≡ false)
    all_false true q r e = absurd (let z : ◌≡◌ {A = ℕ} 0 1 = cc in let x : ⊥ = omega arith in x)
    all_false false true r e = absurd (let z : ◌≡◌ {A = ℕ} 0 1 = cc in let x : ⊥ = omega arith in x)
    all_false false false r e = (refl, refl, e)

-- a number that another digit would make too large has no further digit
pub no_more : (vars n c : ℕ) → vars ≤ 10 * n + digit_of c → more vars n c ≡ false
no_more vars n c h =
    rw (le-ltb (10 * n + digit_of c) vars h) (ap (λ (b : Bool). is_digit c && b) (and-false (not (eqb n 0))) ∙ and-false (is_digit c))

-- nor has 0, nor any before a byte that is no digit
pub zero_stands_alone : (vars n c : ℕ) → n ≡ 0 → more vars n c ≡ false
zero_stands_alone vars n c e = rw (eq-eqb n 0 e) (and-false (is_digit c))

pub no_digit_follows : (vars n c : ℕ) → is_digit c ≡ false → more vars n c ≡ false
no_digit_follows vars n c e = rw e refl

-- nor one that would be too large with it
pub too_large_with_it : (vars n c next : ℕ) → Digit c next → vars ≤ 10 * n + next → more vars n c ≡ false
too_large_with_it vars n c next d l = no_more vars n c (omega (arith, d.1))

-- but else it has
another : (vars n c next : ℕ) → Digit c next → ¬ (n ≡ 0) → 10 * n + next < vars → more vars n c ≡ true
another vars n c next d nz l = rw (d.0, ne_eqb n 0 nz, lt-ltb (10 * n + digit_of c) vars (omega (arith, d.1))) refl

-- a place where a digit stands is inside the text
inside_if_digit : (text : List ℕ) (at : ℕ) → is_digit (get_or text at 0) ≡ true → at < length text
inside_if_digit text at h =
    by_test (ltb at (length text)) (ltb-true at (length text))
    (λ e. absurd (true≢false (sym h ∙ ap is_digit (get_or-eq_default text 0 (ltb-false at (length text) e)))))

-- a digit is below 10
digit_small : (c d : ℕ) → Digit c d → d < 10
digit_small c d e = omega (arith, digit_range c e.0, e.1)

module _ (vars : ℕ) (text : List ℕ) (at : ℕ) (inside : at ≤ length text) where
  -- no digit: no equation goes on so
  pub no_number : (refusal : Refusal) → refusal ≡ Sign at → is_digit (get_or text at 0) ≡ false → Unread vars text at refusal
  unfolding moved
  no_number refusal is h =
      record {
        place = at;
        is = is;
        wrong = λ most ts vs.
            stops vars most text (named ts vs) at inside (λ _. refl) refl refl
            (ap (λ (b : Bool). choose (b && ltb (digit_of (get_or text at 0)) vars) (on (number ts vs (digit_of (get_or text at 0)))) off) h);
      }

  -- a first digit
  first_digit : (first : ℕ) → Digit (get_or text at 0) first → first < vars → (most : ℕ) (ts : List (List ℕ)) (vs : List ℕ)
      → on_from vars most text (named ts vs) at ≡ on_from vars most text (number ts vs first) (suc at)
  unfolding moved
  first_digit first d k most ts vs =
      let c = get_or text at 0 in
      leads_on vars most text (named ts vs) at (inside_if_digit text at d.0) (number ts vs first) refl refl
      (ap (λ (n : ℕ). choose (is_digit c && ltb n vars) (on (number ts vs n)) off) d.1
      ∙ ap₂ (λ (a b : Bool). choose (a && b) (on (number ts vs first)) off) d.0 (lt-ltb first vars k))

  -- it stands alone where what follows is no other digit of the number
  pub one_digit : (first : ℕ) → Digit (get_or text at 0) first → 10 ≤ vars → more vars first (get_or text (at + 1) 0) ≡ false
      → Counted vars text at (record { value = first; end = at + 1 })
  one_digit first d k w =
      record {
        inside = omega (arith, inside_if_digit text at d.0);
        later = omega arith;
        small = omega (arith, digit_small (get_or text at 0) first d);
        read = λ most ts vs. rw (add-one at) (first_digit first d (omega (arith, digit_small (get_or text at 0) first d)) most ts vs);
        whole = w;
      }

  -- two digits, where there is no variable of that number
  pub too_large : (first next : ℕ) (refusal : Refusal) → refusal ≡ Sign (at + 1) → Digit (get_or text at 0) first → 10 ≤ vars
      → Digit (get_or text (at + 1) 0) next → vars ≤ 10 * first + next → Unread vars text at refusal
  unfolding moved
  too_large first next refusal is d k e large =
      let c = get_or text (at + 1) 0 in
      let none = digit_ends_no_name c e.0 in
      record {
        place = at + 1;
        is = is;
        wrong = λ most ts vs.
            first_digit first d (omega (arith, digit_small (get_or text at 0) first d)) most ts vs
            ∙ ap (on_from vars most text (number ts vs first)) (sym (add-one at))
            ∙ stops vars most text (number ts vs first) (at + 1) (omega (arith, inside_if_digit text at d.0)) (λ _. refl)
            (ap (λ (b : Bool). within first vs && b) none ∙ and-false (within first vs)) refl
            (ap (λ (b : Bool). choose b (on (number ts vs (10 * first + digit_of c))) (choose (eqb c star) (on (start ts (vs ++ first ∷ []))) (behind (ts ++ (vs ++ first ∷ []) ∷ []) c)))
            (too_large_with_it vars first c next e large)
            ∙ behind_no_name c ts vs first none);
      }

  -- two digits, where there is a variable of that number
  pub two_digits : (first next : ℕ) → Digit (get_or text at 0) first → ¬ (first ≡ 0) → Digit (get_or text (at + 1) 0) next
      → 10 * first + next < vars → vars ≤ 100 → Counted vars text at (record { value = 10 * first + next; end = at + 2 })
  unfolding moved
  two_digits first next d nz f less k =
      record {
        inside = omega (arith, inside_if_digit text (suc at) second.0);
        later = omega arith;
        small = less;
        read = λ most ts vs.
            first_digit first d (omega arith) most ts vs
            ∙ leads_on vars most text (number ts vs first) (suc at) (inside_if_digit text (suc at) second.0) (number ts vs (10 * first + next))
            (ap (λ (b : Bool). within first vs && b) (digit_ends_no_name (get_or text (suc at) 0) second.0) ∙ and-false (within first vs))
            refl
            (rw (another vars first (get_or text (suc at) 0) next second nz less)
            (ap (λ (n : ℕ). on (number ts vs (10 * first + n))) second.1))
            ∙ ap (on_from vars most text (number ts vs (10 * first + next))) (omega arith);
        whole = no_more vars (10 * first + next) (get_or text (at + 2) 0) (omega (arith, first_not_0));
      }
    where
      first_not_0 : 0 < first
      first_not_0 = pos_of_ne-zero nz

      second : Digit (get_or text (suc at) 0) next
      second = subst (λ (i : ℕ). Digit (get_or text i 0) next) (add-one at) f
