-- The variables of a term one after the other, and what stands behind them. Assumes nothing.
use mathlib.Core.Path.{◌≡◌, refl, sym, ap, ap₂, ◌∙◌, subst}
use mathlib.Core.Bool.{Bool, true, false, ◌&&◌, ◌||◌, and-false}
use mathlib.Core.List.{List, [], ◌∷◌, ◌++◌}
use mathlib.Core.Logic.{◌⊎◌, inl, inr}
use Prim.Native.Nat.{ℕ, suc, ◌+◌, ◌*◌, ◌^◌, ◌<◌, ◌≤◌}
use native.Mathlib.Numerals.{add-one}
use native.Mathlib.Omega.{arith}
use borrow.Author.Tests.{eqb-true, eqb-false, ne_eqb}
use lib.Bits.{bit_and, bit_or, or_comm, and_comm}
use lib.Dec.{eqb}
use lib.ListN.{length, get_or}
use Rattle.masks.specs.Bit.{bit}
use Rattle.masks.proofs.Bits.{bit_and_lem, bit_or_lem, bit_zero, zero_from_bits, bit_power_same, bit_power_other}
use Rattle.masks.proofs.Sets.{or_assoc, bit_of_apart}
use Rattle.typed.specs.Form.{letter, star, plus, feed, digit}
use Rattle.typed.specs.Shown.{sign, twice, shown}
use Rattle.typed.specs.Says.{mask}
use Rattle.typed.specs.Machine.{State, start, named, number, choose, Move, on, off, within, digit_of, behind, onward, moved}
use Rattle.typed.specs.Machine as machine
use Rattle.scan.specs.declared.Found.{Found}
use Rattle.answer.specs.declared.Refusal.{Refusal}
use Rattle.answer.specs.declared.Refusal.TheVariants.{Sign, Twice}
use Rattle.answer.specs.Table.{refusal_of}
use Rattle.scan.specs.Told.{on_from, more, Counted, Unread, ends_name, Ended, past, Always, Term, Shows}
use Rattle.scan.proofs.Steps.{some, by_test, leads_on, shows_twice, stops, inside_if_byte}
use Rattle.scan.proofs.Numerals.{behind_no_name}

-- a term as written holds the variables that stand in it
pub mask_within : (vs : List ℕ) (v : ℕ) → bit (mask vs) v ≡ within v vs
unfolding mask within
mask_within [] v = bit_zero v
mask_within (w ∷ vs) v = bit_or_lem (2 ^ w) (mask vs) v ∙ ap₂ ◌||◌ (one_bit w v) (mask_within vs v)
  where
    one_bit : (w v : ℕ) → bit (2 ^ w) v ≡ eqb v w
    one_bit w v =
        by_test (eqb v w) (λ e. ap (λ (k : ℕ). bit (2 ^ w) k) (eqb-true v w e) ∙ bit_power_same w ∙ sym e)
        (λ e. bit_power_other w v (λ q. eqb-false v w e (sym q)) ∙ sym e)

-- a set without a variable has nothing in common with it
apart : (m v : ℕ) → bit m v ≡ false → bit_and (2 ^ v) m ≡ 0
apart m v h = zero_from_bits (bit_and (2 ^ v) m) (λ i. bit_and_lem (2 ^ v) m i ∙ at i)
  where
    at : (i : ℕ) → bit (2 ^ v) i && bit m i ≡ false
    at i =
        by_test (eqb v i) (λ e. ap (λ (b : Bool). bit (2 ^ v) i && b) (ap (bit m) (sym (eqb-true v i e)) ∙ h) ∙ and-false (bit (2 ^ v) i))
        (λ e. ap (λ (b : Bool). b && bit m i) (bit_power_other v i (eqb-false v i e)))

-- so a variable stands in it again exactly if its bit is set,
pub stands_again : (vs : List ℕ) (v term bit : ℕ) → mask vs ≡ term → bit ≡ 2 ^ v → ¬ (bit_and term bit ≡ 0) → within v vs ≡ true
stands_again vs v term b e f h =
    by_test (within v vs) (λ t. t)
    (λ t. absurd (h (ap₂ bit_and (sym e) f ∙ and_comm (mask vs) (2 ^ v) ∙ apart (mask vs) v (mask_within vs v ∙ t))))

pub stands_first : (vs : List ℕ) (v term bit : ℕ) → mask vs ≡ term → bit ≡ 2 ^ v → bit_and term bit ≡ 0 → within v vs ≡ false
stands_first vs v term b e f h =
    sym (mask_within vs v) ∙ bit_of_apart (2 ^ v) (mask vs) v (and_comm (2 ^ v) (mask vs) ∙ ap₂ bit_and e (sym f) ∙ h) (bit_power_same v)

-- and one more variable is one more bit
pub mask_last : (vs : List ℕ) (v : ℕ) → mask (vs ++ v ∷ []) ≡ bit_or (mask vs) (2 ^ v)
unfolding mask
mask_last [] v = or_comm (2 ^ v) 0
mask_last (w ∷ vs) v = ap (bit_or (2 ^ w)) (mask_last vs v) ∙ sym (or_assoc (2 ^ w) (mask vs) (2 ^ v))

-- ---- behind a variable

-- a byte that may stand behind a variable is one of three
one_of_three : (c : ℕ) → ends_name c ≡ true → (c ≡ star) ⊎ ((c ≡ plus) ⊎ (c ≡ feed))
one_of_three c h =
    by_test (eqb c star) (λ e. inl (eqb-true c star e))
    (λ e. inr (by_test (eqb c plus) (λ f. inl (eqb-true c plus f)) (λ f. inr (eqb-true c feed (sym (ap₂ (λ (a b : Bool). a || (b || eqb c feed)) e f) ∙ h)))))

not_0 : (c : ℕ) → ends_name c ≡ true → ¬ (c ≡ 0)
not_0 c h z = let w : ends_name 0 ≡ true = subst (λ (k : ℕ). ends_name k ≡ true) z h in let q : ◌≡◌ {A = ℕ} 0 1 = cc in omega arith

module _ (vars : ℕ) (text : List ℕ) (at : ℕ) (found : Found) (counted : Counted vars text at found) where
  -- a variable with such a byte behind it,
  pub name_ends : (b : ℕ) (said : Bool) → b ≡ get_or text found.end 0 → said ≡ ends_name b → said ≡ true → Ended vars text at found
  name_ends b said is_it says sure =
      let h : ends_name (get_or text found.end 0) ≡ true = sym (ap ends_name is_it) ∙ sym says ∙ sure in
      record { later = counted.later; small = counted.small; read = counted.read; behind = h }

  -- and one without
  pub name_goes_on : (b : ℕ) (said : Bool) (refusal : Refusal) → b ≡ get_or text found.end 0 → said ≡ ends_name b → said ≡ false
      → refusal ≡ Sign found.end → Unread vars text at refusal
  unfolding moved
  name_goes_on b said refusal is_it says sure is =
      let h : ends_name (get_or text found.end 0) ≡ false = sym (ap ends_name is_it) ∙ sym says ∙ sure in
      record {
        place = found.end;
        is = is;
        wrong = λ most ts vs.
            counted.read most ts vs
            ∙ stops vars most text (number ts vs found.value) found.end counted.inside (λ _. refl)
            (ap (λ (b : Bool). within found.value vs && b) h ∙ and-false (within found.value vs)) refl
            (nowhere ts vs found.value (get_or text found.end 0) counted.whole h);
      }
    where
      nowhere : (ts : List (List ℕ)) (vs : List ℕ) (n c : ℕ) → more vars n c ≡ false → ends_name c ≡ false
          → choose (more vars n c) (on (number ts vs (10 * n + digit_of c))) (choose (eqb c star) (on (start ts (vs ++ n ∷ []))) (behind (ts ++ (vs ++ n ∷ []) ∷ []) c)) ≡ off
      nowhere ts vs n c m e = rw m (behind_no_name c ts vs n e)

-- a variable that was found ends inside the text
pub name_inside : (vars : ℕ) (text : List ℕ) (at : ℕ) (found : Found) → Ended vars text at found → found.end < length text
name_inside vars text at found ended = inside_if_byte text found.end (not_0 (get_or text found.end 0) ended.behind)

-- where the byte behind a variable leads
after_star : (vars : ℕ) (ts : List (List ℕ)) (vs : List ℕ) (n c : ℕ) → c ≡ star → moved vars (number ts vs n) c ≡ on (start ts (vs ++ n ∷ []))
unfolding moved
after_star vars ts vs n c e = ap (moved vars (number ts vs n)) e

after_plus : (vars : ℕ) (ts : List (List ℕ)) (vs : List ℕ) (n c : ℕ) → c ≡ plus → moved vars (number ts vs n) c ≡ on (start (ts ++ (vs ++ n ∷ []) ∷ []) [])
unfolding moved
after_plus vars ts vs n c e = ap (moved vars (number ts vs n)) e

after_feed : (vars : ℕ) (ts : List (List ℕ)) (vs : List ℕ) (n c : ℕ) → c ≡ feed → moved vars (number ts vs n) c ≡ on (machine.end (ts ++ (vs ++ n ∷ []) ∷ []))
unfolding moved
after_feed vars ts vs n c e = ap (moved vars (number ts vs n)) e

-- the byte behind a term, and what comes of it
pub past_it : (vars most : ℕ) (text : List ℕ) (ts : List (List ℕ)) (i : ℕ) (s : State) → behind ts (get_or text i 0) ≡ on s
    → past vars most text ts i ≡ on_from vars most text s (suc i)
past_it vars most text ts i s e = ap (λ (m : Move). onward m (shown sign i) (λ t. on_from vars most text t (suc i))) e

-- ---- the variables of a term so far

-- at a place behind an `x`, where the variables before it make the term so far
pub record Going (vars : ℕ) (text : List ℕ) (from term at : ℕ) : Type 0 where
  pub vs : List ℕ
  pub value : mask vs ≡ term
  pub inside : at ≤ length text
  pub later : from ≤ at
  pub same : (most : ℕ) (ts : List (List ℕ)) → on_from vars most text (named ts []) from ≡ on_from vars most text (named ts vs) at

pub going_first : (vars : ℕ) (text : List ℕ) (from : ℕ) → from ≤ length text → Going vars text from 0 from
unfolding mask
going_first vars text from h = record { vs = []; value = refl; inside = h; later = omega arith; same = λ most ts. refl }

-- a byte behind a variable that stands for the first time shows no repeat
not_again : (v : ℕ) (vs : List ℕ) (c : ℕ) → within v vs ≡ false → within v vs && ends_name c ≡ false
not_again v vs c e = ap (λ (t : Bool). t && ends_name c) e

-- no variable goes on so
pub no_name : (vars : ℕ) (text : List ℕ) (from term at : ℕ) (refusal : Refusal) → Going vars text from term at → Unread vars text at refusal
    → Shows vars Always (λ ts. named ts []) text from refusal
no_name vars text from term at refusal going unread =
    record {
      fault = sign;
      place = unread.place;
      numbers = ap refusal_of unread.is;
      wrong = λ most ts _. going.same most ts ∙ unread.wrong most ts going.vs;
    }

module _ (vars : ℕ) (text : List ℕ) (from term at : ℕ) (found : Found) (going : Going vars text from term at) (ended : Ended vars text at found) where
  module _ (bit : ℕ) (its_bit : bit ≡ 2 ^ found.value) where
    so_far : (most : ℕ) (ts : List (List ℕ)) → on_from vars most text (named ts []) from ≡ on_from vars most text (number ts going.vs found.value) found.end
    so_far most ts = going.same most ts ∙ ended.read most ts going.vs

    inside : found.end < length text
    inside = name_inside vars text at found ended

    -- it stands in the term already
    pub again : ¬ (bit_and term bit ≡ 0) → Shows vars Always (λ ts. named ts []) text from (Twice found.end)
    again h =
        record {
          fault = twice;
          place = found.end;
          numbers = refl;
          wrong = λ most ts _.
              so_far most ts
              ∙ shows_twice vars most text (number ts going.vs found.value) found.end inside
              (ap₂ ◌&&◌ (stands_again going.vs found.value term bit going.value its_bit h) ended.behind);
        }

    module _ (new : bit_and term bit ≡ 0) where
      first : within found.value going.vs ≡ false
      first = stands_first going.vs found.value term bit going.value its_bit new

      with_it : mask (going.vs ++ found.value ∷ []) ≡ bit_or term bit
      with_it = mask_last going.vs found.value ∙ ap₂ bit_or going.value (sym its_bit)

      -- the term ends
      pub term_ends : (b : ℕ) → b ≡ get_or text found.end 0 → ¬ (b ≡ star)
          → Term vars Always (λ ts. named ts []) text from (record { value = bit_or term bit; end = found.end })
      term_ends b is_it h =
          record {
            vs = going.vs ++ found.value ∷ [];
            value = with_it;
            later = omega (arith, going.later, ended.later);
            ends = ends;
            read = λ most ts _. so_far most ts ∙ on_to most ts ends;
          }
        where
          ends : (get_or text found.end 0 ≡ plus) ⊎ (get_or text found.end 0 ≡ feed)
          ends = no_star (one_of_three (get_or text found.end 0) ended.behind)
            where
              no_star : (get_or text found.end 0 ≡ star) ⊎ ((get_or text found.end 0 ≡ plus) ⊎ (get_or text found.end 0 ≡ feed))
                  → (get_or text found.end 0 ≡ plus) ⊎ (get_or text found.end 0 ≡ feed)
              no_star (inl e) = absurd (h (is_it ∙ e))
              no_star (inr e) = e

          on_to : (most : ℕ) (ts : List (List ℕ)) → (get_or text found.end 0 ≡ plus) ⊎ (get_or text found.end 0 ≡ feed)
              → on_from vars most text (number ts going.vs found.value) found.end ≡ past vars most text (ts ++ (going.vs ++ found.value ∷ []) ∷ []) found.end
          on_to most ts (inl e) =
              let T = ts ++ (going.vs ++ found.value ∷ []) ∷ [] in
              leads_on vars most text (number ts going.vs found.value) found.end inside (start T []) (not_again found.value going.vs (get_or text found.end 0) first) refl
              (after_plus vars ts going.vs found.value (get_or text found.end 0) e)
              ∙ sym (past_it vars most text T found.end (start T []) (ap (behind T) e))
          on_to most ts (inr e) =
              let T = ts ++ (going.vs ++ found.value ∷ []) ∷ [] in
              leads_on vars most text (number ts going.vs found.value) found.end inside (machine.end T) (not_again found.value going.vs (get_or text found.end 0) first) refl
              (after_feed vars ts going.vs found.value (get_or text found.end 0) e)
              ∙ sym (past_it vars most text T found.end (machine.end T) (ap (behind T) e))

      module _ (b : ℕ) (is_it : b ≡ get_or text found.end 0) (a_star : b ≡ star) where
        next_one : (most : ℕ) (ts : List (List ℕ))
            → on_from vars most text (named ts []) from ≡ on_from vars most text (start ts (going.vs ++ found.value ∷ [])) (found.end + 1)
        next_one most ts =
            so_far most ts
            ∙ leads_on vars most text (number ts going.vs found.value) found.end inside (start ts (going.vs ++ found.value ∷ [])) (not_again found.value going.vs (get_or text found.end 0) first) refl
            (after_star vars ts going.vs found.value (get_or text found.end 0) (sym is_it ∙ a_star))
            ∙ ap (on_from vars most text (start ts (going.vs ++ found.value ∷ []))) (sym (add-one found.end))

        -- a `*`, and no variable behind it
        pub no_variable : (d : ℕ) (refusal : Refusal) → d ≡ get_or text (found.end + 1) 0 → ¬ (d ≡ letter) → refusal ≡ Sign (found.end + 1)
            → Shows vars Always (λ ts. named ts []) text from refusal
        unfolding moved
        no_variable d refusal it h is =
            record {
              fault = sign;
              place = found.end + 1;
              numbers = ap refusal_of is;
              wrong = λ most ts _.
                  next_one most ts
                  ∙ stops vars most text (start ts (going.vs ++ found.value ∷ [])) (found.end + 1) (omega (arith, inside)) (λ _. refl) refl
                  (rw (some going.vs found.value) refl)
                  (rw (some going.vs found.value, ne_eqb (get_or text (found.end + 1) 0) letter (λ e. h (it ∙ e)))
                  (ap₂ (λ (a b : Bool). choose a (on (machine.one ts)) (choose b (on machine.zero) off)) (and-false (eqb (get_or text (found.end + 1) 0) (digit 1)))
                  (and-false (eqb (get_or text (found.end + 1) 0) (digit 0)))));
            }

        -- or another variable
        pub goes_on : (d : ℕ) → d ≡ get_or text (found.end + 1) 0 → d ≡ letter → Going vars text from (bit_or term bit) (found.end + 1 + 1)
        unfolding moved
        goes_on d it is_x =
            let h : get_or text (found.end + 1) 0 ≡ letter = sym it ∙ is_x in
            record {
              vs = going.vs ++ found.value ∷ [];
              value = with_it;
              inside = omega (arith, inside_next);
              later = omega (arith, going.later, ended.later);
              same = λ most ts.
                  next_one most ts
                  ∙ leads_on vars most text (start ts (going.vs ++ found.value ∷ [])) (found.end + 1) inside_next (named ts (going.vs ++ found.value ∷ [])) refl
                  (rw (some going.vs found.value) refl) (ap (moved vars (start ts (going.vs ++ found.value ∷ []))) h)
                  ∙ ap (on_from vars most text (named ts (going.vs ++ found.value ∷ []))) (omega arith);
            }
          where
            inside_next : found.end + 1 < length text
            inside_next = inside_if_byte text (found.end + 1) (λ z. let x : ⊥ = omega (arith, it, is_x) in x)
