-- The terms of a text one after the other, to the line feed. Assumes nothing.
use mathlib.Core.Path.{◌≡◌, refl, sym, ap, ap₂, ◌∙◌, subst}
use mathlib.Core.Bool.{Bool, true, false, ◌&&◌, ◌||◌, and-false}
use mathlib.Core.List.{List, [], ◌∷◌, ◌++◌, map, map-append}
use mathlib.Core.Logic.{◌⊎◌, inl, inr}
use Prim.Native.Nat.{ℕ, ◌+◌, ◌<◌, ◌≤◌}
use native.Mathlib.Numerals.{add-one}
use native.Mathlib.Omega.{arith}
use borrow.Author.Tests.{ltb-true, ltb-false, eqb-true, eqb-false, ne_eqb, eq-eqb}
use lib.Dec.{ltb, eqb}
use lib.ListN.{length, take, set, get_or, length-set, length-append, drop_of_length-le}
use lib.Seq.{take-suc-set}
use Rattle.answer.specs.declared.Answer.{Answer}
use Rattle.answer.specs.Table.{accepted, refused, refusal_of}
use Rattle.typed.specs.Form.{letter, digit, plus, feed}
use Rattle.typed.specs.Shown.{Fault, sign, many, Verdict, shown, equation}
use Rattle.typed.specs.Says.{mask}
use Rattle.typed.specs.Machine.{State, start, named, one, choose, on, off, none, behind, moved, reads}
use Rattle.typed.specs.Machine as machine
use Rattle.std.specs.Prelude.{Result, Ok, Err}
use Rattle.answer.specs.declared.Refusal.{Refusal}
use Rattle.answer.specs.declared.Refusal.TheVariants.{Sign}
use Rattle.scan.specs.declared.Found.{Found}
use Rattle.scan.specs.Told.{on_from, ends_term, begins_term, past, Always, Another, Term, Shows, Told, answer_of, Holds, Full, Finished, Scanned}
use Rattle.scan.proofs.Steps.{some, by_test, leads_on, leads_nowhere, shows_many, stops, inside_if_byte}
use Rattle.scan.proofs.Products.{past_it}

-- one of two bytes, or neither
one_of_two : (c p q : ℕ) → eqb c p || eqb c q ≡ true → (c ≡ p) ⊎ (c ≡ q)
one_of_two c p q h = by_test (eqb c p) (λ e. inl (eqb-true c p e)) (λ e. inr (eqb-true c q (sym (ap (λ (b : Bool). b || eqb c q) e) ∙ h)))

neither : (p q : Bool) → p || q ≡ false → (p ≡ false) × (q ≡ false)
neither true q e = absurd (let z : ◌≡◌ {A = ℕ} 0 1 = cc in let x : ⊥ = omega arith in x)
neither false q e = (refl, e)

-- ---- the term `1`

module _ (vars : ℕ) (text : List ℕ) (end : ℕ) (b : ℕ) (said : Bool) (is_it : b ≡ get_or text end 0) (says : said ≡ ends_term b) where
  -- it ends,
  pub constant_ends : said ≡ true → Term vars Always one text end (record { value = 0; end = end })
  unfolding mask moved
  constant_ends sure = record { vs = []; value = refl; later = omega arith; ends = which; read = λ most ts _. on_to most ts which }
    where
      which : (get_or text end 0 ≡ plus) ⊎ (get_or text end 0 ≡ feed)
      which = one_of_two (get_or text end 0) plus feed (sym (ap ends_term is_it) ∙ sym says ∙ sure)

      on_to : (most : ℕ) (ts : List (List ℕ)) → (get_or text end 0 ≡ plus) ⊎ (get_or text end 0 ≡ feed)
          → on_from vars most text (one ts) end ≡ past vars most text (ts ++ [] ∷ []) end
      on_to most ts (inl e) =
          let T = ts ++ [] ∷ [] in
          leads_on vars most text (one ts) end (inside_if_byte text end (λ z. let x : ⊥ = omega arith in x)) (start T []) refl refl (ap (behind T) e)
          ∙ sym (past_it vars most text T end (start T []) (ap (behind T) e))
      on_to most ts (inr e) =
          let T = ts ++ [] ∷ [] in
          leads_on vars most text (one ts) end (inside_if_byte text end (λ z. let x : ⊥ = omega arith in x)) (machine.end T) refl refl (ap (behind T) e)
          ∙ sym (past_it vars most text T end (machine.end T) (ap (behind T) e))

  -- or no equation goes on so
  pub constant_goes_on : (refusal : Refusal) → end ≤ length text → said ≡ false → refusal ≡ Sign end → Shows vars Always one text end refusal
  unfolding moved
  constant_goes_on refusal inside sure is =
      let w = neither (eqb (get_or text end 0) plus) (eqb (get_or text end 0) feed) (sym (ap ends_term is_it) ∙ sym says ∙ sure) in
      record {
        fault = sign;
        place = end;
        numbers = ap refusal_of is;
        wrong = λ most ts _. stops vars most text (one ts) end inside (λ _. refl) refl refl (rw (w.0, w.1) refl);
      }

-- ---- where a term begins

-- what is told of a piece from a later place on is told of it from here on, where the bytes between lead there
told_from_here : (vars : ℕ) (Before : ℕ → List (List ℕ) → Type 0) (here there : List (List ℕ) → State) (text : List ℕ) (at to : ℕ)
    (p : Result Found Refusal) → at ≤ to
    → ((most : ℕ) (ts : List (List ℕ)) → Before most ts → on_from vars most text (here ts) at ≡ on_from vars most text (there ts) to)
    → Told vars Always there text to p → Told vars Before here text at p
told_from_here vars Before here there text at to (Ok found) l e told =
    record {
      vs = told.vs;
      value = told.value;
      later = omega (arith, told.later);
      ends = told.ends;
      read = λ most ts b. e most ts b ∙ told.read most ts tt;
    }
told_from_here vars Before here there text at to (Err refusal) l e told =
    record { fault = told.fault; place = told.place; numbers = told.numbers; wrong = λ most ts b. e most ts b ∙ told.wrong most ts tt }

module _ (vars : ℕ) (text : List ℕ) (at : ℕ) (b : ℕ) (is_it : b ≡ get_or text at 0) where
  few : (most : ℕ) (ts : List (List ℕ)) → ¬ (length ts ≡ most) → eqb (length ts) most ≡ false
  few most ts h = ne_eqb (length ts) most h

  -- with a variable,
  pub begins_with_x : b ≡ letter → (p : Result Found Refusal) → Told vars Always (λ ts. named ts []) text (at + 1) p → Told vars (Another (get_or text at 0)) (λ ts. start ts []) text at p
  unfolding moved
  begins_with_x e p =
      told_from_here vars (Another (get_or text at 0)) (λ ts. start ts []) (λ ts. named ts []) text at (at + 1) p (omega arith)
      (λ most ts w.
      leads_on vars most text (start ts []) at (inside_if_byte text at (λ z. let x : ⊥ = omega arith in x)) (named ts []) refl
      (ap (λ (t : Bool). t && begins_term (get_or text at 0)) (few most ts w.0)) (ap (moved vars (start ts [])) (sym is_it ∙ e))
      ∙ ap (on_from vars most text (named ts [])) (sym (add-one at)))

  -- with `1`,
  pub begins_with_1 : b ≡ digit 1 → (p : Result Found Refusal) → Told vars Always one text (at + 1) p → Told vars (Another (get_or text at 0)) (λ ts. start ts []) text at p
  unfolding moved
  begins_with_1 e p =
      told_from_here vars (Another (get_or text at 0)) (λ ts. start ts []) one text at (at + 1) p (omega arith)
      (λ most ts w.
      leads_on vars most text (start ts []) at (inside_if_byte text at (λ z. let x : ⊥ = omega arith in x)) (one ts) refl
      (ap (λ (t : Bool). t && begins_term (get_or text at 0)) (few most ts w.0)) (ap (moved vars (start ts [])) (sym is_it ∙ e))
      ∙ ap (on_from vars most text (one ts)) (sym (add-one at)))

  no_term : ¬ (b ≡ letter) → ¬ (b ≡ digit 1) → (ts : List (List ℕ)) → (eqb (get_or text at 0) (digit 0) && none ts) ≡ false → moved vars (start ts []) (get_or text at 0) ≡ off
  unfolding moved
  no_term f g ts z = rw (ne_eqb (get_or text at 0) letter (λ e. f (is_it ∙ e)), ne_eqb (get_or text at 0) (digit 1) (λ e. g (is_it ∙ e)), z) refl

  -- or with nothing that a term begins with
  pub begins_with_none : (refusal : Refusal) → at ≤ length text → ¬ (b ≡ letter) → ¬ (b ≡ digit 1) → refusal ≡ Sign at
      → Shows vars (Another (get_or text at 0)) (λ ts. start ts []) text at refusal
  begins_with_none refusal inside f g is = record {
    fault = sign;
    place = at;
    numbers = ap refusal_of is;
    wrong = λ most ts w.
        stops vars most text (start ts []) at inside (λ _. refl) refl (ap (λ (t : Bool). t && begins_term (get_or text at 0)) (few most ts w.0)) (no_term f g ts w.1);
  }

  -- behind as many terms as a list may have
  module _ (most : ℕ) (said : Bool) (says : said ≡ begins_term b) where
    pub one_too_many : said ≡ true → Full most vars text at (refused 2 1 0)
    one_too_many sure ts all _ =
        let it : begins_term (get_or text at 0) ≡ true = sym (ap begins_term is_it) ∙ sym says ∙ sure in
        (many, shows_many vars most text (start ts []) at (inside it) refl (ap₂ ◌&&◌ (eq-eqb (length ts) most all) it), refl)
      where
        inside : begins_term (get_or text at 0) ≡ true → at < length text
        inside h = inside_if_byte text at (λ z. let w : begins_term 0 ≡ true = subst (λ (k : ℕ). begins_term k ≡ true) z h in let q : ◌≡◌ {A = ℕ} 0 1 = cc in omega arith)

    pub none_too_many : (refusal : Refusal) → at ≤ length text → said ≡ false → refusal ≡ Sign at → Full most vars text at (refusal_of refusal)
    none_too_many refusal inside sure is ts all z =
        let it : begins_term (get_or text at 0) ≡ false = sym (ap begins_term is_it) ∙ sym says ∙ sure in
        let w = neither (eqb (get_or text at 0) letter) (eqb (get_or text at 0) (digit 1)) it in (
          sign,
          stops vars most text (start ts []) at inside (λ _. refl) refl (ap₂ ◌&&◌ (eq-eqb (length ts) most all) it)
              (no_term (λ e. eqb-false (get_or text at 0) letter w.0 (sym is_it ∙ e)) (λ e. eqb-false (get_or text at 0) (digit 1) w.1 (sym is_it ∙ e)) ts z),
          ap refusal_of is,
        )

-- ---- behind the line feed

behind_feed : (most vars : ℕ) (text : List ℕ) (at : ℕ) (ts : List (List ℕ)) → at < length text → on_from vars most text (machine.end ts) at ≡ shown sign at
unfolding moved
behind_feed most vars text at ts inside = leads_nowhere vars most text (machine.end ts) at inside refl refl refl

pub not_the_end : (most vars : ℕ) (text : List ℕ) (at count : ℕ) (refusal : Refusal) → at < length text → refusal ≡ Sign at
    → Finished most vars text at count (refusal_of refusal)
not_the_end most vars text at count refusal inside is ts _ = ap refusal_of is ∙ sym (ap answer_of (behind_feed most vars text at ts inside))

no_more_bytes : (most vars : ℕ) (text : List ℕ) (at : ℕ) (ts : List (List ℕ)) → length text ≤ at → on_from vars most text (machine.end ts) at ≡ equation ts
unfolding reads
no_more_bytes most vars text at ts l = ap (reads vars most (machine.end ts) at) (drop_of_length-le text l)

pub the_end : (most vars : ℕ) (text : List ℕ) (at count : ℕ) → length text ≤ at → Finished most vars text at count (accepted count)
the_end most vars text at count l ts e = sym (ap answer_of (no_more_bytes most vars text at ts l) ∙ ap accepted e)

-- ---- the terms so far

-- at a place where a term may begin, behind the terms that the first words hold
pub record Reading (most vars : ℕ) (text old words : List ℕ) (count at : ℕ) : Type 0 where
  pub ts : List (List ℕ)
  pub counted : length ts ≡ count
  pub few : count ≤ most
  pub lent : most ≤ length old
  pub kept : length words ≡ length old
  pub held : take count words ≡ map mask ts
  pub inside : at ≤ length text
  pub begun : (eqb (get_or text at 0) (digit 0) && none ts) ≡ false
  pub same : reads vars most (start [] []) 0 text ≡ on_from vars most text (start ts []) at

pub reading_first : (most vars : ℕ) (text old : List ℕ) → most ≤ length old → ¬ (get_or text 0 0 ≡ digit 0) → Reading most vars text old old 0 0
reading_first most vars text old lent h =
    record {
      ts = [];
      counted = refl;
      few = omega arith;
      lent = lent;
      kept = refl;
      held = refl;
      inside = omega arith;
      begun = ap (λ (b : Bool). b && true) (ne_eqb (get_or text 0 0) (digit 0) h);
      same = refl;
    }

-- how a text that shows something is answered
pub shown_so : (most vars : ℕ) (text old words : List ℕ) (fault : Fault) (i : ℕ) → length words ≡ length old
    → reads vars most (start [] []) 0 text ≡ shown fault i → Scanned most vars text old (answer_of (shown fault i)) words
shown_so most vars text old words fault i kept e =
    record { same = kept; numbers = sym (ap answer_of e); holds = subst (λ (v : Verdict). Holds v words) (sym e) tt }

module _ (most vars : ℕ) (text old words : List ℕ) (count at : ℕ) (reading : Reading most vars text old words count at) where
  -- the words are full
  pub full_so : (answer : Answer) → count ≡ most → Full most vars text at answer → Scanned most vars text old answer words
  full_so answer all told =
      let w = told reading.ts (reading.counted ∙ all) reading.begun in
      subst (λ (a : Answer). Scanned most vars text old a words) (sym w.2) (shown_so most vars text old words w.0 at reading.kept (reading.same ∙ w.1))

  module _ (not_full : count < most) where
    another : Another (get_or text at 0) most reading.ts
    another = ((λ e. let x : ⊥ = omega (arith, reading.counted) in x), reading.begun)

    below : count < most
    below = omega (arith, not_full, reading.few)

    -- the text shows a fault
    pub shows_so : (refusal : Refusal) → Shows vars (Another (get_or text at 0)) (λ ts. start ts []) text at refusal
        → Scanned most vars text old (refusal_of refusal) words
    shows_so refusal shows =
        subst (λ (a : Answer). Scanned most vars text old a words) (sym shows.numbers)
        (shown_so most vars text old words shows.fault shows.place reading.kept (reading.same ∙ shows.wrong most reading.ts another))

    module _ (found : Found) (told : Term vars (Another (get_or text at 0)) (λ ts. start ts []) text at found) where
      abbrev so_far : List (List ℕ)
      so_far = reading.ts ++ told.vs ∷ []

      pub room_for_it : count < length words
      room_for_it = omega (arith, below, reading.lent, reading.kept)

      behind_it : (get_or text found.end 0 ≡ plus) ⊎ (get_or text found.end 0 ≡ feed)
      behind_it = told.ends

      pub ends_in_text : found.end < length text
      ends_in_text = inside_if_byte text found.end (λ z. not_0 z behind_it)
        where
          not_0 : get_or text found.end 0 ≡ 0 → (get_or text found.end 0 ≡ plus) ⊎ (get_or text found.end 0 ≡ feed) → ⊥
          not_0 z (inl e) = omega arith
          not_0 z (inr e) = omega arith

      pub ends_later : at ≤ found.end
      ends_later = told.later

      on_to : reads vars most (start [] []) 0 text ≡ past vars most text so_far found.end
      on_to = reading.same ∙ told.read most reading.ts another

      counted_too : length so_far ≡ count + 1
      counted_too = length-append reading.ts (told.vs ∷ []) ∙ ap (λ (k : ℕ). k + 1) reading.counted

      held_too : take (count + 1) (set words count found.value) ≡ map mask so_far
      held_too =
          ap (λ (k : ℕ). take k (set words count found.value)) (add-one count)
          ∙ take-suc-set words count found.value room_for_it
          ∙ ap₂ (λ (l : List ℕ) (t : ℕ). l ++ t ∷ []) reading.held (sym told.value)
          ∙ sym (map-append mask reading.ts (told.vs ∷ []))

      -- the line feed
      pub feed_so : (b : ℕ) (answer : Answer) → b ≡ get_or text found.end 0 → b ≡ feed → Finished most vars text (found.end + 1) (count + 1) answer
          → Scanned most vars text old answer (set words count found.value)
      feed_so b answer is_it a_feed finished =
          record {
            same = length-set words count found.value ∙ reading.kept;
            numbers = finished so_far counted_too ∙ sym (ap answer_of there);
            holds = subst (λ (v : Verdict). Holds v (set words count found.value)) (sym there) (holds_at_end (found.end + 1));
          }
        where
          there : reads vars most (start [] []) 0 text ≡ on_from vars most text (machine.end so_far) (found.end + 1)
          there =
              on_to ∙ past_it vars most text so_far found.end (machine.end so_far) (ap (behind so_far) (sym is_it ∙ a_feed))
              ∙ ap (on_from vars most text (machine.end so_far)) (sym (add-one found.end))

          holds_at_end : (i : ℕ) → Holds (on_from vars most text (machine.end so_far) i) (set words count found.value)
          holds_at_end i =
              by_test (ltb i (length text))
              (λ e. subst (λ (v : Verdict). Holds v (set words count found.value)) (sym (behind_feed most vars text i so_far (ltb-true i (length text) e))) tt)
              (λ e. subst (λ (v : Verdict). Holds v (set words count found.value)) (sym (no_more_bytes most vars text i so_far (ltb-false i (length text) e)))
              (ap (λ (k : ℕ). take k (set words count found.value)) counted_too ∙ held_too))

      -- or `+`, and another term
      pub plus_so : (b : ℕ) → b ≡ get_or text found.end 0 → ¬ (b ≡ feed) → Reading most vars text old (set words count found.value) (count + 1) (found.end + 1)
      plus_so b is_it no_feed =
          record {
            ts = so_far;
            counted = counted_too;
            few = omega (arith, below);
            lent = reading.lent;
            kept = length-set words count found.value ∙ reading.kept;
            held = held_too;
            inside = omega (arith, ends_in_text);
            begun = rw (some reading.ts told.vs) (and-false (eqb (get_or text (found.end + 1) 0) (digit 0)));
            same =
                on_to ∙ past_it vars most text so_far found.end (start so_far []) (ap (behind so_far) a_plus) ∙ ap (on_from vars most text (start so_far [])) (sym (add-one found.end));
          }
        where
          a_plus : get_or text found.end 0 ≡ plus
          a_plus = no_other behind_it
            where
              no_other : (get_or text found.end 0 ≡ plus) ⊎ (get_or text found.end 0 ≡ feed) → get_or text found.end 0 ≡ plus
              no_other (inl e) = e
              no_other (inr e) = absurd (no_feed (is_it ∙ e))

-- ---- a lone `0`

module _ (most vars : ℕ) (text words : List ℕ) (b c : ℕ) (is_it : b ≡ get_or text 0 0) (a_zero : b ≡ digit 0) (the_next : c ≡ get_or text 1 0) where
  inside_0 : 0 < length text
  inside_0 = inside_if_byte text 0 (λ z. let x : ⊥ = omega arith in x)

  behind_0 : reads vars most (start [] []) 0 text ≡ on_from vars most text machine.zero 1
  unfolding moved
  behind_0 =
      leads_on vars most text (start [] []) 0 inside_0 machine.zero refl
      (ap (λ (t : ℕ). eqb 0 most && begins_term t) (sym is_it ∙ a_zero) ∙ and-false (eqb 0 most)) (ap (moved vars (start [] [])) (sym is_it ∙ a_zero))

  -- without its line feed
  pub zero_goes_on : (refusal : Refusal) → ¬ (c ≡ feed) → refusal ≡ Sign 1 → Scanned most vars text words (refusal_of refusal) words
  unfolding moved
  zero_goes_on refusal h is =
      subst (λ (a : Answer). Scanned most vars text words a words) (sym (ap refusal_of is))
      (shown_so most vars text words words sign 1 refl
      (behind_0
      ∙ stops vars most text machine.zero 1 (omega (arith, inside_0)) (λ _. refl) refl refl
      (ap (λ (t : Bool). choose t (on (machine.end [])) off) (ne_eqb (get_or text 1 0) feed (λ e. h (the_next ∙ e))))))

  -- and with it
  pub zero_ends : (answer : Answer) → c ≡ feed → Finished most vars text 2 0 answer → Scanned most vars text words answer words
  unfolding moved
  zero_ends answer a_feed finished =
      record {
        same = refl;
        numbers = finished [] refl ∙ sym (ap answer_of there);
        holds = subst (λ (v : Verdict). Holds v words) (sym there) holds_there;
      }
    where
      there : reads vars most (start [] []) 0 text ≡ on_from vars most text (machine.end []) 2
      there =
          behind_0
          ∙ leads_on vars most text machine.zero 1 (inside_if_byte text 1 (λ z. let x : ⊥ = omega arith in x)) (machine.end []) refl refl
          (ap (λ (t : ℕ). choose (eqb t feed) (on (machine.end [])) off) (sym the_next ∙ a_feed))

      holds_there : Holds (on_from vars most text (machine.end []) 2) words
      holds_there =
          by_test (ltb 2 (length text))
          (λ e. subst (λ (v : Verdict). Holds v words) (sym (behind_feed most vars text 2 [] (ltb-true 2 (length text) e))) tt)
          (λ e. subst (λ (v : Verdict). Holds v words) (sym (no_more_bytes most vars text 2 [] (ltb-false 2 (length text) e))) refl)
