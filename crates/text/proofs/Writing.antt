-- The text of a term list, term by term: how many bytes it has, and where its terms come to stand. Assumes nothing.
use mathlib.Core.Path.{◌≡◌, refl, sym, ap, ap₂, ◌∙◌}
use mathlib.Core.List.{List, [], ◌∷◌, ◌++◌, map, append_assoc}
use Prim.Native.Nat.{ℕ, suc, ◌+◌, ◌*◌, ◌<◌, ◌≤◌}
use native.Mathlib.Nat.{add-zero, zero-add, pos_of_ne-zero}
use Rattle.std.proofs.lemmas.List.{get_or_append_left, get_or_at}
use native.Mathlib.Numerals.{add-one}
use native.Mathlib.Omega.{arith}
use lib.ListN.{length, get_or, set, drop, length-append, drop_of_length-le}
use lib.Seq.{sets, sets-eq, drop-cons, drop-length}
use borrow.Author.Tests.{ltb-false}
use Rattle.answer.specs.Ends.{over, Writes}
use Rattle.answer.specs.Checked.{Passed}
use Rattle.typed.specs.Form.{plus, feed, digit, joined, term_text, text_of}
use Rattle.typed.specs.Says.{held, written}
use Rattle.text.specs.Calls.{write_text_checks}
use Rattle.spell.specs.Spelled.{spelled}
use Rattle.spell.proofs.Spelling.{sets_append}
use Rattle.spell.proofs.Sizes.{any_byte}

-- ---- the text, term by term

-- the last term,
written_last : (t : ℕ) → written (t ∷ []) ≡ spelled t feed
unfolding text_of joined
written_last t = refl

-- and one behind which others stand
written_on : (t u : ℕ) (us : List ℕ) → written (t ∷ u ∷ us) ≡ spelled t plus ++ written (u ∷ us)
unfolding text_of joined
written_on t u us =
    append_assoc (term_text (held t)) (plus ∷ joined plus (map term_text (map held (u ∷ us)))) (feed ∷ [])
    ∙ sym (append_assoc (term_text (held t)) (plus ∷ []) (joined plus (map term_text (map held (u ∷ us))) ++ feed ∷ []))

-- ---- how many bytes

-- the bytes of terms, each with one behind it
abbrev pub sizes : List ℕ → ℕ
sizes [] = 0
sizes (t ∷ ts) = length (spelled t 0) + sizes ts

-- the text of terms has these
written_size : (t : ℕ) (ts : List ℕ) → length (written (t ∷ ts)) ≡ sizes (t ∷ ts)
written_size t [] = ap length (written_last t) ∙ any_byte t feed 0 ∙ sym (add-zero (length (spelled t 0)))
written_size t (u ∷ us) =
    ap length (written_on t u us) ∙ length-append (spelled t plus) (written (u ∷ us)) ∙ ap₂ ◌+◌ (any_byte t plus 0) (written_size u us)

-- counted term by term: those before place i
pub record Sized (terms : List ℕ) (size i : ℕ) : Type 0 where
  pub counted : size + sizes (drop i terms) ≡ sizes terms
  pub few : size ≤ 246 * i

pub sized_first : (terms : List ℕ) → Sized terms 0 0
sized_first terms = record { counted = zero-add (sizes terms); few = omega arith }

-- the next term takes so many more
pub sized_on : (terms : List ℕ) (size i more : ℕ) → Sized terms size i → i < length terms → more ≡ length (spelled (get_or terms i 0) 0) → more ≤ 246
    → Sized terms (size + more) (i + 1)
sized_on terms size i more s h e small =
    let first : sizes (drop i terms) ≡ length (spelled (get_or terms i 0) 0) + sizes (drop (i + 1) terms) =
    ap sizes (drop-cons terms i 0 h) ∙ ap (λ (k : ℕ). length (spelled (get_or terms i 0) 0) + sizes (drop k terms)) (sym (add-one i))
    in
    record { counted = omega (arith, s.counted, e, first); few = omega (arith, s.few) }

pub sized_all : (terms : List ℕ) (size i : ℕ) → Sized terms size i → length terms ≤ i → ¬ (length terms ≡ 0) → size ≡ length (written terms)
sized_all [] size i s h some = absurd (some refl)
sized_all (t ∷ ts) size i s h some =
    omega (arith, s.counted, ap sizes (drop_of_length-le (t ∷ ts) h), written_size t ts)

-- zero has two
pub zero_size : (terms : List ℕ) → length terms ≡ 0 → 2 ≡ length (written terms)
unfolding text_of
zero_size [] e = refl
zero_size (t ∷ ts) e = absurd (let x : ⊥ = omega arith in x)

-- ---- where the terms come to stand

-- stored from the start
stored_over : (p old : List ℕ) → length p ≤ length old → sets old 0 p ≡ over p old
stored_over p old h = sets-eq p old 0 (omega arith) ∙ ap (λ (k : ℕ). p ++ drop k old) (zero-add (length p))

-- behind the terms before place i: what is left of the text, stored from here, is the whole text stored from the start
pub record Storing (terms old out : List ℕ) (at i : ℕ) : Type 0 where
  pub inside : i < length terms
  pub kept : length out ≡ length old
  pub ends : at + length (written (drop i terms)) ≡ length (written terms)
  pub stores : sets out at (written (drop i terms)) ≡ sets old 0 (written terms)

pub storing_first : (terms old : List ℕ) → ¬ (length terms ≡ 0) → Storing terms old old 0 0
storing_first terms old some = record { inside = pos_of_ne-zero some; kept = refl; ends = zero-add (length (written terms)); stores = refl }

module _ (terms old out : List ℕ) (at i : ℕ) (w : Storing terms old out at i) where
  -- one more term
  module _ (more : suc i < length terms) where
    next : written (drop i terms) ≡ spelled (get_or terms i 0) plus ++ written (drop (suc i) terms)
    next =
        ap written (drop-cons terms i 0 w.inside ∙ ap (λ (l : List ℕ). get_or terms i 0 ∷ l) (drop-cons terms (suc i) 0 more))
        ∙ written_on (get_or terms i 0) (get_or terms (suc i) 0) (drop (suc (suc i)) terms)
        ∙ ap (λ (l : List ℕ). spelled (get_or terms i 0) plus ++ written l) (sym (drop-cons terms (suc i) 0 more))

    next_length : length (written (drop i terms)) ≡ length (spelled (get_or terms i 0) plus) + length (written (drop (suc i) terms))
    next_length = ap length next ∙ length-append (spelled (get_or terms i 0) plus) (written (drop (suc i) terms))

    pub term_fits : (t : ℕ) → t ≡ get_or terms i 0 → length (written terms) ≤ length old → at + length (spelled t plus) ≤ length out
    term_fits t is h = rw is (omega (arith, h, w.ends, w.kept, next_length))

    stored_on : (new : List ℕ) (to : ℕ) → length new ≡ length out → to ≡ at + length (spelled (get_or terms i 0) plus)
        → new ≡ sets out at (spelled (get_or terms i 0) plus) → Storing terms old new to (i + 1)
    stored_on new to same e f =
        record {
          inside = omega arith;
          kept = same ∙ w.kept;
          ends = omega (arith, w.ends, e, next_length, ap (λ (k : ℕ). length (written (drop k terms))) (add-one i));
          stores =
              ap (λ (k : ℕ). sets new to (written (drop k terms))) (add-one i)
              ∙ ap₂ (λ (l : List ℕ) (k : ℕ). sets l k (written (drop (suc i) terms))) f e
              ∙ sym (sets_append out at (spelled (get_or terms i 0) plus) (written (drop (suc i) terms)))
              ∙ ap (sets out at) (sym next)
              ∙ w.stores;
        }

    pub storing_on : (t : ℕ) → t ≡ get_or terms i 0 → (new : List ℕ) (to : ℕ) → length new ≡ length out → to ≡ at + length (spelled t plus)
        → new ≡ sets out at (spelled t plus) → Storing terms old new to (i + 1)
    storing_on t is new to same e f =
        stored_on new to same (e ∙ ap (λ (u : ℕ). at + length (spelled u plus)) is) (f ∙ ap (λ (u : ℕ). sets out at (spelled u plus)) is)

  -- the last one
  module _ (last : suc i ≡ length terms) where
    end : written (drop i terms) ≡ spelled (get_or terms i 0) feed
    end =
        ap written (drop-cons terms i 0 w.inside ∙ ap (λ (l : List ℕ). get_or terms i 0 ∷ l) (ap (λ (k : ℕ). drop k terms) last ∙ drop-length terms))
        ∙ written_last (get_or terms i 0)

    pub last_fits : (t : ℕ) → t ≡ get_or terms i 0 → length (written terms) ≤ length old → at + length (spelled t feed) ≤ length out
    last_fits t is h = rw is (omega (arith, h, w.ends, w.kept, ap length end))

    pub storing_last : (t : ℕ) → t ≡ get_or terms i 0 → (new : List ℕ) (to : ℕ) → length (written terms) ≤ length old
        → to ≡ at + length (spelled t feed) → new ≡ sets out at (spelled t feed) → Writes (written terms) old to new
    storing_last t is new to h e f = (
      e ∙ ap (λ (u : ℕ). at + length (spelled u feed)) is ∙ ap (λ (k : ℕ). at + k) (sym (ap length end)) ∙ w.ends,
      f ∙ ap (λ (u : ℕ). sets out at (spelled u feed)) is ∙ ap (sets out at) (sym end) ∙ w.stores ∙ stored_over (written terms) old h,
    )

-- the terms but the last one, and the last one
pub one_of_others : (terms others : List ℕ) (last i : ℕ) → terms ≡ others ++ last ∷ [] → i < length others → get_or others i 0 ≡ get_or terms i 0
one_of_others terms others last i e h = sym (ap (λ (l : List ℕ). get_or l i 0) e ∙ get_or_append_left others (last ∷ []) 0 i h)

pub the_last : (terms others : List ℕ) (last i : ℕ) → terms ≡ others ++ last ∷ [] → length others ≡ i → last ≡ get_or terms i 0
the_last terms others last i e h = sym (ap (λ (l : List ℕ). get_or l i 0) e ∙ get_or_at others last [] 0 i h)

-- zero
pub zero_stored : (terms old : List ℕ) → length terms ≡ 0 → length (written terms) ≤ length old
    → Writes (written terms) old 2 (set (set old 0 (digit 0)) 1 feed)
unfolding text_of
zero_stored [] old e h = (refl, stored_over (digit 0 ∷ feed ∷ []) old h)
zero_stored (t ∷ ts) old e h = absurd (let x : ⊥ = omega arith in x)

-- where the checks passed there is room
pub has_room : (longest most : ℕ) (terms : List ℕ) (room : ℕ) → Passed (write_text_checks longest most terms room) → length (written terms) ≤ room
unfolding Passed
has_room longest most terms room p = ltb-false room (length (written terms)) p.1.1.1.0
