-- Terms spelled variable by variable, and where they come to stand. Assumes nothing.
use mathlib.Core.Path.{◌≡◌, refl, sym, ap, ap₂, ◌∙◌, subst}
use mathlib.Core.Bool.{Bool, true, false}
use mathlib.Core.List.{List, [], ◌∷◌, ◌++◌, map, append-nil, append_assoc}
use Prim.Native.Nat.{ℕ, suc, ◌+◌, ◌-◌, ◌/◌, ◌%◌, ◌^◌, ◌<◌, ◌≤◌}
use native.Mathlib.Numerals.{add-one}
use native.Mathlib.Nat.{add-zero, add-suc, suc-add}
use native.Mathlib.Omega.{arith}
use borrow.Author.Tests.{lt-ltb, le-ltb, ltb-true, ltb-false}
use lib.Dec.{ltb}
use lib.ListN.{length, take, drop, set, length-append}
use Rattle.std.proofs.lemmas.List.{drop-drop, set-set}
use lib.Seq.{sets}
use Rattle.std.proofs.lemmas.List.Edits.{sets-eq}
use Rattle.polys.specs.List.{Mem}
use Rattle.typed.specs.Says.{mask}
use Rattle.typed.proofs.Held.{mask_held, held_bit}
use Rattle.masks.specs.Bit.{bit}
use Rattle.masks.proofs.Bits.{bits_above_vanish}
use Rattle.polys.proofs.Lists.{mem_right}
use mathlib.Core.Logic.{inl}
use Rattle.typed.specs.Form.{letter, star, digit, name, joined, term_text}
use Rattle.masks.specs.Width.{width, halvings}
use Rattle.typed.specs.Says.{held, held_from}
use Rattle.spell.specs.Spelled.{named, spelled}

-- ---- stores one behind the other

pub sets_append : (l : List ℕ) (i : ℕ) (p q : List ℕ) → sets l i (p ++ q) ≡ sets (sets l i p) (i + length p) q
sets_append l i [] q = ap (λ (k : ℕ). sets l k q) (sym (add-zero i))
sets_append l i (x ∷ p) q =
    sets_append (set l i x) (suc i) p q ∙ ap (λ (k : ℕ). sets (sets (set l i x) (suc i) p) k q) (suc-add i (length p) ∙ sym (add-suc i (length p)))

-- ---- a name

pub short_name : (v behind : ℕ) → v < 10 → named v behind ≡ letter ∷ digit v ∷ behind ∷ []
short_name v behind h = rw (lt-ltb v 10 h) refl

pub long_name : (v behind : ℕ) → 10 ≤ v → named v behind ≡ letter ∷ digit (v / 10) ∷ digit (v % 10) ∷ behind ∷ []
long_name v behind h = rw (le-ltb v 10 h) refl

-- ---- a term

pub nothing_held : held 0 ≡ []
unfolding held_from width halvings
nothing_held = refl

-- a variable before others
pub one_more : (v behind w : ℕ) (l ws : List ℕ) → l ≡ w ∷ ws → term_text (v ∷ l) ++ behind ∷ [] ≡ named v star ++ (term_text l ++ behind ∷ [])
unfolding term_text joined
one_more v behind w l ws e =
    rw e
    (append_assoc (name v) (star ∷ joined star (map name (w ∷ ws))) (behind ∷ [])
    ∙ sym (append_assoc (name v) (star ∷ []) (joined star (map name (w ∷ ws)) ++ behind ∷ [])))

-- ---- a name as it is stored

pub short_length : (v behind : ℕ) → v < 10 → length (named v behind) ≡ 3
short_length v behind h = ap length (short_name v behind h)

pub long_length : (v behind : ℕ) → 10 ≤ v → length (named v behind) ≡ 4
long_length v behind h = ap length (long_name v behind h)

-- a list that was copied over the bytes from a place on
pub copied : (l new bytes : List ℕ) (at n : ℕ) → new ≡ bytes → length bytes ≡ n → at + n ≤ length l
    → (at + n ≡ at + length bytes) × (take at l ++ (new ++ drop ((at + n) - at) (drop at l)) ≡ sets l at bytes)
copied l new bytes at n e m h =
    let k : (at + n) - at ≡ n = omega arith in
    let d : drop ((at + n) - at) (drop at l) ≡ drop (at + length bytes) l =
    drop-drop ((at + n) - at) at l ∙ ap (λ (k : ℕ). drop k l) (omega arith)
    in (
      omega arith,
      ap₂ (λ (x y : List ℕ). take at l ++ (x ++ y)) e d
          ∙ sym (append_assoc (take at l) bytes (drop (at + length bytes) l))
          ∙ sym (sets-eq bytes l at (omega arith)),
    )

-- ---- the names of a term, each with a star behind it

abbrev pub starred : List ℕ → List ℕ
starred [] = []
starred (v ∷ vs) = named v star ++ starred vs

starred_append : (vs ws : List ℕ) → starred (vs ++ ws) ≡ starred vs ++ starred ws
starred_append [] ws = refl
starred_append (v ∷ vs) ws = ap (λ (l : List ℕ). named v star ++ l) (starred_append vs ws) ∙ sym (append_assoc (named v star) (starred vs) (starred ws))

-- these are the bytes of the term with a star behind it
starred_text : (v : ℕ) (vs : List ℕ) → starred (v ∷ vs) ≡ term_text (v ∷ vs) ++ star ∷ []
unfolding term_text joined
starred_text v [] = append-nil (named v star)
starred_text v (w ∷ vs) = ap (λ (l : List ℕ). named v star ++ l) (starred_text w vs) ∙ sym (one_more v star w (w ∷ vs) vs refl)

mask_none : mask [] ≡ 0
unfolding mask
mask_none = refl

-- so they are the bytes of a term that is not 0,
starred_held : (t : ℕ) → ¬ (t ≡ 0) → starred (held t) ≡ term_text (held t) ++ star ∷ []
starred_held t h = whole (held t) refl
  where
    whole : (vs : List ℕ) → held t ≡ vs → starred vs ≡ term_text vs ++ star ∷ []
    whole [] e = absurd (h (sym (mask_held t) ∙ ap mask e ∙ mask_none))
    whole (v ∷ vs) e = starred_text v vs

-- as many as with another byte behind it,
starred_length : (t behind : ℕ) → ¬ (t ≡ 0) → length (starred (held t)) ≡ length (spelled t behind)
starred_length t behind h =
    ap length (starred_held t h)
    ∙ length-append (term_text (held t)) (star ∷ [])
    ∙ sym (length-append (term_text (held t)) (behind ∷ []))

-- and with that byte in the place of the last star they are the term
star_replaced : (l : List ℕ) (at t behind : ℕ) → ¬ (t ≡ 0)
    → set (sets l at (starred (held t))) (at + length (starred (held t)) - 1) behind ≡ sets l at (spelled t behind)
star_replaced l at t behind h =
    let text = term_text (held t) in
    let n : at + length (starred (held t)) - 1 ≡ at + length text =
    omega (arith, ap length (starred_held t h), length-append text (star ∷ []))
    in
    ap₂ (λ (s : List ℕ) (k : ℕ). set (sets l at s) k behind) (starred_held t h) n
    ∙ ap (λ (s : List ℕ). set s (at + length text) behind) (sets_append l at text (star ∷ []))
    ∙ set-set (sets l at text) (at + length text) star behind
    ∙ sym (sets_append l at text (behind ∷ []))

-- the names that are written, and the variables that are left
pub record Writing (old : List ℕ) (from term : ℕ) (out : List ℕ) (at : ℕ) (written : List ℕ) (left : ℕ) : Type 0 where
  pub all : held term ≡ written ++ held left
  pub ends : at ≡ from + length (starred written)
  pub stores : out ≡ sets old from (starred written)

-- a variable is one of 64
pub variable_fits : (t v : ℕ) (ws vs : List ℕ) → t < 2 ^ 64 → held t ≡ ws ++ v ∷ vs → v < 64
variable_fits t v ws vs h e = by_test (ltb v 64) refl
  where
    b : bit t v ≡ true
    b = (held_bit t v).0 (subst (λ (l : List ℕ). Mem l v) (sym e) (mem_right ws (v ∷ vs) v (inl refl)))

    by_test : (q : Bool) → ltb v 64 ≡ q → v < 64
    by_test true f = ltb-true v 64 f
    by_test false f =
        absurd (let c : false ≡ true = sym (bits_above_vanish 64 t v h (ltb-false v 64 f)) ∙ b in let z : ◌≡◌ {A = ℕ} 0 1 = cc in let x : ⊥ = omega arith in x)

module _ (old : List ℕ) (from term behind : ℕ) (out : List ℕ) (at : ℕ) (written : List ℕ) (left : ℕ) (some : ¬ (term ≡ 0))
    (w : Writing old from term out at written left) where
  -- one more variable
  module _ (v next : ℕ) (step : held left ≡ v ∷ held next) where
    all : held term ≡ (written ++ v ∷ []) ++ held next
    all = w.all ∙ ap (λ (l : List ℕ). written ++ l) step ∙ sym (append_assoc written (v ∷ []) (held next))

    one_behind : starred (written ++ v ∷ []) ≡ starred written ++ named v star
    one_behind = starred_append written (v ∷ []) ∙ ap (λ (l : List ℕ). starred written ++ l) (append-nil (named v star))

    pub name_fits : from + length (spelled term behind) ≤ length old → length out ≡ length old → at + length (named v star) ≤ length out
    name_fits h k =
        omega (
          arith,
          w.ends,
          starred_length term behind some,
          ap length (ap starred all ∙ starred_append (written ++ v ∷ []) (held next)),
          length-append (starred (written ++ v ∷ [])) (starred (held next)),
          ap length one_behind,
          length-append (starred written) (named v star),
        )

    pub writing_on : (new : List ℕ) (to : ℕ) → to ≡ at + length (named v star) → new ≡ sets out at (named v star)
        → Writing old from term new to (written ++ v ∷ []) next
    writing_on new to e f =
        record {
          all = all;
          ends = omega (arith, w.ends, e, ap length one_behind, length-append (starred written) (named v star));
          stores =
              f ∙ ap₂ (λ (l : List ℕ) (k : ℕ). sets l k (named v star)) w.stores w.ends
              ∙ sym (sets_append old from (starred written) (named v star))
              ∙ ap (sets old from) (sym one_behind);
        }

  -- all of them
  module _ (none : held left ≡ []) where
    whole : held term ≡ written
    whole = w.all ∙ ap (λ (l : List ℕ). written ++ l) none ∙ append-nil written

    pub ends_there : at ≡ from + length (spelled term behind)
    ends_there = w.ends ∙ ap (λ (l : List ℕ). from + length (starred l)) (sym whole) ∙ ap (λ (k : ℕ). from + k) (starred_length term behind some)

    pub written_last : set out (at - 1) behind ≡ sets old from (spelled term behind)
    written_last =
        ap₂ (λ (l : List ℕ) (k : ℕ). set l (k - 1) behind) w.stores w.ends
        ∙ ap (λ (l : List ℕ). set (sets old from (starred l)) (from + length (starred l) - 1) behind) (sym whole)
        ∙ star_replaced old from term behind some

    pub one_at_least : 1 ≤ at
    one_at_least = omega (arith, ends_there, length-append (term_text (held term)) (behind ∷ []))

-- the term without variables
pub constant_length : (behind : ℕ) → length (spelled 0 behind) ≡ 2
unfolding term_text
constant_length behind = ap (λ (vs : List ℕ). length (term_text vs ++ behind ∷ [])) nothing_held

pub constant_stored : (l : List ℕ) (from term behind : ℕ) → term ≡ 0
    → (from + 2 ≡ from + length (spelled term behind)) × (set (set l from (digit 1)) (from + 1) behind ≡ sets l from (spelled term behind))
unfolding term_text
constant_stored l from term behind e = (
  ap (λ (k : ℕ). from + k) (sym (constant_length behind)) ∙ ap (λ (t : ℕ). from + length (spelled t behind)) (sym e),
  ap (λ (k : ℕ). set (set l from (digit 1)) k behind) (add-one from)
      ∙ ap (λ (vs : List ℕ). sets l from (term_text vs ++ behind ∷ [])) (sym nothing_held)
      ∙ ap (λ (t : ℕ). sets l from (spelled t behind)) (sym e),
)
