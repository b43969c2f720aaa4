-- Where split stands between two parts: some parts are written, and whatever the parts of the rest are, with them they are the parts
-- of the whole. One law for the start, one for a round, one for the end.
use Prim.Native.Nat.{ℕ, suc, ◌+◌, ◌-◌, ◌≤◌, ◌<◌}
use mathlib.Core.Path.{◌≡◌, refl, sym, ap, ap₂, ◌∙◌}
use mathlib.Core.List.{List, [], ◌∷◌, ◌++◌, append_assoc, append-nil}
use native.Mathlib.Omega.{arith}
use native.Mathlib.Numerals.{add-one}
use lib.Bits.{bit_and, bit_or}
use lib.Count.{ones}
use lib.ListN.{length, get_or, take, drop, set, length-append, length-drop}
use lib.Seq.{length_front, length-take-le, take_at, drop_at, drop-drop, drop-cons, set_at}
use Rattle.polys.specs.List.{Asc}
use Rattle.polys.specs.Poly.{vars}
use Rattle.polys.specs.Parts.{IsParts}
use Rattle.splitting.proofs.Held.{held}
use Rattle.answer.specs.Ends.{over}
use Rattle.taking.specs.Joined.{joined, lengths}

-- t is the number of terms of f, and m bounds the number of its variables; the rest is the list in the first n words with the variables c
-- in every term besides, and `all` are the variables of the list
pub record Splitting (f terms lens : List ℕ) (t m : ℕ) (terms' lens' work : List ℕ) (n at k c all : ℕ) : Type 0 where
  pub done : List (List ℕ)
  pub counted : k ≡ length done
  pub placed : at ≡ length (joined done)
  pub stored : terms' ≡ joined done ++ drop at terms
  pub noted : lens' ≡ lengths done ++ drop k lens
  pub terms_long : length terms' ≡ length terms
  pub lens_long : length lens' ≡ length lens
  pub ascends : Asc (take n work)
  pub some : 0 < n
  pub short : n ≤ 65535
  pub room : n + (n + n) ≤ length work
  pub variables : all ≡ vars (take n work)
  pub free : bit_and c all ≡ 0
  pub few : k + ones (bit_or c all) ≤ m
  pub fits : at + n ≤ t + k
  pub onwards : (qs : List (List ℕ)) → IsParts (held c (take n work)) qs → IsParts f (done ++ qs)

pub joined_append : (ps qs : List (List ℕ)) → joined (ps ++ qs) ≡ joined ps ++ joined qs
unfolding joined
joined_append [] qs = refl
joined_append (p ∷ ps) qs = ap (◌++◌ p) (joined_append ps qs) ∙ sym (append_assoc p (joined ps) (joined qs))

pub joined_one : (p : List ℕ) → joined (p ∷ []) ≡ p
unfolding joined
joined_one p = append-nil p

pub lengths_append : (ps qs : List (List ℕ)) → lengths (ps ++ qs) ≡ lengths ps ++ lengths qs
lengths_append [] qs = refl
lengths_append (p ∷ ps) qs = ap (◌∷◌ (length p)) (lengths_append ps qs)

-- nothing is written yet
pub splitting_start : (terms lens work : List ℕ) (t m c all : ℕ) → Asc (take t work) → 0 < t → t ≤ 65535 → t + (t + t) ≤ length work
    → all ≡ vars (take t work) → bit_and c (vars (take t work)) ≡ 0 → ones (bit_or c all) ≤ m
    → Splitting (held c (take t work)) terms lens t m terms lens work t 0 0 c all
unfolding joined
splitting_start terms lens work t m c all asc some short room vs free few =
    let same = vs in
    record {
      done = [];
      counted = refl;
      placed = refl;
      stored = refl;
      noted = refl;
      terms_long = refl;
      lens_long = refl;
      ascends = asc;
      some = some;
      short = short;
      room = room;
      variables = same;
      free = ap (bit_and c) same ∙ free;
      few = omega arith;
      fits = omega arith;
      onwards = λ qs parts. parts;
    }

-- one part more in the room behind the last one
module _ (front behind terms : List ℕ) (at : ℕ) (placed : at ≡ length front) (stored : behind ≡ front ++ drop at terms) (long : length behind ≡ length terms) where
  lent : drop at behind ≡ drop at terms
  lent = ap (drop at) stored ∙ drop_at front (drop at terms) at (sym placed)

  kept : take at behind ≡ front
  kept = ap (take at) stored ∙ take_at front (drop at terms) at (sym placed)

  pub stored_one_more : (p : List ℕ) → take at behind ++ over p (drop at behind) ≡ (front ++ p) ++ drop (at + length p) terms
  stored_one_more p =
      ap₂ (λ (a b : List ℕ). a ++ over p b) kept lent ∙ ap (λ (l : List ℕ). front ++ (p ++ l)) (drop-drop (length p) at terms)
      ∙ sym (append_assoc front p (drop (at + length p) terms))

-- one length more
pub noted_one_more : (front lens lens' : List ℕ) (k v : ℕ) → k ≡ length front → lens' ≡ front ++ drop k lens → k < length lens
    → set lens' k v ≡ (front ++ (v ∷ [])) ++ drop (k + 1) lens
noted_one_more front lens lens' k v counted noted h =
    ap (λ (l : List ℕ). set l k v) (noted ∙ ap (◌++◌ front) (drop-cons lens k 0 h))
    ∙ set_at front (get_or lens k 0) (drop (suc k) lens) v k (sym counted)
    ∙ sym (append_assoc front (v ∷ []) (drop (suc k) lens)) ∙ ap (λ (j : ℕ). (front ++ (v ∷ [])) ++ drop j lens) (sym (add-one k))

-- words of which the last were lent and written back are as many as before
pub long_as_before : (x : ℕ) (ws ys : List ℕ) → x ≤ length ws → length ys ≡ length (take (length ws - x) (drop x ws))
    → length (take x ws ++ (ys ++ drop (length ws - x) (drop x ws))) ≡ length ws
long_as_before x ws ys h same =
    let behind = length_front (drop x ws) ys (length ws - x) same in
    length-append (take x ws) (ys ++ drop (length ws - x) (drop x ws)) ∙ omega (arith, behind, length-take-le x ws h, length-drop x ws)
