-- Words cut into lists by their lengths, and lists put one behind the other: each undoes the other. Assumes nothing.
use Prim.Native.Nat.{ℕ, suc, ◌+◌, ◌≤◌, ◌<◌}
use native.Mathlib.Numerals.{add-one}
use mathlib.Core.Path.{◌≡◌, refl, sym, ap, ap₂, ◌∙◌}
use mathlib.Core.List.{List, [], ◌∷◌, ◌++◌, append_assoc}
use native.Mathlib.Omega.{arith}
use lib.ListN.{length, length-append, get_or, take, drop, take-append-drop, length-drop}
use lib.Seq.{take_at, drop_at, drop-cons, drop-drop, drop-length, length-take-le}
use Rattle.answer.specs.Ends.{over}
use Rattle.taking.specs.Joined.{joined, lengths}
use Rattle.lists.specs.Lists.{cut, added}

-- as many lengths as parts
pub length_of_lengths : (ps : List (List ℕ)) → length (lengths ps) ≡ length ps
length_of_lengths [] = refl
length_of_lengths (p ∷ ps) = ap suc (length_of_lengths ps)

-- parts that stand one after another are cut by their lengths
pub cut_joined : (ps : List (List ℕ)) (rest : List ℕ) → cut (lengths ps) (joined ps ++ rest) ≡ ps
unfolding cut joined
cut_joined [] rest = refl
cut_joined (p ∷ ps) rest =
    let e : (p ++ joined ps) ++ rest ≡ p ++ (joined ps ++ rest) = append_assoc p (joined ps) rest in
    ap₂ (λ (q : List ℕ) (qs : List (List ℕ)). q ∷ qs) (ap (take (length p)) e ∙ take_at p (joined ps ++ rest) (length p) refl)
    (ap (λ (l : List ℕ). cut (lengths ps) (drop (length p) l)) e ∙ ap (cut (lengths ps)) (drop_at p (joined ps ++ rest) (length p) refl) ∙ cut_joined ps rest)

-- together they have as many words as their lengths add to
pub length_joined : (ps : List (List ℕ)) → length (joined ps) ≡ added (lengths ps)
unfolding joined
length_joined [] = refl
length_joined (p ∷ ps) = length-append p (joined ps) ∙ ap (◌+◌ (length p)) (length_joined ps)

-- lengths that add to the words cut them into lists of these lengths, which put together are the words
pub lengths_cut : (ls words : List ℕ) → added ls ≤ length words → lengths (cut ls words) ≡ ls
unfolding cut
lengths_cut [] words h = refl
lengths_cut (l ∷ ls) words h =
    ap₂ (λ (n : ℕ) (ns : List ℕ). n ∷ ns) (length-take-le l words (omega (arith, h)))
    (lengths_cut ls (drop l words) (omega (arith, h, length-drop l words)))

pub joined_cut : (ls words : List ℕ) → added ls ≡ length words → joined (cut ls words) ≡ words
unfolding cut joined
joined_cut [] words h = sym (nothing_left words (sym h))
  where
    nothing_left : (l : List ℕ) → length l ≡ 0 → l ≡ []
    nothing_left [] e = refl
    nothing_left (x ∷ l) e = absurd (let z : ⊥ = omega (arith, e) in z)
joined_cut (l ∷ ls) words h =
    ap (◌++◌ (take l words)) (joined_cut ls (drop l words) (omega (arith, h, length-drop l words))) ∙ take-append-drop l words

-- the lengths that were counted are those of the parts
pub counted_lengths : (ps : List (List ℕ)) (old : List ℕ) (count : ℕ) → count ≡ length ps → take count (over (lengths ps) old) ≡ lengths ps
counted_lengths ps old count e = take_at (lengths ps) (drop (length (lengths ps)) old) count (length_of_lengths ps ∙ sym e)

-- as many lists as lengths
pub length_cut : (ls words : List ℕ) → length (cut ls words) ≡ length ls
unfolding cut
length_cut [] words = refl
length_cut (l ∷ ls) words = ap suc (length_cut ls (drop l words))

-- the lists from a place on, whose words are the first of the rest: the one there, and those behind it
pub cut_next : (ls rest : List ℕ) (i : ℕ) → i < length ls → cut (drop i ls) rest ≡ take (get_or ls i 0) rest ∷ cut (drop (i + 1) ls) (drop (get_or ls i 0) rest)
unfolding cut
cut_next ls rest i here =
    ap (λ (l : List ℕ). cut l rest) (drop-cons ls i 0 here)
    ∙ ap (λ (n : ℕ). take (get_or ls i 0) rest ∷ cut (drop n ls) (drop (get_or ls i 0) rest)) (sym (add-one i))

-- none is behind the last
pub none_behind : (ls words : List ℕ) (i : ℕ) → i ≡ length ls → cut (drop i ls) words ≡ []
unfolding cut
none_behind ls words i e = ap (λ (l : List ℕ). cut l words) (ap (λ (n : ℕ). drop n ls) e ∙ drop-length ls)

-- one list written and another behind it, in the rest of the buffer: both written
pub over_behind : (p q d : List ℕ) (n : ℕ) → n ≡ length p → take n (over p d) ++ over q (drop n (over p d)) ≡ over (p ++ q) d
over_behind p q d n e =
    ap₂ (λ (a b : List ℕ). a ++ over q b) (take_at p (drop (length p) d) n (sym e)) (drop_at p (drop (length p) d) n (sym e))
    ∙ ap (λ (l : List ℕ). p ++ (q ++ l)) (drop-drop (length q) (length p) d ∙ ap (λ (k : ℕ). drop k d) (sym (length-append p q)))
    ∙ sym (append_assoc p q (drop (length (p ++ q)) d))
