-- The laws of lists of terms in words, in the shape in which code lends slices: what the trait asks. Nothing here has to be believed.
-- Leans on lib.Seq's laws of parts of lists. Assumes nothing.
use mathlib.Core.Path.{◌≡◌, refl, sym, ap, ap₂, ◌∙◌}
use mathlib.Core.List.{List, [], ◌∷◌, ◌++◌, append-nil}
use Prim.Native.Nat.{ℕ, zero, suc, ◌*◌, ◌+◌, ◌-◌, ◌/◌, ◌^◌, ◌≤◌, ◌<◌}
use native.Mathlib.Nat.{le_of_eq, sub-zero, lt_of_lt_of_le}
use native.Mathlib.Omega.{arith}
use Rattle.term.specs.Laws.{Laws}
use lib.ListN.{length, get_or, take, drop, replicate, length-drop, drop_of_length-le}
use lib.Arith.{digits_lt}
use lib.Pow.{pow_pos, pow-add, split, high, low}
use lib.Seq.{length-take-le, take_all}
use Rattle.wide.specs.Numbers.{two, numbers, room, lines, words_of}

-- two words have no bit beyond those of both
pub two_fits : (l h : ℕ) → l < 2 ^ 64 → h < 2 ^ 64 → two l h < 2 ^ lines
two_fits l h f g = lt_of_lt_of_le (digits_lt g f) (le_of_eq (sym (pow-add 2 64 64)))

-- two words hold a term
pub length_half : (ws : List ℕ) → length (numbers ws) ≡ length ws / 2
unfolding numbers
length_half [] = refl
length_half (x ∷ []) = refl
length_half (x ∷ (y ∷ ws)) = ap suc (length_half ws) ∙ omega arith

-- one term more takes two words more
one_more : (m : ℕ) → room (suc m) ≡ suc (suc (room m))
one_more m = omega arith

-- so many terms stand in the words that take so many
pub numbers_length : (ws : List ℕ) (n : ℕ) → length ws ≡ room n → length (numbers ws) ≡ n
numbers_length ws n h = omega (arith, length_half ws)

-- the words of all terms are there
pub room_fits : (ws : List ℕ) → room (length (numbers ws)) ≤ length ws
room_fits ws = omega (arith, length_half ws)

-- where so many words are, so many terms stand
pub room_holds : (ws : List ℕ) (n : ℕ) → room n ≤ length ws → n ≤ length (numbers ws)
room_holds ws n h = omega (arith, length_half ws)

-- lists of words of one length hold as many terms
pub numbers_same_length : (xs ys : List ℕ) → length xs ≡ length ys → length (numbers xs) ≡ length (numbers ys)
numbers_same_length xs ys h = length_half xs ∙ ap (λ (n : ℕ). n / 2) h ∙ sym (length_half ys)

-- more terms take more words
pub room_mono : (a b : ℕ) → a ≤ b → room a ≤ room b
room_mono a b h = omega arith

pub room_less : (a b : ℕ) → a < b → room a < room b
room_less a b h = omega arith

pub room_add : (a b : ℕ) → room (a + b) ≡ room a + room b
room_add a b = omega arith

pub room_sub : (e a : ℕ) → room e - room a ≡ room (e - a)
room_sub e a = omega arith

-- the terms behind the first m
pub numbers_drop : (m : ℕ) (ws : List ℕ) → numbers (drop (room m) ws) ≡ drop m (numbers ws)
unfolding numbers
numbers_drop zero ws = refl
numbers_drop (suc m) [] = ap (λ (k : ℕ). numbers (drop k [])) (one_more m)
numbers_drop (suc m) (x ∷ []) = ap (λ (k : ℕ). numbers (drop k (x ∷ []))) (one_more m)
numbers_drop (suc m) (x ∷ (y ∷ ws)) = ap (λ (k : ℕ). numbers (drop k (x ∷ (y ∷ ws)))) (one_more m) ∙ numbers_drop m ws

-- the first m terms
pub numbers_take : (m : ℕ) (ws : List ℕ) → numbers (take (room m) ws) ≡ take m (numbers ws)
unfolding numbers
numbers_take zero ws = refl
numbers_take (suc m) [] = ap (λ (k : ℕ). numbers (take k [])) (one_more m)
numbers_take (suc m) (x ∷ []) = ap (λ (k : ℕ). numbers (take k (x ∷ []))) (one_more m)
numbers_take (suc m) (x ∷ (y ∷ ws)) =
    ap (λ (k : ℕ). numbers (take k (x ∷ (y ∷ ws)))) (one_more m) ∙ ap (λ (l : List ℕ). two x y ∷ l) (numbers_take m ws)

-- a front as it is lent, `ws[0..words(m)]`
pub numbers_front : (m : ℕ) (ws : List ℕ) → numbers (take (room m - 0) ws) ≡ take (m - 0) (numbers ws)
numbers_front m ws = ap (λ (k : ℕ). numbers (take k ws)) (sub-zero (room m)) ∙ numbers_take m ws ∙ ap (λ (k : ℕ). take k (numbers ws)) (sym (sub-zero m))

-- a part as it is lent, `ws[words(a)..words(e)]`
pub numbers_part : (a e : ℕ) (ws : List ℕ) → numbers (take (room e - room a) (drop (room a) ws)) ≡ take (e - a) (drop a (numbers ws))
numbers_part a e ws =
    ap (λ (k : ℕ). numbers (take k (drop (room a) ws))) (room_sub e a) ∙ numbers_take (e - a) (drop (room a) ws) ∙ ap (take (e - a)) (numbers_drop a ws)

-- the rest as it is lent, `ws[words(a)..]`
pub numbers_rest : (a : ℕ) (ws : List ℕ) → numbers (take (length ws - room a) (drop (room a) ws)) ≡ drop a (numbers ws)
numbers_rest a ws =
    ap numbers (take_all (length ws - room a) (drop (room a) ws) (le_of_eq (length-drop (room a) ws))) ∙ numbers_drop a ws

pub numbers_rest_lent : (a : ℕ) (ws : List ℕ)
    → numbers (take (length ws - room a) (drop (room a) ws)) ≡ take (length (numbers ws) - a) (drop a (numbers ws))
numbers_rest_lent a ws =
    numbers_rest a ws ∙ sym (take_all (length (numbers ws) - a) (drop a (numbers ws)) (le_of_eq (length-drop a (numbers ws))))

-- words that are all 0 hold the term 1 alone
pub numbers_zeros : (n : ℕ) → numbers (replicate (room n) 0) ≡ replicate n 0
unfolding numbers
numbers_zeros zero = refl
numbers_zeros (suc n) = ap (λ (k : ℕ). numbers (replicate k 0)) (one_more n) ∙ ap (λ (l : List ℕ). 0 ∷ l) (numbers_zeros n)

-- terms behind terms
pub numbers_append : (k : ℕ) (xs ys : List ℕ) → length xs ≡ room k → numbers (xs ++ ys) ≡ numbers xs ++ numbers ys
unfolding numbers
numbers_append k [] ys h = refl
numbers_append k (x ∷ []) ys h = absurd (omega arith)
numbers_append zero (x ∷ (y ∷ xs)) ys h = absurd (omega arith)
numbers_append (suc k) (x ∷ (y ∷ xs)) ys h = ap (λ (l : List ℕ). two x y ∷ l) (numbers_append k xs ys (omega arith))

-- a front that was lent and is written back
pub numbers_front_written : (m : ℕ) (ws ys : List ℕ) → length ys ≡ room m - 0
    → numbers (ys ++ drop (room m - 0) ws) ≡ numbers ys ++ drop (m - 0) (numbers ws)
numbers_front_written m ws ys h =
    ap (λ (k : ℕ). numbers (ys ++ drop k ws)) (sub-zero (room m))
    ∙ numbers_append m ys (drop (room m) ws) (h ∙ sub-zero (room m))
    ∙ ap (λ (l : List ℕ). numbers ys ++ l) (numbers_drop m ws ∙ ap (λ (k : ℕ). drop k (numbers ws)) (sym (sub-zero m)))

-- a part that was lent and is written back
pub numbers_part_written : (a e : ℕ) (ws ys : List ℕ) → a ≤ length (numbers ws) → length ys ≡ room e - room a
    → numbers (take (room a) ws ++ (ys ++ drop (room e - room a) (drop (room a) ws)))
    ≡ take a (numbers ws) ++ (numbers ys ++ drop (e - a) (drop a (numbers ws)))
numbers_part_written a e ws ys fits h =
    numbers_append a (take (room a) ws) (ys ++ drop (room e - room a) (drop (room a) ws)) front
    ∙ ap₂ (λ (p q : List ℕ). p ++ q) (numbers_take a ws) (
    numbers_append (e - a) ys (drop (room e - room a) (drop (room a) ws)) (h ∙ room_sub e a)
    ∙ ap (λ (l : List ℕ). numbers ys ++ l) (
    ap (λ (k : ℕ). numbers (drop k (drop (room a) ws))) (room_sub e a)
    ∙ numbers_drop (e - a) (drop (room a) ws) ∙ ap (drop (e - a)) (numbers_drop a ws)
    )
    )
  where
    front : length (take (room a) ws) ≡ room a
    front = length-take-le (room a) ws (omega (arith, room_fits ws))

-- the rest that was lent and is written back
pub numbers_rest_written : (a : ℕ) (ws ys : List ℕ) → a ≤ length (numbers ws)
    → numbers (take (room a) ws ++ (ys ++ drop (length ws - room a) (drop (room a) ws))) ≡ take a (numbers ws) ++ numbers ys
numbers_rest_written a ws ys fits =
    numbers_append a (take (room a) ws) (ys ++ drop (length ws - room a) (drop (room a) ws)) front
    ∙ ap₂ (λ (p q : List ℕ). p ++ q) (numbers_take a ws) (ap (λ (l : List ℕ). numbers (ys ++ l)) none ∙ ap numbers (append-nil ys))
  where
    front : length (take (room a) ws) ≡ room a
    front = length-take-le (room a) ws (omega (arith, room_fits ws))

    none : drop (length ws - room a) (drop (room a) ws) ≡ []
    none = drop_of_length-le (drop (room a) ws) (le_of_eq (length-drop (room a) ws))

-- the terms in words have no variable beyond the last
pub numbers_fit : (ws : List ℕ) → ((i : ℕ) → get_or ws i 0 < 2 ^ 64) → (i : ℕ) → get_or (numbers ws) i 0 < 2 ^ lines
unfolding numbers
numbers_fit [] f i = pow_pos lines
numbers_fit (x ∷ []) f i = pow_pos lines
numbers_fit (x ∷ (y ∷ ws)) f zero = two_fits x y (f 0) (f 1)
numbers_fit (x ∷ (y ∷ ws)) f (suc i) = numbers_fit ws (λ j. f (suc (suc j))) i

-- terms laid out in words are those terms
pub numbers_laid : (xs : List ℕ) → numbers (words_of xs) ≡ xs
unfolding numbers words_of
numbers_laid [] = refl
numbers_laid (x ∷ xs) = ap₂ (λ (n : ℕ) (l : List ℕ). n ∷ l) (split x 64) (numbers_laid xs)

pub length_laid : (xs : List ℕ) → length (words_of xs) ≡ room (length xs)
unfolding words_of
length_laid [] = refl
length_laid (x ∷ xs) = ap (λ (n : ℕ). suc (suc n)) (length_laid xs) ∙ sym (one_more (length xs))

-- the terms in words laid out, and what is left over, are those words
pub laid_numbers : (ws : List ℕ) → ((i : ℕ) → get_or ws i 0 < 2 ^ 64) → words_of (numbers ws) ++ drop (room (length (numbers ws))) ws ≡ ws
unfolding numbers words_of
laid_numbers [] f = refl
laid_numbers (x ∷ []) f = refl
laid_numbers (x ∷ (y ∷ ws)) f =
    ap (λ (k : ℕ). words_of (two x y ∷ numbers ws) ++ drop k (x ∷ (y ∷ ws))) (one_more (length (numbers ws)))
    ∙ ap₂ (λ (p q : ℕ). p ∷ (q ∷ (words_of (numbers ws) ++ drop (room (length (numbers ws))) ws))) (low y 64 (f 0)) (high y 64 (f 0))
    ∙ ap (λ (l : List ℕ). x ∷ (y ∷ l)) (laid_numbers ws (λ j. f (suc (suc j))))

-- where nothing is left over, the words are the terms laid out
pub laid_whole : (ws : List ℕ) (n : ℕ) → ((i : ℕ) → get_or ws i 0 < 2 ^ 64) → length ws ≡ room n → words_of (numbers ws) ≡ ws
laid_whole ws n f h =
    sym (append-nil (words_of (numbers ws))) ∙ ap (λ (l : List ℕ). words_of (numbers ws) ++ l) (sym none) ∙ laid_numbers ws f
  where
    none : drop (room (length (numbers ws))) ws ≡ []
    none = drop_of_length-le ws (le_of_eq (h ∙ ap room (sym (numbers_length ws n h))))

pub room_within : (ws : List ℕ) (n : ℕ) → n ≤ length (numbers ws) → room n ≤ length ws
room_within ws n h = omega (arith, length_half ws)

pub room_least : (n : ℕ) → n ≤ room n
room_least n = omega arith

pub room_most : (n : ℕ) → room n ≤ 2 * n
room_most n = omega arith

-- all that the trait asks
pub laws : Laws numbers room lines
laws = record {
  numbers_length = numbers_length;
  room_fits = room_fits;
  room_holds = room_holds;
  numbers_same_length = numbers_same_length;
  room_mono = room_mono;
  room_within = room_within;
  room_least = room_least;
  room_most = room_most;
  numbers_front = numbers_front;
  numbers_part = numbers_part;
  numbers_rest = numbers_rest;
  numbers_zeros = numbers_zeros;
  numbers_front_written = numbers_front_written;
  numbers_part_written = numbers_part_written;
  numbers_rest_written = numbers_rest_written;
  numbers_fit = numbers_fit;
}
