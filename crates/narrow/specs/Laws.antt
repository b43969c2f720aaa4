-- The laws of lists of terms in words, in the shape in which code lends slices: what the trait asks. Nothing here has to be believed.
-- A word is a term here, so there is little to prove. Assumes nothing.
use mathlib.Core.Path.{◌≡◌, refl, ap, ◌∙◌}
use mathlib.Core.List.{List, ◌++◌, append-nil}
use Prim.Native.Nat.{ℕ, ◌*◌, ◌+◌, ◌-◌, ◌^◌, ◌≤◌, ◌<◌}
use native.Mathlib.Nat.{le_of_eq, le_refl}
use native.Mathlib.Omega.{arith}
use Rattle.term.specs.Laws.{Laws}
use lib.ListN.{length, get_or, take, drop, replicate, length-drop, drop_of_length-le}
use lib.Seq.{take_all, drop-length}
use Rattle.narrow.specs.Numbers.{numbers, room, lines, words_of}

-- so many terms stand in the words that take so many
pub numbers_length : (ws : List ℕ) (n : ℕ) → length ws ≡ room n → length (numbers ws) ≡ n
numbers_length ws n h = h

-- the words of all terms are there
pub room_fits : (ws : List ℕ) → room (length (numbers ws)) ≤ length ws
room_fits ws = le_refl (length ws)

-- where so many words are, so many terms stand
pub room_holds : (ws : List ℕ) (n : ℕ) → room n ≤ length ws → n ≤ length (numbers ws)
room_holds ws n h = h

-- lists of words of one length hold as many terms
pub numbers_same_length : (xs ys : List ℕ) → length xs ≡ length ys → length (numbers xs) ≡ length (numbers ys)
numbers_same_length xs ys h = h

-- more terms take more words
pub room_mono : (a b : ℕ) → a ≤ b → room a ≤ room b
room_mono a b h = h

pub room_less : (a b : ℕ) → a < b → room a < room b
room_less a b h = h

pub room_add : (a b : ℕ) → room (a + b) ≡ room a + room b
room_add a b = refl

pub room_sub : (e a : ℕ) → room e - room a ≡ room (e - a)
room_sub e a = refl

-- the terms behind the first m
pub numbers_drop : (m : ℕ) (ws : List ℕ) → numbers (drop (room m) ws) ≡ drop m (numbers ws)
numbers_drop m ws = refl

-- the first m terms
pub numbers_take : (m : ℕ) (ws : List ℕ) → numbers (take (room m) ws) ≡ take m (numbers ws)
numbers_take m ws = refl

-- a front as it is lent, `ws[0..words(m)]`
pub numbers_front : (m : ℕ) (ws : List ℕ) → numbers (take (room m - 0) ws) ≡ take (m - 0) (numbers ws)
numbers_front m ws = refl

-- a part as it is lent, `ws[words(a)..words(e)]`
pub numbers_part : (a e : ℕ) (ws : List ℕ) → numbers (take (room e - room a) (drop (room a) ws)) ≡ take (e - a) (drop a (numbers ws))
numbers_part a e ws = refl

-- the rest as it is lent, `ws[words(a)..]`
pub numbers_rest : (a : ℕ) (ws : List ℕ) → numbers (take (length ws - room a) (drop (room a) ws)) ≡ drop a (numbers ws)
numbers_rest a ws = take_all (length ws - a) (drop a ws) (le_of_eq (length-drop a ws))

pub numbers_rest_lent : (a : ℕ) (ws : List ℕ)
    → numbers (take (length ws - room a) (drop (room a) ws)) ≡ take (length (numbers ws) - a) (drop a (numbers ws))
numbers_rest_lent a ws = refl

-- words that are all 0 hold the term 1 alone
pub numbers_zeros : (n : ℕ) → numbers (replicate (room n) 0) ≡ replicate n 0
numbers_zeros n = refl

-- terms behind terms
pub numbers_append : (k : ℕ) (xs ys : List ℕ) → length xs ≡ room k → numbers (xs ++ ys) ≡ numbers xs ++ numbers ys
numbers_append k xs ys h = refl

-- a front that was lent and is written back
pub numbers_front_written : (m : ℕ) (ws ys : List ℕ) → length ys ≡ room m - 0
    → numbers (ys ++ drop (room m - 0) ws) ≡ numbers ys ++ drop (m - 0) (numbers ws)
numbers_front_written m ws ys h = refl

-- a part that was lent and is written back
pub numbers_part_written : (a e : ℕ) (ws ys : List ℕ) → a ≤ length (numbers ws) → length ys ≡ room e - room a
    → numbers (take (room a) ws ++ (ys ++ drop (room e - room a) (drop (room a) ws)))
    ≡ take a (numbers ws) ++ (numbers ys ++ drop (e - a) (drop a (numbers ws)))
numbers_part_written a e ws ys fits h = refl

-- the rest that was lent and is written back
pub numbers_rest_written : (a : ℕ) (ws ys : List ℕ) → a ≤ length (numbers ws)
    → numbers (take (room a) ws ++ (ys ++ drop (length ws - room a) (drop (room a) ws))) ≡ take a (numbers ws) ++ numbers ys
numbers_rest_written a ws ys fits =
    ap (λ (l : List ℕ). take a ws ++ (ys ++ l)) (drop_of_length-le (drop a ws) (le_of_eq (length-drop a ws)))
    ∙ ap (λ (l : List ℕ). take a ws ++ l) (append-nil ys)

-- the terms in words have no variable beyond the last
pub numbers_fit : (ws : List ℕ) → ((i : ℕ) → get_or ws i 0 < 2 ^ 64) → (i : ℕ) → get_or (numbers ws) i 0 < 2 ^ lines
numbers_fit ws f i = f i

-- terms laid out in words are those terms
pub numbers_laid : (xs : List ℕ) → numbers (words_of xs) ≡ xs
numbers_laid xs = refl

pub length_laid : (xs : List ℕ) → length (words_of xs) ≡ room (length xs)
length_laid xs = refl

-- the terms in words laid out, and what is left over, are those words
pub laid_numbers : (ws : List ℕ) → ((i : ℕ) → get_or ws i 0 < 2 ^ 64) → words_of (numbers ws) ++ drop (room (length (numbers ws))) ws ≡ ws
laid_numbers ws f = ap (λ (l : List ℕ). ws ++ l) (drop-length ws) ∙ append-nil ws

-- where nothing is left over, the words are the terms laid out
pub laid_whole : (ws : List ℕ) (n : ℕ) → ((i : ℕ) → get_or ws i 0 < 2 ^ 64) → length ws ≡ room n → words_of (numbers ws) ≡ ws
laid_whole ws n f h = refl

pub room_within : (ws : List ℕ) (n : ℕ) → n ≤ length (numbers ws) → room n ≤ length ws
room_within ws n h = h

pub room_least : (n : ℕ) → n ≤ room n
room_least n = le_refl n

pub room_most : (n : ℕ) → room n ≤ 2 * n
room_most n = omega arith

-- all that the trait asks
pub laws : Laws numbers room lines
laws = record {
  numbers_length = numbers_length;
  room_fits = room_fits;
  room_holds = room_holds;
  numbers_same_length = numbers_same_length;
  room_mono = room_mono;
  room_within = room_within;
  room_least = room_least;
  room_most = room_most;
  numbers_front = numbers_front;
  numbers_part = numbers_part;
  numbers_rest = numbers_rest;
  numbers_zeros = numbers_zeros;
  numbers_front_written = numbers_front_written;
  numbers_part_written = numbers_part_written;
  numbers_rest_written = numbers_rest_written;
  numbers_fit = numbers_fit;
}
