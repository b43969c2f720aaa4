-- What each size of terms proves of lists of terms in words, in the shape in which code lends slices.
use Rattle.std.specs.Prelude.{◌≡◌, ℕ, ◌+◌, ◌-◌, ◌*◌, ◌^◌, ◌≤◌, ◌<◌, List, ◌++◌, length, get_or, take, drop, replicate}

pub record Laws (numbers : List ℕ → List ℕ) (room : ℕ → ℕ) (lines : ℕ) : Type 0 where
  -- so many terms stand in the words that take so many
  pub numbers_length : (ws : List ℕ) (n : ℕ) → length ws ≡ room n → length (numbers ws) ≡ n
  -- the words of all terms are there
  pub room_fits : (ws : List ℕ) → room (length (numbers ws)) ≤ length ws
  -- where so many words are, so many terms stand
  pub room_holds : (ws : List ℕ) (n : ℕ) → room n ≤ length ws → n ≤ length (numbers ws)
  -- lists of words of one length hold as many terms
  pub numbers_same_length : (xs ys : List ℕ) → length xs ≡ length ys → length (numbers xs) ≡ length (numbers ys)
  -- the words of terms that stand there are there
  pub room_within : (ws : List ℕ) (n : ℕ) → n ≤ length (numbers ws) → room n ≤ length ws
  -- more terms take more words, and a term at least one and at most two
  pub room_mono : (a b : ℕ) → a ≤ b → room a ≤ room b
  pub room_least : (n : ℕ) → n ≤ room n
  pub room_most : (n : ℕ) → room n ≤ 2 * n
  -- a front as it is lent, `ws[0..words(m)]`
  pub numbers_front : (m : ℕ) (ws : List ℕ) → numbers (take (room m - 0) ws) ≡ take (m - 0) (numbers ws)
  -- a part as it is lent, `ws[words(a)..words(e)]`
  pub numbers_part : (a e : ℕ) (ws : List ℕ) → numbers (take (room e - room a) (drop (room a) ws)) ≡ take (e - a) (drop a (numbers ws))
  -- the rest as it is lent, `ws[words(a)..]`
  pub numbers_rest : (a : ℕ) (ws : List ℕ) → numbers (take (length ws - room a) (drop (room a) ws)) ≡ drop a (numbers ws)
  -- words that are all 0 hold the term 1 alone
  pub numbers_zeros : (n : ℕ) → numbers (replicate (room n) 0) ≡ replicate n 0
  -- a front that was lent and is written back
  pub numbers_front_written : (m : ℕ) (ws ys : List ℕ) → length ys ≡ room m - 0
      → numbers (ys ++ drop (room m - 0) ws) ≡ numbers ys ++ drop (m - 0) (numbers ws)
  -- a part that was lent and is written back
  pub numbers_part_written : (a e : ℕ) (ws ys : List ℕ) → a ≤ length (numbers ws) → length ys ≡ room e - room a
      → numbers (take (room a) ws ++ (ys ++ drop (room e - room a) (drop (room a) ws)))
      ≡ take a (numbers ws) ++ (numbers ys ++ drop (e - a) (drop a (numbers ws)))
  -- the rest that was lent and is written back
  pub numbers_rest_written : (a : ℕ) (ws ys : List ℕ) → a ≤ length (numbers ws)
      → numbers (take (room a) ws ++ (ys ++ drop (length ws - room a) (drop (room a) ws))) ≡ take a (numbers ws) ++ numbers ys
  -- the terms in words have no variable beyond the last
  pub numbers_fit : (ws : List ℕ) → ((i : ℕ) → get_or ws i 0 < 2 ^ 64) → (i : ℕ) → get_or (numbers ws) i 0 < 2 ^ lines
