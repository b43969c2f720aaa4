-- The laws of lists of terms in words once more, for code that reckons a place `x = words(a)` first and lends from there. Leans on the laws
-- that each size proves.
use Rattle.std.specs.Prelude.{◌≡◌, ℕ, ◌-◌, ◌≤◌, List, ◌++◌, length, take, drop}
use mathlib.Core.Path.{ap, ap₂, ◌∙◌}
use native.Mathlib.Nat.{sub-zero}
use native.Mathlib.Omega.{arith}
use lib.ListN.{length-drop}
use lib.Seq.{length-take-le}
use Rattle.term.specs.Laws.{Laws}

module _ {numbers : List ℕ → List ℕ} {room : ℕ → ℕ} {lines : ℕ} (laws : Laws numbers room lines) where
  -- a front lent up to the word at which term m begins
  pub front_at : (m x : ℕ) (ws : List ℕ) → x ≡ room m → numbers (take (x - 0) ws) ≡ take m (numbers ws)
  front_at m x ws ex =
      ap (λ (p : ℕ). numbers (take (p - 0) ws)) ex ∙ laws.numbers_front m ws ∙ ap (λ (k : ℕ). take k (numbers ws)) (sub-zero m)

  -- a part lent between the words at which terms a and e begin
  pub part_at : (a e x y : ℕ) (ws : List ℕ) → x ≡ room a → y ≡ room e → numbers (take (y - x) (drop x ws)) ≡ take (e - a) (drop a (numbers ws))
  part_at a e x y ws ex ey = ap₂ (λ (p q : ℕ). numbers (take (q - p) (drop p ws))) ex ey ∙ laws.numbers_part a e ws

  -- the rest lent from the word at which term a begins
  pub rest_at : (a x : ℕ) (ws : List ℕ) → x ≡ room a → numbers (take (length ws - x) (drop x ws)) ≡ drop a (numbers ws)
  rest_at a x ws ex = ap (λ (p : ℕ). numbers (take (length ws - p) (drop p ws))) ex ∙ laws.numbers_rest a ws

  -- the three written back
  pub front_at_written : (m x : ℕ) (ws ys : List ℕ) → m ≤ length (numbers ws) → x ≡ room m → length ys ≡ length (take (x - 0) ws)
      → numbers (ys ++ drop (x - 0) ws) ≡ numbers ys ++ drop m (numbers ws)
  front_at_written m x ws ys fits ex h =
      ap (λ (p : ℕ). numbers (ys ++ drop (p - 0) ws)) ex
      ∙ laws.numbers_front_written m ws ys as_long
      ∙ ap (λ (k : ℕ). numbers ys ++ drop k (numbers ws)) (sub-zero m)
    where
      as_long : length ys ≡ room m - 0
      as_long = h ∙ ap (λ (p : ℕ). length (take (p - 0) ws)) ex ∙ length-take-le (room m - 0) ws (omega (arith, laws.room_mono m (length (numbers ws)) fits, laws.room_fits ws))

  pub part_at_written : (a e x y : ℕ) (ws ys : List ℕ) → a ≤ e → e ≤ length (numbers ws) → x ≡ room a → y ≡ room e
      → length ys ≡ length (take (y - x) (drop x ws))
      → numbers (take x ws ++ (ys ++ drop (y - x) (drop x ws))) ≡ take a (numbers ws) ++ (numbers ys ++ drop (e - a) (drop a (numbers ws)))
  part_at_written a e x y ws ys order fits ex ey h =
      ap₂ (λ (p q : ℕ). numbers (take p ws ++ (ys ++ drop (q - p) (drop p ws)))) ex ey ∙ laws.numbers_part_written a e ws ys (omega arith) as_long
    where
      as_long : length ys ≡ room e - room a
      as_long =
          h ∙ ap₂ (λ (p q : ℕ). length (take (q - p) (drop p ws))) ex ey
          ∙ length-take-le (room e - room a) (drop (room a) ws) (omega (arith, length-drop (room a) ws, laws.room_mono e (length (numbers ws)) fits, laws.room_fits ws))

  pub rest_at_written : (a x : ℕ) (ws ys : List ℕ) → a ≤ length (numbers ws) → x ≡ room a
      → numbers (take x ws ++ (ys ++ drop (length ws - x) (drop x ws))) ≡ take a (numbers ws) ++ numbers ys
  rest_at_written a x ws ys fits ex =
      ap (λ (p : ℕ). numbers (take p ws ++ (ys ++ drop (length ws - p) (drop p ws)))) ex ∙ laws.numbers_rest_written a ws ys fits
