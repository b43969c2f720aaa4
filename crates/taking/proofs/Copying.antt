-- Copying a list over another, word by word. Assumes nothing.
use Prim.Native.Nat.{ℕ, suc, ◌+◌, ◌≤◌, ◌<◌}
use mathlib.Core.Path.{◌≡◌, sym, ap, ◌∙◌}
use mathlib.Core.List.{List, [], ◌∷◌, ◌++◌, map, append_assoc}
use native.Mathlib.Omega.{arith}
use native.Mathlib.Numerals.{add-one}
use lib.ListN.{length, get_or, take, drop, set, length-map, get_or-map}
use lib.Seq.{length-take-le, take-suc, drop-cons, set_at, take-length}
use Rattle.answer.specs.Ends.{over}

-- the first i words of l, and behind them what stood there in r
abbrev pub copied : List ℕ → List ℕ → ℕ → List ℕ
copied l r i = take i l ++ drop i r

module _ (l r : List ℕ) (i : ℕ) (fits : i < length l) (room : length l ≤ length r) where
  -- one word more
  pub copied_one_more : set (copied l r i) i (get_or l i 0) ≡ copied l r (i + 1)
  copied_one_more =
      ap (λ (t : List ℕ). set (take i l ++ t) i (get_or l i 0)) (drop-cons r i 0 (omega arith))
      ∙ set_at (take i l) (get_or r i 0) (drop (suc i) r) (get_or l i 0) i (length-take-le i l (omega arith))
      ∙ sym (append_assoc (take i l) (get_or l i 0 ∷ []) (drop (suc i) r))
      ∙ ap (λ (t : List ℕ). t ++ drop (suc i) r) (sym (take-suc l i 0 fits))
      ∙ ap (copied l r) (sym (add-one i))

-- all are copied
pub copied_all : (l r : List ℕ) → copied l r (length l) ≡ over l r
copied_all l r = ap (λ (t : List ℕ). t ++ drop (length l) r) (take-length l)

-- the same of a list whose every word is changed as it is copied, where nothing stays nothing
pub changed_one_more : (f : ℕ → ℕ) → f 0 ≡ 0 → (l r : List ℕ) (i : ℕ) → i < length l → length l ≤ length r
    → set (copied (map f l) r i) i (f (get_or l i 0)) ≡ copied (map f l) r (i + 1)
changed_one_more f none l r i fits room =
    ap (set (copied (map f l) r i) i) (sym (ap (get_or (map f l) i) (sym none) ∙ get_or-map f l i 0))
    ∙ copied_one_more (map f l) r i (omega (arith, length-map l f)) (omega (arith, length-map l f))
