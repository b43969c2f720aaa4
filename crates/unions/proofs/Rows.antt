-- The list that `row` writes, one union a turn: what is written so far stands before what the room held. Assumes nothing.
use Prim.Native.Nat.{ℕ, zero, suc, ◌+◌, ◌<◌}
use native.Mathlib.Omega.{arith}
use native.Mathlib.Numerals.{add-one}
use mathlib.Core.Path.{◌≡◌, refl, sym, ap, ap₂, ◌∙◌}
use mathlib.Core.List.{List, [], ◌∷◌, ◌++◌, map, append-nil}
use lib.ListN.{length, get_or, take, drop, set}
use lib.Seq.{take-length, drop-length}

-- the first i numbers of b under f, then the old content of the room
abbrev pub written : (ℕ → ℕ) → List ℕ → List ℕ → ℕ → List ℕ
written f b out i = map f (take i b) ++ drop i out

one_more : (f : ℕ → ℕ) (b out : List ℕ) (i : ℕ) → i < length b → length out ≡ length b → set (written f b out i) i (f (get_or b i 0)) ≡ written f b out (suc i)
one_more f [] out i h e = absurd (let c : ⊥ = omega arith in c)
one_more f (x ∷ b) [] i h e = absurd (let c : ⊥ = omega arith in c)
one_more f (x ∷ b) (y ∷ out) zero h e = refl
one_more f (x ∷ b) (y ∷ out) (suc i) h e = ap (λ (l : List ℕ). f x ∷ l) (one_more f b out i (omega arith) (omega arith))

pub written_more : (f : ℕ → ℕ) (b out : List ℕ) (i : ℕ) → i < length b → length out ≡ length b → set (written f b out i) i (f (get_or b i 0)) ≡ written f b out (i + 1)
written_more f b out i h e = one_more f b out i h e ∙ ap (written f b out) (sym (add-one i))

pub written_all : (f : ℕ → ℕ) (b out : List ℕ) (i : ℕ) → i ≡ length b → length out ≡ length b → written f b out i ≡ map f b
written_all f b out i e k =
    ap₂ (λ (m : ℕ) (l : List ℕ). map f (take m b) ++ l) e (ap (λ (m : ℕ). drop m out) (e ∙ sym k) ∙ drop-length out)
    ∙ append-nil (map f (take (length b) b)) ∙ ap (map f) (take-length b)
