-- Laws of the walk (specs/Walk.antt): one step of it, one walk behind another, and how far it comes. Assumes nothing.
use Prim.Native.Nat.{ℕ, ◌+◌, ◌<◌, ◌≤◌}
use native.Mathlib.Nat.{add_assoc}
use native.Mathlib.Numerals.{add-one}
use native.Mathlib.Omega.{arith}
use mathlib.Core.Path.{◌≡◌, refl, sym, ap, ◌∙◌}
use mathlib.Core.Bool.{Bool, true, false}
use mathlib.Core.List.{List, [], ◌∷◌, ◌++◌, map}
use borrow.Author.Tests.{ltb-true, ltb-false, lt-ltb, le-ltb}
use lib.Bits.{bit_or}
use lib.Dec.{ltb}
use lib.ListN.{length, get_or, drop, drop_of_length-le}
use lib.Seq.{drop-cons}
use Rattle.walk.specs.Walk.{Way, on, lacks, adds, met, walked, onward}

-- ---- one step

module _ (x : ℕ) (p f : List ℕ) (at : ℕ) where
  -- f ends before x
  pub walked_end : length f ≤ at → walked (x ∷ p) f at ≡ lacks x
  unfolding walked
  walked_end l = rw (le-ltb at (length f) l) refl

  -- x is not in f
  pub walked_lacks : at < length f → x < get_or f at 0 → walked (x ∷ p) f at ≡ lacks x
  unfolding walked
  walked_lacks l m = rw (lt-ltb at (length f) l, lt-ltb x (get_or f at 0) m) refl

  -- f has a term before x
  pub walked_adds : at < length f → get_or f at 0 < x → walked (x ∷ p) f at ≡ adds (get_or f at 0)
  unfolding walked
  walked_adds l m = rw (lt-ltb at (length f) l, le-ltb x (get_or f at 0) (omega arith), lt-ltb (get_or f at 0) x m) refl

  -- x stands there
  pub walked_on : at < length f → get_or f at 0 ≡ x → walked (x ∷ p) f at ≡ walked p f (at + 1)
  unfolding walked
  walked_on l e = rw (lt-ltb at (length f) l, le-ltb x (get_or f at 0) (omega arith), le-ltb (get_or f at 0) x (omega arith)) refl

pub walked_none : (f : List ℕ) (at : ℕ) → walked [] f at ≡ on at
unfolding walked
walked_none f at = refl

-- ---- one walk behind another

met_onward : (e l g : Bool) (x y : ℕ) (w w' : Way) (k : ℕ → Way) → w' ≡ onward w k → met e l g x y w' ≡ onward (met e l g x y w) k
met_onward false l g x y w w' k h = refl
met_onward true true g x y w w' k h = refl
met_onward true false true x y w w' k h = refl
met_onward true false false x y w w' k h = h

pub walked_append : (p q f : List ℕ) (at : ℕ) → walked (p ++ q) f at ≡ onward (walked p f at) (walked q f)
unfolding walked
walked_append [] q f at = refl
walked_append (x ∷ p) q f at =
    met_onward (ltb at (length f)) (ltb x (get_or f at 0)) (ltb (get_or f at 0) x) x (get_or f at 0) (walked p f (at + 1)) (walked (p ++ q) f (at + 1)) (walked q f)
    (walked_append p q f (at + 1))

-- ---- how far

-- a walk goes on inside the list
abbrev pub Within : List ℕ → Way → Type 0
Within f (on at) = at ≤ length f
Within f (lacks u) = Unit {0}
Within f (adds u) = Unit {0}

pub walked_within : (p f : List ℕ) (at : ℕ) → at ≤ length f → Within f (walked p f at)
unfolding walked
walked_within [] f at h = h
walked_within (x ∷ p) f at h = go (ltb at (length f)) refl (ltb x (get_or f at 0)) (ltb (get_or f at 0) x) (λ l. walked_within p f (at + 1) l)
  where
    go : (e : Bool) → ltb at (length f) ≡ e → (l g : Bool) → (at + 1 ≤ length f → Within f (walked p f (at + 1)))
        → Within f (met e l g x (get_or f at 0) (walked p f (at + 1)))
    go false q l g k = tt
    go true q true g k = tt
    go true q false true k = tt
    go true q false false k = k (let m : at < length f = ltb-true at (length f) q in omega arith)

-- ---- a row: the unions of one term with each of b, of which i are behind

abbrev pub rest : ℕ → List ℕ → ℕ → List ℕ
rest t b i = map (bit_or t) (drop i b)

rest_cons : (t : ℕ) (b : List ℕ) (i : ℕ) → i < length b → rest t b i ≡ bit_or t (get_or b i 0) ∷ rest t b (i + 1)
rest_cons t b i h = ap (map (bit_or t)) (drop-cons b i 0 h) ∙ ap (λ (k : ℕ). bit_or t (get_or b i 0) ∷ rest t b k) (sym (add-one i))

-- the walk of the whole row is that of what is left of it
abbrev pub Left : ℕ → List ℕ → List ℕ → ℕ → ℕ → Type 0
Left t b f at i = walked (rest t b i) f (at + i) ≡ walked (map (bit_or t) b) f at

-- the union of t with the term v of b at i, beside the term at that place of f, if there is one
module _ (t : ℕ) (b f : List ℕ) (at i n m : ℕ) {v u : ℕ} (all_b : n ≡ length b) (all_f : m ≡ length f) (h : i < n) (left : Left t b f at i)
    (this : v ≡ get_or b i 0) (union : u ≡ bit_or t v) where
  head : walked (u ∷ rest t b (i + 1)) f (at + i) ≡ walked (map (bit_or t) b) f at
  head = ap (λ (p : List ℕ). walked p f (at + i)) (ap (λ (x : ℕ). x ∷ rest t b (i + 1)) (union ∙ ap (bit_or t) this) ∙ sym (rest_cons t b i (omega arith))) ∙ left

  pub row_ends : m ≤ at + i → lacks u ≡ walked (map (bit_or t) b) f at
  row_ends l = sym (walked_end u (rest t b (i + 1)) f (at + i) (omega arith)) ∙ head

  module _ (l : at + i < m) {o : ℕ} (other : o ≡ get_or f (at + i) 0) {below : Bool} (test : below ≡ ltb u o) where
    pub row_lacks : below ≡ true → lacks u ≡ walked (map (bit_or t) b) f at
    row_lacks e = sym (walked_lacks u (rest t b (i + 1)) f (at + i) (omega arith) (omega (arith, ltb-true u o (sym test ∙ e)))) ∙ head

    -- where the term of f is read once more
    module _ {p : ℕ} (again : p ≡ get_or f (at + i) 0) {above : Bool} (test' : above ≡ ltb p u) where
      pub row_adds : above ≡ true → adds p ≡ walked (map (bit_or t) b) f at
      row_adds e =
          ap adds again ∙ sym (walked_adds u (rest t b (i + 1)) f (at + i) (omega arith) (omega (arith, ltb-true p u (sym test' ∙ e)))) ∙ head

      pub row_on : below ≡ false → above ≡ false → Left t b f at (i + 1)
      row_on e e' =
          ap (walked (rest t b (i + 1)) f) (sym (add_assoc at i 1))
          ∙ sym (walked_on u (rest t b (i + 1)) f (at + i) (omega arith) (omega (arith, ltb-false u o (sym test ∙ e), ltb-false p u (sym test' ∙ e')))) ∙ head

pub row_done : (t : ℕ) (b f : List ℕ) (at i n : ℕ) → n ≡ length b → i ≡ n → Left t b f at i → on (at + n) ≡ walked (map (bit_or t) b) f at
row_done t b f at i n all h left =
    ap (λ (k : ℕ). on (at + k)) (sym h)
    ∙ sym (walked_none f (at + i)) ∙ ap (λ (l : List ℕ). walked (map (bit_or t) l) f (at + i)) (sym (drop_of_length-le b {i = i} (omega arith))) ∙ left
