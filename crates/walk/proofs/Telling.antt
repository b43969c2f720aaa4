-- What the walk of the whole product tells: the lists are the same, or the first difference is a term of one of them only, since both
-- ascend. Leans on Walking and on polys' laws of ascending lists. Assumes nothing.
use Prim.Native.Nat.{ℕ, ◌+◌, ◌<◌, ◌≤◌}
use native.Mathlib.Numerals.{add-one}
use native.Mathlib.Omega.{arith}
use mathlib.Core.Path.{◌≡◌, refl, sym, ap, ◌∙◌, subst}
use mathlib.Core.Bool.{Bool, true, false}
use mathlib.Core.List.{List, [], ◌∷◌, ◌++◌, map, append-nil}
use mathlib.Core.Logic.{inl, inr, ⊎_elim}
use borrow.Author.Tests.{ltb-true, ltb-false}
use lib.Bits.{bit_or}
use lib.Dec.{ltb}
use lib.ListN.{length, get_or, drop, drop_of_length-le}
use lib.Seq.{drop-cons}
use Rattle.std.specs.Prelude.{Some, Err}
use Rattle.polys.specs.List.{Mem, Above, Asc}
use Rattle.polys.specs.Poly.{times}
use Rattle.polys.proofs.Lists.{above_mem, head_least, mem_at, asc_append_below}
use Rattle.polys.proofs.Polys.{times_asc, times_comm}
use Rattle.unions.specs.Unions.{Factors}
use Rattle.unions.proofs.Steps.{factors_swap, times_of_one}
use Rattle.walk.specs.Walk.{Comparable, Way, on, lacks, adds, met, walked}
use Rattle.walk.specs.Told.{Compared, way}
use Rattle.walk.specs.declared.Difference.{Difference}
use Rattle.walk.specs.declared.Difference.TheVariants.{Missing, Extra}

-- ---- the whole product

module _ (a b f : List ℕ) (h : Factors a b) where
  pub row_whole : (k t : ℕ) → k ≡ length a → k ≡ 1 → t ≡ get_or a 0 0 → (w : Way) → w ≡ walked (map (bit_or t) b) f 0 → w ≡ walked (times a b) f 0
  row_whole k t c e u w s = s ∙ ap (λ (p : List ℕ). walked p f 0) (ap (λ (t : ℕ). map (bit_or t) b) u ∙ sym (times_of_one a b h (sym c ∙ e)))

  pub column_whole : (k t : ℕ) → k ≡ length b → k ≡ 1 → t ≡ get_or b 0 0 → (w : Way) → w ≡ walked (map (bit_or t) a) f 0 → w ≡ walked (times a b) f 0
  column_whole k t c e u w s =
      s ∙ ap (λ (p : List ℕ). walked p f 0)
      (ap (λ (t : ℕ). map (bit_or t) a) u ∙ sym (times_of_one b a (factors_swap a b h) (sym c ∙ e)) ∙ times_comm b a)

  pub second_whole : (w : Way) → w ≡ walked (times b a) f 0 → w ≡ walked (times a b) f 0
  second_whole w k = k ∙ ap (λ (p : List ℕ). walked p f 0) (times_comm b a)

-- ---- what a walk from a place on tells of two ascending lists

abbrev Told : List ℕ → List ℕ → ℕ → Way → Type 0
Told p f at (on k) = drop at f ≡ p ++ drop k f
Told p f at (lacks u) = Mem p u × ¬ Mem (drop at f) u
Told p f at (adds u) = Mem (drop at f) u × ¬ Mem p u

-- the list from a place on
from : (f : List ℕ) (at : ℕ) → at < length f → drop at f ≡ get_or f at 0 ∷ drop (at + 1) f
from f at h = drop-cons f at 0 h ∙ ap (λ (k : ℕ). get_or f at 0 ∷ drop k f) (sym (add-one at))

-- where both lists have x there, what is told behind it is told from it on
told_on : (x : ℕ) (p f : List ℕ) (at : ℕ) (w : Way) → drop at f ≡ x ∷ drop (at + 1) f → Above x p → Above x (drop (at + 1) f)
    → Told p f (at + 1) w → Told (x ∷ p) f at w
told_on x p f at (on k) e a b t = e ∙ ap (λ (l : List ℕ). x ∷ l) t
told_on x p f at (lacks u) e a b t =
    (inr t.0, λ m. ⊎_elim (λ q. let l : x < u = above_mem x p u a t.0 in let c : ⊥ = omega arith in c) t.1 (subst (λ (l : List ℕ). Mem l u) e m))
told_on x p f at (adds u) e a b t = (
  subst (λ (l : List ℕ). Mem l u) (sym e) (inr t.0),
  ⊎_elim (λ q. let l : x < u = above_mem x (drop (at + 1) f) u b t.0 in let c : ⊥ = omega arith in c) t.1,
)

told : (p f : List ℕ) (at : ℕ) → Asc p → Asc (drop at f) → Told p f at (walked p f at)
unfolding walked
told [] f at a b = refl
told (x ∷ p) f at a b =
    go (ltb at (length f)) refl (ltb x (get_or f at 0)) refl (ltb (get_or f at 0) x) refl (λ s. told p f (at + 1) a.1 s)
  where
    go : (e : Bool) → ltb at (length f) ≡ e → (l : Bool) → ltb x (get_or f at 0) ≡ l → (g : Bool) → ltb (get_or f at 0) x ≡ g
        → (Asc (drop (at + 1) f) → Told p f (at + 1) (walked p f (at + 1))) → Told (x ∷ p) f at (met e l g x (get_or f at 0) (walked p f (at + 1)))
    go false e l _ g _ k = (inl refl, λ m. subst (λ (l : List ℕ). Mem l x) (drop_of_length-le f {i = at} (ltb-false at (length f) e)) m)
    go true e true l g _ k = (
      inl refl,
      λ m. let s = from f at (ltb-true at (length f) e) in
          let h : get_or f at 0 ≤ x = head_least (get_or f at 0) (drop (at + 1) f) x (subst Asc s b) (subst (λ (l : List ℕ). Mem l x) s m) in
          let i : x < get_or f at 0 = ltb-true x (get_or f at 0) l in
          let c : ⊥ = omega arith in
          c,
    )
    go true e false l true g k = (
      subst (λ (l : List ℕ). Mem l (get_or f at 0)) (sym (from f at (ltb-true at (length f) e))) (inl refl),
      λ m. let h : x ≤ get_or f at 0 = head_least x p (get_or f at 0) a m in
          let i : get_or f at 0 < x = ltb-true (get_or f at 0) x g in
          let c : ⊥ = omega arith in
          c,
    )
    go true e false l false g k =
        let h : get_or f at 0 ≤ x = ltb-false x (get_or f at 0) l in
        let i : x ≤ get_or f at 0 = ltb-false (get_or f at 0) x g in
        let same : get_or f at 0 ≡ x = omega arith in
        let s = from f at (ltb-true at (length f) e) ∙ ap (λ (y : ℕ). y ∷ drop (at + 1) f) same in
        let b' : Asc (x ∷ drop (at + 1) f) = subst Asc s b in
        told_on x p f at (walked p f (at + 1)) s a.0 b'.0 (k b'.1)

-- ---- from the first place on

module _ {a b f : List ℕ} (h : Comparable a b f) {w : Way} (went : w ≡ walked (times a b) f 0) where
  tells : (v : Way) → w ≡ v → Told (times a b) f 0 v
  tells v e = subst (Told (times a b) f 0) (sym went ∙ e) (told (times a b) f 0 (times_asc a b) h.list)

  pub tells_same : {at n : ℕ} → n ≡ length f → w ≡ on at → n ≤ at → f ≡ times a b
  tells_same {at = at} all e l =
      tells (on at) e ∙ ap (λ (r : List ℕ). times a b ++ r) (drop_of_length-le f {i = at} (omega arith)) ∙ append-nil (times a b)

  pub tells_more : {at n u : ℕ} → n ≡ length f → w ≡ on at → at < n → u ≡ get_or f at 0 → Mem f u × ¬ Mem (times a b) u
  tells_more {at = at} all e l this =
      let l : at < length f = omega arith in
      subst (λ (u : ℕ). Mem f u × ¬ Mem (times a b) u) (sym this) (
        mem_at f at l,
        λ m. let i : get_or f at 0 < get_or f at 0 = asc_append_below (times a b) (drop at f) (get_or f at 0) (get_or f at 0) (subst Asc (tells (on at) e) h.list) m
            (subst (λ (r : List ℕ). Mem r (get_or f at 0)) (sym (from f at l)) (inl refl)) in
            let c : ⊥ = omega arith in
            c,
      )

  pub tells_difference : {T : Type 0} (value : T → ℕ) (d : Difference T) → w ≡ way value (Err d) → Compared value (times a b) f (Some d)
  tells_difference value (Missing u) e = tells (lacks (value u)) e
  tells_difference value (Extra u) e = tells (adds (value u)) e
