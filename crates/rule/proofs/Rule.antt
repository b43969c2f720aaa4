-- The papers' rule, both directions: y lies in another part of F than x exactly if AD = BC (RULES 8.2). For y = x both sides are
-- zero and the rule says nothing. Leans on Halves and Converse, and on Separated for what the parts have to do with it.
use Prim.Native.Nat.{ℕ, ◌≤◌}
use mathlib.Core.Path.{◌≡◌, refl, sym, ap, ◌∙◌}
use mathlib.Core.Bool.{Bool, true, false, false≢true}
use mathlib.Core.List.{List, [], ◌∷◌}
use mathlib.Core.Logic.{◌↔◌, inl}
use native.Mathlib.Nat.{lt_of_le_of_lt, lt_of_lt_of_le, lt_irrefl}
use Rattle.masks.specs.Bit.{bit}
use Rattle.masks.proofs.Bits.{below_from_bits}
use Rattle.masks.proofs.Order.{subset_le}
use Rattle.polys.specs.List.{Mem, Asc}
use Rattle.polys.specs.Poly.{vars}
use Rattle.polys.specs.Parts.{IsParts}
use Rattle.polys.proofs.Polys.{vars_hold}
use Rattle.unique.proofs.Merge.{parts_asc}
use Rattle.exists.specs.PartsOf.{parts_of}
use Rattle.exists.proofs.Exist.{parts_of_is_parts}
use Rattle.ring.specs.Run.{lacking}
use Rattle.ring.proofs.Domain.{mul_zero}
use Rattle.ring.proofs.Series.{nought, laws, times as mul}
use Rattle.ring.proofs.Value.{value, value_none}
use Rattle.ring.proofs.Bridge.{same_from_equal}
use Rattle.ring.proofs.Built.{Small}
use Rattle.rule.specs.Rule.{derivative, Occurs, Below, PapersSay, together}
use Rattle.rule.proofs.Derivative.{Lacks, lacking_mem, derivative_mem, cleared}
use Rattle.rule.proofs.Halves.{papers_say_if_closed}
use Rattle.rule.proofs.Separated.{separated_if_not_together, not_together_if_separated}
use Rattle.rule.proofs.Converse.{separated_if_papers_say}

-- every term of f lies in its variables, and so is below 2 ^ n
pub small_if_below : (n : ℕ) (f : List ℕ) → Below n f → Small n f
small_if_below n f below t m =
    lt_of_le_of_lt (subset_le t (vars f) (vars_hold f t m)) (below_from_bits n (vars f) (λ i l. go i l (bit (vars f) i) refl))
  where
    go : (i : ℕ) → n ≤ i → (b : Bool) → bit (vars f) i ≡ b → bit (vars f) i ≡ false
    go i l true e = absurd (lt_irrefl i (lt_of_lt_of_le (below i e) l))
    go i l false e = e

-- y lies in another part of f than x exactly if AD = BC
pub papers_rule : (n : ℕ) (f : List ℕ) (ps : List (List ℕ)) (x y : ℕ) → IsParts f ps → Below n f → Occurs x f → Occurs y f → ¬ (x ≡ y)
    → (together x y ps ≡ false) ↔ PapersSay n f x y
papers_rule n f ps x y parts below in_x in_y other = (
  (λ none.
      let s = separated_if_not_together x y ps f parts in_x none in
      papers_say_if_closed n f x y s.0 (parts_asc f ps parts) s.1 s.2 s.3),
  (λ say.
      not_together_if_separated x y ps f parts
      (separated_if_papers_say n f x y (parts_asc f ps parts) (small_if_below n f below) in_x in_y other say)),
)

-- the same for the parts that the polynomial has: every one but zero has them
pub papers_rule_of_parts : (n : ℕ) (f : List ℕ) (x y : ℕ) → Asc f → ¬ (f ≡ []) → Below n f → Occurs x f → Occurs y f → ¬ (x ≡ y)
    → (together x y (parts_of f) ≡ false) ↔ PapersSay n f x y
papers_rule_of_parts n f x y asc some = papers_rule n f (parts_of f) x y (parts_of_is_parts f asc some)

-- ---- for y = x both sides are zero

derivative_of_lacking : (i : ℕ) (l : List ℕ) → Lacks i l → derivative i l ≡ []
derivative_of_lacking i l free = none (derivative i l) (λ t m. let u = derivative_mem i l t m in false≢true (sym (free u.0 u.1) ∙ u.2))
  where
    none : (k : List ℕ) → ((t : ℕ) → Mem k t → ⊥) → k ≡ []
    none [] h = refl
    none (t ∷ k) h = absurd (h t (inl refl))

pub nothing_said_of_one_variable : (n : ℕ) (f : List ℕ) (x : ℕ) → PapersSay n f x x
nothing_said_of_one_variable n f x =
    same_from_equal n (derivative x f) (derivative x (lacking x f)) (lacking x f) (derivative x (derivative x f))
    (zero (derivative x f) (derivative x (lacking x f)) (derivative_of_lacking x (lacking x f) (λ t m. (lacking_mem x f t m).1))
    ∙ sym (zero (lacking x f) (derivative x (derivative x f)) (derivative_of_lacking x (derivative x f)
    (λ t m. let u = derivative_mem x f t m in ap (λ k. bit k x) u.3 ∙ cleared x u.0))))
  where
    zero : (a b : List ℕ) → b ≡ [] → mul n (value n a) (value n b) ≡ nought n
    zero a b e = ap (λ k. mul n (value n a) (value n k)) e ∙ ap (mul n (value n a)) (value_none n) ∙ mul_zero (laws n) (value n a)
