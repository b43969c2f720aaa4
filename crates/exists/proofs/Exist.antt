-- There are parts, in one way only (RULES 2.5): a polynomial other than zero has exactly one list of parts, and `parts_of` computes it.
-- Leans on Smallest for the first part, on splitting's Growing for the rest, and on unique for "exactly one".
use mathlib.Core.Path.{◌≡◌, refl, sym, subst}
use mathlib.Core.Bool.{Bool, true, false}
use mathlib.Core.Logic.{◌↔◌, inl}
use mathlib.Core.List.{List, [], ◌∷◌}
use Prim.Native.Nat.{ℕ, zero, suc, ◌≤◌, ◌<◌}
use native.Mathlib.Nat.{le_trans, le_refl, le_of_suc-le-suc}
use native.Mathlib.Omega.{arith}
use lib.Dec.{T, eqb, eqb→eq}
use Rattle.masks.specs.Bit.{without}
use Rattle.polys.specs.List.{Mem, Asc}
use Rattle.polys.specs.Poly.{vars, onto, off}
use Rattle.polys.specs.Parts.{IsParts}
use Rattle.polys.proofs.Polys.{mem_off, off_asc}
use Rattle.splitting.proofs.Part.{no_parts}
use Rattle.splitting.proofs.Growing.{Growing, growing_done, rest_falls}
use Rattle.unique.specs.Merged.{either_parts}
use Rattle.unique.proofs.Same.{parts_are_unique}
use Rattle.exists.specs.PartsOf.{first_vars, parts_in, parts_of}
use Rattle.exists.proofs.Tests.{eq_eqb}
use Rattle.exists.proofs.Smallest.{first_growing, first_closed}

-- one step: the first part, and the parts of what is left, whose variables are a smaller number
one_step : (f : List ℕ) (t : ℕ) → Asc f → Mem f t → (later : List (List ℕ))
    → (vars (off (first_vars f) f) < vars f → IsParts (off (first_vars f) f) later)
    → (b : Bool) → eqb (vars f) 0 ≡ b → IsParts f (either_parts b [] (onto (first_vars f) f ∷ later))
one_step f t asc m later rest true e = no_parts f t asc m (eqb→eq (vars f) 0 (subst T (sym e) tt))
one_step f t asc m later rest false e =
    growing_done f grown.0 (first_vars f) grown.1 asc (first_closed f varies) later
    (rest (rest_falls f grown.0 (first_vars f) grown.1))
  where
    varies : ¬ (vars f ≡ 0)
    varies z = subst T e (eq_eqb (vars f) 0 z)

    grown : (i : ℕ) × Growing f i (first_vars f)
    grown = first_growing f varies

steps_suffice : (n : ℕ) (f : List ℕ) (t : ℕ) → Asc f → Mem f t → vars f ≤ n → IsParts f (parts_in n f)
unfolding parts_in
steps_suffice zero f t asc m l = no_parts f t asc m (omega arith)
steps_suffice (suc n) f t asc m l =
    one_step f t asc m (parts_in n (off (first_vars f) f))
    (λ falls.
    steps_suffice n (off (first_vars f) f) (without (first_vars f) t) (off_asc (first_vars f) f) (mem_off (first_vars f) f t m)
    (le_of_suc-le-suc (le_trans falls l)))
    (eqb (vars f) 0) refl

-- the function gives the parts
pub parts_of_is_parts : (f : List ℕ) → Asc f → ¬ (f ≡ []) → IsParts f (parts_of f)
unfolding parts_of
parts_of_is_parts [] asc some = absurd (some refl)
parts_of_is_parts (t ∷ f) asc some = steps_suffice (vars (t ∷ f)) (t ∷ f) t asc (inl refl) (le_refl (vars (t ∷ f)))

-- there is exactly one list of parts
pub one_list_of_parts : (f : List ℕ) → Asc f → ¬ (f ≡ []) → (ps : List (List ℕ)) × IsParts f ps × ((qs : List (List ℕ)) → IsParts f qs → qs ≡ ps)
one_list_of_parts f asc some = (
  parts_of f,
  parts_of_is_parts f asc some,
  (λ qs parts. parts_are_unique f qs (parts_of f) parts (parts_of_is_parts f asc some)),
)

-- so the parts of a given polynomial are what the function computes, and nothing else
pub parts_computed : (f : List ℕ) (ps : List (List ℕ)) → Asc f → ¬ (f ≡ []) → (parts_of f ≡ ps) ↔ IsParts f ps
parts_computed f ps asc some = (
  (λ e. subst (IsParts f) e (parts_of_is_parts f asc some)),
  (λ parts. parts_are_unique f (parts_of f) ps (parts_of_is_parts f asc some) parts),
)
