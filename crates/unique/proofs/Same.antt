-- A polynomial has one list of parts. Leans on First: the first part is the projection onto the smallest closed set that holds the lowest
-- variable, and the other parts are the parts of the other projection.
use mathlib.Core.Path.{◌≡◌, refl, sym, ap, ap₂, ◌∙◌, subst}
use mathlib.Core.List.{List, [], ◌∷◌}
use Prim.Native.Nat.{ℕ}
use native.Mathlib.Nat.{pos_of_ne-zero}
use lib.Bits.{and_comm}
use Rattle.masks.proofs.Lowest.{low_is_lowest}
use Rattle.polys.specs.Poly.{vars, onto, off}
use Rattle.polys.specs.Parts.{product, IsParts}
use Rattle.splitting.proofs.Products.{vars_product_none}
use Rattle.unique.proofs.First.{first_is_projection, rest_is_projection, closed_first, first_is_smallest, lowest_in_first, whole_varies, rest_is_parts}

parts_of_constant : (f : List ℕ) → IsParts f [] → vars f ≡ 0
parts_of_constant f parts = ap vars (sym parts.multiply) ∙ vars_product_none

same_first_vars : (p q : List ℕ) (ps qs : List (List ℕ)) (f : List ℕ) → IsParts f (p ∷ ps) → IsParts f (q ∷ qs) → vars p ≡ vars q
same_first_vars p q ps qs f P Q =
    let low = low_is_lowest (vars f) (pos_of_ne-zero (whole_varies p ps f P)) in
    let in_p = lowest_in_first p ps f P low.0 low.2 in
    let inQ = lowest_in_first q qs f Q low.0 low.2 in
    sym (first_is_smallest p ps f P (vars q) low.0 (closed_first q qs f Q) inQ in_p)
    ∙ and_comm (vars q) (vars p)
    ∙ first_is_smallest q qs f Q (vars p) low.0 (closed_first p ps f P) in_p inQ

pub parts_are_unique : (f : List ℕ) (ps qs : List (List ℕ)) → IsParts f ps → IsParts f qs → ps ≡ qs
parts_are_unique f [] [] P Q = refl
parts_are_unique f [] (q ∷ qs) P Q = absurd (whole_varies q qs f Q (parts_of_constant f P))
parts_are_unique f (p ∷ ps) [] P Q = absurd (whole_varies p ps f P (parts_of_constant f Q))
parts_are_unique f (p ∷ ps) (q ∷ qs) P Q =
    ap₂ ◌∷◌
    (sym (first_is_projection p ps f P) ∙ ap (λ v. onto v f) same ∙ first_is_projection q qs f Q)
    (parts_are_unique (product ps) ps qs (rest_is_parts p ps f P) (subst (λ g. IsParts g qs) (sym rests) (rest_is_parts q qs f Q)))
  where
    same : vars p ≡ vars q
    same = same_first_vars p q ps qs f P Q

    rests : product ps ≡ product qs
    rests = sym (rest_is_projection p ps f P) ∙ ap (λ v. off v f) same ∙ rest_is_projection q qs f Q
