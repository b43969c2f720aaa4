-- Counting: the lengths of the parts multiply to the length of f, so their sum is at most that length and one for each part; and there are no
-- more parts than f has variables. Leans on the counts of products (polys) and the number of variables of a mask.
use mathlib.Core.Path.{◌≡◌, refl, sym, ap, ◌∙◌, subst}
use mathlib.Core.List.{List, [], ◌∷◌}
use Prim.Native.Nat.{ℕ, zero, suc, ◌+◌, ◌*◌, ◌≤◌, ◌<◌, zero-le, suc-le-suc}
use native.Mathlib.Nat.{suc-mul, not-suc-le-zero, le-mul_of_pos_right, mul-pos, zero-lt-suc}
use native.Mathlib.Omega.{arith}
use lib.Count.{ones}
use lib.ListN.{length}
use Rattle.masks.proofs.Number.{ones_disjoint, ones_pos}
use Rattle.polys.specs.List.{Mem, Asc}
use Rattle.polys.specs.Poly.{vars, Irreducible}
use Rattle.polys.specs.Parts.{product, Each, AllApart, IsParts}
use Rattle.polys.proofs.Counts.{length_times}
use Rattle.splitting.proofs.Products.{part_has_term, product_asc, apart_from_product, vars_product_cons}
use Rattle.unique.specs.Lengths.{lengths_multiplied, lengths_added}

product_length : (ps : List (List ℕ)) → Each Asc ps → Each Irreducible ps → AllApart ps → length (product ps) ≡ lengths_multiplied ps
unfolding product lengths_multiplied
product_length [] a i o = refl
product_length (p ∷ ps) a i o =
    length_times p (product ps) a.0 (product_asc ps) (apart_from_product (vars p) ps i.1 o.0)
    ∙ ap (λ n. length p * n) (product_length ps a.1 i.1 o.1)

-- the lengths of the parts multiply to the length of f
pub lengths_multiply : (f : List ℕ) (ps : List (List ℕ)) → IsParts f ps → lengths_multiplied ps ≡ length f
lengths_multiply f ps parts =
    sym (product_length ps parts.ascending parts.irreducible parts.apart) ∙ ap length parts.multiply

-- ---- the sum

pub sum_below_product : (a b : ℕ) → 0 < a → 0 < b → a + b ≤ a * b + 1
sum_below_product zero b h k = absurd (not-suc-le-zero h)
sum_below_product (suc a) zero h k = absurd (not-suc-le-zero k)
sum_below_product (suc a) (suc b) h k =
    let e : suc a * suc b ≡ a * suc b + suc b = suc-mul a (suc b) in
    let d : a ≤ a * suc b = le-mul_of_pos_right a (zero-lt-suc b) in
    omega arith

length_pos : (p : List ℕ) (t : ℕ) → Mem p t → 0 < length p
length_pos [] t m = absurd m
length_pos (s ∷ p) t m = suc-le-suc zero-le

lengths_pos : (ps : List (List ℕ)) → Each Irreducible ps → 0 < lengths_multiplied ps
unfolding lengths_multiplied
lengths_pos [] i = suc-le-suc zero-le
lengths_pos (p ∷ ps) i = let t = part_has_term p i.0 in mul-pos (length_pos p t.0 t.1) (lengths_pos ps i.1)

sum_of_lengths : (ps : List (List ℕ)) → Each Irreducible ps → lengths_added ps ≤ lengths_multiplied ps + length ps
unfolding lengths_added lengths_multiplied
sum_of_lengths [] i = zero-le
sum_of_lengths (p ∷ ps) i =
    let t = part_has_term p i.0 in
    let s : length p + lengths_multiplied ps ≤ length p * lengths_multiplied ps + 1 =
    sum_below_product (length p) (lengths_multiplied ps) (length_pos p t.0 t.1) (lengths_pos ps i.1) in
    let r : lengths_added ps ≤ lengths_multiplied ps + length ps = sum_of_lengths ps i.1 in
    omega arith

-- the terms of the parts together are at most the terms of f and one for each part
pub lengths_sum : (f : List ℕ) (ps : List (List ℕ)) → IsParts f ps → lengths_added ps ≤ length f + length ps
lengths_sum f ps parts = subst (λ n. lengths_added ps ≤ n + length ps) (lengths_multiply f ps parts) (sum_of_lengths ps parts.irreducible)

-- ---- the number of parts

parts_within_variables : (ps : List (List ℕ)) → Each Irreducible ps → AllApart ps → length ps ≤ ones (vars (product ps))
parts_within_variables [] i o = zero-le
parts_within_variables (p ∷ ps) i o =
    let e : ones (vars (product (p ∷ ps))) ≡ ones (vars p) + ones (vars (product ps)) =
    ap ones (vars_product_cons p ps i.0 i.1)
    ∙ ones_disjoint (vars p) (vars (product ps)) (apart_from_product (vars p) ps i.1 o.0) in
    let s : 0 < ones (vars p) = ones_pos (vars p) i.0.varies in
    let r : length ps ≤ ones (vars (product ps)) = parts_within_variables ps i.1 o.1 in
    omega arith

-- there are no more parts than variables
pub number_of_parts : (f : List ℕ) (ps : List (List ℕ)) → IsParts f ps → length ps ≤ ones (vars f)
number_of_parts f ps parts =
    subst (λ g. length ps ≤ ones (vars g)) parts.multiply (parts_within_variables ps parts.irreducible parts.apart)
