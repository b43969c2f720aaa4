-- The parts of a polynomial are its irreducible factors over GF(2): each of them is irreducible, their ordinary product is the polynomial, and every
-- irreducible polynomial that divides it is one of them. Leans on Factors, and on unique: there is one list of parts.
use Prim.Native.Nat.{ℕ}
use mathlib.Core.Path.{◌≡◌, refl, sym, ap, ap₂, ◌∙◌, subst}
use mathlib.Core.Bool.{Bool, true, false}
use mathlib.Core.List.{List, [], ◌∷◌, map, foldr, Memᴰ}
use lib.Bits.{bit_and}
use lib.Dec.{ltb}
use Rattle.masks.proofs.Sets.{bit_of_subset}
use Rattle.polys.specs.List.{Mem, Asc}
use Rattle.polys.specs.Poly.{vars, Irreducible}
use Rattle.polys.specs.Parts.{product, Each, IsParts}
use Rattle.polys.proofs.Polys.{times_mem, vars_times}
use Rattle.splitting.proofs.Products.{product_none, each_in_product, product_asc}
use Rattle.unique.specs.Merged.{lowest, either_parts, place}
use Rattle.unique.proofs.First.{rest_is_parts, apart_rest, is_product}
use Rattle.unique.proofs.Merge.{place_is_parts, parts_asc, parts_term}
use Rattle.unique.proofs.Same.{parts_are_unique}
use Rattle.exists.specs.PartsOf.{parts_of}
use Rattle.exists.proofs.Exist.{parts_of_is_parts}
use Rattle.ring.specs.Same.{Monomial, ordinary, multiplied, Same}
use Rattle.ring.proofs.Series.{times as mul}
use Rattle.ring.proofs.Value.{value}
use Rattle.ring.proofs.Built.{value_of_built}
use Rattle.ring.proofs.Sums.{sum, sum_multiplied, value_is_sum}
use Rattle.ring.proofs.Bridge.{same_exactly_if_sums_equal}
use Rattle.rule.specs.Rule.{Below}
use Rattle.factors.specs.Ordinary.{IrreducibleGF2}
use Rattle.factors.proofs.Factors.{ordinary_factors_are_lists, one, one_is_ordinary, same_trans, constant_if_same, factor_below, irreducible_exactly_if_over_gf2}

-- each part is irreducible over GF(2)
pub parts_are_irreducible_over_gf2 : (n : ℕ) (f : List ℕ) (ps : List (List ℕ)) → IsParts f ps → Below n f → Each (λ p. IrreducibleGF2 n (ordinary p)) ps
parts_are_irreducible_over_gf2 n f ps parts below = go ps parts.ascending parts.irreducible (each_in_product ps parts.irreducible)
  where
    go : (qs : List (List ℕ)) → Each Asc qs → Each Irreducible qs → Each (λ p. bit_and (vars p) (vars (product ps)) ≡ vars p) qs
        → Each (λ p. IrreducibleGF2 n (ordinary p)) qs
    go [] a i h = tt
    go (p ∷ qs) a i h = (
      (irreducible_exactly_if_over_gf2 n p a.0
          (λ k o. below k (bit_of_subset (vars p) (vars f) k (ap (λ l. bit_and (vars p) (vars l)) (sym parts.multiply) ∙ h.0) o))).0 i.0,
      go qs a.1 i.1 h.1,
    )

-- and their ordinary product is f
sum_of_parts : (n : ℕ) (f : List ℕ) (ps : List (List ℕ)) → IsParts f ps → sum n (foldr multiplied ((λ i. 0) ∷ []) (map ordinary ps)) ≡ value n f
sum_of_parts n f [] parts =
    ap (sum n) (sym one_is_ordinary) ∙ sym (value_is_sum n one) ∙ ap (value n) (sym product_none ∙ parts.multiply)
sum_of_parts n f (p ∷ ps) parts =
    sum_multiplied n (ordinary p) (foldr multiplied ((λ i. 0) ∷ []) (map ordinary ps))
    ∙ ap₂ (mul n) (sym (value_is_sum n p)) (sum_of_parts n (product ps) ps (rest_is_parts p ps f parts))
    ∙ sym (value_of_built n p (product ps) parts.ascending.0 (product_asc ps) (apart_rest p ps f parts))
    ∙ ap (value n) (is_product p ps f parts)

pub parts_multiply_over_gf2 : (n : ℕ) (f : List ℕ) (ps : List (List ℕ)) → IsParts f ps
    → Same n (ordinary f) (foldr multiplied ((λ i. 0) ∷ []) (map ordinary ps))
parts_multiply_over_gf2 n f ps parts =
    (same_exactly_if_sums_equal n (ordinary f) (foldr multiplied ((λ i. 0) ∷ []) (map ordinary ps))).1
    (sym (value_is_sum n f) ∙ sym (sum_of_parts n f ps parts))

-- ---- every irreducible divisor is a part

placed : (p : List ℕ) (qs : List (List ℕ)) → Memᴰ p (place p qs)
unfolding place
placed p [] = Memᴰ.head refl
placed p (q ∷ qs) = go (ltb (lowest p) (lowest q)) (placed p qs)
  where
    go : (b : Bool) → Memᴰ p (place p qs) → Memᴰ p (either_parts b (p ∷ q ∷ qs) (q ∷ place p qs))
    go true m = Memᴰ.head refl
    go false m = Memᴰ.tail m

-- an irreducible g that divides f is one of the parts of f
pub irreducible_divisor_is_a_part : (n : ℕ) (f : List ℕ) (ps : List (List ℕ)) (g h : List Monomial) → IsParts f ps → Below n f
    → IrreducibleGF2 n g → Same n (ordinary f) (multiplied g h) → (p : List ℕ) × Memᴰ p ps × Same n g (ordinary p)
irreducible_divisor_is_a_part n f ps g h parts below i e =
    let t = parts_term f ps parts in
    let s = ordinary_factors_are_lists n f g h (parts_asc f ps parts) (λ z. subst (λ l. Mem l t.0) z t.1) below e in
    let a = s.0 in
    let b = s.1 in
    let u = times_mem a b t.0 (subst (λ l. Mem l t.0) s.7 t.1) in
    let below_a : Below n a = factor_below n f a b below (ap vars s.7 ∙ vars_times a b u.0 u.1 u.2 u.3) in
    let whole : Irreducible a = (irreducible_exactly_if_over_gf2 n a s.2 below_a).1 (transported (ordinary a) s.4) in
    let rest : IsParts b (parts_of b) = parts_of_is_parts b s.3 (λ z. subst (λ l. Mem l u.1) z u.3) in
    let all : IsParts f (place a (parts_of b)) =
    subst (λ l. IsParts l (place a (parts_of b))) (sym s.7) (place_is_parts a (parts_of b) b s.2 whole rest s.6) in
    (a, subst (Memᴰ a) (parts_are_unique f (place a (parts_of b)) ps all parts) (placed a (parts_of b)), s.4)
  where
    transported : (k : List Monomial) → Same n g k → IrreducibleGF2 n k
    transported k s = record {
      varies = λ c. i.varies (constant_if_same n g k s c);
      whole = λ x y nx ny d. i.whole x y nx ny (same_trans n g k (multiplied x y) s d);
    }
