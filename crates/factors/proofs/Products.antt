-- Irreducible, said by products: a list is irreducible exactly if it is not constant and is no product of two lists with no common variable that
-- are not constant. Leans on splitting: a product is closed along the variables of either factor.
use Prim.Native.Nat.{ℕ}
use mathlib.Core.Path.{◌≡◌, sym, ap, ◌∙◌, subst}
use mathlib.Core.List.{List}
use mathlib.Core.Logic.{⊎_elim}
use lib.Bits.{bit_and, bit_or}
use Rattle.masks.specs.Bit.{without}
use Rattle.masks.proofs.Reflect.{identity, ∅, ◌∩◌, ◌∪◌, ◌∖◌, ◌≐◌, apart, ∴◌, ◌⇒◌}
use Rattle.polys.specs.List.{Asc}
use Rattle.polys.specs.Poly.{vars, onto, off, times, Apart, Irreducible}
use Rattle.polys.proofs.Polys.{onto_asc, off_asc, vars_onto, vars_off, vars_times}
use Rattle.splitting.specs.Mix.{Closed}
use Rattle.splitting.proofs.Splits.{closed_product}
use Rattle.splitting.proofs.Products.{has_term}
use Rattle.unique.proofs.First.{all_or_nothing}

-- the variables of a product of two lists that are not constant are those of both
pub vars_of_product : (f g h : List ℕ) → f ≡ times g h → ¬ (vars g ≡ 0) → ¬ (vars h ≡ 0) → vars f ≡ bit_or (vars g) (vars h)
vars_of_product f g h e ng nh =
    let s = has_term g ng in let t = has_term h nh in ap vars e ∙ vars_times g h s.0 t.0 s.1 t.1

pub no_product_if_irreducible : (f g h : List ℕ) → Asc f → Irreducible f → Apart g h → f ≡ times g h → ¬ (vars g ≡ 0) → ¬ (vars h ≡ 0) → ⊥
no_product_if_irreducible f g h asc whole no_common e ng nh =
    ⊎_elim (λ z. ng (nothing (vars g) (vars h) (vars f) all z)) (λ z. nh (everything (vars g) (vars h) (vars f) all no_common z))
    (all_or_nothing f (vars g) asc whole (subst (Closed (vars g)) (sym e) (closed_product g h no_common)))
  where
    all : vars f ≡ bit_or (vars g) (vars h)
    all = vars_of_product f g h e ng nh

    nothing : (v w u : ℕ) → u ≡ bit_or v w → bit_and v u ≡ 0 → v ≡ 0
    nothing = identity 3 (λ v w u. u ≐ v ∪ w ⇒ apart v u ⇒ ∴ v ≐ ∅) tt

    everything : (v w u : ℕ) → u ≡ bit_or v w → bit_and v w ≡ 0 → bit_and v u ≡ u → w ≡ 0
    everything = identity 3 (λ v w u. u ≐ v ∪ w ⇒ apart v w ⇒ v ∩ u ≐ u ⇒ ∴ w ≐ ∅) tt

pub irreducible_if_no_product : (f : List ℕ) → ¬ (vars f ≡ 0)
    → ((g h : List ℕ) → Asc g → Asc h → Apart g h → f ≡ times g h → ¬ (vars g ≡ 0) → ¬ (vars h ≡ 0) → ⊥) → Irreducible f
irreducible_if_no_product f varies none = record {
  varies = varies;
  whole =
      λ y some not_all splits. none (onto y f) (off y f) (onto_asc y f) (off_asc y f)
      (within y f) splits (λ z. some (inside y (vars f) (sym (vars_onto y f) ∙ z))) (λ z. not_all (outside y (vars f) (sym (vars_off y f) ∙ z)));
}
  where
    within : (y : ℕ) (f : List ℕ) → Apart (onto y f) (off y f)
    within y f =
        identity 4 (λ y v a b. a ≐ v ∩ y ⇒ b ≐ v ∖ y ⇒ ∴ apart a b) tt y (vars f) (vars (onto y f)) (vars (off y f)) (vars_onto y f) (vars_off y f)

    inside : (y v : ℕ) → bit_and v y ≡ 0 → bit_and y v ≡ 0
    inside = identity 2 (λ y v. apart v y ⇒ ∴ apart y v) tt

    outside : (y v : ℕ) → without y v ≡ 0 → bit_and y v ≡ v
    outside = identity 2 (λ y v. v ∖ y ≐ ∅ ⇒ ∴ y ∩ v ≐ v) tt
