-- The ways of writing f as a product of two with no common variable are the choices among its parts: each choice gives one, and each comes
-- from exactly one choice. Leans on First (a closed set holds all of a part or nothing) and on the projections of products.
use mathlib.Core.Path.{◌≡◌, refl, sym, ap, ap₂, ◌∙◌, subst}
use mathlib.Core.Bool.{Bool, true, false, not}
use mathlib.Core.Logic.{inl, ⊎_elim}
use mathlib.Core.List.{List, [], ◌∷◌, map}
use Prim.Native.Nat.{ℕ, suc}
use native.Mathlib.Nat.{suc_inj, suc-ne-zero}
use lib.Bits.{bit_and, bit_or}
use lib.ListN.{length}
use Rattle.masks.specs.Bit.{without}
use Rattle.masks.proofs.Reflect.{identity, ∅, ◌∩◌, ◌∪◌, ◌≐◌, apart, ∴◌, ◌⇒◌}
use Rattle.masks.proofs.Sets.{apart_sym, apart_or, without_apart}
use Rattle.polys.specs.List.{Mem, Asc}
use Rattle.polys.specs.Poly.{vars, onto, off, times, Apart, Irreducible}
use Rattle.polys.specs.Parts.{product, Each, AllApart, IsParts}
use Rattle.polys.proofs.Polys.{times_mem, times_comm, times_assoc, times_one_left, vars_one, vars_off}
use Rattle.splitting.specs.Mix.{Closed}
use Rattle.splitting.proofs.Splits.{closed_product}
use Rattle.splitting.proofs.Image.{closed_onto, closed_off, onto_times, off_times, onto_inside, onto_outside, off_inside, off_outside, onto_product, off_product}
use Rattle.splitting.proofs.Products.{part_has_term, product_asc, product_has_term, apart_from_product, vars_product_cons}
use Rattle.unique.specs.Choice.{chosen, others}
use Rattle.unique.proofs.First.{all_or_nothing}

-- ---- a choice fits a set of variables: it holds all of each marked part and nothing of the others

abbrev Fits : ℕ → List Bool → List (List ℕ) → Type 0
Fits y [] [] = Unit {0}
Fits y [] (p ∷ ps) = ⊥
Fits y (m ∷ c) [] = ⊥
Fits y (true ∷ c) (p ∷ ps) = (bit_and y (vars p) ≡ vars p) × Fits y c ps
Fits y (false ∷ c) (p ∷ ps) = (bit_and y (vars p) ≡ 0) × Fits y c ps

fits_length : (y : ℕ) (c : List Bool) (ps : List (List ℕ)) → Fits y c ps → length c ≡ length ps
fits_length y [] [] h = refl
fits_length y [] (p ∷ ps) h = absurd h
fits_length y (m ∷ c) [] h = absurd h
fits_length y (true ∷ c) (p ∷ ps) h = ap suc (fits_length y c ps h.1)
fits_length y (false ∷ c) (p ∷ ps) h = ap suc (fits_length y c ps h.1)

fits_unique : (y : ℕ) (c d : List Bool) (ps : List (List ℕ)) → Each Irreducible ps → Fits y c ps → Fits y d ps → c ≡ d
fits_unique y [] [] ps i h k = refl
fits_unique y [] (m ∷ d) [] i h k = absurd k
fits_unique y [] (m ∷ d) (p ∷ ps) i h k = absurd h
fits_unique y (m ∷ c) [] [] i h k = absurd h
fits_unique y (m ∷ c) [] (p ∷ ps) i h k = absurd k
fits_unique y (m ∷ c) (n ∷ d) [] i h k = absurd h
fits_unique y (true ∷ c) (true ∷ d) (p ∷ ps) i h k = ap (◌∷◌ true) (fits_unique y c d ps i.1 h.1 k.1)
fits_unique y (true ∷ c) (false ∷ d) (p ∷ ps) i h k = absurd (i.0.varies (sym h.0 ∙ k.0))
fits_unique y (false ∷ c) (true ∷ d) (p ∷ ps) i h k = absurd (i.0.varies (sym k.0 ∙ h.0))
fits_unique y (false ∷ c) (false ∷ d) (p ∷ ps) i h k = ap (◌∷◌ false) (fits_unique y c d ps i.1 h.1 k.1)

-- a closed set is fitted by a choice
fits_exists : (y : ℕ) (ps : List (List ℕ)) → Each Asc ps → Each Irreducible ps → Each (Closed y) ps → (c : List Bool) × Fits y c ps
fits_exists y [] a i h = ([], tt)
fits_exists y (p ∷ ps) a i h =
    let r = fits_exists y ps a.1 i.1 h.1 in
    ⊎_elim (λ e. (false ∷ r.0, (e, r.1))) (λ e. (true ∷ r.0, (e, r.1))) (all_or_nothing p y a.0 i.0 h.0)

-- ---- what leaves the marked parts alone and empties the others takes their product to the product of the marked

abbrev Sends : (List ℕ → List ℕ) → List Bool → List (List ℕ) → Type 0
Sends proj [] [] = Unit {0}
Sends proj [] (p ∷ ps) = ⊥
Sends proj (m ∷ c) [] = ⊥
Sends proj (true ∷ c) (p ∷ ps) = (proj p ≡ p) × Sends proj c ps
Sends proj (false ∷ c) (p ∷ ps) = (proj p ≡ 0 ∷ []) × Sends proj c ps

module _ (proj : List ℕ → List ℕ) (of_times : (g h : List ℕ) → proj (times g h) ≡ times (proj g) (proj h)) (of_one : proj (0 ∷ []) ≡ 0 ∷ []) where
  sends_product : (c : List Bool) (ps : List (List ℕ)) → Sends proj c ps → proj (product ps) ≡ product (chosen c ps)
  unfolding chosen product
  sends_product [] [] h = of_one
  sends_product [] (p ∷ ps) h = absurd h
  sends_product (m ∷ c) [] h = absurd h
  sends_product (true ∷ c) (p ∷ ps) h = of_times p (product ps) ∙ ap₂ times h.0 (sends_product c ps h.1)
  sends_product (false ∷ c) (p ∷ ps) h =
      of_times p (product ps) ∙ ap₂ times h.0 (sends_product c ps h.1) ∙ times_one_left (product (chosen c ps)) (product_asc (chosen c ps))

module _ (y : ℕ) where
  onto_sends : (c : List Bool) (ps : List (List ℕ)) → Each Asc ps → Each Irreducible ps → Fits y c ps → Sends (onto y) c ps
  onto_sends [] [] a i h = tt
  onto_sends [] (p ∷ ps) a i h = absurd h
  onto_sends (m ∷ c) [] a i h = absurd h
  onto_sends (true ∷ c) (p ∷ ps) a i h = (onto_inside y p a.0 h.0, onto_sends c ps a.1 i.1 h.1)
  onto_sends (false ∷ c) (p ∷ ps) a i h =
      let t = part_has_term p i.0 in (onto_outside y p t.0 t.1 h.0, onto_sends c ps a.1 i.1 h.1)

  off_sends : (c : List Bool) (ps : List (List ℕ)) → Each Asc ps → Each Irreducible ps → Fits y c ps → Sends (off y) (map not c) ps
  off_sends [] [] a i h = tt
  off_sends [] (p ∷ ps) a i h = absurd h
  off_sends (m ∷ c) [] a i h = absurd h
  off_sends (true ∷ c) (p ∷ ps) a i h =
      let t = part_has_term p i.0 in (off_inside y p t.0 t.1 h.0, off_sends c ps a.1 i.1 h.1)
  off_sends (false ∷ c) (p ∷ ps) a i h = (off_outside y p a.0 h.0, off_sends c ps a.1 i.1 h.1)

  nothing_in_one : bit_and y (vars (0 ∷ [])) ≡ 0
  nothing_in_one = ap (bit_and y) vars_one ∙ identity 1 (λ y. ∴ y ∩ ∅ ≐ ∅) tt y

  pub onto_fits : (c : List Bool) (ps : List (List ℕ)) → Each Asc ps → Each Irreducible ps → Fits y c ps → onto y (product ps) ≡ product (chosen c ps)
  onto_fits c ps a i h = sends_product (onto y) (onto_times y) (onto_outside y (0 ∷ []) 0 (inl refl) nothing_in_one) c ps (onto_sends c ps a i h)

  pub off_fits : (c : List Bool) (ps : List (List ℕ)) → Each Asc ps → Each Irreducible ps → Fits y c ps → off y (product ps) ≡ product (others c ps)
  unfolding others
  off_fits c ps a i h = sends_product (off y) (off_times y) (off_outside y (0 ∷ []) (tt, tt) nothing_in_one) (map not c) ps (off_sends c ps a i h)

-- ---- a set closed for the product is closed for each part

closed_each : (z : ℕ) (ps : List (List ℕ)) → Each Asc ps → Each Irreducible ps → AllApart ps → Closed z (product ps) → Each (Closed z) ps
unfolding product
closed_each z [] a i o h = tt
closed_each z (p ∷ ps) a i o h =
    let s = part_has_term p i.0 in
    let t = product_has_term ps i.1 in
    let o' = apart_from_product (vars p) ps i.1 o.0 in (
      subst (Closed z) (onto_product p (product ps) o' t.0 a.0 t.1) (closed_onto z (vars p) (times p (product ps)) h),
      closed_each z ps a.1 i.1 o.1
          (subst (Closed z) (off_product p (product ps) o' s.0 (product_asc ps) s.1) (closed_off z (vars p) (times p (product ps)) h)),
    )

-- ---- what a choice gives

each_chosen : (P : List ℕ → Type 0) (c : List Bool) (ps : List (List ℕ)) → Each P ps → Each P (chosen c ps)
unfolding chosen
each_chosen P [] ps e = tt
each_chosen P (m ∷ c) [] e = tt
each_chosen P (true ∷ c) (p ∷ ps) e = (e.0, each_chosen P c ps e.1)
each_chosen P (false ∷ c) (p ∷ ps) e = each_chosen P c ps e.1

-- a choice fits the variables of what it chooses
fits_wider : (v y : ℕ) (c : List Bool) (ps : List (List ℕ)) → Each (λ p. bit_and v (vars p) ≡ 0) ps → Fits y c ps → Fits (bit_or v y) c ps
fits_wider v y [] [] e h = tt
fits_wider v y [] (p ∷ ps) e h = absurd h
fits_wider v y (m ∷ c) [] e h = absurd h
fits_wider v y (true ∷ c) (p ∷ ps) e h = (still v y (vars p) e.0 h.0, fits_wider v y c ps e.1 h.1)
  where
    still : (v y p : ℕ) → bit_and v p ≡ 0 → bit_and y p ≡ p → bit_and (bit_or v y) p ≡ p
    still = identity 3 (λ v y p. apart v p ⇒ y ∩ p ≐ p ⇒ ∴ (v ∪ y) ∩ p ≐ p) tt
fits_wider v y (false ∷ c) (p ∷ ps) e h = (apart_or v y (vars p) e.0 h.0, fits_wider v y c ps e.1 h.1)

choice_fits : (c : List Bool) (ps : List (List ℕ)) → length c ≡ length ps → Each Irreducible ps → AllApart ps
    → Fits (vars (product (chosen c ps))) c ps
unfolding chosen
choice_fits [] [] l i o = tt
choice_fits [] (p ∷ ps) l i o = absurd (suc-ne-zero (length ps) (sym l))
choice_fits (m ∷ c) [] l i o = absurd (suc-ne-zero (length c) l)
choice_fits (true ∷ c) (p ∷ ps) l i o =
    subst (λ y. Fits y (true ∷ c) (p ∷ ps)) (sym (vars_product_cons p (chosen c ps) i.0 (each_chosen Irreducible c ps i.1))) (
      holds_first (vars p) (vars (product (chosen c ps))),
      fits_wider (vars p) (vars (product (chosen c ps))) c ps o.0 (choice_fits c ps (suc_inj l) i.1 o.1),
    )
  where
    holds_first : (p y : ℕ) → bit_and (bit_or p y) p ≡ p
    holds_first = identity 2 (λ p y. ∴ (p ∪ y) ∩ p ≐ p) tt
choice_fits (false ∷ c) (p ∷ ps) l i o = (
  apart_sym (vars p) (vars (product (chosen c ps)))
      (apart_from_product (vars p) (chosen c ps) (each_chosen Irreducible c ps i.1) (each_chosen (Apart p) c ps o.0)),
  choice_fits c ps (suc_inj l) i.1 o.1,
)

choice_times : (c : List Bool) (ps : List (List ℕ)) → length c ≡ length ps → times (product (chosen c ps)) (product (others c ps)) ≡ product ps
unfolding chosen others product
choice_times [] [] l = times_one_left (0 ∷ []) (tt, tt)
choice_times [] (p ∷ ps) l = absurd (suc-ne-zero (length ps) (sym l))
choice_times (m ∷ c) [] l = absurd (suc-ne-zero (length c) l)
choice_times (true ∷ c) (p ∷ ps) l =
    times_assoc p (product (chosen c ps)) (product (others c ps)) ∙ ap (times p) (choice_times c ps (suc_inj l))
choice_times (false ∷ c) (p ∷ ps) l =
    times_comm (product (chosen c ps)) (times p (product (others c ps)))
    ∙ times_assoc p (product (others c ps)) (product (chosen c ps))
    ∙ ap (times p) (times_comm (product (others c ps)) (product (chosen c ps)) ∙ choice_times c ps (suc_inj l))

module _ (f : List ℕ) (ps : List (List ℕ)) (parts : IsParts f ps) where
  -- a choice gives two polynomials with no common variable whose product is f
  pub choice_gives_factors : (c : List Bool) → length c ≡ length ps
      → Asc (product (chosen c ps)) × Asc (product (others c ps)) × Apart (product (chosen c ps)) (product (others c ps))
      × (times (product (chosen c ps)) (product (others c ps)) ≡ f)
  choice_gives_factors c l = (
    product_asc (chosen c ps),
    product_asc (others c ps),
    ap (bit_and mine) (ap vars (sym (off_fits mine c ps parts.ascending parts.irreducible fits)) ∙ vars_off mine (product ps))
        ∙ apart_sym (without mine (vars (product ps))) mine (without_apart mine (vars (product ps))),
    choice_times c ps l ∙ parts.multiply,
  )
    where
      mine : ℕ
      mine = vars (product (chosen c ps))

      fits : Fits mine c ps
      fits = choice_fits c ps l parts.irreducible parts.apart

  -- and each such pair comes from exactly one choice
  pub factors_give_choice : (g h : List ℕ) → Asc g → Asc h → Apart g h → times g h ≡ f
      → (c : List Bool) × (length c ≡ length ps) × (g ≡ product (chosen c ps)) × (h ≡ product (others c ps))
      × ((d : List Bool) → length d ≡ length ps → g ≡ product (chosen d ps) → d ≡ c)
  factors_give_choice g h ag ah a e = (
    found.0,
    fits_length (vars g) found.0 ps found.1,
    sym (onto_product g h a ends.1 ag ends.3) ∙ ap (onto (vars g)) whole
        ∙ onto_fits (vars g) found.0 ps parts.ascending parts.irreducible found.1,
    sym (off_product g h a ends.0 ah ends.2) ∙ ap (off (vars g)) whole
        ∙ off_fits (vars g) found.0 ps parts.ascending parts.irreducible found.1,
    λ d l k. fits_unique (vars g) d found.0 ps parts.irreducible
        (subst (λ y. Fits y d ps) (ap vars (sym k)) (choice_fits d ps l parts.irreducible parts.apart)) found.1,
  )
    where
      whole : times g h ≡ product ps
      whole = e ∙ sym parts.multiply

      ends : (s : ℕ) × (t : ℕ) × Mem g s × Mem h t
      ends =
          let t = product_has_term ps parts.irreducible in
          let u = times_mem g h t.0 (subst (λ k. Mem k t.0) (sym whole) t.1) in
          (u.0, u.1, u.2, u.3)

      found : (c : List Bool) × Fits (vars g) c ps
      found =
          fits_exists (vars g) ps parts.ascending parts.irreducible
          (closed_each (vars g) ps parts.ascending parts.irreducible parts.apart
          (subst (Closed (vars g)) whole (closed_product g h a)))
