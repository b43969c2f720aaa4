-- The three equations of halves: their symmetries, what is left of them where a half is zero, and which halves may be zero at all
-- (RULES 3.3 and 3.4). Leans on Ratio.
use mathlib.Core.Path.{◌≡◌, refl, sym, ap, ap₂, ◌∙◌}
use mathlib.Core.Bool.{Bool, true, false, ◌&&◌, ◌||◌, true≢false}
use Prim.Native.Nat.{ℕ}
use Rattle.ring.proofs.Domain.{mul_zero, product_nonzero}
use Rattle.ring.proofs.Series.{R, nought, plus, times, laws}
use Rattle.ring.proofs.Ratio.{ratio_trans, ratio_sym, cross_from_middle, middle_from_cross, degree_none}
use Rattle.ring.proofs.Value.{Equations}

module _ (n : ℕ) where
  -- ---- symmetries

  pub exchange_sides : (a₀ a₁ d₀ d₁ b₀ b₁ c₀ c₁ : R n) → Equations n a₀ a₁ d₀ d₁ b₀ b₁ c₀ c₁ → Equations n b₀ b₁ c₀ c₁ a₀ a₁ d₀ d₁
  exchange_sides a₀ a₁ d₀ d₁ b₀ b₁ c₀ c₁ e = record { high = sym e.high; low = sym e.low; middle = sym e.middle }

  pub exchange_right : (a₀ a₁ d₀ d₁ b₀ b₁ c₀ c₁ : R n) → Equations n a₀ a₁ d₀ d₁ b₀ b₁ c₀ c₁ → Equations n a₀ a₁ d₀ d₁ c₀ c₁ b₀ b₁
  exchange_right a₀ a₁ d₀ d₁ b₀ b₁ c₀ c₁ e = record {
    high = e.high ∙ (laws n).mul_comm b₁ c₁;
    low = e.low ∙ (laws n).mul_comm b₀ c₀;
    middle = e.middle ∙ ap₂ (plus n) ((laws n).mul_comm b₁ c₀) ((laws n).mul_comm b₀ c₁) ∙ (laws n).add_comm (times n c₀ b₁) (times n c₁ b₀);
  }

  -- with the variable and without it change places
  pub mirror : (a₀ a₁ d₀ d₁ b₀ b₁ c₀ c₁ : R n) → Equations n a₀ a₁ d₀ d₁ b₀ b₁ c₀ c₁ → Equations n a₁ a₀ d₁ d₀ b₁ b₀ c₁ c₀
  mirror a₀ a₁ d₀ d₁ b₀ b₁ c₀ c₁ e = record {
    high = e.low;
    low = e.high;
    middle = (laws n).add_comm (times n a₀ d₁) (times n a₁ d₀) ∙ e.middle ∙ (laws n).add_comm (times n b₁ c₀) (times n b₀ c₁);
  }

  -- ---- the variable does not occur in a and b

  module _ (a₀ a₁ d₀ d₁ b₀ b₁ c₀ c₁ : R n) (ea : a₁ ≡ nought n) (eb : b₁ ≡ nought n) where
    drop_first : (x₁ y₀ x₀ y₁ : R n) → x₁ ≡ nought n → plus n (times n x₁ y₀) (times n x₀ y₁) ≡ times n x₀ y₁
    drop_first x₁ y₀ x₀ y₁ e =
        ap (λ (u : R n). plus n u (times n x₀ y₁)) (ap (λ (u : R n). times n u y₀) e ∙ (laws n).zero_mul y₀) ∙ (laws n).zero_add (times n x₀ y₁)

    pub free_split : Equations n a₀ a₁ d₀ d₁ b₀ b₁ c₀ c₁ → (times n a₀ d₁ ≡ times n b₀ c₁) × (times n a₀ d₀ ≡ times n b₀ c₀)
    free_split e = (sym (drop_first a₁ d₀ a₀ d₁ ea) ∙ e.middle ∙ drop_first b₁ c₀ b₀ c₁ eb, e.low)

    pub free_join : (times n a₀ d₁ ≡ times n b₀ c₁) × (times n a₀ d₀ ≡ times n b₀ c₀) → Equations n a₀ a₁ d₀ d₁ b₀ b₁ c₀ c₁
    free_join p = record {
      high = ap (λ (u : R n). times n u d₁) ea ∙ (laws n).zero_mul d₁ ∙ sym (ap (λ (u : R n). times n u c₁) eb ∙ (laws n).zero_mul c₁);
      low = p.1;
      middle = drop_first a₁ d₀ a₀ d₁ ea ∙ p.0 ∙ sym (drop_first b₁ c₀ b₀ c₁ eb);
    }

  -- ---- all halves are there: a₁ / b₁, c₁ / d₁, a₀ / b₀, c₀ / d₀ are one, or a₁ / c₁, b₁ / d₁, a₀ / c₀, b₀ / d₀ are

  pub equations_stable : (a₀ a₁ d₀ d₁ b₀ b₁ c₀ c₁ : R n) → ¬ ¬ Equations n a₀ a₁ d₀ d₁ b₀ b₁ c₀ c₁ → Equations n a₀ a₁ d₀ d₁ b₀ b₁ c₀ c₁
  equations_stable a₀ a₁ d₀ d₁ b₀ b₁ c₀ c₁ h = record {
    high = (laws n).stable (times n a₁ d₁) (times n b₁ c₁) (λ m. h (λ e. m e.high));
    low = (laws n).stable (times n a₀ d₀) (times n b₀ c₀) (λ m. h (λ e. m e.low));
    middle = (laws n).stable (plus n (times n a₁ d₀) (times n a₀ d₁)) (plus n (times n b₁ c₀) (times n b₀ c₁)) (λ m. h (λ e. m e.middle));
  }

  module _ (a₀ a₁ d₀ d₁ b₀ b₁ c₀ c₁ : R n) (nb₀ : ¬ (b₀ ≡ nought n)) where
    -- four ratios that are one give the three equations
    pub equations_one_way : ¬ (b₁ ≡ nought n) → times n a₁ d₁ ≡ times n b₁ c₁ → (times n a₁ b₀ ≡ times n b₁ a₀) × (times n a₁ d₀ ≡ times n b₁ c₀)
        → Equations n a₀ a₁ d₀ d₁ b₀ b₁ c₀ c₁
    equations_one_way nb₁ high e =
        let low : times n a₀ d₀ ≡ times n b₀ c₀ = ratio_trans (laws n) a₀ b₀ a₁ b₁ c₀ d₀ nb₁ (ratio_sym (laws n) a₁ b₁ a₀ b₀ e.0) e.1 in
        record { high = high; low = low; middle = middle_from_cross (laws n) a₀ a₁ d₀ d₁ b₀ b₁ c₀ c₁ high low nb₀ nb₁ (e.0 ∙ (laws n).mul_comm b₁ a₀) }

    -- where the three equations hold and the first four are not one, the other four are
    pub other_way : ¬ (c₀ ≡ nought n) → Equations n a₀ a₁ d₀ d₁ b₀ b₁ c₀ c₁ → ¬ ((times n a₁ b₀ ≡ times n b₁ a₀) × (times n a₁ d₀ ≡ times n b₁ c₀))
        → (times n a₁ c₀ ≡ times n c₁ a₀) × (times n a₁ d₀ ≡ times n c₁ b₀)
    other_way nc₀ e none =
        let cross : times n a₁ c₀ ≡ times n a₀ c₁ = cross_from_middle (laws n) a₀ a₁ d₀ d₁ b₀ b₁ c₀ c₁ e.high e.low e.middle (λ f. none (one_way f)) in
        let same : times n a₁ c₀ ≡ times n c₁ a₀ = cross ∙ (laws n).mul_comm a₀ c₁ in
        (same, ratio_trans (laws n) a₁ c₁ a₀ c₀ b₀ d₀ nc₀ same (e.low ∙ (laws n).mul_comm b₀ c₀))
      where
        one_way : times n a₁ b₀ ≡ times n a₀ b₁ → (times n a₁ b₀ ≡ times n b₁ a₀) × (times n a₁ d₀ ≡ times n b₁ c₀)
        one_way f =
            let same : times n a₁ b₀ ≡ times n b₁ a₀ = f ∙ (laws n).mul_comm a₀ b₁ in
            (same, ratio_trans (laws n) a₁ b₁ a₀ b₀ c₀ d₀ nb₀ same e.low)

  -- ---- which halves may be zero

  -- p tells whether x is nonzero
  abbrev pub Tells : Bool → R n → Type 0
  Tells true x = ¬ (x ≡ nought n)
  Tells false x = x ≡ nought n

  both_tell : (p q : Bool) (x y : R n) → Tells p x → Tells q y → Tells (p && q) (times n x y)
  both_tell true true x y hx hy = product_nonzero (laws n) x y hx hy
  both_tell true false x y hx hy = ap (times n x) hy ∙ mul_zero (laws n) x
  both_tell false q x y hx hy = ap (λ (u : R n). times n u y) hx ∙ (laws n).zero_mul y

  told_alike : (p q : Bool) (x y : R n) → x ≡ y → Tells p x → Tells q y → p ≡ q
  told_alike true true x y e hx hy = refl
  told_alike true false x y e hx hy = absurd (hx (e ∙ hy))
  told_alike false true x y e hx hy = absurd (hy (sym e ∙ hx))
  told_alike false false x y e hx hy = refl

  tells_zero : (p : Bool) (x : R n) → Tells p x → x ≡ nought n → p ≡ false
  tells_zero true x h e = absurd (h e)
  tells_zero false x h e = refl

  or_by_false : (p q r s : Bool) → ((p ≡ false) × (q ≡ false) → (r ≡ false) × (s ≡ false)) → ((r ≡ false) × (s ≡ false) → (p ≡ false) × (q ≡ false)) → p || q ≡ r || s
  or_by_false true q true s f g = refl
  or_by_false true q false true f g = refl
  or_by_false true q false false f g = absurd (true≢false (g (refl, refl)).0)
  or_by_false false true true s f g = refl
  or_by_false false true false true f g = refl
  or_by_false false true false false f g = absurd (true≢false (g (refl, refl)).1)
  or_by_false false false true s f g = absurd (true≢false (f (refl, refl)).0)
  or_by_false false false false true f g = absurd (true≢false (f (refl, refl)).1)
  or_by_false false false false false f g = refl

  -- where the variable stands in neither operand of one side, it stands in none of the other
  none_over : (a₀ a₁ d₀ d₁ b₀ b₁ c₀ c₁ : R n) (pa pd pb pc : Bool) → Tells pa a₁ → Tells pd d₁ → Tells pb b₁ → Tells pc c₁
      → ¬ ((b₀ ≡ nought n) × (b₁ ≡ nought n)) → ¬ ((c₀ ≡ nought n) × (c₁ ≡ nought n)) → Equations n a₀ a₁ d₀ d₁ b₀ b₁ c₀ c₁
      → (pa ≡ false) × (pd ≡ false) → (pb ≡ false) × (pc ≡ false)
  none_over a₀ a₁ d₀ d₁ b₀ b₁ c₀ c₁ true pd pb pc ha hd hb hc nb nc e z = absurd (true≢false z.0)
  none_over a₀ a₁ d₀ d₁ b₀ b₁ c₀ c₁ false true pb pc ha hd hb hc nb nc e z = absurd (true≢false z.1)
  none_over a₀ a₁ d₀ d₁ b₀ b₁ c₀ c₁ false false pb pc ha hd hb hc nb nc e z =
      let f = exchange_right a₀ a₁ d₀ d₁ b₀ b₁ c₀ c₁ e in (
        tells_zero pb b₁ hb (degree_none (laws n) a₀ a₁ d₀ d₁ b₀ b₁ c₀ c₁ e.high e.middle ha hd nc),
        tells_zero pc c₁ hc (degree_none (laws n) a₀ a₁ d₀ d₁ c₀ c₁ b₀ b₁ f.high f.middle ha hd nb),
      )

  -- the variable stands in as many operands of one side as of the other: in both, and in at least one
  module _ (a₀ a₁ d₀ d₁ b₀ b₁ c₀ c₁ : R n) (pa pd pb pc : Bool) (ha : Tells pa a₁) (hd : Tells pd d₁) (hb : Tells pb b₁) (hc : Tells pc c₁)
      (e : Equations n a₀ a₁ d₀ d₁ b₀ b₁ c₀ c₁) where
    pub stands_in_both : pa && pd ≡ pb && pc
    stands_in_both = told_alike (pa && pd) (pb && pc) (times n a₁ d₁) (times n b₁ c₁) e.high (both_tell pa pd a₁ d₁ ha hd) (both_tell pb pc b₁ c₁ hb hc)

    pub stands_in_one :
        ¬ ((a₀ ≡ nought n) × (a₁ ≡ nought n)) → ¬ ((d₀ ≡ nought n) × (d₁ ≡ nought n))
        → ¬ ((b₀ ≡ nought n) × (b₁ ≡ nought n)) → ¬ ((c₀ ≡ nought n) × (c₁ ≡ nought n)) → pa || pd ≡ pb || pc
    stands_in_one na nd nb nc =
        or_by_false pa pd pb pc
        (none_over a₀ a₁ d₀ d₁ b₀ b₁ c₀ c₁ pa pd pb pc ha hd hb hc nb nc e)
        (none_over b₀ b₁ c₀ c₁ a₀ a₁ d₀ d₁ pb pc pa pd hb hc ha hd na nd (exchange_sides a₀ a₁ d₀ d₁ b₀ b₁ c₀ c₁ e))
