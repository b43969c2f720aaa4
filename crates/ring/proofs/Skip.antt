-- Variables that are constant in each of four lists are skipped: they only say how often they stand on either side. And two lists
-- with the same bits below k have the same value there, runs with the same value the same bits. Leans on Bridge and Runs.
use mathlib.Core.Path.{◌≡◌, refl, sym, ap, ap₂, ◌∙◌, subst, fun_ext}
use mathlib.Core.Bool.{Bool, true, false, not, ◌&&◌, ◌||◌, xor, true≢false, false≢true}
use mathlib.Core.List.{List}
use Prim.Native.Nat.{ℕ, zero, suc, ◌+◌, ◌≤◌, ◌<◌}
use native.Mathlib.Nat.{not-suc-le-zero, le_of_suc-le-suc, le_refl}
use native.Mathlib.Decide.{dec_le}
use native.Mathlib.Omega.{arith}
use lib.Bits.{bit_and, bit_or, bit_xor}
use lib.Arith.{lt_of_le-ne}
use lib.Dec.{eqb}
use borrow.Author.Tests.{eq-eqb, ne_eqb}
use Rattle.masks.specs.Bit.{bit}
use Rattle.masks.proofs.Bits.{bit_and_lem, bit_or_lem, bit_xor_lem}
use Rattle.ring.specs.Same.{one_if}
use Rattle.ring.specs.Lone.{exponent}
use Rattle.ring.specs.Ends.{first, last, varying, uneven, imbalance, Four}
use Rattle.ring.proofs.Domain.{product_nonzero}
use Rattle.ring.proofs.Series.{R, nought, times, laws}
use Rattle.ring.proofs.Value.{join, value, value_none, Equal}
use Rattle.ring.proofs.Powers.{scale, powers_add, join_power}
use Rattle.ring.proofs.Runs.{AllBits, lacking_of_all, holding_of_all, constant, run_of_constant, run_nonzero}

-- ---- one constant variable

value_of_constant : (k : ℕ) (b : Bool) (l : List ℕ) → AllBits k b l → value (suc k) l ≡ join k (scale k (not b) (value k l)) (scale k b (value k l))
unfolding value scale
value_of_constant k true l h =
    ap₂ (λ (p q : List ℕ). join k (value k p) (value k q)) (lacking_of_all k true l h) (holding_of_all k true l h)
    ∙ ap (λ (u : R k). join k u (value k l)) (value_none k)
value_of_constant k false l h =
    ap₂ (λ (p q : List ℕ). join k (value k p) (value k q)) (lacking_of_all k false l h) (holding_of_all k false l h)
    ∙ ap (λ (u : R k). join k (value k l) u) (value_none k)

product_of_constants : (k : ℕ) (p q : Bool) (a d : List ℕ) → AllBits k p a → AllBits k q d → (i : ℕ)
    → times (suc k) (value (suc k) a) (value (suc k) d) i ≡ scale k (eqb (one_if p + one_if q) i) (times k (value k a) (value k d))
product_of_constants k p q a d ha hd i =
    ap₂ (λ (f g : R (suc k)). times (suc k) f g i) (value_of_constant k p a ha ∙ join_power k p (value k a)) (value_of_constant k q d hd ∙ join_power k q (value k d))
    ∙ powers_add k (one_if p) (one_if q) (value k a) (value k d) i

module _ (k : ℕ) (p q r s : Bool) (a d b c : List ℕ) (ha : AllBits k p a) (hd : AllBits k q d) (hb : AllBits k r b) (hc : AllBits k s c) where
  -- the variable stands equally often on either side: nothing is lost without it
  skip_down : one_if p + one_if q ≡ one_if r + one_if s → Equal (suc k) a d b c → Equal k a d b c
  unfolding scale
  skip_down e h =
      let n : ℕ = one_if p + one_if q in
      let unit : (x : R k) → scale k (eqb n n) x ≡ x = (λ x. ap (λ (t : Bool). scale k t x) (eq-eqb n n refl)) in
      let other : (x : R k) → scale k (eqb (one_if r + one_if s) n) x ≡ x = (λ x. ap (λ (t : Bool). scale k t x) (eq-eqb (one_if r + one_if s) n (sym e))) in
      sym (unit (times k (value k a) (value k d)))
      ∙ sym (product_of_constants k p q a d ha hd n)
      ∙ ap (λ (u : R (suc k)). u n) h
      ∙ product_of_constants k r s b c hb hc n
      ∙ other (times k (value k b) (value k c))

  skip_up : one_if p + one_if q ≡ one_if r + one_if s → Equal k a d b c → Equal (suc k) a d b c
  skip_up e h =
      fun_ext
      (λ i.
      product_of_constants k p q a d ha hd i
      ∙ ap₂ (λ (n : ℕ) (u : R k). scale k (eqb n i) u) e h
      ∙ sym (product_of_constants k r s b c hb hc i))

  -- it stands more often on one side: the products differ
  skip_no : ¬ (one_if p + one_if q ≡ one_if r + one_if s) → ¬ (value k a ≡ nought k) → ¬ (value k d ≡ nought k) → ¬ Equal (suc k) a d b c
  unfolding scale
  skip_no ne na nd h =
      let n : ℕ = one_if p + one_if q in
      product_nonzero (laws k) (value k a) (value k d) na nd
      (sym (ap (λ (t : Bool). scale k t (times k (value k a) (value k d))) (eq-eqb n n refl))
      ∙ sym (product_of_constants k p q a d ha hd n)
      ∙ ap (λ (u : R (suc k)). u n) h
      ∙ product_of_constants k r s b c hb hc n
      ∙ ap (λ (t : Bool). scale k t (times k (value k b) (value k c))) (ne_eqb (one_if r + one_if s) n (λ e. ne (sym e))))

-- ---- what one mask says of all variables

or_false : (p q : Bool) → p || q ≡ false → (p ≡ false) × (q ≡ false)
or_false true q e = absurd (true≢false e)
or_false false q e = (refl, e)

xor_false : (p q : Bool) → xor p q ≡ false → q ≡ p
unfolding xor
xor_false true true e = refl
xor_false true false e = absurd (true≢false e)
xor_false false true e = absurd (true≢false e)
xor_false false false e = refl

even_test : Bool → Bool → Bool → Bool → Bool
even_test p q r s = xor (xor p q) (xor r s) || xor (p && q) (r && s)

imbalance_at : (p q r s i : ℕ) → bit (imbalance p q r s) i ≡ even_test (bit p i) (bit q i) (bit r i) (bit s i)
unfolding even_test
imbalance_at p q r s i =
    bit_or_lem (bit_xor (bit_xor p q) (bit_xor r s)) (bit_xor (bit_and p q) (bit_and r s)) i
    ∙ ap₂ ◌||◌
    (bit_xor_lem (bit_xor p q) (bit_xor r s) i ∙ ap₂ xor (bit_xor_lem p q i) (bit_xor_lem r s i))
    (bit_xor_lem (bit_and p q) (bit_and r s) i ∙ ap₂ xor (bit_and_lem p q i) (bit_and_lem r s i))

uneven_at : (a d b c : List ℕ) (i : ℕ) → bit (uneven a d b c) i ≡ even_test (bit (first a) i) (bit (first d) i) (bit (first b) i) (bit (first c) i)
uneven_at a d b c i = imbalance_at (first a) (first d) (first b) (first c) i

even_yes : (p q r s : Bool) → even_test p q r s ≡ false → one_if p + one_if q ≡ one_if r + one_if s
unfolding even_test xor
even_yes true true true true e = refl
even_yes true true true false e = absurd (true≢false e)
even_yes true true false true e = absurd (true≢false e)
even_yes true true false false e = absurd (true≢false e)
even_yes true false true true e = absurd (true≢false e)
even_yes true false true false e = refl
even_yes true false false true e = refl
even_yes true false false false e = absurd (true≢false e)
even_yes false true true true e = absurd (true≢false e)
even_yes false true true false e = refl
even_yes false true false true e = refl
even_yes false true false false e = absurd (true≢false e)
even_yes false false true true e = absurd (true≢false e)
even_yes false false true false e = absurd (true≢false e)
even_yes false false false true e = absurd (true≢false e)
even_yes false false false false e = refl

even_no : (p q r s : Bool) → even_test p q r s ≡ true → ¬ (one_if p + one_if q ≡ one_if r + one_if s)
unfolding even_test xor
even_no true true true true e n = false≢true e
even_no true true true false e n = omega arith
even_no true true false true e n = omega arith
even_no true true false false e n = omega arith
even_no true false true true e n = omega arith
even_no true false true false e n = false≢true e
even_no true false false true e n = false≢true e
even_no true false false false e n = omega arith
even_no false true true true e n = omega arith
even_no false true true false e n = false≢true e
even_no false true false true e n = false≢true e
even_no false true false false e n = omega arith
even_no false false true true e n = omega arith
even_no false false true false e n = omega arith
even_no false false false true e n = omega arith
even_no false false false false e n = false≢true e

-- no bit in the mask: as often on either side
pub balanced_at : (p q r s i : ℕ) → bit (imbalance p q r s) i ≡ false → exponent p q i ≡ exponent r s i
balanced_at p q r s i e = even_yes (bit p i) (bit q i) (bit r i) (bit s i) (sym (imbalance_at p q r s i) ∙ e)

pub unbalanced_at : (p q r s i : ℕ) → bit (imbalance p q r s) i ≡ true → ¬ (exponent p q i ≡ exponent r s i)
unbalanced_at p q r s i e = even_no (bit p i) (bit q i) (bit r i) (bit s i) (sym (imbalance_at p q r s i) ∙ e)

-- ---- many constant variables at once

module _ (a d b c : List ℕ) where
  same_ends : (k : ℕ) → bit (varying a d b c) k ≡ false
      → (bit (last a) k ≡ bit (first a) k) × (bit (last d) k ≡ bit (first d) k) × (bit (last b) k ≡ bit (first b) k) × (bit (last c) k ≡ bit (first c) k)
  same_ends k e =
      let ad : ℕ = bit_or (bit_xor (first a) (last a)) (bit_xor (first d) (last d)) in
      let bc : ℕ = bit_or (bit_xor (first b) (last b)) (bit_xor (first c) (last c)) in
      let two = or_false (bit ad k) (bit bc k) (sym (bit_or_lem ad bc k) ∙ e) in
      let left = or_false (bit (bit_xor (first a) (last a)) k) (bit (bit_xor (first d) (last d)) k) (sym (bit_or_lem (bit_xor (first a) (last a)) (bit_xor (first d) (last d)) k) ∙ two.0) in
      let right = or_false (bit (bit_xor (first b) (last b)) k) (bit (bit_xor (first c) (last c)) k) (sym (bit_or_lem (bit_xor (first b) (last b)) (bit_xor (first c) (last c)) k) ∙ two.1) in (
        xor_false (bit (first a) k) (bit (last a) k) (sym (bit_xor_lem (first a) (last a) k) ∙ left.0),
        xor_false (bit (first d) k) (bit (last d) k) (sym (bit_xor_lem (first d) (last d) k) ∙ left.1),
        xor_false (bit (first b) k) (bit (last b) k) (sym (bit_xor_lem (first b) (last b) k) ∙ right.0),
        xor_false (bit (first c) k) (bit (last c) k) (sym (bit_xor_lem (first c) (last c) k) ∙ right.1),
      )

  record Constants (k : ℕ) : Type 0 where
    all_a : AllBits k (bit (first a) k) a
    all_d : AllBits k (bit (first d) k) d
    all_b : AllBits k (bit (first b) k) b
    all_c : AllBits k (bit (first c) k) c

  constants : (k : ℕ) → Four (suc k) a d b c → bit (varying a d b c) k ≡ false → Constants k
  constants k f e =
      let ends = same_ends k e in
      record {
        all_a = constant k (bit (first a) k) a f.run_a.0 f.some_a refl ends.0;
        all_d = constant k (bit (first d) k) d f.run_d.0 f.some_d refl ends.1;
        all_b = constant k (bit (first b) k) b f.run_b.0 f.some_b refl ends.2;
        all_c = constant k (bit (first c) k) c f.run_c.0 f.some_c refl ends.3;
      }

  four_down : (k : ℕ) → Four (suc k) a d b c → Constants k → Four k a d b c
  four_down k f g = record {
    run_a = run_of_constant k (bit (first a) k) a g.all_a f.run_a;
    run_d = run_of_constant k (bit (first d) k) d g.all_d f.run_d;
    run_b = run_of_constant k (bit (first b) k) b g.all_b f.run_b;
    run_c = run_of_constant k (bit (first c) k) c g.all_c f.run_c;
    some_a = f.some_a;
    some_d = f.some_d;
    some_b = f.some_b;
    some_c = f.some_c;
  }

  -- what is asked at k variables and at the w that are left
  pub record Skipped (k w : ℕ) : Type 0 where
    pub four : Four w a d b c
    pub down : Equal k a d b c → Equal w a d b c
    pub up : Equal w a d b c → Equal k a d b c

  -- one variable more is skipped
  skip_one : (k w : ℕ) → Four (suc k) a d b c → bit (varying a d b c) k ≡ false → bit (uneven a d b c) k ≡ false
      → (Four k a d b c → Skipped k w) → Skipped (suc k) w
  skip_one k w f same even more =
      let g : Constants k = constants k f same in
      let s : Skipped k w = more (four_down k f g) in
      let p : Bool = bit (first a) k in
      let q : Bool = bit (first d) k in
      let r : Bool = bit (first b) k in
      let t : Bool = bit (first c) k in
      let balanced : one_if p + one_if q ≡ one_if r + one_if t = even_yes p q r t (sym (uneven_at a d b c k) ∙ even) in
      record {
        four = s.four;
        down = λ h. s.down (skip_down k p q r t a d b c g.all_a g.all_d g.all_b g.all_c balanced h);
        up = λ h. skip_up k p q r t a d b c g.all_a g.all_d g.all_b g.all_c balanced (s.up h);
      }

  pub skip : (k w : ℕ) → w ≤ k → Four k a d b c
      → ((i : ℕ) → w ≤ i → i < k → bit (varying a d b c) i ≡ false)
      → ((i : ℕ) → w ≤ i → i < k → bit (uneven a d b c) i ≡ false)
      → Skipped k w
  skip zero w le f same even =
      subst (Skipped zero) (omega arith) (record { four = f; down = λ h. h; up = λ h. h })
  skip (suc k) w le f same even =
      go (dec_le w k) (λ l g. skip k w l g (λ i p q. same i p (omega arith)) (λ i p q. even i p (omega arith)))
    where
      go : Dec (w ≤ k) → (w ≤ k → Four k a d b c → Skipped k w) → Skipped (suc k) w
      go (no n) more = subst (Skipped (suc k)) (omega arith) (record { four = f; down = λ h. h; up = λ h. h })
      go (yes l) more = skip_one k w f (same k l (le_refl (suc k))) (even k l (le_refl (suc k))) (more l)

  -- a variable that is skipped and does not stand equally often on either side
  pub skip_refused : (k w i : ℕ) → w ≤ i → i < k → Four k a d b c
      → ((j : ℕ) → w ≤ j → j < k → bit (varying a d b c) j ≡ false)
      → bit (uneven a d b c) i ≡ true → ¬ Equal k a d b c
  skip_refused zero w i wi ik f same odd_one h = not-suc-le-zero ik
  skip_refused (suc k) w i wi ik f same odd_one h =
      let g : Constants k = constants k f (same k (omega arith) (le_refl (suc k))) in
      go (bit (uneven a d b c) k) refl g (four_down k f g)
      (λ lt. skip_refused k w i wi lt (four_down k f g) (λ j p q. same j p (omega arith)) odd_one)
    where
      go : (u : Bool) → bit (uneven a d b c) k ≡ u → Constants k → Four k a d b c → (i < k → ¬ Equal k a d b c) → ⊥
      go true e g f' rest =
          skip_no k (bit (first a) k) (bit (first d) k) (bit (first b) k) (bit (first c) k) a d b c g.all_a g.all_d g.all_b g.all_c
          (even_no (bit (first a) k) (bit (first d) k) (bit (first b) k) (bit (first c) k) (sym (uneven_at a d b c k) ∙ e))
          (run_nonzero k a f'.run_a f'.some_a) (run_nonzero k d f'.run_d f'.some_d) h
      go false e g f' rest =
          let apart : ¬ (i ≡ k) = (λ q. true≢false (sym odd_one ∙ ap (bit (uneven a d b c)) q ∙ e)) in
          rest (lt_of_le-ne (le_of_suc-le-suc ik) apart)
          (skip_down k (bit (first a) k) (bit (first d) k) (bit (first b) k) (bit (first c) k) a d b c g.all_a g.all_d g.all_b g.all_c
          (even_yes (bit (first a) k) (bit (first d) k) (bit (first b) k) (bit (first c) k) (sym (uneven_at a d b c k) ∙ e)) h)
