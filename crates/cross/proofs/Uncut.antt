-- The four-list test before lists are cut: empty lists, constant variables, a list that stands on both sides. Leans on ring.
use mathlib.Core.Path.{◌≡◌, refl, sym, ap, ap₂, ◌∙◌, subst}
use mathlib.Core.Bool.{Bool, true, false, true≢false, ◌&&◌}
use mathlib.Core.List.{List, [], ◌∷◌}
use mathlib.Core.Logic.{inl, inr}
use Prim.Native.Nat.{ℕ, zero, suc, ◌-◌, ◌<◌}
use native.Mathlib.Nat.{not-suc-le-zero, le_of_suc-le-suc}
use native.Mathlib.Omega.{arith}
use lib.ListN.{length}
use Rattle.masks.specs.Bit.{bit}
use Rattle.ring.specs.Same.{SameProducts}
use Rattle.ring.specs.Run.{Run, Decides, lows}
use Rattle.ring.specs.Ends.{first, varying, uneven, Four}
use Rattle.ring.specs.Lone.{Matched}
use Rattle.ring.proofs.Domain.{mul_zero, product_nonzero}
use Rattle.ring.proofs.Series.{R, nought, times, laws}
use Rattle.ring.proofs.Value.{value, odd, value_none}
use Rattle.ring.proofs.Bridge.{same_from_equal, equal_from_same}
use Rattle.ring.proofs.Runs.{run_nonzero}
use Rattle.ring.proofs.Skip.{skip, skip_refused, Skipped}
use Rattle.ring.proofs.Alike.{equal_if_alike, alike_if_equal}
use Rattle.ring.proofs.Lone.{equal_if_matched, matched_if_equal}
use Rattle.runs.specs.Read.{Vanish, Within, Left}
use Rattle.cross.specs.Asked.{Runs}

-- ---- answers

pub decides_by : {P Q : Type 0} (r : Bool) → (P → Q) → (Q → P) → Decides r P → Decides r Q
decides_by true f g h = f h
decides_by false f g h = λ q. h (g q)

pub decided_yes : {P : Type 0} (r : Bool) → r ≡ true → Decides r P → P
decided_yes true e h = h
decided_yes false e h = absurd (true≢false (sym e))

pub decided_no : {P : Type 0} (r : Bool) → r ≡ false → Decides r P → ¬ P
decided_no true e h = absurd (true≢false e)
decided_no false e h = h

pub same_swapped : (k : ℕ) (a d b c : List ℕ) → SameProducts k a d c b → SameProducts k a d b c
same_swapped k a d b c h = same_from_equal k a d b c (equal_from_same k a d c b h ∙ (laws k).mul_comm (value k c) (value k b))

pub same_exchanged : (k : ℕ) (a d b c : List ℕ) → SameProducts k d a c b → SameProducts k a d b c
same_exchanged k a d b c h =
    same_from_equal k a d b c ((laws k).mul_comm (value k a) (value k d) ∙ equal_from_same k d a c b h ∙ (laws k).mul_comm (value k c) (value k b))

-- ---- what is told of a length that was counted

pub one_counted : {n m : ℕ} → n ≡ m → n ≡ 1 → m ≡ 1
one_counted e t = sym e ∙ t

pub none_counted : {n m : ℕ} → n ≡ m → n ≡ 0 → m ≡ 0
none_counted e t = sym e ∙ t

pub some_counted : {n m : ℕ} → n ≡ m → 0 < n → 0 < m
some_counted e t = omega arith

pub not_none_counted : {n m : ℕ} → n ≡ m → ¬ (n ≡ 0) → ¬ (m ≡ 0)
not_none_counted e t z = t (e ∙ z)

-- ---- empty lists

pub value_of_empty : (k : ℕ) (l : List ℕ) → length l ≡ 0 → value k l ≡ nought k
value_of_empty k [] e = value_none k
value_of_empty k (t ∷ l) e = absurd (omega arith)

product_vanishes : (k : ℕ) (a d : List ℕ) → Vanish a d → times k (value k a) (value k d) ≡ nought k
product_vanishes k a d (inl e) = ap (λ (u : R k). times k u (value k d)) (value_of_empty k a e) ∙ (laws k).zero_mul (value k d)
product_vanishes k a d (inr e) = ap (times k (value k a)) (value_of_empty k d e) ∙ mul_zero (laws k) (value k a)

some : (l : List ℕ) → ¬ (length l ≡ 0) → 0 < length l
some [] n = absurd (n refl)
some (t ∷ l) n = omega arith

product_stands : (k : ℕ) (a d : List ℕ) → Run k a → Run k d → ¬ Vanish a d → ¬ (times k (value k a) (value k d) ≡ nought k)
product_stands k a d ra rd n =
    product_nonzero (laws k) (value k a) (value k d) (run_nonzero k a ra (some a (λ e. n (inl e)))) (run_nonzero k d rd (some d (λ e. n (inr e))))

module _ (k : ℕ) (a d b c : List ℕ) (runs : Runs k a d b c) (p : Bool) (asked : Decides p (Vanish a d)) where
  -- one side is zero: the other must be
  pub same_if_vanishing : p ≡ true → (r : Bool) → Decides r (Vanish b c) → Decides r (SameProducts k a d b c)
  same_if_vanishing e true h = same_from_equal k a d b c (product_vanishes k a d (decided_yes p e asked) ∙ sym (product_vanishes k b c h))
  same_if_vanishing e false h = λ s. product_stands k b c runs.run_b runs.run_c h (sym (equal_from_same k a d b c s) ∙ product_vanishes k a d (decided_yes p e asked))

  module _ (some_ad : p ≡ false) (q : Bool) (asked_too : Decides q (Vanish b c)) where
    pub differ_if_one_vanishes : q ≡ true → ¬ SameProducts k a d b c
    differ_if_one_vanishes e s =
        product_stands k a d runs.run_a runs.run_d (decided_no p some_ad asked) (equal_from_same k a d b c s ∙ product_vanishes k b c (decided_yes q e asked_too))

    pub four_runs : q ≡ false → Four k a d b c
    four_runs some_bc =
        let n = decided_no p some_ad asked in let m = decided_no q some_bc asked_too in record {
          run_a = runs.run_a;
          run_d = runs.run_d;
          run_b = runs.run_b;
          run_c = runs.run_c;
          some_a = some a (λ e. n (inl e));
          some_d = some d (λ e. n (inr e));
          some_b = some b (λ e. m (inl e));
          some_c = some c (λ e. m (inr e));
        }

-- ---- constant variables

no_bit : (b : Bool) → ¬ (b ≡ true) → b ≡ false
no_bit true n = absurd (n refl)
no_bit false n = refl

-- w of k variables are left, and the answer s says whether one of the others is uneven
pub record Skips (k w : ℕ) (a d b c : List ℕ) (s : Bool) : Type 0 where
  pub four : Four k a d b c
  pub left : Left (varying a d b c) k w
  pub told : Decides s (Within (uneven a d b c) w k)

module _ {k w : ℕ} {a d b c : List ℕ} {s : Bool} (x : Skips k w a d b c s) where
  pub differ_if_uneven : s ≡ true → ¬ SameProducts k a d b c
  differ_if_uneven e h =
      let (i, wi, ik, held) = decided_yes s e x.told in
      skip_refused a d b c k w i wi ik x.four x.left.none held (equal_from_same k a d b c h)

  skipped : s ≡ false → Skipped a d b c k w
  skipped e =
      skip a d b c k w x.left.within x.four x.left.none
      (λ i wi ik. no_bit (bit (uneven a d b c) i) (λ held. decided_no s e x.told (i, wi, ik, held)))

  pub four_left : s ≡ false → Four w a d b c
  four_left e = (skipped e).four

  pub same_if_left : s ≡ false → (r : Bool) → Decides r (SameProducts w a d b c) → Decides r (SameProducts k a d b c)
  same_if_left e r =
      decides_by r
      (λ h. same_from_equal k a d b c ((skipped e).up (equal_from_same w a d b c h)))
      (λ h. same_from_equal w a d b c ((skipped e).down (equal_from_same k a d b c h)))

-- ---- no variable is left

odd_of_one : (l : List ℕ) → Run 0 l → 0 < length l → odd l ≡ true
unfolding odd
odd_of_one [] r h = absurd (not-suc-le-zero h)
odd_of_one (t ∷ []) r h = refl
odd_of_one (t ∷ u ∷ l) r h = absurd (not-suc-le-zero (le_of_suc-le-suc r))

same_without_variables : (a d b c : List ℕ) → Four 0 a d b c → SameProducts 0 a d b c
unfolding value
same_without_variables a d b c f =
    same_from_equal 0 a d b c
    (ap₂ ◌&&◌ (odd_of_one a f.run_a f.some_a) (odd_of_one d f.run_d f.some_d)
    ∙ sym (ap₂ ◌&&◌ (odd_of_one b f.run_b f.some_b) (odd_of_one c f.run_c f.some_c)))

pub same_if_none_left : (k : ℕ) (a d b c : List ℕ) → k ≡ 0 → Four k a d b c → SameProducts k a d b c
same_if_none_left zero a d b c e f = same_without_variables a d b c f
same_if_none_left (suc k) a d b c e f = absurd (omega arith)

-- ---- a list on both sides

module _ (k : ℕ) (a d b c : List ℕ) (f : Four k a d b c) where
  pub same_if_alike : (q : Bool) → Decides q (lows k a ≡ lows k b) → q ≡ true → (r : Bool) → Decides r (lows k d ≡ lows k c) → Decides r (SameProducts k a d b c)
  same_if_alike q h y r =
      let e = decided_yes q y h in
      decides_by r
      (λ g. same_from_equal k a d b c (equal_if_alike k a d b c e g))
      (λ s. alike_if_equal k a d b c f.run_a f.some_a f.run_d f.run_c e (equal_from_same k a d b c s))

  pub same_if_alike_other : (q : Bool) → Decides q (lows k a ≡ lows k c) → q ≡ true → (r : Bool) → Decides r (lows k d ≡ lows k b) → Decides r (SameProducts k a d b c)
  same_if_alike_other q h y r =
      let e = decided_yes q y h in
      decides_by r
      (λ g. same_swapped k a d b c (same_from_equal k a d c b (equal_if_alike k a d c b e g)))
      (λ s. alike_if_equal k a d c b f.run_a f.some_a f.run_d f.run_b e (equal_from_same k a d c b (same_swapped k a d c b s)))

-- ---- one term on each side

only : (l : List ℕ) → length l ≡ 1 → l ≡ first l ∷ []
only [] e = absurd (omega arith)
only (t ∷ []) e = refl
only (t ∷ u ∷ l) e = absurd (omega arith)

same_of_lone : (k : ℕ) (a d b c : List ℕ) → length a ≡ 1 → length b ≡ 1 → Run k d → Run k c
    → (r : Bool) → Decides r (Matched k (first a) (first b) d c) → Decides r (SameProducts k a d b c)
same_of_lone k a d b c ea eb rd rc r =
    decides_by r
    (λ m. same_from_equal k a d b c (written ∙ equal_if_matched k (first a) (first b) d c m ∙ sym written_other))
    (λ s. matched_if_equal k (first a) (first b) d c rd rc (sym written ∙ equal_from_same k a d b c s ∙ written_other))
  where
    written : times k (value k a) (value k d) ≡ times k (value k (first a ∷ [])) (value k d)
    written = ap (λ (l : List ℕ). times k (value k l) (value k d)) (only a ea)

    written_other : times k (value k b) (value k c) ≡ times k (value k (first b ∷ [])) (value k c)
    written_other = ap (λ (l : List ℕ). times k (value k l) (value k c)) (only b eb)

module _ (k : ℕ) (a d b c : List ℕ) (f : Four k a d b c) where
  pub same_if_lone_ab : length a ≡ 1 → length b ≡ 1 → (r : Bool) → Decides r (Matched k (first a) (first b) d c) → Decides r (SameProducts k a d b c)
  same_if_lone_ab ea eb = same_of_lone k a d b c ea eb f.run_d f.run_c

  pub same_if_lone_ac : length a ≡ 1 → length c ≡ 1 → (r : Bool) → Decides r (Matched k (first a) (first c) d b) → Decides r (SameProducts k a d b c)
  same_if_lone_ac ea ec r h =
      decides_by r (same_swapped k a d b c) (same_swapped k a d c b) (same_of_lone k a d c b ea ec f.run_d f.run_b r h)

  pub same_if_lone_db : length d ≡ 1 → length b ≡ 1 → (r : Bool) → Decides r (Matched k (first d) (first b) a c) → Decides r (SameProducts k a d b c)
  same_if_lone_db ed eb r h =
      decides_by r
      (λ s. same_exchanged k a d b c (same_swapped k d a c b s)) (λ s. same_swapped k d a b c (same_exchanged k d a c b s))
      (same_of_lone k d a b c ed eb f.run_a f.run_c r h)

  pub same_if_lone_dc : length d ≡ 1 → length c ≡ 1 → (r : Bool) → Decides r (Matched k (first d) (first c) a b) → Decides r (SameProducts k a d b c)
  same_if_lone_dc ed ec r h =
      decides_by r (same_exchanged k a d b c) (same_exchanged k d a c b) (same_of_lone k d a c b ed ec f.run_a f.run_b r h)

-- ---- the highest variable that is left

one_below : (k : ℕ) → ¬ (k ≡ 0) → suc (k - 1) ≡ k
one_below zero n = absurd (n refl)
one_below (suc k) n = omega arith

module _ (k : ℕ) (a d b c : List ℕ) (n : ¬ (k ≡ 0)) where
  pub four_below : Four k a d b c → Four (suc (k - 1)) a d b c
  four_below f = subst (λ (j : ℕ). Four j a d b c) (sym (one_below k n)) f

  pub same_if_below : (r : Bool) → Decides r (SameProducts (suc (k - 1)) a d b c) → Decides r (SameProducts k a d b c)
  same_if_below r h = subst (λ (j : ℕ). Decides r (SameProducts j a d b c)) (one_below k n) h
