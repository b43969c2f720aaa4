-- Power series over a domain of characteristic two are one again, and so are the series in n variables over Bool:
-- R 0 = Bool with xor and and, R (n + 1) = the series over R n, functions from the exponents of the next variable to R n.
use mathlib.Core.Path.{◌≡◌, refl, sym, ap, ap₂, ◌∙◌, fun_ext}
use mathlib.Core.Bool.{Bool, true, false, ◌&&◌, xor, true≢false, false≢true}
use Prim.Native.Nat.{ℕ, zero, suc}
use Rattle.ring.proofs.Domain.{Domain, add_zero, add_medial}

-- the product of two series: with f = f0 + x f', f g = f0 g + x (f' g)
abbrev pub conv : {K : Type 0} → (K → K → K) → (K → K → K) → (ℕ → K) → (ℕ → K) → ℕ → K
conv p t f g zero = t (f zero) (g zero)
conv p t f g (suc i) = p (t (f zero) (g (suc i))) (conv p t (λ j. f (suc j)) g i)

module _ {K : Type 0} {o : K} {◌+◌ : K → K → K} {◌*◌ : K → K → K} (L : Domain K o ◌+◌ ◌*◌) where
  infixl 65 ◌+◌
  infixl 70 ◌*◌
  pub conv_zero : (g : ℕ → K) (i : ℕ) → conv ◌+◌ ◌*◌ (λ j. o) g i ≡ o
  conv_zero g zero = L.zero_mul (g zero)
  conv_zero g (suc i) = ap₂ ◌+◌ (L.zero_mul (g (suc i))) (conv_zero g i) ∙ L.zero_add o

  conv_add : (f g h : ℕ → K) (i : ℕ) → conv ◌+◌ ◌*◌ f (λ j. g j + h j) i ≡ conv ◌+◌ ◌*◌ f g i + conv ◌+◌ ◌*◌ f h i
  conv_add f g h zero = L.mul_add (f zero) (g zero) (h zero)
  conv_add f g h (suc i) =
      ap₂ ◌+◌ (L.mul_add (f zero) (g (suc i)) (h (suc i))) (conv_add (λ j. f (suc j)) g h i)
      ∙ add_medial L (f zero * g (suc i)) (f zero * h (suc i)) (conv ◌+◌ ◌*◌ (λ j. f (suc j)) g i) (conv ◌+◌ ◌*◌ (λ j. f (suc j)) h i)

  -- the highest coefficient of g's tail: f g = f g' x + f g0
  conv_peel : (f g : ℕ → K) (i : ℕ) → conv ◌+◌ ◌*◌ f g (suc i) ≡ conv ◌+◌ ◌*◌ f (λ j. g (suc j)) i + f (suc i) * g zero
  conv_peel f g zero = refl
  conv_peel f g (suc i) =
      ap (λ (u : K). f zero * g (suc (suc i)) + u) (conv_peel (λ j. f (suc j)) g i)
      ∙ sym (L.add_assoc (f zero * g (suc (suc i))) (conv ◌+◌ ◌*◌ (λ j. f (suc j)) (λ j. g (suc j)) i) (f (suc (suc i)) * g zero))

  conv_comm : (f g : ℕ → K) (i : ℕ) → conv ◌+◌ ◌*◌ f g i ≡ conv ◌+◌ ◌*◌ g f i
  conv_comm f g zero = L.mul_comm (f zero) (g zero)
  conv_comm f g (suc i) =
      ap₂ ◌+◌ (L.mul_comm (f zero) (g (suc i))) (conv_comm (λ j. f (suc j)) g i)
      ∙ L.add_comm (g (suc i) * f zero) (conv ◌+◌ ◌*◌ g (λ j. f (suc j)) i)
      ∙ sym (conv_peel g f i)

  conv_sum : (f g h : ℕ → K) (i : ℕ) → conv ◌+◌ ◌*◌ (λ j. f j + g j) h i ≡ conv ◌+◌ ◌*◌ f h i + conv ◌+◌ ◌*◌ g h i
  conv_sum f g h i = conv_comm (λ j. f j + g j) h i ∙ conv_add h f g i ∙ ap₂ ◌+◌ (conv_comm h f i) (conv_comm h g i)

  conv_scalar : (c : K) (g h : ℕ → K) (i : ℕ) → conv ◌+◌ ◌*◌ (λ j. c * g j) h i ≡ c * conv ◌+◌ ◌*◌ g h i
  conv_scalar c g h zero = L.mul_assoc c (g zero) (h zero)
  conv_scalar c g h (suc i) =
      ap₂ ◌+◌ (L.mul_assoc c (g zero) (h (suc i))) (conv_scalar c (λ j. g (suc j)) h i)
      ∙ sym (L.mul_add c (g zero * h (suc i)) (conv ◌+◌ ◌*◌ (λ j. g (suc j)) h i))

  conv_assoc : (f g h : ℕ → K) (i : ℕ) → conv ◌+◌ ◌*◌ (conv ◌+◌ ◌*◌ f g) h i ≡ conv ◌+◌ ◌*◌ f (conv ◌+◌ ◌*◌ g h) i
  conv_assoc f g h zero = L.mul_assoc (f zero) (g zero) (h zero)
  conv_assoc f g h (suc i) =
      ap₂ ◌+◌ (L.mul_assoc (f zero) (g zero) (h (suc i)))
      (conv_sum (λ j. f zero * g (suc j)) (conv ◌+◌ ◌*◌ (λ j. f (suc j)) g) h i
      ∙ ap₂ ◌+◌ (conv_scalar (f zero) (λ j. g (suc j)) h i) (conv_assoc (λ j. f (suc j)) g h i))
      ∙ sym
      (L.add_assoc (f zero * (g zero * h (suc i))) (f zero * conv ◌+◌ ◌*◌ (λ j. g (suc j)) h i)
      (conv ◌+◌ ◌*◌ (λ j. f (suc j)) (conv ◌+◌ ◌*◌ g h) i))
      ∙ ap (λ (u : K). u + conv ◌+◌ ◌*◌ (λ j. f (suc j)) (conv ◌+◌ ◌*◌ g h) i)
      (sym (L.mul_add (f zero) (g zero * h (suc i)) (conv ◌+◌ ◌*◌ (λ j. g (suc j)) h i)))

  series_stable : (f g : ℕ → K) → ¬ ¬ (f ≡ g) → f ≡ g
  series_stable f g h = fun_ext (λ i. L.stable (f i) (g i) (λ n. h (λ e. n (ap (λ (u : ℕ → K). u i) e))))

  -- where f0 is zero, f g = x (f' g)
  tail_vanishes : (f g : ℕ → K) → f zero ≡ o → ((i : ℕ) → conv ◌+◌ ◌*◌ f g i ≡ o) → (i : ℕ) → conv ◌+◌ ◌*◌ (λ j. f (suc j)) g i ≡ o
  tail_vanishes f g e h i =
      sym (L.zero_add (conv ◌+◌ ◌*◌ (λ j. f (suc j)) g i))
      ∙ ap (λ (u : K). u + conv ◌+◌ ◌*◌ (λ j. f (suc j)) g i) (sym (ap (λ (u : K). u * g (suc i)) e ∙ L.zero_mul (g (suc i))))
      ∙ h (suc i)

  -- where f0 is not zero, f g = 0 leaves no coefficient of g
  lowest_cancels : (f g : ℕ → K) → ¬ (f zero ≡ o) → ((i : ℕ) → conv ◌+◌ ◌*◌ f g i ≡ o) → (i : ℕ) → g i ≡ o
  lowest_cancels f g nz h zero = L.no_zero_divisors (f zero) (g zero) nz (h zero)
  lowest_cancels f g nz h (suc i) =
      lowest_cancels f (λ j. g (suc j)) nz
      (λ k.
      conv_comm f (λ j. g (suc j)) k
      ∙ tail_vanishes g f (L.no_zero_divisors (f zero) (g zero) nz (h zero)) (λ m. conv_comm g f m ∙ h m) k)
      i

  some_cancels : (m : ℕ) (f g : ℕ → K) → ¬ (f m ≡ o) → ((i : ℕ) → conv ◌+◌ ◌*◌ f g i ≡ o) → (i : ℕ) → g i ≡ o
  some_cancels zero f g nz h i = lowest_cancels f g nz h i
  some_cancels (suc m) f g nz h i =
      L.stable (g i) o
      (λ n.
      let zero_not : ¬ (f zero ≡ o) = (λ e. n (some_cancels m (λ j. f (suc j)) g nz (tail_vanishes f g e h) i)) in
      n (lowest_cancels f g zero_not h i))

  -- no zero divisors, by the lowest coefficient that is not zero
  series_cancel : (f g : ℕ → K) → ¬ (f ≡ (λ j. o)) → conv ◌+◌ ◌*◌ f g ≡ (λ j. o) → g ≡ (λ j. o)
  series_cancel f g nz e =
      fun_ext
      (λ i. L.stable (g i) o
      (λ n. nz (fun_ext (λ m. L.stable (f m) o (λ nm. n (some_cancels m f g nm (λ k. ap (λ (u : ℕ → K). u k) e) i))))))

  pub series : Domain (ℕ → K) (λ j. o) (λ f g j. f j + g j) (conv ◌+◌ ◌*◌)
  series = record {
    add_comm = λ f g. fun_ext (λ i. L.add_comm (f i) (g i));
    add_assoc = λ f g h. fun_ext (λ i. L.add_assoc (f i) (g i) (h i));
    zero_add = λ f. fun_ext (λ i. L.zero_add (f i));
    double = λ f. fun_ext (λ i. L.double (f i));
    mul_comm = λ f g. fun_ext (conv_comm f g);
    mul_assoc = λ f g h. fun_ext (conv_assoc f g h);
    mul_add = λ f g h. fun_ext (conv_add f g h);
    zero_mul = λ g. fun_ext (conv_zero g);
    stable = series_stable;
    no_zero_divisors = series_cancel;
  }

-- ---- the series in n variables over Bool

abbrev pub R : ℕ → Type 0
R zero = Bool
R (suc n) = ℕ → R n

abbrev pub nought : (n : ℕ) → R n
nought zero = false
nought (suc n) = λ j. nought n

abbrev pub plus : (n : ℕ) → R n → R n → R n
plus zero = xor
plus (suc n) = λ f g j. plus n (f j) (g j)

abbrev pub times : (n : ℕ) → R n → R n → R n
times zero = ◌&&◌
times (suc n) = conv (plus n) (times n)

bool_stable : (x y : Bool) → ¬ ¬ (x ≡ y) → x ≡ y
bool_stable true true h = refl
bool_stable true false h = absurd (h true≢false)
bool_stable false true h = absurd (h false≢true)
bool_stable false false h = refl

pub bits : Domain Bool false xor ◌&&◌
unfolding xor
bits = record {
  add_comm = elim [ true ↦ elim [ true ↦ refl | false ↦ refl ] | false ↦ elim [ true ↦ refl | false ↦ refl ] ];
  add_assoc = xor_assoc;
  zero_add = elim [ true ↦ refl | false ↦ refl ];
  double = elim [ true ↦ refl | false ↦ refl ];
  mul_comm = elim [ true ↦ elim [ true ↦ refl | false ↦ refl ] | false ↦ elim [ true ↦ refl | false ↦ refl ] ];
  mul_assoc = elim [ true ↦ λ y z. refl | false ↦ λ y z. refl ];
  mul_add = elim [ true ↦ λ y z. refl | false ↦ λ y z. refl ];
  zero_mul = λ x. refl;
  stable = bool_stable;
  no_zero_divisors = elim [ true ↦ λ y n e. e | false ↦ λ y n e. absurd (n refl) ];
}
  where
    xor_assoc : (x y z : Bool) → xor (xor x y) z ≡ xor x (xor y z)
    xor_assoc true true true = refl
    xor_assoc true true false = refl
    xor_assoc true false true = refl
    xor_assoc true false false = refl
    xor_assoc false true true = refl
    xor_assoc false true false = refl
    xor_assoc false false true = refl
    xor_assoc false false false = refl

pub laws : (n : ℕ) → Domain (R n) (nought n) (plus n) (times n)
laws zero = bits
laws (suc n) = series (laws n)

-- a series with one coefficient only, times another
pub constant_times : (n : ℕ) (f g : ℕ → R n) → ((j : ℕ) → f (suc j) ≡ nought n) → (k : ℕ) → times (suc n) f g k ≡ times n (f 0) (g k)
constant_times n f g z zero = refl
constant_times n f g z (suc k) =
    ap (plus n (times n (f 0) (g (suc k)))) (ap (λ (h : ℕ → R n). times (suc n) h g k) (fun_ext z) ∙ conv_zero (laws n) g k)
    ∙ add_zero (laws n) (times n (f 0) (g (suc k)))
