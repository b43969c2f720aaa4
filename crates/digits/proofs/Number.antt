-- Laws of numbers written in digits: what a row of digits stands for, and that it is the only row that does.
-- Leans on the laws of powers of two alone. Assumes nothing.
use mathlib.Core.Path.{◌≡◌, refl, sym, ap, ap₂, ◌∙◌, subst}
use mathlib.Core.List.{List, [], ◌∷◌, ◌++◌}
use Prim.Native.Nat.{ℕ, zero, suc, ◌+◌, ◌*◌, ◌/◌, ◌%◌, ◌^◌, ◌<◌}
use native.Mathlib.Nat.{mul-zero, mul-suc, mul_assoc, mul-add, add-mul, add_assoc, add_comm, zero-add, mul-one, pow-zero, mod-lt, mod-eq_of_lt, lt_of_lt_of_le, le_of_eq, zero-mul, mod-one, suc_inj}
use native.Mathlib.Omega.{arith}
use lib.ListN.{length, length-append}
use lib.Arith.{digits_lt}
use lib.Pow.{pow_pos, pow-add, high, low, mod-pow-add}
use Rattle.digits.specs.Number.{num, digits, Below}

-- one digit more is w bits more
pub pow_digit : (w k : ℕ) → 2 ^ (w * suc k) ≡ 2 ^ w * 2 ^ (w * k)
pow_digit w k = ap (λ (e : ℕ). 2 ^ e) (mul-suc w k ∙ add_comm (w * k) w) ∙ pow-add 2 w (w * k)

-- k digits of w bits are below 2 ^ (w * k)
pub num_below : (w : ℕ) (xs : List ℕ) → Below w xs → num w xs < 2 ^ (w * length xs)
unfolding num
num_below w [] h = pow_pos (w * 0)
num_below w (x ∷ xs) h =
    lt_of_lt_of_le (digits_lt (h 0) (num_below w xs (λ i. h (suc i)))) (le_of_eq (sym (pow_digit w (length xs))))

-- a row behind a row
pub num_append : (w : ℕ) (xs ys : List ℕ) → num w (xs ++ ys) ≡ num w xs * 2 ^ (w * length ys) + num w ys
unfolding num
num_append w [] ys = sym (ap (λ (n : ℕ). n + num w ys) (zero-mul (2 ^ (w * length ys))) ∙ zero-add (num w ys))
num_append w (x ∷ xs) ys =
    ap₂ (λ (p n : ℕ). x * p + n) power (num_append w xs ys)
    ∙ sym (add_assoc (x * (2 ^ (w * length xs) * 2 ^ (w * length ys))) (num w xs * 2 ^ (w * length ys)) (num w ys))
    ∙ ap (λ (n : ℕ). n + num w ys) (
    ap (λ (n : ℕ). n + num w xs * 2 ^ (w * length ys)) (sym (mul_assoc x (2 ^ (w * length xs)) (2 ^ (w * length ys))))
    ∙ sym (add-mul (x * 2 ^ (w * length xs)) (num w xs) (2 ^ (w * length ys)))
    )
  where
    power : 2 ^ (w * length (xs ++ ys)) ≡ 2 ^ (w * length xs) * 2 ^ (w * length ys)
    power = ap (λ (e : ℕ). 2 ^ e) (ap (λ (n : ℕ). w * n) (length-append xs ys) ∙ mul-add w (length xs) (length ys)) ∙ pow-add 2 (w * length xs) (w * length ys)

-- a row of one digit
one_digit : (w y : ℕ) → num w (y ∷ []) ≡ y
unfolding num
one_digit w y =
    ap (λ (e : ℕ). y * 2 ^ e + 0) (mul-zero w) ∙ ap (λ (p : ℕ). y * p + 0) (pow-zero 2) ∙ omega arith

-- one digit behind a row
pub num_last : (w : ℕ) (xs : List ℕ) (y : ℕ) → num w (xs ++ (y ∷ [])) ≡ num w xs * 2 ^ w + y
num_last w xs y = num_append w xs (y ∷ []) ∙ ap₂ (λ (e n : ℕ). num w xs * 2 ^ e + n) (mul-one w) (one_digit w y)

pub length_digits : (w k x : ℕ) → length (digits w k x) ≡ k
unfolding digits
length_digits w zero x = refl
length_digits w (suc k) x = ap suc (length_digits w k x)

pub digits_below : (w k x : ℕ) → Below w (digits w k x)
unfolding digits
digits_below w zero x i = pow_pos w
digits_below w (suc k) x zero = mod-lt (x / 2 ^ (w * k)) (pow_pos w)
digits_below w (suc k) x (suc i) = digits_below w k x i

-- the number of the k lowest digits is what the number leaves beyond them
pub num_digits : (w k x : ℕ) → num w (digits w k x) ≡ x % 2 ^ (w * k)
unfolding num digits
num_digits w zero x = sym (ap (λ (e : ℕ). x % 2 ^ e) (mul-zero w) ∙ ap (λ (p : ℕ). x % p) (pow-zero 2) ∙ mod-one x)
num_digits w (suc k) x =
    ap₂ (λ (l n : ℕ). x / 2 ^ (w * k) % 2 ^ w * 2 ^ (w * l) + n) (length_digits w k x) (num_digits w k x)
    ∙ sym (mod-pow-add x w (w * k))
    ∙ ap (λ (e : ℕ). x % 2 ^ e) (add_comm w (w * k) ∙ sym (mul-suc w k))

-- one number, one row of digits: rows of one length with one number are the same row
pub num_injective : (w : ℕ) (xs ys : List ℕ) → length xs ≡ length ys → Below w xs → Below w ys → num w xs ≡ num w ys → xs ≡ ys
unfolding num
num_injective w [] [] l h k e = refl
num_injective w [] (y ∷ ys) l h k e = absurd (omega arith)
num_injective w (x ∷ xs) [] l h k e = absurd (omega arith)
num_injective w (x ∷ xs) (y ∷ ys) l h k e = ap₂ ◌∷◌ heads (num_injective w xs ys same hs ks tails)
  where
    same : length xs ≡ length ys
    same = suc_inj l

    hs : Below w xs
    hs i = h (suc i)

    ks : Below w ys
    ks i = k (suc i)

    tail_fits : num w ys < 2 ^ (w * length xs)
    tail_fits = subst (λ (n : ℕ). num w ys < 2 ^ (w * n)) (sym same) (num_below w ys ks)

    told : x * 2 ^ (w * length xs) + num w xs ≡ y * 2 ^ (w * length xs) + num w ys
    told = e ∙ ap (λ (n : ℕ). y * 2 ^ (w * n) + num w ys) (sym same)

    heads : x ≡ y
    heads = sym (high x (w * length xs) (num_below w xs hs)) ∙ ap (λ (n : ℕ). n / 2 ^ (w * length xs)) told ∙ high y (w * length xs) tail_fits

    tails : num w xs ≡ num w ys
    tails = sym (low x (w * length xs) (num_below w xs hs)) ∙ ap (λ (n : ℕ). n % 2 ^ (w * length xs)) told ∙ low y (w * length xs) tail_fits

-- the digits of a row's number are the row
pub digits_num : (w : ℕ) (xs : List ℕ) → Below w xs → digits w (length xs) (num w xs) ≡ xs
digits_num w xs h =
    num_injective w (digits w (length xs) (num w xs)) xs (length_digits w (length xs) (num w xs)) (digits_below w (length xs) (num w xs)) h
    (num_digits w (length xs) (num w xs) ∙ mod-eq_of_lt (num_below w xs h))
