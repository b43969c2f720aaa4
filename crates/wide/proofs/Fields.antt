-- Fields of bits in two pieces: a field wider than a word is read, and put, as its high bits and then its low ones. The width of a word
-- comes in as a number. Leans on digits' laws of fields. Assumes nothing.
use mathlib.Core.Path.{◌≡◌, sym, ap, subst, ◌∙◌}
use mathlib.Core.List.{List}
use Prim.Native.Nat.{ℕ, ◌+◌, ◌-◌, ◌*◌, ◌/◌, ◌%◌, ◌^◌, ◌≤◌, ◌<◌}
use native.Mathlib.Nat.{add_assoc, add-mul, mul_assoc, pow-zero, lt_of_lt_of_le}
use native.Mathlib.Omega.{arith}
use lib.ListN.{length, drop}
use lib.Pow.{pow_mono, shr_lt}
use lib.Pow.{high as above}
use Rattle.digits.specs.Number.{bits}
use Rattle.digits.specs.Carry.{held, Put}
use Rattle.digits.proofs.Bits.{bits_add}
use Rattle.digits.proofs.Writing.{drop_later, pow_sum}

-- a field of n bits, wider than a word of k, in two pieces
pub field_joined : (k : ℕ) (bytes : List ℕ) (at n : ℕ) → k < n → at + n ≤ 8 * length bytes
    → bits bytes at (n - k) * 2 ^ k + bits bytes (at + (n - k)) k ≡ bits bytes at n
field_joined k bytes at n h fits =
    let e : n - k + k ≡ n = omega arith in
    sym (bits_add bytes at (n - k) k (omega arith)) ∙ ap (bits bytes at) e

-- a number of n bits that fits a word of k has no high word
pub no_high : (k high low n : ℕ) → low < 2 ^ k → high * 2 ^ k + low < 2 ^ n → n ≤ k → high ≡ 0
no_high k high low n fits h le =
    let wider : high * 2 ^ k + low < 2 ^ k = lt_of_lt_of_le h (pow_mono le) in
    let e : k ≡ 0 + k = omega arith in
    let few : high < 2 ^ 0 =
    subst (λ (m : ℕ). m < 2 ^ 0) (above high k fits) (shr_lt 0 k (subst (λ (m : ℕ). high * 2 ^ k + low < 2 ^ m) e wider)) in
    omega (arith, few, pow-zero 2)

-- the high word of a number of n bits has the bits above the word
pub high_fits : (k high low n : ℕ) → low < 2 ^ k → high * 2 ^ k + low < 2 ^ n → k < n → high < 2 ^ (n - k)
high_fits k high low n fits h lt =
    let e : n ≡ n - k + k = omega arith in
    subst (λ (m : ℕ). m < 2 ^ (n - k)) (above high k fits) (shr_lt (n - k) k (subst (λ (m : ℕ). high * 2 ^ k + low < 2 ^ m) e h))

-- the high bits put, and the low ones behind them, are the whole number put
pub put_joined : (k : ℕ) (old mid new : List ℕ) (at carry high low n left last : ℕ) → k < n
    → Put old at carry high (n - k) mid left → Put mid (at + (n - k)) left low k new last → Put old at carry (high * 2 ^ k + low) n new last
put_joined k old mid new at carry high low n left last lt p q =
    record {
      number =
          ap (λ (m : ℕ). held new m last) (sym whole) ∙ q.number ∙ ap (λ (m : ℕ). m * 2 ^ k + low) p.number
          ∙ ap (λ (m : ℕ). m + low) (add-mul (held old at carry * 2 ^ (n - k)) high (2 ^ k) ∙ ap (λ (m : ℕ). m + high * 2 ^ k) powers)
          ∙ add_assoc (held old at carry * 2 ^ n) (high * 2 ^ k) low;
      fits = subst (λ (m : ℕ). last < 2 ^ (m % 8)) whole q.fits;
      behind =
          subst (λ (m : ℕ). drop (m / 8) new ≡ drop (m / 8) mid) whole q.behind
          ∙ drop_later ((at + (n - k)) / 8) ((at + n) / 8) mid old (omega arith) p.behind;
      same = q.same ∙ p.same;
    }
  where
    whole : at + (n - k) + k ≡ at + n
    whole = omega arith

    powers : held old at carry * 2 ^ (n - k) * 2 ^ k ≡ held old at carry * 2 ^ n
    powers =
        let e : n - k + k ≡ n = omega arith in
        mul_assoc (held old at carry) (2 ^ (n - k)) (2 ^ k) ∙ ap (λ (m : ℕ). held old at carry * m) (sym (pow_sum (n - k) k n (sym e)))
