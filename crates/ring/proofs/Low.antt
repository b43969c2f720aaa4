-- The bits of a term below k, as the remainder by 2 ^ k: what one more bit adds to it.
use mathlib.Core.Path.{◌≡◌, refl, sym, ap, ◌∙◌}
use mathlib.Core.Bool.{Bool, true, false}
use Prim.Native.Nat.{ℕ, zero, suc, ◌+◌, ◌*◌, ◌/◌, ◌%◌, ◌^◌, ◌<◌}
use native.Mathlib.Nat.{mod-lt, zero-lt-suc, not-suc-le-zero, le_of_suc-le-suc, one-mul, zero-mul, zero-add}
use native.Mathlib.Numerals.{one-add}
use lib.Pow.{mod-pow-add}
use lib.Dec.{eqb}
use Rattle.masks.specs.Bit.{bit}
use Rattle.masks.proofs.Low.{bit_at}
use Rattle.ring.specs.Same.{one_if}

digit : (x : ℕ) → x < 2 → x ≡ one_if (eqb x 1)
digit zero h = refl
digit (suc zero) h = refl
digit (suc (suc x)) h = absurd (not-suc-le-zero (le_of_suc-le-suc (le_of_suc-le-suc h)))

-- one more bit
pub low_suc : (n k : ℕ) → n % 2 ^ suc k ≡ one_if (bit n k) * 2 ^ k + n % 2 ^ k
low_suc n k =
    ap (λ (j : ℕ). n % 2 ^ j) (sym (one-add k))
    ∙ mod-pow-add n 1 k
    ∙ ap (λ (d : ℕ). d * 2 ^ k + n % 2 ^ k) (digit (n / 2 ^ k % 2) (mod-lt (n / 2 ^ k) (zero-lt-suc 1)) ∙ ap one_if (sym (bit_at n k)))

pub low_lacking : (n k : ℕ) → bit n k ≡ false → n % 2 ^ suc k ≡ n % 2 ^ k
low_lacking n k e = low_suc n k ∙ ap (λ (b : Bool). one_if b * 2 ^ k + n % 2 ^ k) e ∙ ap (λ (m : ℕ). m + n % 2 ^ k) (zero-mul (2 ^ k)) ∙ zero-add (n % 2 ^ k)

pub low_holding : (n k : ℕ) → bit n k ≡ true → n % 2 ^ suc k ≡ 2 ^ k + n % 2 ^ k
low_holding n k e = low_suc n k ∙ ap (λ (b : Bool). one_if b * 2 ^ k + n % 2 ^ k) e ∙ ap (λ (m : ℕ). m + n % 2 ^ k) (one-mul (2 ^ k))
