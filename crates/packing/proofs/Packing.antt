-- Writing a block: the header, then term by term, then zero bits. Leans on the laws of digits. Assumes nothing.
use mathlib.Core.Path.{◌≡◌, refl, sym, ap, ap₂, ◌∙◌, subst}
use mathlib.Core.List.{List, [], ◌∷◌, ◌++◌}
use Prim.Native.Nat.{ℕ, zero, suc, ◌+◌, ◌-◌, ◌*◌, ◌/◌, ◌%◌, ◌^◌, ◌≤◌, ◌<◌}
use native.Mathlib.Nat.{add-mul, mul_assoc, add_assoc, mul-suc, mul-zero}
use native.Mathlib.Numerals.{add-one}
use native.Mathlib.Omega.{arith}
use lib.Dec.{lit<}
use lib.ListN.{length, get_or, take, drop, take-append-drop}
use lib.Seq.{take-suc, take_all, length-take-le}
use lib.Pow.{pow-add}
use Rattle.terms.specs.Width.{width_of}
use Rattle.digits.specs.Number.{num, digits, Below}
use Rattle.digits.specs.Carry.{held, Put}
use Rattle.digits.proofs.Number.{num_last, digits_num}
use Rattle.digits.proofs.Writing.{drop_later}
use Rattle.packing.specs.Format.{size, header_of, number_of, size_of, block_of}

-- no digits
num_none : (w : ℕ) → num w [] ≡ 0
unfolding num
num_none w = refl

-- the header and the first i terms are written
pub record Packed (terms : List ℕ) (n header : ℕ) (old new : List ℕ) (at carry i : ℕ) : Type 0 where
  pub place : at ≡ 24 + n * i
  pub fits : carry < 2 ^ (at % 8)
  pub number : held new at carry ≡ header * 2 ^ (n * i) + num n (take i terms)
  pub behind : drop (at / 8) new ≡ drop (at / 8) old
  pub same : length new ≡ length old

-- the number of one term more
one_term_more : (terms : List ℕ) (n header i : ℕ) → i < length terms
    → (header * 2 ^ (n * i) + num n (take i terms)) * 2 ^ n + get_or terms i 0 ≡ header * 2 ^ (n * (i + 1)) + num n (take (i + 1) terms)
one_term_more terms n header i h =
    ap (λ (m : ℕ). m + get_or terms i 0) (add-mul (header * 2 ^ (n * i)) (num n (take i terms)) (2 ^ n))
    ∙ add_assoc (header * 2 ^ (n * i) * 2 ^ n) (num n (take i terms) * 2 ^ n) (get_or terms i 0)
    ∙ ap₂ ◌+◌ power (sym (ap (num n) (ap (λ (k : ℕ). take k terms) (add-one i) ∙ take-suc terms i 0 h) ∙ num_last n (take i terms) (get_or terms i 0)))
  where
    power : header * 2 ^ (n * i) * 2 ^ n ≡ header * 2 ^ (n * (i + 1))
    power =
        mul_assoc header (2 ^ (n * i)) (2 ^ n)
        ∙ ap (λ (p : ℕ). header * p) (
        sym (pow-add 2 (n * i) n) ∙ ap (λ (e : ℕ). 2 ^ e) (sym (ap (λ (k : ℕ). n * k) (add-one i) ∙ mul-suc n i))
        )

-- the header is written
pub packed_header : (terms : List ℕ) (n header : ℕ) (out new : List ℕ) (carry : ℕ) {at i : ℕ} → at ≡ 24 → i ≡ 0 → Put out 0 0 header 24 new carry
    → Packed terms n header new new at carry i
packed_header terms n header out new carry {at} {i} e f p =
    subst (λ (a : ℕ). Packed terms n header new new a carry i) (sym e)
    (subst (λ (k : ℕ). Packed terms n header new new 24 carry k) (sym f)
    record {
      place = omega (arith, mul-zero n);
      fits = p.fits;
      number = p.number ∙ nothing_before;
      behind = refl;
      same = refl;
    })
  where
    nothing_before : held out 0 0 * 2 ^ 24 + header ≡ header * 2 ^ (n * 0) + num n []
    nothing_before =
        omega (arith, num_none 8, num_none n, ap (λ (e : ℕ). header * 2 ^ e) (mul-zero n))

-- one term more
pub packed_more : (terms : List ℕ) (n header : ℕ) (old out : List ℕ) (at carry i : ℕ) (new : List ℕ) (left : ℕ) → i < length terms
    → Packed terms n header old out at carry i → Put out at carry (get_or terms i 0) n new left → Packed terms n header old new (at + n) left (i + 1)
packed_more terms n header old out at carry i new left h k p =
    record {
      place = omega (arith, k.place, mul-suc n i, ap (λ (j : ℕ). n * j) (add-one i));
      fits = p.fits;
      number = p.number ∙ ap (λ (m : ℕ). m * 2 ^ n + get_or terms i 0) k.number ∙ one_term_more terms n header i h;
      behind = p.behind ∙ drop_later (at / 8) ((at + n) / 8) out old (omega arith) k.behind;
      same = p.same ∙ k.same;
    }

-- the first bytes of a row are bytes
below_taken : (k : ℕ) (row : List ℕ) → Below 8 row → Below 8 (take k row)
below_taken zero row h i = lit< tt
below_taken (suc k) [] h i = h i
below_taken (suc k) (x ∷ row) h zero = h zero
below_taken (suc k) (x ∷ row) h (suc i) = below_taken k row (λ j. h (suc j)) i

-- a row of bytes is the digits of its number
bytes_by_number : (k number : ℕ) (row : List ℕ) → k ≤ length row → Below 8 row → num 8 (take k row) ≡ number → take k row ≡ digits 8 k number
bytes_by_number k number row h below e =
    sym (digits_num 8 (take k row) (below_taken k row below)) ∙ ap₂ (digits 8) (length-take-le k row h) e

-- the zero bits are written
pub packed_done : (terms : List ℕ) (n : ℕ) (old out : List ℕ) (at carry : ℕ) (new : List ℕ) (left : ℕ)
    → n ≡ width_of terms → size n (length terms) ≤ length old → Below 8 new
    → Packed terms n (header_of n (length terms)) old out at carry (length terms)
    → Put out at carry 0 (8 * (3 + (n * length terms + 7) / 8) - at) new left
    → new ≡ block_of terms ++ drop (size_of terms) old
unfolding block_of
packed_done terms n old out at carry new left e room bytes k p =
    subst (λ (m : ℕ). new ≡ digits 8 (size m t) (number_of m terms) ++ drop (size m t) old) e
    (sym (take-append-drop S new) ∙ ap₂ ◌++◌ (bytes_by_number S (number_of n terms) new long bytes number) rest)
  where
    t : ℕ
    t = length terms

    S : ℕ
    S = size n t

    w : ℕ
    w = 8 * S - at

    all_bits : at + w ≡ 8 * S
    all_bits = omega (arith, k.place)

    last_byte : (at + w) / 8 ≡ S
    last_byte = omega arith

    no_rest : (at + w) % 8 ≡ 0
    no_rest = omega arith

    long : S ≤ length new
    long = omega (arith, p.same, k.same)

    nothing_left : left ≡ 0
    nothing_left = omega (arith, subst (λ (m : ℕ). left < 2 ^ m) no_rest p.fits)

    number : num 8 (take S new) ≡ number_of n terms
    number =
        sym (ap₂ (λ (m l : ℕ). num 8 (take S new) * 2 ^ m + l) no_rest nothing_left ∙ omega arith)
        ∙ ap (λ (b : ℕ). num 8 (take b new) * 2 ^ ((at + w) % 8) + left) (sym last_byte)
        ∙ p.number
        ∙ ap₂ (λ (m v : ℕ). m * 2 ^ v + 0) (
        k.number ∙ ap (λ (l : List ℕ). header_of n t * 2 ^ (n * t) + num n l) (take_all t terms (omega arith))
        ) (ap (λ (b : ℕ). 8 * S - b) k.place)

    rest : drop S new ≡ drop S old
    rest =
        ap (λ (b : ℕ). drop b new) (sym last_byte)
        ∙ p.behind
        ∙ ap (λ (b : ℕ). drop b out) last_byte
        ∙ drop_later (at / 8) S out old (omega arith) k.behind

-- the same by the number of terms that was counted
pub packed_all : (terms : List ℕ) (n t : ℕ) (old out : List ℕ) (at carry : ℕ) (new : List ℕ) (left : ℕ) → t ≡ length terms
    → n ≡ width_of terms → size n (length terms) ≤ length old → Below 8 new
    → Packed terms n (header_of n t) old out at carry t
    → Put out at carry 0 (8 * (3 + (n * t + 7) / 8) - at) new left
    → new ≡ block_of terms ++ drop (size_of terms) old
packed_all terms n t old out at carry new left et e room bytes k p =
    packed_done terms n old out at carry new left e room bytes (subst (λ (m : ℕ). Packed terms n (header_of n m) old out at carry m) et k)
    (subst (λ (m : ℕ). Put out at carry 0 (8 * (3 + (n * m + 7) / 8) - at) new left) et p)

-- what is written over what lay there before the header
pub over_old : (terms : List ℕ) (old out new : List ℕ) (header carry : ℕ) → Put old 0 0 header 24 out carry
    → new ≡ block_of terms ++ drop (size_of terms) out → new ≡ block_of terms ++ drop (size_of terms) old
over_old terms old out new header carry p e = e ∙ ap (λ (l : List ℕ). block_of terms ++ l) (drop_later 3 (size_of terms) out old (omega arith) p.behind)
