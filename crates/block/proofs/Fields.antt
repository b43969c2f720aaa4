-- The block of a polynomial holds its fields, and a block that holds the fields of a polynomial is its block.
-- Leans on the laws of digits and fields. Assumes nothing.
use mathlib.Core.Path.{◌≡◌, refl, sym, ap, ap₂, ◌∙◌}
use mathlib.Core.List.{List}
use Prim.Native.Nat.{ℕ, ◌+◌, ◌*◌, ◌^◌, ◌<◌}
use native.Mathlib.Nat.{mod-eq_of_lt, zero-add}
use native.Mathlib.Omega.{arith}
use lib.Dec.{lit<}
use lib.ListN.{length}
use lib.Pow.{pow_pos}
use Rattle.terms.specs.Width.{width_of}
use Rattle.digits.specs.Number.{num, digits, bits, Below}
use Rattle.digits.proofs.Number.{num_below, num_digits, num_injective, digits_num, digits_below, length_digits}
use Rattle.digits.proofs.Bits.{bits_add, bits_first, bits_second, bits_whole, num_fields, length_fields, fields_below}
use Rattle.digits.proofs.Writing.{joined_below}
use Rattle.packing.specs.Format.{size, spare, form_in, n_in, t_in, terms_in, spare_in, behind, header_of, body_of, number_of, size_of, block_of}
use Rattle.packing.proofs.Variables.{terms_fit}

-- all bits of a block: 24 of the header, those of the terms, those to the end of the byte
all_bits : (n t : ℕ) → 8 * size n t ≡ 24 + n * t + spare n t
all_bits n t = omega arith

-- what the fields of a block say
pub record Holds (block : List ℕ) (n : ℕ) (terms : List ℕ) : Type 0 where
  pub long : length block ≡ size n (length terms)
  pub form : form_in block ≡ 1
  pub vars : n_in block ≡ n
  pub count : t_in block ≡ length terms
  pub inside : terms_in block n (length terms) ≡ terms
  pub rest : spare_in block n (length terms) ≡ 0

-- a block whose number is that of the fields holds them
pub holds_by_number : (block : List ℕ) (n : ℕ) (terms : List ℕ) → Below 8 block → n < 2 ^ 7 → length terms < 2 ^ 13 → Below n terms
    → length block ≡ size n (length terms) → num 8 block ≡ number_of n terms → Holds block n terms
holds_by_number block n terms bytes small few fit long number =
    record { long = long; form = form; vars = vars; count = count; inside = inside; rest = rest }
  where
    t : ℕ
    t = length terms

    enough : 24 + n * t + spare n t ≡ 8 * length block
    enough = omega arith

    whole : bits block 0 (24 + n * t + spare n t) ≡ number_of n terms
    whole = ap (bits block 0) enough ∙ bits_whole block bytes ∙ number

    body : bits block 0 (24 + n * t) ≡ body_of n terms
    body = bits_first block 0 (24 + n * t) (spare n t) _ 0 (omega arith) (pow_pos (spare n t)) whole

    rest : spare_in block n t ≡ 0
    rest = ap (λ (o : ℕ). bits block o (spare n t)) (sym (zero-add (24 + n * t))) ∙ bits_second block 0 (24 + n * t) (spare n t) (body_of n terms) 0 (omega arith) (pow_pos (spare n t)) whole

    header : bits block 0 24 ≡ header_of n t
    header = bits_first block 0 24 (n * t) _ (num n terms) (omega arith) (num_below n terms fit) body

    together : bits block 24 (n * t) ≡ num n terms
    together = bits_second block 0 24 (n * t) (header_of n t) (num n terms) (omega arith) (num_below n terms fit) body

    inside : terms_in block n t ≡ terms
    inside =
        num_injective n (terms_in block n t) terms (length_fields block 24 n t) (fields_below block 24 n t) fit
        (num_fields block 24 n t (omega arith) ∙ together)

    count : t_in block ≡ t
    count = bits_second block 0 11 13 (behind 1 7 n) t (omega arith) few header

    first : bits block 0 11 ≡ behind 1 7 n
    first = bits_first block 0 11 13 (behind 1 7 n) t (omega arith) few header

    vars : n_in block ≡ n
    vars = bits_second block 0 4 7 1 n (omega arith) small first

    form : form_in block ≡ 1
    form = bits_first block 0 4 7 1 n (omega arith) small first

-- a block that holds the fields has their number
pub number_by_holds : (block : List ℕ) (n : ℕ) (terms : List ℕ) → Below 8 block → Holds block n terms → num 8 block ≡ number_of n terms
number_by_holds block n terms bytes h =
    sym (bits_whole block bytes)
    ∙ ap (bits block 0) enough
    ∙ bits_add block 0 (24 + n * t) (spare n t) (omega arith)
    ∙ ap₂ (λ (a b : ℕ). a * 2 ^ spare n t + b) body (ap (λ (o : ℕ). bits block o (spare n t)) (zero-add (24 + n * t)) ∙ h.rest)
  where
    t : ℕ
    t = length terms

    enough : 8 * length block ≡ 24 + n * t + spare n t
    enough = omega (arith, h.long)

    first : bits block 0 11 ≡ behind 1 7 n
    first = bits_add block 0 4 7 (omega arith) ∙ ap₂ (λ (a b : ℕ). behind a 7 b) h.form h.vars

    header : bits block 0 24 ≡ header_of n t
    header = bits_add block 0 11 13 (omega arith) ∙ ap₂ (λ (a b : ℕ). behind a 13 b) first h.count

    body : bits block 0 (24 + n * t) ≡ body_of n terms
    body =
        bits_add block 0 24 (n * t) (omega arith)
        ∙ ap₂ (λ (a b : ℕ). a * 2 ^ (n * t) + b) header (sym (num_fields block 24 n t (omega arith)) ∙ ap (num n) h.inside)

-- the number of a block's fields has the bits of the block
number_fits : (n : ℕ) (terms : List ℕ) → n < 2 ^ 7 → length terms < 2 ^ 13 → Below n terms → number_of n terms < 2 ^ (8 * size n (length terms))
number_fits n terms small few fit =
    joined_below (body_of n terms) 0 (24 + n * t) (spare n t) (8 * size n t)
    (joined_below (header_of n t) (num n terms) 24 (n * t) (24 + n * t)
    (joined_below (behind 1 7 n) t 11 13 24 (joined_below 1 n 4 7 11 (lit< tt) small refl) few refl)
    (num_below n terms fit)
    refl)
    (pow_pos (spare n t))
    (omega arith)
  where
    t : ℕ
    t = length terms

-- the block of a polynomial is bytes, as many as it says, and holds its fields
pub block_bytes : (terms : List ℕ) → Below 8 (block_of terms)
unfolding block_of
block_bytes terms = digits_below 8 (size_of terms) (number_of (width_of terms) terms)

pub length_block : (terms : List ℕ) → length (block_of terms) ≡ size_of terms
unfolding block_of
length_block terms = length_digits 8 (size_of terms) (number_of (width_of terms) terms)

pub number_of_block : (terms : List ℕ) → width_of terms < 2 ^ 7 → length terms < 2 ^ 13 → num 8 (block_of terms) ≡ number_of (width_of terms) terms
unfolding block_of
number_of_block terms small few =
    num_digits 8 (size_of terms) (number_of (width_of terms) terms) ∙ mod-eq_of_lt (number_fits (width_of terms) terms small few (terms_fit terms))

pub block_holds : (terms : List ℕ) → width_of terms < 2 ^ 7 → length terms < 2 ^ 13 → Holds (block_of terms) (width_of terms) terms
block_holds terms small few =
    holds_by_number (block_of terms) (width_of terms) terms (block_bytes terms) small few (terms_fit terms) (length_block terms) (number_of_block terms small few)

-- and no other block holds them
pub block_unique : (block terms : List ℕ) → Below 8 block → Holds block (width_of terms) terms → block ≡ block_of terms
unfolding block_of
block_unique block terms bytes h =
    sym (digits_num 8 block bytes) ∙ ap₂ (digits 8) h.long (number_by_holds block (width_of terms) terms bytes h)
