-- The block of a polynomial bit by bit, and every bit of a block that read accepted. Assumes nothing.
use mathlib.Core.Path.{◌≡◌, sym, ap, ap₂, ◌∙◌, subst}
use mathlib.Core.Bool.{Bool}
use mathlib.Core.List.{List, ◌++◌, append_assoc}
use Prim.Native.Nat.{ℕ, ◌+◌, ◌*◌, ◌^◌, ◌<◌}
use native.Mathlib.Omega.{arith}
use lib.ListN.{length, take}
use lib.Pow.{pow_pos}
use Rattle.terms.specs.Width.{width_of}
use Rattle.answer.specs.declared.Answer.{Answer}
use Rattle.digits.specs.Number.{num, Below}
use Rattle.digits.specs.Bitwise.{bits_of, row}
use Rattle.digits.proofs.Number.{num_below}
use Rattle.digits.proofs.Bits.{length_fields}
use Rattle.digits.proofs.Bitwise.{bits_joined, row_of_number, bits_of_zero}
use Rattle.packing.specs.Format.{size, spare, n_in, t_in, behind, header_of, body_of, block_of}
use Rattle.block.specs.Bitwise.{block_bits}
use Rattle.block.specs.Calls.{ReadEnds}
use Rattle.packing.proofs.Variables.{terms_fit}
use Rattle.block.proofs.Fields.{block_bytes, length_block, number_of_block}
use Rattle.block.proofs.Reading.{Readable}
use Rattle.block.proofs.Accepted.{said, read_accepts, terms_read}
use Rattle.block.proofs.RoundTrip.{accepted_block}

-- the bytes of the block, bit by bit, are the fields of RULES 4.1
pub block_bit_by_bit : (terms : List ℕ) → width_of terms < 2 ^ 7 → length terms < 2 ^ 13 → row 8 (block_of terms) ≡ block_bits terms
block_bit_by_bit terms small few =
    row_of_number 8 (block_of terms) (block_bytes terms)
    ∙ ap₂ bits_of (ap (λ (k : ℕ). 8 * k) (length_block terms) ∙ all) (number_of_block terms small few)
    ∙ bits_joined (24 + n * t) (spare n t) (body_of n terms) 0 (pow_pos (spare n t))
    ∙ ap₂ ◌++◌ (
    bits_joined 24 (n * t) (header_of n t) (num n terms) (num_below n terms (terms_fit terms))
    ∙ ap₂ ◌++◌ (bits_joined 11 13 (behind 1 7 n) t few ∙ ap (λ (l : List Bool). l ++ bits_of 13 t) (bits_joined 4 7 1 n small)) (sym (row_of_number n terms (terms_fit terms)))
    ) (bits_of_zero (spare n t))
    ∙ simp append_assoc
  where
    n : ℕ
    n = width_of terms

    t : ℕ
    t = length terms

    all : 8 * size n t ≡ 24 + n * t + spare n t
    all = omega arith

-- every bit of an accepted block is determined by the terms that were read
pub accepted_bit_by_bit : (max_terms max_vars : ℕ) (block old : List ℕ) (got : Answer) (new : List ℕ) → max_terms < 2 ^ 13 → max_vars < 2 ^ 7 → Below 8 block
    → ReadEnds max_terms max_vars block old got new → got.code ≡ 0 → row 8 block ≡ block_bits (take got.count new)
accepted_bit_by_bit max_terms max_vars block old got new few narrow bytes e z =
    ap (row 8) (accepted_block max_terms max_vars block old got new bytes e z)
    ∙ block_bit_by_bit (take got.count new)
    (subst (λ (l : List ℕ). width_of l < 2 ^ 7) (sym terms) (omega (arith, ok.own, ok.in_range)))
    (subst (λ (l : List ℕ). length l < 2 ^ 13) (sym terms) (omega (arith, length_fields block 24 (n_in block) (t_in block), ok.few)))
  where
    ok : Readable max_terms max_vars block (length old)
    ok = read_accepts max_terms max_vars block old got new e z

    terms : take got.count new ≡ said block
    terms = terms_read max_terms max_vars block old got new e z
