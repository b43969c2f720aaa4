-- What the promises of read and write come to: two endings that a promise allows coincide; reading what write wrote gives the same list;
-- writing what read accepted gives the same bytes; so an accepted block is the one block of its polynomial (RULES 4.3). Assumes nothing.
use mathlib.Core.Path.{◌≡◌, sym, ap, ◌∙◌, subst}
use mathlib.Core.List.{List}
use Prim.Native.Nat.{ℕ, ◌^◌, ◌≤◌, ◌<◌}
use native.Mathlib.Nat.{lt_of_le_of_lt}
use native.Mathlib.Omega.{arith}
use lib.ListN.{length, take}
use Rattle.answer.specs.declared.Answer.{Answer}
use Rattle.answer.specs.Table.{accepted}
use Rattle.answer.specs.Ends.{Writes, over}
use Rattle.answer.proofs.Ends.{ends_coincide, writes_once, passed_writes}
use Rattle.polys.specs.Poly.{vars}
use Rattle.terms.specs.Width.{width_of}
use Rattle.masks.proofs.Width.{width_le}
use Rattle.digits.specs.Number.{Below}
use Rattle.digits.proofs.Bits.{length_fields}
use Rattle.packing.specs.Format.{n_in, t_in, block_of}
use Rattle.block.specs.Calls.{read_checks, ReadEnds, write_checks, WriteEnds}
use Rattle.terms.proofs.Vars.{vars_below}
use Rattle.block.proofs.Fields.{Holds, block_holds, block_unique}
use Rattle.block.proofs.Reading.{Readable, passed_if_readable}
use Rattle.block.proofs.Writing.{Writable, passed_if_writable}
use Rattle.block.proofs.Accepted.{write_accepts, block_left, said, read_accepts, terms_read, holds_if_readable, said_if_holds, readable_if_holds}

-- two endings of read coincide, in the four numbers and in the buffer
pub read_determined : (max_terms max_vars : ℕ) (block old : List ℕ) (a b : Answer) (new other : List ℕ)
    → ReadEnds max_terms max_vars block old a new → ReadEnds max_terms max_vars block old b other → (a ≡ b) × (new ≡ other)
read_determined max_terms max_vars block old a b new other e f =
    ends_coincide old (Writes (said block) old) (writes_once (said block) old) (read_checks max_terms max_vars block (length old)) a b new other e f

-- two endings of write coincide
pub write_determined : (max_terms : ℕ) (terms old : List ℕ) (a b : Answer) (new other : List ℕ)
    → WriteEnds max_terms terms old a new → WriteEnds max_terms terms old b other → (a ≡ b) × (new ≡ other)
write_determined max_terms terms old a b new other e f =
    ends_coincide old (Writes (block_of terms) old) (writes_once (block_of terms) old) (write_checks max_terms terms (length old)) a b new other e f

-- reading what write wrote gives the same list
pub read_of_written : (max_terms max_vars : ℕ) (terms old out : List ℕ) (wrote : Answer) (new : List ℕ) (got : Answer) (new' : List ℕ)
    → max_terms < 2 ^ 13 → max_vars < 2 ^ 7 → Below max_vars terms → length terms ≤ length out
    → WriteEnds max_terms terms old wrote new → wrote.code ≡ 0 → ReadEnds max_terms max_vars (take wrote.count new) out got new'
    → (got ≡ accepted (length terms)) × (new' ≡ over terms out)
read_of_written max_terms max_vars terms old out wrote new got new' few_enough narrow_enough fit room e z f =
    subst (λ (l : List ℕ). (got ≡ accepted (length l)) × (new' ≡ over l out)) (said_if_holds block terms (width_of terms) holds)
    (passed_writes (read_checks max_terms max_vars block (length out)) (said block) out got new'
    (passed_if_readable max_terms max_vars block (length out) (readable_if_holds max_terms max_vars block terms (length out) ok.few narrow room ok.ascend holds))
    (subst (λ (b : List ℕ). ReadEnds max_terms max_vars b out got new') (block_left max_terms terms old wrote new e z) f))
  where
    ok : Writable max_terms terms (length old)
    ok = write_accepts max_terms terms old wrote new e z

    block : List ℕ
    block = block_of terms

    narrow : width_of terms ≤ max_vars
    narrow = width_le max_vars (vars terms) (vars_below max_vars terms fit)

    holds : Holds block (width_of terms) terms
    holds = block_holds terms (lt_of_le_of_lt narrow narrow_enough) (lt_of_le_of_lt ok.few few_enough)

-- a block that read accepted is the block of the terms it says,
block_said : (max_terms max_vars : ℕ) (block old : List ℕ) (got : Answer) (new : List ℕ) → Below 8 block
    → ReadEnds max_terms max_vars block old got new → got.code ≡ 0 → block ≡ block_of (said block)
block_said max_terms max_vars block old got new bytes e z =
    block_unique block (said block) bytes (holds_if_readable max_terms max_vars block (length old) (read_accepts max_terms max_vars block old got new e z))

-- which are those that were read
pub accepted_block : (max_terms max_vars : ℕ) (block old : List ℕ) (got : Answer) (new : List ℕ) → Below 8 block
    → ReadEnds max_terms max_vars block old got new → got.code ≡ 0 → block ≡ block_of (take got.count new)
accepted_block max_terms max_vars block old got new bytes e z =
    block_said max_terms max_vars block old got new bytes e z ∙ ap block_of (sym (terms_read max_terms max_vars block old got new e z))

-- writing what read accepted gives the same bytes
pub written_of_read : (max_terms max_vars : ℕ) (block old out : List ℕ) (got : Answer) (new : List ℕ) (wrote : Answer) (new' : List ℕ)
    → Below 8 block → length block ≤ length out
    → ReadEnds max_terms max_vars block old got new → got.code ≡ 0 → WriteEnds max_terms (take got.count new) out wrote new'
    → (wrote ≡ accepted (length block)) × (new' ≡ over block out)
written_of_read max_terms max_vars block old out got new wrote new' bytes room e z f =
    subst (λ (b : List ℕ). (wrote ≡ accepted (length b)) × (new' ≡ over b out)) (sym (block_said max_terms max_vars block old got new bytes e z))
    (passed_writes (write_checks max_terms (said block) (length out)) (block_of (said block)) out wrote new'
    (passed_if_writable max_terms (said block) (length out) writable)
    (subst (λ (l : List ℕ). WriteEnds max_terms l out wrote new') (terms_read max_terms max_vars block old got new e z) f))
  where
    ok : Readable max_terms max_vars block (length old)
    ok = read_accepts max_terms max_vars block old got new e z

    writable : Writable max_terms (said block) (length out)
    writable =
        record {
          few = omega (arith, ok.few, length_fields block 24 (n_in block) (t_in block));
          ascend = ok.ascend;
          fits = omega (arith, (holds_if_readable max_terms max_vars block (length old) ok).long);
        }

-- one polynomial, one block: accepted blocks with the same terms are the same bytes
pub one_polynomial_one_block : (max_terms max_vars : ℕ) (block block' old old' : List ℕ) (got got' : Answer) (new new' : List ℕ) → Below 8 block → Below 8 block'
    → ReadEnds max_terms max_vars block old got new → got.code ≡ 0 → ReadEnds max_terms max_vars block' old' got' new' → got'.code ≡ 0
    → take got.count new ≡ take got'.count new' → block ≡ block'
one_polynomial_one_block max_terms max_vars block block' old old' got got' new new' bytes bytes' e z e' z' same =
    accepted_block max_terms max_vars block old got new bytes e z
    ∙ ap block_of same
    ∙ sym (accepted_block max_terms max_vars block' old' got' new' bytes' e' z')
