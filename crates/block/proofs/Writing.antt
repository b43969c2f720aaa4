-- What write's checks (specs/Calls.antt) tell where they pass, when they pass, and that the block is then written. Leans on the laws of
-- order and of the block's size. Assumes nothing.
use mathlib.Core.Path.{◌≡◌, sym, ap, ap₂, ◌∙◌}
use mathlib.Core.List.{List, ◌++◌}
use Prim.Native.Nat.{ℕ, ◌≤◌}
use borrow.Author.Tests.{ltb-false, le-ltb}
use lib.ListN.{length, drop}
use Rattle.answer.specs.Ends.{Writes}
use Rattle.answer.specs.Checked.{Passed}
use Rattle.polys.specs.List.{Asc}
use Rattle.terms.specs.Width.{width_of}
use Rattle.terms.proofs.Order.{ascends_if_passed, passed_if_ascends}
use Rattle.packing.specs.Format.{size, size_of, block_of}
use Rattle.block.specs.Calls.{write_checks}
use Rattle.block.proofs.Fields.{length_block}

-- a list that write accepts
pub record Writable (max_terms : ℕ) (terms : List ℕ) (room : ℕ) : Type 0 where
  pub few : length terms ≤ max_terms
  pub ascend : Asc terms
  pub fits : size_of terms ≤ room

-- is one that passes the checks,
pub writable : (max_terms : ℕ) (terms : List ℕ) (room : ℕ) → Passed (write_checks max_terms terms room) → Writable max_terms terms room
unfolding Passed
writable max_terms terms room p = record { few = search ltb-false; ascend = search ascends_if_passed; fits = search ltb-false }

-- and the other way round
pub passed_if_writable : (max_terms : ℕ) (terms : List ℕ) (room : ℕ) → Writable max_terms terms room → Passed (write_checks max_terms terms room)
unfolding Passed
passed_if_writable max_terms terms room w =
    (le-ltb max_terms (length terms) w.few, (passed_if_ascends terms w.ascend, (le-ltb room (size_of terms) w.fits, tt)))

-- the size found by n and the number of terms is that of the block,
pub size_found : (terms : List ℕ) (n t found : ℕ) → n ≡ width_of terms → t ≡ length terms → found ≡ size n t → found ≡ size_of terms
size_found terms n t found en et f = f ∙ ap₂ size en et

-- and it counts the bytes written
pub block_written : (terms old new : List ℕ) (n t found : ℕ) → n ≡ width_of terms → t ≡ length terms → found ≡ size n t
    → new ≡ block_of terms ++ drop (size_of terms) old → Writes (block_of terms) old found new
block_written terms old new n t found en et f w =
    let length_is = length_block terms in
    (size_found terms n t found en et f ∙ sym length_is, w ∙ ap (λ (k : ℕ). block_of terms ++ drop k old) (sym length_is))
