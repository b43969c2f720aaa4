-- What is known where read or write accepted: the checks passed, the answer counts what was written, and a block is accepted exactly if it
-- holds the fields of an ascending list. Assumes nothing.
use mathlib.Core.Path.{◌≡◌, refl, sym, ap, ap₂, ◌∙◌, subst}
use mathlib.Core.List.{List}
use Prim.Native.Nat.{ℕ, ◌≤◌}
use native.Mathlib.Omega.{arith}
use lib.ListN.{length, take}
use Rattle.answer.specs.declared.Answer.{Answer}
use Rattle.answer.specs.Ends.{Writes}
use Rattle.answer.specs.Checked.{Passed, coded}
use Rattle.answer.proofs.Ends.{accepted_passed, counted}
use Rattle.polys.specs.List.{Asc}
use Rattle.terms.specs.Width.{width_of}
use Rattle.digits.proofs.Bits.{length_fields}
use Rattle.packing.specs.Format.{size, n_in, t_in, terms_in, spare_in, block_of}
use Rattle.block.specs.Calls.{read_checks, ReadEnds, write_checks, WriteEnds}
use Rattle.block.proofs.Fields.{Holds}
use Rattle.block.proofs.Reading.{Readable, readable}
use Rattle.block.proofs.Writing.{Writable, writable}

-- where write accepted
module _ (max_terms : ℕ) (terms old : List ℕ) (answer : Answer) (new : List ℕ) (e : WriteEnds max_terms terms old answer new) (z : answer.code ≡ 0) where
  write_passed : Passed (write_checks max_terms terms (length old))
  unfolding coded
  write_passed = accepted_passed old (Writes (block_of terms) old) (write_checks max_terms terms (length old)) answer new refl e z

  pub write_accepts : Writable max_terms terms (length old)
  write_accepts = writable max_terms terms (length old) write_passed

  pub block_left : take answer.count new ≡ block_of terms
  block_left = counted (write_checks max_terms terms (length old)) (block_of terms) old answer new write_passed e

-- the terms that a block says it has
abbrev pub said : List ℕ → List ℕ
said block = terms_in block (n_in block) (t_in block)

-- where read accepted
module _ (max_terms max_vars : ℕ) (block old : List ℕ) (answer : Answer) (new : List ℕ) (e : ReadEnds max_terms max_vars block old answer new) (z : answer.code ≡ 0) where
  read_passed : Passed (read_checks max_terms max_vars block (length old))
  unfolding coded
  read_passed = accepted_passed old (Writes (said block) old) (read_checks max_terms max_vars block (length old)) answer new refl e z

  pub read_accepts : Readable max_terms max_vars block (length old)
  read_accepts = readable max_terms max_vars block (length old) read_passed

  pub terms_read : take answer.count new ≡ said block
  terms_read = counted (read_checks max_terms max_vars block (length old)) (said block) old answer new read_passed e

-- a block that read accepts holds the fields of its terms
pub holds_if_readable : (max_terms max_vars : ℕ) (block : List ℕ) (room : ℕ) → Readable max_terms max_vars block room → Holds block (width_of (said block)) (said block)
holds_if_readable max_terms max_vars block room r =
    subst (λ (k : ℕ). Holds block k (said block)) (sym r.own)
    record {
      long = r.whole ∙ ap (size (n_in block)) (sym counts);
      form = r.form;
      vars = refl;
      count = sym counts;
      inside = ap (terms_in block (n_in block)) counts;
      rest = ap (spare_in block (n_in block)) counts ∙ r.rest;
    }
  where
    counts : length (said block) ≡ t_in block
    counts = length_fields block 24 (n_in block) (t_in block)

-- one that holds the fields of a list says its terms,
pub said_if_holds : (block terms : List ℕ) (n : ℕ) → Holds block n terms → said block ≡ terms
said_if_holds block terms n h = ap₂ (terms_in block) h.vars h.count ∙ h.inside

-- and is accepted if they ascend and there is room
pub readable_if_holds : (max_terms max_vars : ℕ) (block terms : List ℕ) (room : ℕ) → length terms ≤ max_terms → width_of terms ≤ max_vars
    → length terms ≤ room → Asc terms → Holds block (width_of terms) terms → Readable max_terms max_vars block room
readable_if_holds max_terms max_vars block terms room few narrow fits ascend h =
    let same = said_if_holds block terms (width_of terms) h in
    record {
      form = h.form;
      in_range = omega (arith, h.vars);
      few = omega (arith, h.count);
      whole = h.long ∙ ap₂ size (sym h.vars) (sym h.count);
      fits = omega (arith, h.count);
      ascend = subst Asc (sym same) ascend;
      own = ap width_of same ∙ sym h.vars;
      rest = ap₂ (spare_in block) h.vars h.count ∙ h.rest;
    }
