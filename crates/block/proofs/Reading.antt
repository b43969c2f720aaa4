-- What read's checks (specs/Calls.antt) tell where they pass, when they pass, and that the terms are then written. Leans on the laws of
-- order and of fields. Assumes nothing.
use mathlib.Core.Path.{◌≡◌, sym, ap, ◌∙◌, subst}
use mathlib.Core.Bool.{false}
use mathlib.Core.List.{List, ◌++◌}
use Prim.Native.Nat.{ℕ, ◌≤◌}
use native.Mathlib.Nat.{le_antisymm, le_of_eq}
use native.Mathlib.Omega.{arith}
use borrow.Author.Tests.{ltb-false, le-ltb}
use lib.Dec.{ltb}
use lib.ListN.{length, drop}
use Rattle.answer.specs.declared.Answer.{Answer}
use Rattle.answer.specs.Ends.{Writes}
use Rattle.answer.specs.Checked.{Passed, Checked}
use Rattle.answer.proofs.Checking.{equal_if_passed, passed_if_equal}
use Rattle.polys.specs.List.{Asc}
use Rattle.polys.specs.Poly.{vars}
use Rattle.terms.specs.Order.{unordered}
use Rattle.terms.specs.Width.{width_of}
use Rattle.terms.proofs.Order.{ascends_if_passed, passed_if_ascends}
use Rattle.masks.proofs.Width.{width_le}
use Rattle.digits.proofs.Bits.{length_fields, fields_below}
use Rattle.packing.specs.Format.{size, form_in, n_in, t_in, terms_in, spare_in}
use Rattle.block.specs.Calls.{body_checks, read_checks}
use Rattle.terms.proofs.Vars.{vars_below}

-- a block's terms pass the order check exactly if they ascend
pub terms_ascend : (block : List ℕ) (n t : ℕ) → ltb (unordered (terms_in block n t)) t ≡ false → Asc (terms_in block n t)
terms_ascend block n t e =
    ascends_if_passed (terms_in block n t) (ap (ltb (unordered (terms_in block n t))) (length_fields block 24 n t) ∙ e)

terms_pass : (block : List ℕ) (n t : ℕ) → Asc (terms_in block n t) → ltb (unordered (terms_in block n t)) t ≡ false
terms_pass block n t a = ap (ltb (unordered (terms_in block n t))) (sym (length_fields block 24 n t)) ∙ passed_if_ascends (terms_in block n t) a

-- the body's checks of n and t that were found are those of the header's n and t
pub body_checked : (block : List ℕ) (n t room : ℕ) (answer : Answer) → n ≡ n_in block → t ≡ t_in block
    → Checked (body_checks block n t room) answer → Checked (body_checks block (n_in block) (t_in block) room) answer
body_checked block n t room answer e f c = subst (λ (k : ℕ). Checked (body_checks block k (t_in block) room) answer) e (subst (λ (k : ℕ). Checked (body_checks block n k room) answer) f c)

-- a block that read accepts
pub record Readable (max_terms max_vars : ℕ) (block : List ℕ) (room : ℕ) : Type 0 where
  pub form : form_in block ≡ 1
  pub in_range : n_in block ≤ max_vars
  pub few : t_in block ≤ max_terms
  pub whole : length block ≡ size (n_in block) (t_in block)
  pub fits : t_in block ≤ room
  pub ascend : Asc (terms_in block (n_in block) (t_in block))
  pub own : width_of (terms_in block (n_in block) (t_in block)) ≡ n_in block
  pub rest : spare_in block (n_in block) (t_in block) ≡ 0

-- is one that passes the checks,
pub readable : (max_terms max_vars : ℕ) (block : List ℕ) (room : ℕ) → Passed (read_checks max_terms max_vars block room) → Readable max_terms max_vars block room
unfolding Passed
readable max_terms max_vars block room p =
    record {
      form = search equal_if_passed;
      in_range = search ltb-false;
      few = search ltb-false;
      whole = le_antisymm (search ltb-false) (search ltb-false);
      fits = search ltb-false;
      ascend = search terms_ascend;
      own = le_antisymm (width_le n (vars terms) (vars_below n terms (fields_below block 24 n (t_in block)))) (search ltb-false);
      rest = let none : spare_in block n (t_in block) ≤ 0 = search ltb-false in omega arith;
    }
  where
    n : ℕ
    n = n_in block

    terms : List ℕ
    terms = terms_in block n (t_in block)

-- and the other way round
pub passed_if_readable : (max_terms max_vars : ℕ) (block : List ℕ) (room : ℕ) → Readable max_terms max_vars block room → Passed (read_checks max_terms max_vars block room)
unfolding Passed
passed_if_readable max_terms max_vars block room r =
    let n = n_in block in
    let t = t_in block in (
      le-ltb (length block) 3 (omega (arith, r.whole)),
      (
        passed_if_equal (form_in block) 1 r.form,
        (
          le-ltb max_vars n r.in_range,
          (
            le-ltb max_terms t r.few,
            (
              le-ltb (length block) (size n t) (le_of_eq (sym r.whole)),
              (
                le-ltb (size n t) (length block) (le_of_eq r.whole),
                (
                  le-ltb room t r.fits,
                  (
                    terms_pass block n t r.ascend,
                    (
                      le-ltb (width_of (terms_in block n t)) n (le_of_eq (sym r.own)),
                      (le-ltb 0 (spare_in block n t) (le_of_eq r.rest), tt),
                    ),
                  ),
                ),
              ),
            ),
          ),
        ),
      ),
    )

-- the terms written are those of the header's n and t
pub terms_written : (block old new : List ℕ) (n t : ℕ) → n ≡ n_in block → t ≡ t_in block → new ≡ terms_in block n t ++ drop t old
    → Writes (terms_in block (n_in block) (t_in block)) old t new
terms_written block old new n t e f w =
    subst (λ (k : ℕ). Writes (terms_in block k (t_in block)) old t new) e
    (subst (λ (k : ℕ). Writes (terms_in block n k) old t new) f
    (sym (length_fields block 24 n t), w ∙ ap (λ (k : ℕ). terms_in block n t ++ drop k old) (sym (length_fields block 24 n t))))

-- the room that was counted is the room that was lent
pub room_counted : (max_terms max_vars : ℕ) (block : List ℕ) (found room : ℕ) (answer : Answer) → found ≡ room
    → Checked (read_checks max_terms max_vars block found) answer → Checked (read_checks max_terms max_vars block room) answer
room_counted max_terms max_vars block found room answer e = subst (λ (n : ℕ). Checked (read_checks max_terms max_vars block n) answer) e
