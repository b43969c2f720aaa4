-- Texts of RULES 12.5, as what the promise of the reader comes to: every ending that it allows is the one that stands here. Assumes nothing.
use mathlib.Core.Path.{◌≡◌, ap, ◌∙◌, subst}
use mathlib.Core.List.{List, [], ◌∷◌}
use Prim.Native.Nat.{ℕ, ◌≤◌}
use native.Mathlib.Omega.{arith}
use lib.ListN.{length}
use Rattle.answer.specs.declared.Answer.{Answer}
use Rattle.answer.specs.Table.{accepted, refused}
use Rattle.answer.specs.Ends.{Ends, Writes}
use Rattle.polys.specs.List.{insert, collect}
use Rattle.typed.specs.Shown.{Verdict}
use Rattle.typed.specs.Says.{mask, oddly, kept, left}
use Rattle.typed.specs.Machine.{start, within, moved, reads}
use Rattle.typed.proofs.Decides.{reads_decides}
use Rattle.typed.proofs.Once.{reads_once}
use Rattle.text.specs.Calls.{read_text_checks, read_terms, ReadTextEnds}

-- what a lent room of four words holds before
abbrev pub untouched : List ℕ
untouched = 7 ∷ 7 ∷ 7 ∷ 7 ∷ []

-- where at most so many terms may be written: every ending of the reader with this text and that room has this answer and leaves this
abbrev pub Gives : ℕ → List ℕ → Answer → List ℕ → Type 0
Gives most text answer left = (a : Answer) (new : List ℕ) → ReadTextEnds 65536 most 64 text untouched a new → (a ≡ answer) × (new ≡ left)

-- the ending is that of the verdict to which the text comes
comes_to : (most : ℕ) (text : List ℕ) (a : Answer) (new : List ℕ) → length text ≤ 65536 → ReadTextEnds 65536 most 64 text untouched a new
    → Ends (read_text_checks (reads 64 most (start [] []) 0 text) 4) untouched (Writes (read_terms (reads 64 most (start [] []) 0 text)) untouched) a new
comes_to most text a new l (v, r, e) =
    subst (λ (u : Verdict). Ends (read_text_checks u 4) untouched (Writes (read_terms u) untouched) a new)
    (reads_once 64 (omega arith) (omega arith) 65536 most text v (reads 64 most (start [] []) 0 text) r (reads_decides 64 (omega arith) (omega arith) 65536 most text l)) e

pub record AsTyped : Type 0 where
  -- x0*x3+x2+1␊
  pub designers : Gives 1024 (0x78 ∷ 0x30 ∷ 0x2a ∷ 0x78 ∷ 0x33 ∷ 0x2b ∷ 0x78 ∷ 0x32 ∷ 0x2b ∷ 0x31 ∷ 0x0a ∷ []) (accepted 3) (0 ∷ 4 ∷ 9 ∷ 7 ∷ [])
  -- x2+x3*x0+1␊
  pub another_order : Gives 1024 (0x78 ∷ 0x32 ∷ 0x2b ∷ 0x78 ∷ 0x33 ∷ 0x2a ∷ 0x78 ∷ 0x30 ∷ 0x2b ∷ 0x31 ∷ 0x0a ∷ []) (accepted 3) (0 ∷ 4 ∷ 9 ∷ 7 ∷ [])
  -- 0␊
  pub zero : Gives 1024 (0x30 ∷ 0x0a ∷ []) (accepted 0) (untouched)
  -- 1␊
  pub constant : Gives 1024 (0x31 ∷ 0x0a ∷ []) (accepted 1) (0 ∷ 7 ∷ 7 ∷ 7 ∷ [])
  -- 1+1␊
  pub cancelled : Gives 1024 (0x31 ∷ 0x2b ∷ 0x31 ∷ 0x0a ∷ []) (accepted 0) (untouched)
  -- x1+x1+x1␊
  pub three : Gives 1024 (0x78 ∷ 0x31 ∷ 0x2b ∷ 0x78 ∷ 0x31 ∷ 0x2b ∷ 0x78 ∷ 0x31 ∷ 0x0a ∷ []) (accepted 1) (2 ∷ 7 ∷ 7 ∷ 7 ∷ [])
  -- x64␊
  pub no_such_variable : Gives 1024 (0x78 ∷ 0x36 ∷ 0x34 ∷ 0x0a ∷ []) (refused 14 1 2) (untouched)
  -- x00␊
  pub leading_zero : Gives 1024 (0x78 ∷ 0x30 ∷ 0x30 ∷ 0x0a ∷ []) (refused 14 1 2) (untouched)
  -- x0*1␊
  pub times_one : Gives 1024 (0x78 ∷ 0x30 ∷ 0x2a ∷ 0x31 ∷ 0x0a ∷ []) (refused 14 1 3) (untouched)
  -- 0+1␊
  pub zero_more : Gives 1024 (0x30 ∷ 0x2b ∷ 0x31 ∷ 0x0a ∷ []) (refused 14 1 1) (untouched)
  -- x1*x1
  pub unfinished : Gives 1024 (0x78 ∷ 0x31 ∷ 0x2a ∷ 0x78 ∷ 0x31 ∷ []) (refused 14 1 5) (untouched)
  -- x1*x1+1␊
  pub twice : Gives 1024 (0x78 ∷ 0x31 ∷ 0x2a ∷ 0x78 ∷ 0x31 ∷ 0x2b ∷ 0x31 ∷ 0x0a ∷ []) (refused 15 1 5) (untouched)
  -- 1␊␊
  pub behind : Gives 1024 (0x31 ∷ 0x0a ∷ 0x0a ∷ []) (refused 14 1 2) (untouched)
  -- 1+x0+x1+x2+x3␊
  pub no_room : Gives 1024 (0x31 ∷ 0x2b ∷ 0x78 ∷ 0x30 ∷ 0x2b ∷ 0x78 ∷ 0x31 ∷ 0x2b ∷ 0x78 ∷ 0x32 ∷ 0x2b ∷ 0x78 ∷ 0x33 ∷ 0x0a ∷ []) (refused 6 1 0) (untouched)
  -- where two terms may be written: the terms are counted before any of them cancel
  -- 1+1+1␊
  pub too_many : Gives 2 (0x31 ∷ 0x2b ∷ 0x31 ∷ 0x2b ∷ 0x31 ∷ 0x0a ∷ []) (refused 2 1 0) (untouched)
  -- 1+1␊
  pub enough : Gives 2 (0x31 ∷ 0x2b ∷ 0x31 ∷ 0x0a ∷ []) (accepted 0) (untouched)
  -- 1+1+y␊
  pub sign_first : Gives 2 (0x31 ∷ 0x2b ∷ 0x31 ∷ 0x2b ∷ 0x79 ∷ 0x0a ∷ []) (refused 14 1 4) (untouched)

pub as_typed : AsTyped
unfolding Ends reads moved within mask left kept oddly collect insert
as_typed =
    record {
      designers = λ a new e. let w = comes_to 1024 (0x78 ∷ 0x30 ∷ 0x2a ∷ 0x78 ∷ 0x33 ∷ 0x2b ∷ 0x78 ∷ 0x32 ∷ 0x2b ∷ 0x31 ∷ 0x0a ∷ []) a new (omega arith) e in (w.1 ∙ ap accepted w.2.0, w.2.1);
      another_order = λ a new e. let w = comes_to 1024 (0x78 ∷ 0x32 ∷ 0x2b ∷ 0x78 ∷ 0x33 ∷ 0x2a ∷ 0x78 ∷ 0x30 ∷ 0x2b ∷ 0x31 ∷ 0x0a ∷ []) a new (omega arith) e in (w.1 ∙ ap accepted w.2.0, w.2.1);
      zero = λ a new e. let w = comes_to 1024 (0x30 ∷ 0x0a ∷ []) a new (omega arith) e in (w.1 ∙ ap accepted w.2.0, w.2.1);
      constant = λ a new e. let w = comes_to 1024 (0x31 ∷ 0x0a ∷ []) a new (omega arith) e in (w.1 ∙ ap accepted w.2.0, w.2.1);
      cancelled = λ a new e. let w = comes_to 1024 (0x31 ∷ 0x2b ∷ 0x31 ∷ 0x0a ∷ []) a new (omega arith) e in (w.1 ∙ ap accepted w.2.0, w.2.1);
      three = λ a new e. let w = comes_to 1024 (0x78 ∷ 0x31 ∷ 0x2b ∷ 0x78 ∷ 0x31 ∷ 0x2b ∷ 0x78 ∷ 0x31 ∷ 0x0a ∷ []) a new (omega arith) e in (w.1 ∙ ap accepted w.2.0, w.2.1);
      no_such_variable = λ a new e. let w = comes_to 1024 (0x78 ∷ 0x36 ∷ 0x34 ∷ 0x0a ∷ []) a new (omega arith) e in w;
      leading_zero = λ a new e. let w = comes_to 1024 (0x78 ∷ 0x30 ∷ 0x30 ∷ 0x0a ∷ []) a new (omega arith) e in w;
      times_one = λ a new e. let w = comes_to 1024 (0x78 ∷ 0x30 ∷ 0x2a ∷ 0x31 ∷ 0x0a ∷ []) a new (omega arith) e in w;
      zero_more = λ a new e. let w = comes_to 1024 (0x30 ∷ 0x2b ∷ 0x31 ∷ 0x0a ∷ []) a new (omega arith) e in w;
      unfinished = λ a new e. let w = comes_to 1024 (0x78 ∷ 0x31 ∷ 0x2a ∷ 0x78 ∷ 0x31 ∷ []) a new (omega arith) e in w;
      twice = λ a new e. let w = comes_to 1024 (0x78 ∷ 0x31 ∷ 0x2a ∷ 0x78 ∷ 0x31 ∷ 0x2b ∷ 0x31 ∷ 0x0a ∷ []) a new (omega arith) e in w;
      behind = λ a new e. let w = comes_to 1024 (0x31 ∷ 0x0a ∷ 0x0a ∷ []) a new (omega arith) e in w;
      no_room = λ a new e. let w = comes_to 1024 (0x31 ∷ 0x2b ∷ 0x78 ∷ 0x30 ∷ 0x2b ∷ 0x78 ∷ 0x31 ∷ 0x2b ∷ 0x78 ∷ 0x32 ∷ 0x2b ∷ 0x78 ∷ 0x33 ∷ 0x0a ∷ []) a new (omega arith) e in w;
      too_many = λ a new e. let w = comes_to 2 (0x31 ∷ 0x2b ∷ 0x31 ∷ 0x2b ∷ 0x31 ∷ 0x0a ∷ []) a new (omega arith) e in w;
      enough = λ a new e. let w = comes_to 2 (0x31 ∷ 0x2b ∷ 0x31 ∷ 0x0a ∷ []) a new (omega arith) e in (w.1 ∙ ap accepted w.2.0, w.2.1);
      sign_first = λ a new e. let w = comes_to 2 (0x31 ∷ 0x2b ∷ 0x31 ∷ 0x2b ∷ 0x79 ∷ 0x0a ∷ []) a new (omega arith) e in w;
    }
