-- The blocks of RULES 7.4 and 4.4, as what the promises of read and write come to. Assumes nothing.
use mathlib.Core.Path.{◌≡◌, refl, ap, ◌∙◌}
use mathlib.Core.List.{List, [], ◌∷◌}
use Prim.Native.Nat.{ℕ}
use Rattle.answer.specs.declared.Answer.{Answer}
use Rattle.answer.specs.Table.{accepted, refused}
use Rattle.answer.specs.Ends.{Ends}
use Rattle.polys.specs.Poly.{vars}
use Rattle.terms.specs.Order.{unordered, rising}
use Rattle.masks.specs.Width.{width, halvings}
use Rattle.digits.specs.Number.{num, digits, bits, fields}
use Rattle.packing.specs.Format.{block_of}
use Rattle.block.specs.Calls.{ReadEnds}

-- the blocks of zero, of one and of `{1,2,5,6}`
pub zero_block : block_of [] ≡ 0x10 ∷ 0x00 ∷ 0x00 ∷ []
unfolding block_of digits num width halvings vars
zero_block = refl

pub constant_block : block_of (0 ∷ []) ≡ 0x10 ∷ 0x00 ∷ 0x01 ∷ []
unfolding block_of digits num width halvings vars
constant_block = refl

pub printed_block : block_of (1 ∷ 2 ∷ 5 ∷ 6 ∷ []) ≡ 0x10 ∷ 0x60 ∷ 0x04 ∷ 0x2a ∷ 0xe0 ∷ []
unfolding block_of digits num width halvings vars
printed_block = refl

-- what a lent room of five words holds before
abbrev pub untouched : List ℕ
untouched = 9 ∷ 9 ∷ 9 ∷ 9 ∷ 9 ∷ []

-- every ending of read with these bytes and that room has this answer and leaves this
abbrev pub Gives : List ℕ → Answer → List ℕ → Type 0
Gives block answer left = (a : Answer) (new : List ℕ) → ReadEnds 1024 64 block untouched a new → (a ≡ answer) × (new ≡ left)

-- the block of `{1,2,5,6}` is read; the others are refused
pub record AsListed : Type 0 where
  pub printed : Gives (0x10 ∷ 0x60 ∷ 0x04 ∷ 0x2a ∷ 0xe0 ∷ []) (accepted 4) (1 ∷ 2 ∷ 5 ∷ 6 ∷ 9 ∷ [])
  pub pad : Gives (0x10 ∷ 0x60 ∷ 0x04 ∷ 0x2a ∷ 0xe1 ∷ []) (refused 13 1 0) untouched
  pub short : Gives (0x10 ∷ 0x60 ∷ 0x04 ∷ 0x2a ∷ []) (refused 10 1 0) untouched
  pub extra : Gives (0x10 ∷ 0x60 ∷ 0x04 ∷ 0x2a ∷ 0xe0 ∷ 0x00 ∷ []) (refused 12 1 0) untouched
  pub form : Gives (0x20 ∷ 0x00 ∷ 0x01 ∷ []) (refused 8 1 0) untouched
  pub order : Gives (0x10 ∷ 0x00 ∷ 0x02 ∷ []) (refused 3 1 1) untouched
  pub misfit : Gives (0x10 ∷ 0x20 ∷ 0x01 ∷ 0x00 ∷ []) (refused 11 1 0) untouched

pub as_listed : AsListed
unfolding Ends bits num fields unordered rising width halvings vars
as_listed =
    record {
      printed = λ a new e. (e.1 ∙ ap accepted e.2.0, e.2.1);
      pad = λ a new e. e;
      short = λ a new e. e;
      extra = λ a new e. e;
      form = λ a new e. e;
      order = λ a new e. e;
      misfit = λ a new e. e;
    }
