-- Pieces of text with the byte behind them. Nothing here has to be believed: the text that is written is told by `written` of crate typed.
use Rattle.std.specs.Prelude.{ℕ, List, [], ◌∷◌, ◌++◌}
use Rattle.typed.specs.Form.{name, term_text}
use Rattle.typed.specs.Says.{held}

-- the name of a variable and the byte behind it
abbrev pub named : ℕ → ℕ → List ℕ
named v behind = name v ++ behind ∷ []

-- a term and the byte behind it
abbrev pub spelled : ℕ → ℕ → List ℕ
spelled t behind = term_text (held t) ++ behind ∷ []
