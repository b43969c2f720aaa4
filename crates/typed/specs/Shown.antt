-- What a byte of a text shows (RULES 12.2), and how a text reads: the first byte that shows something refuses it, and one that shows
-- nothing anywhere is read.
use Rattle.std.specs.Prelude.{ℕ, suc, ◌≤◌, ◌<◌, ◌≡◌, List, [], ◌∷◌, ◌++◌, ◌⊎◌, length, take, get_or}
use Rattle.polys.specs.List.{Mem}
use Rattle.typed.specs.Form.{letter, star, plus, feed, digit, term_text, text_of, Named, AllNamed, Equation, Begins}

-- Sign is shown at i: no equation goes on so, or i is the end of a text that ends too early
abbrev pub Sign : ℕ → List ℕ → ℕ → Type 0
Sign vars text i = ((i < length text) × ¬ Begins vars (take (suc i) text)) ⊎ ((i ≡ length text) × ¬ Equation vars text)

-- terms, each with the `+` behind it
unfoldable pub opened : List (List ℕ) → List ℕ
opened [] = []
opened (t ∷ ts) = term_text t ++ plus ∷ opened ts

-- Twice is shown at i: before it stands a variable again in its term, and it is `*`, `+` or line feed
pub record Twice (vars : ℕ) (text : List ℕ) (i : ℕ) : Type 0 where
  pub ts : List (List ℕ)
  pub vs : List ℕ
  pub v : ℕ
  pub names : AllNamed vars ts × Named vars (vs ++ v ∷ [])
  pub before : take i text ≡ opened ts ++ term_text (vs ++ v ∷ [])
  pub again : Mem vs v
  pub behind : (get_or text i 0 ≡ star) ⊎ (get_or text i 0 ≡ plus) ⊎ (get_or text i 0 ≡ feed)

-- TooMany is shown at i: before it stand as many terms as a list may have, and it is the `x` or `1` that begins another
pub record Many (vars most : ℕ) (text : List ℕ) (i : ℕ) : Type 0 where
  pub ts : List (List ℕ)
  pub names : AllNamed vars ts
  pub full : length ts ≡ most
  pub before : take i text ≡ opened ts
  pub begins : (get_or text i 0 ≡ letter) ⊎ (get_or text i 0 ≡ digit 1)

-- what can be shown
pub data Fault : Type 0 where
  sign : Fault
  twice : Fault
  many : Fault

abbrev pub Shows : ℕ → ℕ → List ℕ → Fault → ℕ → Type 0
Shows vars most text sign i = Sign vars text i
Shows vars most text twice i = Twice vars text i
Shows vars most text many i = Many vars most text i

-- nothing is shown before i
abbrev pub Clear : ℕ → ℕ → List ℕ → ℕ → Type 0
Clear vars most text i = (j : ℕ) → j < i → (fault : Fault) → ¬ Shows vars most text fault j

-- how a text reads: it is too long, something is shown, first at a place, or it is an equation
pub data Verdict : Type 0 where
  long : Verdict
  shown : Fault → ℕ → Verdict
  equation : List (List ℕ) → Verdict

abbrev pub Reads : ℕ → ℕ → ℕ → List ℕ → Verdict → Type 0
Reads longest most vars text long = longest < length text
Reads longest most vars text (shown fault i) = (length text ≤ longest) × Shows vars most text fault i × Clear vars most text i
Reads longest most vars text (equation ts) =
    (length text ≤ longest) × AllNamed vars ts × (text ≡ text_of ts) × Clear vars most text (length text)
