-- Which texts are equations (RULES 12.1). A term as written is the list of the numbers of its variables, in the order in which they
-- are typed, and the constant is the empty one. An equation as written is the list of its terms as written, and zero is the empty one.
-- Bytes are numbers, by ASCII. How many variables there are is a parameter, at most 100.
use Rattle.std.specs.Prelude.{ℕ, ◌+◌, ◌/◌, ◌%◌, ◌<◌, ◌≡◌, List, [], ◌∷◌, ◌++◌, map, ltb}
use Rattle.polys.specs.List.{either}

-- the bytes `x`, `*`, `+` and line feed, and the digit d
abbrev pub letter : ℕ
letter = 0x78

abbrev pub star : ℕ
star = 0x2a

abbrev pub plus : ℕ
plus = 0x2b

abbrev pub feed : ℕ
feed = 0x0a

abbrev pub digit : ℕ → ℕ
digit d = 0x30 + d

-- a number below 100 in decimal, without a leading zero
abbrev pub decimal : ℕ → List ℕ
decimal v = either (ltb v 10) (digit v ∷ []) (digit (v / 10) ∷ digit (v % 10) ∷ [])

-- the variable v: `x` and its number
abbrev pub name : ℕ → List ℕ
name v = letter ∷ decimal v

-- pieces with a sign between them
unfoldable pub joined : ℕ → List (List ℕ) → List ℕ
joined sign [] = []
joined sign (p ∷ []) = p
joined sign (p ∷ q ∷ ps) = p ++ sign ∷ joined sign (q ∷ ps)

-- a term: `1`, or its variables with `*` between them
unfoldable pub term_text : List ℕ → List ℕ
term_text [] = digit 1 ∷ []
term_text (v ∷ vs) = joined star (map name (v ∷ vs))

-- an equation: `0`, or its terms with `+` between them; then a line feed
unfoldable pub text_of : List (List ℕ) → List ℕ
text_of [] = digit 0 ∷ feed ∷ []
text_of (t ∷ ts) = joined plus (map term_text (t ∷ ts)) ++ feed ∷ []

-- every variable of a term, and of an equation, is one of those that there are
abbrev pub Named : ℕ → List ℕ → Type 0
Named vars [] = Unit {0}
Named vars (v ∷ vs) = (v < vars) × Named vars vs

abbrev pub AllNamed : ℕ → List (List ℕ) → Type 0
AllNamed vars [] = Unit {0}
AllNamed vars (t ∷ ts) = Named vars t × AllNamed vars ts

-- the text is an equation
abbrev pub Equation : ℕ → List ℕ → Type 0
Equation vars text = (ts : List (List ℕ)) × AllNamed vars ts × (text ≡ text_of ts)

-- an equation begins with these bytes
abbrev pub Begins : ℕ → List ℕ → Type 0
Begins vars bytes = (rest : List ℕ) × Equation vars (bytes ++ rest)
