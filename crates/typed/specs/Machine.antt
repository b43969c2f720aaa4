-- The reader's states: what has been read of a text so far. Nothing here has to be believed: that the states decide how a text reads is
-- proved (proofs/Decides.antt), and the promises of the code of a reader are told by them.
use Rattle.std.specs.Prelude.{ℕ, suc, ◌+◌, ◌-◌, ◌*◌, Bool, true, false, not, ◌&&◌, ◌||◌, List, [], ◌∷◌, ◌++◌, ltb, eqb, length}
use Rattle.typed.specs.Form.{letter, star, plus, feed, digit}
use Rattle.typed.specs.Shown.{sign, twice, many, Verdict, shown, equation}

-- ts are the terms that stand before, each with its `+`; vs the variables of the term that is being read, each with its `*`
pub data State : Type 0 where
  -- a variable begins here, or a term if there are no variables of it yet
  start : List (List ℕ) → List ℕ → State
  -- behind an `x`
  named : List (List ℕ) → List ℕ → State
  -- behind an `x` and the digits of a number
  number : List (List ℕ) → List ℕ → ℕ → State
  -- behind the term `1`
  one : List (List ℕ) → State
  -- behind a lone `0`
  zero : State
  -- behind the line feed: these are the terms
  end : List (List ℕ) → State

-- where a byte leads: to a state, or nowhere, as no equation goes on so
pub data Move : Type 0 where
  on : State → Move
  off : Move

-- the one or the other move
abbrev pub choose : Bool → Move → Move → Move
choose true a b = a
choose false a b = b

-- whether the list is empty
abbrev pub none : {A : Type 0} → List A → Bool
none [] = true
none (x ∷ l) = false

-- whether x stands in the list
unfoldable pub within : ℕ → List ℕ → Bool
within x [] = false
within x (y ∷ l) = eqb x y || within x l

-- whether a byte is a digit, and which
abbrev pub is_digit : ℕ → Bool
is_digit c = not (ltb c 0x30) && ltb c 0x3a

abbrev pub digit_of : ℕ → ℕ
digit_of c = c - 0x30

-- behind a term: `+` or line feed
abbrev pub behind : List (List ℕ) → ℕ → Move
behind ts c = choose (eqb c plus) (on (start ts [])) (choose (eqb c feed) (on (end ts)) off)

-- where a byte leads, by form alone
unfoldable pub moved : ℕ → State → ℕ → Move
moved vars (start ts vs) c =
    choose (eqb c letter) (on (named ts vs))
    (choose (eqb c (digit 1) && none vs) (on (one ts))
    (choose (eqb c (digit 0) && (none vs && none ts)) (on zero) off))
moved vars (named ts vs) c = choose (is_digit c && ltb (digit_of c) vars) (on (number ts vs (digit_of c))) off
moved vars (number ts vs n) c =
    choose (is_digit c && (not (eqb n 0) && ltb (10 * n + digit_of c) vars)) (on (number ts vs (10 * n + digit_of c)))
    (choose (eqb c star) (on (start ts (vs ++ n ∷ []))) (behind (ts ++ (vs ++ n ∷ []) ∷ []) c))
moved vars (one ts) c = behind (ts ++ [] ∷ []) c
moved vars zero c = choose (eqb c feed) (on (end [])) off
moved vars (end ts) c = off

-- whether a byte shows that a variable stands in its term again
abbrev pub repeats : State → ℕ → Bool
repeats (start ts vs) c = false
repeats (named ts vs) c = false
repeats (number ts vs n) c = within n vs && (eqb c star || (eqb c plus || eqb c feed))
repeats (one ts) c = false
repeats zero c = false
repeats (end ts) c = false

-- whether a byte begins one term too many
abbrev pub overflows : ℕ → State → ℕ → Bool
overflows most (start ts vs) c = none vs && (eqb (length ts) most && (eqb c letter || eqb c (digit 1)))
overflows most (named ts vs) c = false
overflows most (number ts vs n) c = false
overflows most (one ts) c = false
overflows most zero c = false
overflows most (end ts) c = false

-- what the end of the text says in each state
abbrev pub ending : State → ℕ → Verdict
ending (start ts vs) i = shown sign i
ending (named ts vs) i = shown sign i
ending (number ts vs n) i = shown sign i
ending (one ts) i = shown sign i
ending zero i = shown sign i
ending (end ts) i = equation ts

-- the one or the other verdict
abbrev pub judge : Bool → Verdict → Verdict → Verdict
judge true a b = a
judge false a b = b

-- the verdict where a byte leads nowhere, or what comes of the state that it leads to
abbrev pub onward : Move → Verdict → (State → Verdict) → Verdict
onward (on s) nowhere further = further s
onward off nowhere further = nowhere

-- how a text reads whose bytes from i on are these, from a state on
unfoldable pub reads : ℕ → ℕ → State → ℕ → List ℕ → Verdict
reads vars most s i [] = ending s i
reads vars most s i (c ∷ cs) =
    judge (repeats s c) (shown twice i)
    (judge (overflows most s c) (shown many i)
    (onward (moved vars s c) (shown sign i) (λ further. reads vars most further (suc i) cs)))
