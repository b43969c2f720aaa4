-- What the functions of a reader promise, told by the states of crate typed. Nothing here has to be believed.
use Rattle.std.specs.Prelude.{ℕ, suc, ◌+◌, ◌*◌, ◌<◌, ◌≤◌, ◌≡◌, Bool, true, false, not, ◌&&◌, ◌||◌, ltb, eqb, List, [], ◌∷◌, ◌++◌, map, ◌⊎◌, length, take, drop, get_or, if◌then◌else◌, Option, Some, None, Result, MatchResult}
use Rattle.answer.specs.declared.Answer.{Answer}
use Rattle.answer.specs.declared.Refusal.{Refusal}
use Rattle.answer.specs.declared.Refusal.TheVariants.{Sign}
use Rattle.answer.specs.Table.{accepted, refused, refusal_of}
use Rattle.typed.specs.Form.{letter, digit, star, plus, feed}
use Rattle.typed.specs.Shown.{Fault, sign, twice, many, Verdict, long, shown, equation}
use Rattle.typed.specs.Says.{mask}
use Rattle.typed.specs.Machine.{State, start, named, number, is_digit, digit_of, none, behind, onward, reads}
use Rattle.typed.specs.Machine as machine
use Rattle.scan.specs.declared.Found.{Found}

-- the digit that a byte is, if it is one
abbrev pub digit_in : ℕ → Option ℕ
digit_in c = if is_digit c then Some (digit_of c) else None

-- how the text reads from a place on, in a state
abbrev pub on_from : ℕ → ℕ → List ℕ → State → ℕ → Verdict
on_from vars most text s i = reads vars most s i (drop i text)

-- whether a byte behind a number is another digit of it
abbrev pub more : ℕ → ℕ → ℕ → Bool
more vars n c = is_digit c && (not (eqb n 0) && ltb (10 * n + digit_of c) vars)

-- a number that was found: there is a variable of it
pub record Counted (vars : ℕ) (text : List ℕ) (at : ℕ) (found : Found) : Type 0 where
  pub inside : found.end ≤ length text
  pub later : at ≤ found.end
  pub small : found.value < vars
  -- whatever was read before, so is this number
  pub read : (most : ℕ) (ts : List (List ℕ)) (vs : List ℕ)
      → on_from vars most text (named ts vs) at ≡ on_from vars most text (number ts vs found.value) found.end
  -- and the byte behind it is no digit of it
  pub whole : more vars found.value (get_or text found.end 0) ≡ false

-- or none: no equation goes on so
pub record Unread (vars : ℕ) (text : List ℕ) (at : ℕ) (refusal : Refusal) : Type 0 where
  pub place : ℕ
  pub is : refusal ≡ Sign place
  pub wrong : (most : ℕ) (ts : List (List ℕ)) (vs : List ℕ) → on_from vars most text (named ts vs) at ≡ shown sign place

-- the number that was found, or the refusal of what stands there
abbrev pub Numbered : ℕ → List ℕ → ℕ → Result Found Refusal → Type 0
Numbered vars text at result = MatchResult result (Counted vars text at) (Unread vars text at)

-- whether a byte may stand behind a variable, and behind a term, and whether a term may begin with it
abbrev pub ends_name : ℕ → Bool
ends_name c = eqb c star || (eqb c plus || eqb c feed)

abbrev pub ends_term : ℕ → Bool
ends_term c = eqb c plus || eqb c feed

abbrev pub begins_term : ℕ → Bool
begins_term c = eqb c letter || eqb c (digit 1)

-- a number that was found, with such a byte behind it
pub record Ended (vars : ℕ) (text : List ℕ) (at : ℕ) (found : Found) : Type 0 where
  pub later : at ≤ found.end
  pub small : found.value < vars
  pub read : (most : ℕ) (ts : List (List ℕ)) (vs : List ℕ)
      → on_from vars most text (named ts vs) at ≡ on_from vars most text (number ts vs found.value) found.end
  pub behind : ends_name (get_or text found.end 0) ≡ true

-- the number that was found so, or the refusal of what stands there
abbrev pub Named : ℕ → List ℕ → ℕ → Result Found Refusal → Type 0
Named vars text at result = MatchResult result (Ended vars text at) (Unread vars text at)

-- how the text reads behind a term that ends at a place
abbrev pub past : ℕ → ℕ → List ℕ → List (List ℕ) → ℕ → Verdict
past vars most text ts i = onward (behind ts (get_or text i 0)) (shown sign i) (λ s. on_from vars most text s (suc i))

-- the terms before a place may be any,
abbrev pub Always : ℕ → List (List ℕ) → Type 0
Always most ts = Unit {0}

-- or just those behind which another may begin with this byte: they are not as many as a list may have, and the byte is no lone `0`
abbrev pub Another : ℕ → ℕ → List (List ℕ) → Type 0
Another c most ts = ¬ (length ts ≡ most) × ((eqb c (digit 0) && none ts) ≡ false)

-- the four numbers for a verdict, the terms counted as they are written
abbrev pub answer_of : Verdict → Answer
answer_of long = refused 2 1 0
answer_of (shown sign i) = refused 14 1 i
answer_of (shown twice i) = refused 15 1 i
answer_of (shown many i) = refused 2 1 0
answer_of (equation ts) = accepted (length ts)

-- a term that was read from a place on, in the state that the terms before make
pub record Term (vars : ℕ) (Before : ℕ → List (List ℕ) → Type 0) (state : List (List ℕ) → State) (text : List ℕ) (at : ℕ) (found : Found) : Type 0 where
  pub vs : List ℕ
  pub value : mask vs ≡ found.value
  pub later : at ≤ found.end
  pub ends : (get_or text found.end 0 ≡ plus) ⊎ (get_or text found.end 0 ≡ feed)
  pub read : (most : ℕ) (ts : List (List ℕ)) → Before most ts
      → on_from vars most text (state ts) at ≡ past vars most text (ts ++ vs ∷ []) found.end

-- or none: the text shows a fault
pub record Shows (vars : ℕ) (Before : ℕ → List (List ℕ) → Type 0) (state : List (List ℕ) → State) (text : List ℕ) (at : ℕ) (refusal : Refusal) : Type 0 where
  pub fault : Fault
  pub place : ℕ
  pub numbers : refusal_of refusal ≡ answer_of (shown fault place)
  pub wrong : (most : ℕ) (ts : List (List ℕ)) → Before most ts → on_from vars most text (state ts) at ≡ shown fault place

-- the term that was read, or the refusal of what the text shows
abbrev pub Told : ℕ → (ℕ → List (List ℕ) → Type 0) → (List (List ℕ) → State) → List ℕ → ℕ → Result Found Refusal → Type 0
Told vars Before state text at result = MatchResult result (Term vars Before state text at) (Shows vars Before state text at)

-- the words begin with the terms of an equation as written
abbrev pub Holds : Verdict → List ℕ → Type 0
Holds long words = Unit {0}
Holds (shown fault i) words = Unit {0}
Holds (equation ts) words = take (length ts) words ≡ map mask ts

-- no other term may begin at a place
abbrev pub Full : ℕ → ℕ → List ℕ → ℕ → Answer → Type 0
Full most vars text at answer =
    (ts : List (List ℕ)) → length ts ≡ most → (eqb (get_or text at 0) (digit 0) && none ts) ≡ false
    → (fault : Fault) × (on_from vars most text (start ts []) at ≡ shown fault at) × (answer ≡ answer_of (shown fault at))

-- behind the line feed
abbrev pub Finished : ℕ → ℕ → List ℕ → ℕ → ℕ → Answer → Type 0
Finished most vars text at count answer = (ts : List (List ℕ)) → length ts ≡ count → answer ≡ answer_of (on_from vars most text (machine.end ts) at)

-- any text
pub record Scanned (most vars : ℕ) (text old : List ℕ) (answer : Answer) (new : List ℕ) : Type 0 where
  pub same : length new ≡ length old
  pub numbers : answer ≡ answer_of (reads vars most (start [] []) 0 text)
  pub holds : Holds (reads vars most (start [] []) 0 text) new
