-- How a call ends (RULES 5.3 and 5.4): its checks in their order, each with the numbers of its refusal, and then what
-- acceptance means. Every promise of a call is one of these, whatever its lent buffers are.
use Rattle.std.specs.Prelude.{ℕ, ◌≡◌, Bool, true, false, List, [], ◌∷◌, ◌++◌, length, drop}
use Rattle.answer.specs.declared.Answer.{Answer}
use Rattle.answer.specs.Table.{accepted, refused}

-- one check: where its test is true the call is refused, with this code, operand and place
pub record Check : Type 0 where
  pub fails : Bool
  pub code : ℕ
  pub operand : ℕ
  pub place : ℕ

-- a check on one line
abbrev pub check : Bool → ℕ → ℕ → ℕ → Check
check fails code operand place = record { fails = fails; code = code; operand = operand; place = place }

-- the one claim where the test is true, else the other
abbrev pub if : Bool → Type 0 → Type 0 → Type 0
if true claim otherwise = claim
if false claim otherwise = otherwise

-- the first check that fails refuses, and every lent buffer is as it was; where none fails the call is accepted, with a count and buffers
-- of which `Accepted` holds
unfoldable pub Ends : {B : Type 0} → List Check → B → (ℕ → B → Type 0) → Answer → B → Type 0
Ends [] old Accepted answer new = (count : ℕ) × (answer ≡ accepted count) × Accepted count new
Ends (c ∷ cs) old Accepted answer new =
    if c.fails ((answer ≡ refused c.code c.operand c.place) × (new ≡ old)) (Ends cs old Accepted answer new)

-- p written at the start of d; what stands behind it is unchanged
abbrev pub over : List ℕ → List ℕ → List ℕ
over p d = p ++ drop (length p) d

-- accepted with one list: it is counted and written at the start of the one lent buffer
abbrev pub Writes : List ℕ → List ℕ → ℕ → List ℕ → Type 0
Writes p old count new = (count ≡ length p) × (new ≡ over p old)
