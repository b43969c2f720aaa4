-- The table of codes (RULES 5.1 and 5.2), once. For each way a call can end it gives code, operand, place and count.
use Rattle.std.specs.Prelude.{ℕ, Result, Ok, Err}
use Rattle.answer.specs.declared.Answer.{Answer}
use Rattle.answer.specs.declared.Refusal.{Refusal}
use Rattle.answer.specs.declared.Refusal.TheVariants.{Zero, TooMany, Order, Shared, TooLarge, Room, Work, Form, Wide, Short, Misfit, Extra, Pad, Sign, Twice}

-- accepted: code 0, operand and place 0
abbrev pub accepted : ℕ → Answer
accepted count = record { code = 0; operand = 0; place = 0; count = count }

-- refused: count 0
abbrev pub refused : ℕ → ℕ → ℕ → Answer
refused code operand place = record { code = code; operand = operand; place = place; count = 0 }

-- the four numbers of each refusal
abbrev pub refusal_of : Refusal → Answer
refusal_of Zero = refused 1 1 0
refusal_of (TooMany operand) = refused 2 operand 0
refusal_of (Order operand place) = refused 3 operand place
refusal_of Shared = refused 4 0 0
refusal_of (TooLarge operand) = refused 5 operand 0
refusal_of (Room operand) = refused 6 operand 0
refusal_of Work = refused 7 1 0
refusal_of Form = refused 8 1 0
refusal_of Wide = refused 9 1 0
refusal_of (Short operand) = refused 10 operand 0
refusal_of Misfit = refused 11 1 0
refusal_of (Extra operand) = refused 12 operand 0
refusal_of Pad = refused 13 1 0
refusal_of (Sign place) = refused 14 1 place
refusal_of (Twice place) = refused 15 1 place

-- the four numbers of what a call gives back: what it counted, or its refusal
abbrev pub numbers_of : Result ℕ Refusal → Answer
numbers_of (Ok count) = accepted count
numbers_of (Err refusal) = refusal_of refusal

-- and of what checks give back: nothing, or their refusal
abbrev pub verdict_of : Result (Unit {0}) Refusal → Answer
verdict_of (Ok _) = accepted 0
verdict_of (Err refusal) = refusal_of refusal
