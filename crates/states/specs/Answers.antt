-- Answers and refusals. "A refusal gives number and place, no state, no counts."
use Rattle.std.specs.Prelude.{ℕ, Result, Ok, Err}
use Rattle.states.specs.declared.Fault.{Fault}
use Rattle.states.specs.declared.Fault.TheVariants.{Text, TooLong, NoProgram, OverLimit, NoVariable, NoDraw, StartOverEnd, Overflow, Unbounded, TooMany}
use Rattle.states.specs.declared.Refusal.{Refusal}

-- an answer, or a refusal by number and place
pub data Answer (A : Type 0) : Type 0 where
  Gives : A → Answer A
  Refuses : (number place : ℕ) → Answer A

-- go on with what an answer gives; the first refusal stands
abbrev pub and_then : {A B : Type 0} → Answer A → (A → Answer B) → Answer B
and_then (Gives a) f = f a
and_then (Refuses number place) f = Refuses number place

-- document 01's numbers
abbrev pub number_of : Fault → ℕ
number_of Text = 1
number_of TooLong = 2
number_of NoProgram = 3
number_of OverLimit = 4
number_of NoVariable = 5
number_of NoDraw = 6
number_of StartOverEnd = 7
number_of Overflow = 8
number_of Unbounded = 9
number_of TooMany = 10

-- a refusal as the code has it
abbrev pub refusal : ℕ → ℕ → Refusal
refusal number place = record { number = number; place = place }

-- an answer as the code has it
abbrev pub outcome : {A : Type 0} → Answer A → Result A Refusal
outcome (Gives a) = Ok a
outcome (Refuses number place) = Err (refusal number place)

-- and back
abbrev pub answer_of : {A : Type 0} → Result A Refusal → Answer A
answer_of (Ok a) = Gives a
answer_of (Err r) = Refuses r.number r.place
