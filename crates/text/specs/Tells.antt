-- What a line tells of an answer.
use Rattle.std.specs.Prelude.{cond, List, map, ℕ, take}
use Rattle.ranges.specs.declared.Range.{Range}
use Rattle.states.specs.declared.State.{State}
use Rattle.states.specs.States.{is_live, cells}
use Rattle.states.specs.Answers.{Answer, Gives, Refuses}

-- A refusal, that the state is empty, or its ranges.
pub data Told : Type 0 where
  refuses : (number place : ℕ) → Told
  nothing : Told
  ranges : List Range → Told

-- The ranges of the first n variables.
abbrev pub ranges_of : ℕ → State → List Range
ranges_of n s = map (λ c. c.range) (take n (cells s))

-- What the line of an answer tells, for n variables.
abbrev pub told : ℕ → Answer State → Told
told n (Gives s) = cond (is_live s) (ranges (ranges_of n s)) nothing
told n (Refuses number place) = refuses number place
