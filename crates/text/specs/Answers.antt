-- The answers of this crate in document 01's terms, and what reading and printing leave in the buffer that was lent.
use Rattle.std.specs.Prelude.{List, ◌++◌, ℕ, Option, Some, None, length, drop}
use Rattle.states.specs.Answers.{Answer, Gives, Refuses}

-- Printing gives the line's length; "a printed line longer than the buffer lent for it" is 2 at 0.
abbrev pub of_printed : Option ℕ → Answer ℕ
of_printed (Some length) = Gives length
of_printed None = Refuses 2 0

-- What reading or printing leaves: the answer, and the lent buffer afterwards.
pub record Outcome : Type 0 where
  pub answer : Answer ℕ
  pub buffer : List ℕ

-- These two.
abbrev pub leaves : Answer ℕ → List ℕ → Outcome
leaves answer buffer = record { answer = answer; buffer = buffer }

-- A refusal leaves the buffer as it was.
abbrev pub refused : ℕ → ℕ → List ℕ → Outcome
refused number place buffer = leaves (Refuses number place) buffer

-- What was written stands in front, and "the lent buffer beyond what was written is unchanged".
abbrev pub done : List ℕ → List ℕ → Outcome
done written buffer = leaves (Gives (length written)) (written ++ drop (length written) buffer)
