-- How a state grows, and the values of a given variable.
use Rattle.std.specs.Prelude.{Bool, true, false, cond, ℕ, ◌+◌, ◌-◌, max, ltb, Some, None, Result, Ok, Err}
use Rattle.ranges.specs.declared.Range.{Range}
use Rattle.ranges.specs.declared.Range.TheVariants.{Empty, Span}
use Rattle.states.specs.declared.Refusal.{Refusal}
use Rattle.states.specs.declared.State.{State}
use Rattle.states.specs.Answers.{refusal}
use Rattle.states.specs.States as states
use Rattle.analysis.specs.declared.stages.Growth.{Growth}
use Rattle.analysis.specs.declared.stages.Growth.TheVariants.{Join, Widen}

-- a joining stage joins, a widening stage widens
abbrev pub grow : Growth → ℕ → State → State → State
grow Join n = states.join n
grow Widen n = states.widen n

-- the first and the last value of a given variable, by whether the state is not empty and by the variable's range in it; 9 and 10 at its place
abbrev pub values : ℕ → Bool → Range → Result (ℕ × ℕ) Refusal
values at false r = Err (refusal 9 at)
values at true Empty = Err (refusal 9 at)
values at true (Span start None) = Err (refusal 9 at)
values at true (Span start (Some end)) = cond (ltb 4096 (end - start + 1)) (Err (refusal 10 at)) (Ok (start, max end start))
