-- The code's results as the rules' answers.
use Rattle.std.specs.Prelude.{ℕ, Option, Some, None, Result, Ok, Err}
use Rattle.states.specs.declared.Refusal.{Refusal}
use Rattle.states.specs.declared.State.{State}
use Rattle.states.specs.Answers.{Answer, Gives, Refuses, refusal}
use Rattle.paper.specs.Rules as rules
use Rattle.paper.specs.Rules.{AtPass, Nowhere}
use Rattle.analysis.specs.declared.stages.Sought as seeking
use Rattle.analysis.specs.declared.stages.Settling.{Settling}
use Rattle.analysis.specs.declared.stages.Settled.{Settled}
use Rattle.analysis.specs.declared.LoopAnswer.{LoopAnswer}
use Rattle.analysis.specs.Sought.{Sought}

-- a result as an answer, by what the rules call the thing that it holds
abbrev pub answer_by : {A C : Type 0} → (C → A) → Result C Refusal → Answer A
answer_by f (Ok c) = Gives (f c)
answer_by f (Err r) = Refuses r.number r.place

-- the same, of a function that changes a state in place
abbrev pub in_place : State → Result (Unit {0}) Refusal → Answer State
in_place s = answer_by (λ _. s)

-- a pass, by the new state at the loop's head and the exit
abbrev pub a_pass : State → State → rules.Pass
a_pass next exit = record { next = next; exit = exit }

abbrev pub a_find : Option ℕ → rules.Found
a_find (Some i) = AtPass i
a_find None = Nowhere

-- a search and the stages, by the state that they leave
abbrev pub a_search : State → seeking.Sought → Sought
a_search turned s = record { found = a_find s.found; turned = turned; exits = s.exits }

abbrev pub a_stage : State → Settling → rules.Settling
a_stage at s = record { settled = s.settled; at = at; passes = s.passes }

abbrev pub both_stages : State → Settled → rules.Settled
both_stages at s = record { at = at; joined = s.joined; widened = s.widened }

abbrev pub a_loop : LoopAnswer → rules.Looped
a_loop l = record {
  exits = l.exits;
  turned = l.turned;
  settled = l.settled;
  searched = l.searched;
  unrolls = l.unrolls;
  joined = l.joined;
  widened = l.widened;
}

-- what the rules answer of a loop, as the code has it
abbrev pub looped : Answer rules.Looped → Result LoopAnswer Refusal
looped (Gives l) = Ok (record {
  exits = l.exits;
  turned = l.turned;
  settled = l.settled;
  searched = l.searched;
  unrolls = l.unrolls;
  joined = l.joined;
  widened = l.widened;
})
looped (Refuses number place) = Err (refusal number place)
