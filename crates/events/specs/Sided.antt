-- Both sides of an event as the code has them. "A refusal gives number and place, no state."
use Rattle.std.specs.Prelude.{Result, Ok, Err}
use Rattle.states.specs.Answers.{Answer, Gives, Refuses, refusal}
use Rattle.states.specs.declared.Refusal.{Refusal}
use Rattle.paper.specs.Rules as rules
use Rattle.events.specs.declared.Sides.{Sides}

abbrev pub sided : Answer rules.Sides → Result Sides Refusal
sided (Gives t) = Ok (record { yes = t.yes; no = t.no })
sided (Refuses number place) = Err (refusal number place)
