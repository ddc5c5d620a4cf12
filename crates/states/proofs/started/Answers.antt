-- Each answer is the one that the starts' own has, by the lowest start over its end and whether one range is Empty.
use Rattle.std.proofs.Common.{sym, ap, ◌∙◌, List}
use Rattle.states.specs.declared.Cell.{Cell}
use Rattle.states.specs.States as states
use Rattle.states.specs.Answers.{outcome, Gives}
use Rattle.states.proofs.Starts.{started_over, started_is, taken_over}
use Rattle.states.proofs.started.Goals as goal

pub returns-then-n-gt64 : goal.returns-then-n-gt64
returns-then-n-gt64 c = rw (c.at.ensures, started_over c.args.n c.args.start.now.cells c.if-n-gt64.true)

pub returns-in-Some : goal.returns-in-Some
returns-in-Some c = rw (c.at-in-Some.ensures, started_is c.args.n c.args.start.now.cells c.if-n-gt64.false, sym c.first_crossed.ensures ∙ c.in-Some.is)

pub returns-then-any_empty : goal.returns-then-any_empty
returns-then-any_empty c = rw (started_is c.args.n c.args.start.now.cells c.if-n-gt64.false, sym c.first_crossed.ensures ∙ c.in_default.is, sym c.any_empty.ensures ∙ c.if-any_empty.true)

pub returns : goal.returns
returns c =
    rw (started_is c.args.n c.args.start.now.cells c.if-n-gt64.false, sym c.first_crossed.ensures ∙ c.in_default.is, sym c.any_empty.ensures ∙ c.if-any_empty.false)
    (ap (λ (cs : List Cell). outcome (Gives (states.live cs))) (taken_over c.args.n c.args.start.now.cells _ _ c.copy_from_slice.ensures.after c.blank-cells.ensures))
