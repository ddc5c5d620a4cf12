-- The first i cells are merged, and the others are as they were.
use Rattle.std.proofs.Common.{◌≡◌}
use Rattle.states.specs.States as states
use Rattle.states.specs.declared.Cell.{Cell}
use Rattle.states.proofs.each.Given as goal

abbrev pub invariant-loop-i : goal.invariant-loop-i
invariant-loop-i g l = (f : Cell → Cell → Cell) → states.Computes (goal.F-post g l.merge) f → l.cells ≡ states.each f l.i l.initial.cells l.others
