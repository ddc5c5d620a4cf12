-- The test held of the first i cells.
use Rattle.std.proofs.Common.{◌≡◌, Bool, true}
use Rattle.states.specs.States as states
use Rattle.states.specs.declared.Cell.{Cell}
use Rattle.states.proofs.every.Given as goal

abbrev pub invariant-loop-i : goal.invariant-loop-i
invariant-loop-i g l = (f : Cell → Cell → Bool) → states.Computes (goal.F-post g l.holds) f → states.every f l.i l.cells l.others ≡ true
