-- The tally is that of the records passed, and each turn of the loop goes past one.
use Rattle.std.proofs.Common.{length, ◌-◌}
use Rattle.replay.proofs.Lines.{Passed}
use Rattle.replay.proofs.replayed.Given as goal

abbrev pub invariant-loop-at : goal.invariant-loop-at
invariant-loop-at g l = Passed l.list l.at l.tally.agree l.tally.differ

abbrev pub decreases-loop-at : goal.decreases-loop-at
decreases-loop-at g l = length l.list - l.at
