-- The number never passes the answer.
use Rattle.std.proofs.Common.{◌≤◌, length}
use Rattle.ranges.specs.Ranges as ranges
use Rattle.ranges.proofs.sets.cut_end.Given as goal

abbrev pub invariant-loop-last : goal.invariant-loop-last
invariant-loop-last l = record { below : l.last ≤ l.end; above : ranges.cut_end (length l.values) l.values l.end ≤ l.last }

abbrev pub decreases-loop-last : goal.decreases-loop-last
decreases-loop-last l = l.last
