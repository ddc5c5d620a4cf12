-- The number never passes the answer.
use Rattle.std.proofs.Common.{◌-◌, ◌≤◌, length}
use Rattle.ranges.specs.Ranges as ranges
use Rattle.ranges.proofs.sets.first_out.Given as goal

abbrev pub invariant-loop-first : goal.invariant-loop-first
invariant-loop-first l = record { above : l.start ≤ l.first; below : l.first ≤ ranges.first_out (length l.values) l.values l.start }

abbrev pub decreases-loop-first : goal.decreases-loop-first
decreases-loop-first l = ranges.first_out (length l.values) l.values l.start - l.first
