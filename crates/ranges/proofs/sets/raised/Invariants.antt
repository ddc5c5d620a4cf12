-- The number stands where the walk over the values passed takes it, at most as many steps up as those.
use Rattle.std.proofs.Common.{◌≡◌, ◌+◌, ◌≤◌, take}
use Rattle.ranges.specs.Walks.{raised}
use Rattle.ranges.proofs.sets.raised.Given as goal

abbrev pub invariant-loop-value : goal.invariant-loop-value
invariant-loop-value l = record { near : l.up ≤ l.x + l.value-index; passed : l.up ≡ raised (take l.value-index l.values) l.x }
