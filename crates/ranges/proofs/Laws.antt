-- The laws on ranges that the layers above cite, by theme; each is proved in the file that its line names.

-- join, within, the same and widening: the order
pub use Rattle.ranges.proofs.Lattice.{within_self, within_trans, within_antisym}
pub use Rattle.ranges.proofs.Lattice.{same_eq, same_self, same_says}
pub use Rattle.ranges.proofs.Lattice.{join_comm, join_assoc, join_idem, join_empty, join_above_left, join_above_right, join_least, join_filled}
pub use Rattle.ranges.proofs.Lattice.{widen_above_old, widen_above_new, widen_filled}
-- how often a range can be widened
pub use Rattle.ranges.proofs.Lattice.{weight_start, weight_end, weight, weight_le, widen_le, widen_lt}
-- which values an answer holds
pub use Rattle.ranges.proofs.Holding.{InEnd, In, InBounded, HoldsBounded, in_of, of_in, within_holds, within_says}
pub use Rattle.ranges.proofs.Holding.{holds_filled, point_holds, around_holds, join_holds_left, join_holds_right, widen_holds, widen_holds_new}
pub use Rattle.ranges.proofs.Holding.{sum_holds, times_holds, less_holds, retain_holds}
-- an answer's start is at most its end
pub use Rattle.ranges.proofs.Proper.{Proper, ProperBounded, join_proper, sum_proper, times_proper, less_proper, retain_proper, remove_proper, widen_proper}
-- removal in words, and which values it leaves
pub use Rattle.ranges.proofs.Removed.{removed, removed_only, remove_over, remove_holds}
-- retaining is the smallest range around the values inside; the order and the repeats of a set do not matter
pub use Rattle.ranges.proofs.Kept.{kept}
pub use Rattle.ranges.proofs.Alike.{retain_above, retain_least, Alike, retain_alike, remove_alike}
-- two tests that are true
pub use Rattle.ranges.proofs.Lattice.{both, left_of, right_of}
