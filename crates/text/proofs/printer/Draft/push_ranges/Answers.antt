-- A turn pushes what stands before a range, and the range.
use Rattle.std.proofs.Common.{arith, append-nil}
use Rattle.text.proofs.Drafts.{gap_first, gap_later, listing_start, listing_next}
use Rattle.text.proofs.printer.Draft.push_ranges.Goals as goal
use Rattle.text.proofs.printer.Draft.push_ranges.Goals.{then-i-gt0, else-i-gt0}

pub loop-i-init : goal.loop-i-init
loop-i-init c = listing_start _ _

pub loop-i-preserved : goal.loop-i-preserved
loop-i-preserved c =
    listing_next _ c.loop-i-test.true c.loop-i.invariant (elim c.if-i-gt0.branch [ then-i-gt0 w ↦ grind (arith, gap_later) | else-i-gt0 w ↦ grind (arith, gap_first, append-nil) ]) c.push_range.ensures.pushed c.push_range.ensures.short
