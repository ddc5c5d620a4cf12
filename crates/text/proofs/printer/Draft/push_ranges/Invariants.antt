-- The ranges of the first i cells were pushed.
use Rattle.text.proofs.Drafts.{Listing}
use Rattle.text.proofs.printer.Draft.push_ranges.Given as goal

abbrev pub invariant-loop-i : goal.invariant-loop-i
invariant-loop-i l = Listing l.initial.self l.shown l.i l.self
