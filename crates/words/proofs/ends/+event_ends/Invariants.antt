-- The words after `at` fall, and a list stands above its events. At each turn the first of them end at `next`.
use Rattle.std.proofs.Common.{◌≡◌, ◌+◌, ◌*◌, ◌-◌, length}
use Rattle.paper.specs.Tree.{Events}
use Rattle.words.specs.Parts.{Begins, conjunction}
use Rattle.paper.specs.Code as code
use Rattle.words.proofs.Held.{first_events}
use Rattle.words.proofs.ends.+event_ends.Given as goal

abbrev pub decreases-event_end : goal.decreases-event_end
decreases-event_end l = 2 * (length l.words.now - l.at)

abbrev pub decreases-events_end : goal.decreases-events_end
decreases-events_end l = 2 * (length l.words.now - l.at) + 1

abbrev pub invariant-events_end-loop : goal.invariant-events_end-loop
invariant-events_end-loop l =
    (es : Events) → Begins l.words l.at (conjunction es) → l.next ≡ l.at + 1 + length (code.events (first_events l.counter es))
