-- The depth falls, and a list stands above its events. The events from the first on read as those from here on, with what was used before.
use Rattle.std.proofs.Common.{◌≡◌, ◌+◌, ◌*◌, ◌-◌}
use Rattle.paper.specs.Reader as reader
use Rattle.paper.specs.Tree.{none, ◌also◌}
use Rattle.paper.specs.Used.{used_events}
use Rattle.words.specs.Words.{seen}
use Rattle.words.proofs.Readings.{raised}
use Rattle.words.proofs.events.+events.Given as goal

abbrev pub decreases-event : goal.decreases-event
decreases-event l = 2 * l.deep

abbrev pub decreases-events : goal.decreases-events
decreases-events l = 2 * l.deep + 1

abbrev pub invariant-events-loop : goal.invariant-events-loop
invariant-events-loop l =
    seen used_events (reader.many none ◌also◌ (reader.event l.words l.n l.deep) l.count l.initial.next)
    ≡ raised l.most_used (seen used_events (reader.many none ◌also◌ (reader.event l.words l.n l.deep) (l.count - l.counter) l.next))
