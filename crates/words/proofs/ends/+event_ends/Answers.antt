-- The next event stands where those before it end.
use Rattle.std.proofs.Common.{arith}
use Rattle.words.proofs.Parts.{begins_ends}
use Rattle.words.proofs.Held.{events_count, next_event_at}
use Rattle.words.proofs.ends.+event_ends.Goals as goal

pub events_end-event_end-next-requires : goal.events_end-event_end-next-requires
events_end-event_end-next-requires t c =
    let p = c.requires in
    let e = c.loop.invariant p.tree p.is in
    (omega (arith, begins_ends p.is (omega arith)), next_event_at p (omega (arith, events_count p.tree p.is)) e)
