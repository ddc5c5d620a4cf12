-- The words fall, and a complement stands above its event. At each turn the rules say of what is left of the list, from the two sides so far, what they say of the whole.
use Rattle.std.proofs.Common.{◌≡◌, ℕ, ◌+◌, ◌*◌, ◌<◌, length}
use Rattle.paper.specs.Code as code
use Rattle.paper.specs.Rules as rules
use Rattle.paper.specs.Tree.{Events}
use Rattle.states.specs.States as states
use Rattle.words.specs.Parts.{Begins, conjunction}
use Rattle.events.proofs.Steps.{after}
use Rattle.events.proofs.event.+event_sides.Given as goal

abbrev pub decreases-intersection : goal.decreases-intersection
decreases-intersection l = 2 * length l.part.words.now

abbrev pub decreases-complement : goal.decreases-complement
decreases-complement l = 2 * length l.part.words.now + 1

abbrev pub decreases-sides : goal.decreases-sides
decreases-sides l = 2 * length l.part.words.now

abbrev pub invariant-intersection-loop : goal.invariant-intersection-loop
invariant-intersection-loop l = record {
  begun : 0 < l.at;
  left : (es : Events) → l.part.words.now ≡ conjunction es → Begins l.part.words.now l.at (code.events (after l.counter es));
  same : (u : ℕ) (es : Events) → l.part.words.now ≡ conjunction es → rules.events (record { n = l.n; unroll = u }) (l.part.base + l.at) (after l.counter es) (record { yes = l.yes; no = l.no }) ≡ rules.events (record { n = l.n; unroll = u }) (l.part.base + 1) es (record { yes = l.state; no = states.empty });
}
