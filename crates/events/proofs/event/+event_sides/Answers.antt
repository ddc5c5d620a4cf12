-- The next event stands where the loop does, so the rules go on from its end with its sides.
use Rattle.std.proofs.Common.{◌≡◌, ◌∙◌, sym, ap, arith, length, List, ℕ}
use Rattle.states.specs.States as states
use Rattle.paper.specs.Tree.{Events}
use Rattle.words.specs.Parts.{conjunction}
use Rattle.events.proofs.Steps.{next, next_within, here, OneMore, one_more}
use Rattle.events.proofs.event.+event_sides.Goals as goal

pub intersection-event_end-end-requires : goal.intersection-event_end-end-requires
intersection-event_end-end-requires t c =
    let p = c.requires in
    record { tree = next c.loop.counter p.tree; is = here p.tree p.is c.loop.counter c.loop.at c.loop-test.true (c.loop.invariant.left p.tree p.is) }

pub intersection-cut-requires-clause-from_bound : goal.intersection-cut-requires-clause-from_bound
intersection-cut-requires-clause-from_bound t c =
    let p = c.requires in
    let one = one_more p.tree p.is c.loop.counter c.loop.at c.loop-test.true (c.loop.invariant.left p.tree p.is) c.event_end-end.result c.event_end-end.ensures in
    omega (arith, one.some)

pub intersection-cut-requires-clause-to_bound : goal.intersection-cut-requires-clause-to_bound
intersection-cut-requires-clause-to_bound t c =
    let p = c.requires in
    (one_more p.tree p.is c.loop.counter c.loop.at c.loop-test.true (c.loop.invariant.left p.tree p.is) c.event_end-end.result c.event_end-end.ensures).ends

pub intersection-sides-requires : goal.intersection-sides-requires
intersection-sides-requires t c =
    let p = c.requires in
    let one = one_more p.tree p.is c.loop.counter c.loop.at c.loop-test.true (c.loop.invariant.left p.tree p.is) c.event_end-end.result c.event_end-end.ensures in
    let is = c.cut.ensures.words_cut ∙ one.words in
    (omega (arith, ap (λ (l : List ℕ). length l) is, one.long, one.ends, c.loop.invariant.begun), record { tree = next c.loop.counter p.tree; is = is; within = next_within c.loop.counter p.tree p.within one.few })

pub intersection-loop-preserved : goal.intersection-loop-preserved
intersection-loop-preserved t c =
    let one : (es : Events) → c.args.part.words.now ≡ conjunction es → OneMore c.args.part.words.now es c.loop.counter c.loop.at c.event_end-end.result = λ es h. one_more es h c.loop.counter c.loop.at c.loop-test.true (c.loop.invariant.left es h) c.event_end-end.result c.event_end-end.ensures in
    let joined : c.join-no.result ≡ states.join c.args.n c.loop.no c.in_ok-next.next.no = c.join-no.ensures in
    record {
      begun = omega (arith, (one c.requires.tree c.requires.is).some);
      left = λ es h. (one es h).left;
      same = λ u es h.
          let split = rw c.cut.ensures.base_moved at (c.in_ok-next.ensures u (next c.loop.counter es) (c.cut.ensures.words_cut ∙ (one es h).words)) in
          rw joined (sym ((one es h).on (record { n = c.args.n; unroll = u }) c.args.part.base (record { yes = c.loop.yes; no = c.loop.no }) split) ∙ c.loop.invariant.same u es h);
    }
