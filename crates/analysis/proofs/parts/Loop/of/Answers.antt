-- The event stands at 3, the body after it; the flag says whether the loop's own number is read.
use Rattle.std.proofs.Common.{◌∙◌, sym, ap, length, arith}
use Rattle.paper.specs.Rules as rules
use Rattle.analysis.specs.Noted.{setting_of}
use Rattle.analysis.proofs.Cuts.{LoopCut, loop_event, loop_cut, loop_long, own_turns, no_turns}
use Rattle.analysis.proofs.parts.Loop.of.Goals as goal
use Rattle.analysis.proofs.parts.Loop.of.Goals.{After-event_end-body, then-part-eq1, else-part-eq1}

inside : (c : After-event_end-body) → LoopCut c.args.part.words.now c.event_end-body.result c.requires.event c.requires.body
inside c = loop_cut c.args.part.words.now c.requires.unroll c.requires.event c.requires.body c.requires.is c.event_end-body.result c.event_end-body.ensures

pub event_end-body-requires : goal.event_end-body-requires
event_end-body-requires c = let p = c.requires in loop_event c.args.part.words.now p.unroll p.event p.body p.is

pub bounds-part-1 : goal.bounds-part-1
bounds-part-1 c = let p = c.requires in omega (arith, loop_long c.args.part.words.now p.unroll p.event p.body p.is)

pub bounds-part-2 : goal.bounds-part-2
bounds-part-2 c = let p = c.requires in omega (arith, loop_long c.args.part.words.now p.unroll p.event p.body p.is)

pub cut-requires-clause-from_bound : goal.cut-requires-clause-from_bound
cut-requires-clause-from_bound c = let k = inside (goal.at.cut-requires-clause-from_bound c).After-event_end-body in omega arith

pub cut-requires-clause-to_bound : goal.cut-requires-clause-to_bound
cut-requires-clause-to_bound c = let k = inside (goal.at.cut-requires-clause-to_bound c).After-event_end-body in omega arith

pub rest-requires : goal.rest-requires
rest-requires c = let k = inside (goal.at.rest-requires c).After-event_end-body in omega arith

pub returns : goal.returns
returns c = λ u e b is.
    let ws = c.args.part.words.now in
    let k = loop_cut ws u e b is c.event_end-body.result c.event_end-body.ensures in
    let body_words = c.rest.ensures.words_left ∙ k.body_part in
    let l = ap length body_words in record {
      at = record {
        event_words = c.cut.ensures.words_cut ∙ k.event_part;
        event_base = c.cut.ensures.base_moved;
        body_words = body_words;
        body_base = omega (arith, c.rest.ensures.base_moved);
      };
      turns = elim c.if-part-eq1.branch [
        | then-part-eq1 w ↦ w.turns-is ∙ sym (ap (rules.turns (setting_of c.args.setting)) (own_turns ws u e b is w.if-part-eq1.true))
        | else-part-eq1 w ↦ w.turns-is ∙ sym (ap (rules.turns (setting_of c.args.setting)) (no_turns ws u e b is w.if-part-eq1.false))
      ];
      body_inside = record { begins = omega (arith, c.rest.ensures.base_moved); ends = omega (arith, c.rest.ensures.base_moved) };
    }
