-- The event stands at 1, the then-list after it, the else-list after that.
use Rattle.std.proofs.Common.{◌∙◌, ap, length, arith}
use Rattle.analysis.proofs.Cuts.{BranchCut, branch_event, branch_then, branch_cut}
use Rattle.analysis.proofs.parts.Branch.of.Goals as goal
use Rattle.analysis.proofs.parts.Branch.of.Goals.{After-list_end-otherwise}

inside : (c : After-list_end-otherwise) → BranchCut c.args.part.words.now c.event_end-then.result c.list_end-otherwise.result c.requires.tree
inside c = branch_cut c.args.part.words.now c.requires.tree c.requires.is c.requires.first c.event_end-then.result c.event_end-then.ensures c.list_end-otherwise.result c.list_end-otherwise.ensures

pub event_end-then-requires : goal.event_end-then-requires
event_end-then-requires c = branch_event c.args.part.words.now c.requires.tree c.requires.is c.requires.first

pub list_end-otherwise-requires : goal.list_end-otherwise-requires
list_end-otherwise-requires c = branch_then c.args.part.words.now c.requires.tree c.requires.is c.requires.first c.event_end-then.result c.event_end-then.ensures

pub cut-requires-clause-from_bound : goal.cut-requires-clause-from_bound
cut-requires-clause-from_bound c = let k = inside c in omega arith

pub cut-requires-clause-to_bound : goal.cut-requires-clause-to_bound
cut-requires-clause-to_bound c = let k = inside c in omega arith

pub cut-requires-2-clause-from_bound : goal.cut-requires-2-clause-from_bound
cut-requires-2-clause-from_bound c = let k = inside (goal.at.cut-requires-2-clause-from_bound c).After-list_end-otherwise in omega arith

pub cut-requires-2-clause-to_bound : goal.cut-requires-2-clause-to_bound
cut-requires-2-clause-to_bound c = let k = inside (goal.at.cut-requires-2-clause-to_bound c).After-list_end-otherwise in omega arith

pub rest-requires : goal.rest-requires
rest-requires c = let k = inside (goal.at.rest-requires c).After-list_end-otherwise in omega arith

pub returns : goal.returns
returns c = λ d e.
    let ws = c.args.part.words.now in
    let k = branch_cut ws d e c.requires.first c.event_end-then.result c.event_end-then.ensures c.list_end-otherwise.result c.list_end-otherwise.ensures in
    let event_words = c.cut.ensures.words_cut ∙ k.event_part in
    let then_words = c.cut-2.ensures.words_cut ∙ k.then_part in
    let else_words = c.rest.ensures.words_left ∙ k.else_part in
    let t = ap length then_words in
    let f = ap length else_words in record {
      event = k.event;
      then_list = k.then_list;
      else_list = k.else_list;
      same = k.same;
      event_words = event_words;
      event_base = c.cut.ensures.base_moved;
      then_words = then_words;
      then_base = omega (arith, c.cut-2.ensures.base_moved);
      else_words = else_words;
      else_base = omega (arith, c.rest.ensures.base_moved);
      then_inside = record { begins = omega (arith, c.cut-2.ensures.base_moved); ends = omega (arith, c.cut-2.ensures.base_moved) };
      else_inside = record { begins = omega (arith, c.rest.ensures.base_moved); ends = omega (arith, c.rest.ensures.base_moved) };
    }
