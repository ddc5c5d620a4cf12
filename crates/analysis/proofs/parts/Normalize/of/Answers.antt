-- The given variables stand at 2, the body after them.
use Rattle.std.proofs.Common.{◌+◌, ◌∙◌, refl, ap, length, get_or, arith}
use Rattle.analysis.proofs.Cuts.{normalize_cut, normalize_long}
use Rattle.analysis.proofs.parts.Normalize.of.Goals as goal

pub bounds-part-1 : goal.bounds-part-1
bounds-part-1 c = let p = c.requires in omega (arith, normalize_long c.args.part.words.now p.tree p.is p.first)

pub overflow_add-body : goal.overflow_add-body
overflow_add-body c = let p = c.requires in let k = normalize_cut c.args.part.words.now p.tree p.is p.first _ refl in omega arith

pub cut-requires-clause-to_bound : goal.cut-requires-clause-to_bound
cut-requires-clause-to_bound c = let p = c.requires in let k = normalize_cut c.args.part.words.now p.tree p.is p.first _ refl in omega arith

pub rest-requires : goal.rest-requires
rest-requires c = let p = c.requires in let k = normalize_cut c.args.part.words.now p.tree p.is p.first _ refl in omega arith

pub returns : goal.returns
returns c = λ d e.
    let ws = c.args.part.words.now in
    let k = normalize_cut ws d e c.requires.first (get_or ws 1 0 + 2) refl in
    let given_words = c.cut.ensures.words_cut ∙ k.given_part in
    let body_words = c.rest.ensures.words_left ∙ k.body_part in
    let l = ap length body_words in record {
      given = k.given;
      body = k.body;
      same = k.same;
      given_words = given_words;
      given_base = c.cut.ensures.base_moved;
      body_words = body_words;
      body_base = omega (arith, c.rest.ensures.base_moved);
      less = omega arith;
      body_inside = record { begins = omega (arith, c.rest.ensures.base_moved); ends = omega (arith, c.rest.ensures.base_moved) };
    }
