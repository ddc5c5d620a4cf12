-- Each way past an event, a list or a pass is a way of the rules and of the trace: what is left answers for the whole.
use Rattle.std.proofs.Common.{◌≡◌, ◌∙◌, ap, sym, true, false, ℕ, ◌+◌, ◌<◌, length, length-drop, get_or, arith}
use Rattle.states.specs.States as states
use Rattle.paper.specs.Code as code
use Rattle.words.proofs.Nodes.{while_here, fail_here}
use Rattle.words.proofs.Parts.{begins_whole}
use Rattle.analysis.specs.Noted.{setting_of}
use Rattle.analysis.specs.Outcomes.{a_find, a_pass}
use Rattle.analysis.proofs.Cuts.{loop_is}
use Rattle.analysis.proofs.Given.{normalize_whole, none_given, some_given, nothing_given, rest_given, given_refused, given_leads, values_live, value_on, value_refused, no_value}
use Rattle.analysis.proofs.Kind.{statement_filled, kind_known, plain_word}
use Rattle.analysis.proofs.Says.{leads_then, stopped}
use Rattle.analysis.proofs.Turns.{search_refused, search_found, search_on, search_none, unrolled_refused, unrolled_on, unrolled_none, growing_refused, growing_settled, growing_on, growing_none, joining_refused, joining_settled, joining_on, widening_refused, widening_on, Unrested, unrested_some, unrested_none, loop_by, loop_unsearched, loop_searched, loop_rests, loop_unturned, loop_turned, loop_unsettled, loop_unleft, loop_ends, while_refused, while_on}
use Rattle.analysis.proofs.Walks.{entered_so, entered_block, plain_says, going_last, going_at, going_next, next_words, next_is, next_room, going_refused, going_first, on_to_end, if_unsplit, if_then_refused, if_else_refused, if_joined, says_fail, pass_refused, loop_event}
use Rattle.analysis.proofs.walk.+walk.Goals as goal
use Rattle.analysis.proofs.walk.+walk.Goals.{block-then-is_live, block-else-is_live, looped-in-Some-2, looped-in-None}

-- a branch or a body

pub block-returns : goal.block-returns
block-returns t c = λ d h.
    entered_block (setting_of c.args.setting) c.args.part.base d c.args.state.now c.args.marks.now
    (elim c.if-is_live.branch [
      | block-then-is_live w ↦ entered_so c.args.state.now c.args.part.base c.args.marks.now true (sym c.is_live.ensures ∙ w.if-is_live.true) w.marks-is
      | block-else-is_live w ↦ entered_so c.args.state.now c.args.part.base c.args.marks.now false (sym c.is_live.ensures ∙ w.if-is_live.false) w.marks-is
    ])
    (c.list.ensures d h)

-- an if

pub branch-returns-in_err-sides : goal.branch-returns-in_err-sides
branch-returns-in_err-sides t c = λ d h.
    let k = c.of-parts.ensures d h in
    stopped _ c.from_residual.result c.from_residual.ensures.1 (if_unsplit (setting_of c.args.setting) k c.args.state.now c.args.marks.now (c.in_err-sides.ensures c.args.setting.unroll k.event k.event_words))

pub branch-returns-in_err-block : goal.branch-returns-in_err-block
branch-returns-in_err-block t c = λ d h.
    let k = c.of-parts.ensures d h in
    let split = c.in_ok-sides.ensures c.args.setting.unroll k.event k.event_words in
    stopped _ c.from_residual-in_err-block.result c.from_residual-in_err-block.ensures.1
    (if_then_refused (setting_of c.args.setting) k c.args.state.now c.args.marks.now split (c.in_err-block.ensures k.then_list k.then_words))

pub branch-returns-in_err-block-2 : goal.branch-returns-in_err-block-2
branch-returns-in_err-block-2 t c = λ d h.
    let k = c.of-parts.ensures d h in
    let split = c.in_ok-sides.ensures c.args.setting.unroll k.event k.event_words in
    stopped _ c.from_residual-in_err-block-2.result c.from_residual-in_err-block-2.ensures.1
    (if_else_refused (setting_of c.args.setting) k c.args.state.now c.args.marks.now split (c.in_ok-block.ensures k.then_list k.then_words) (c.in_err-block-2.ensures k.else_list k.else_words))

pub branch-returns : goal.branch-returns
branch-returns t c = λ d h.
    let k = c.of-parts.ensures d h in
    let split = c.in_ok-sides.ensures c.args.setting.unroll k.event k.event_words in
    rw c.join.ensures
    (if_joined (setting_of c.args.setting) k c.args.state.now c.args.marks.now split (c.in_ok-block.ensures k.then_list k.then_words) (c.in_ok-block-2.ensures k.else_list k.else_words))

-- a pass

pub pass-returns-in_err-sides : goal.pass-returns-in_err-sides
pass-returns-in_err-sides t c = λ at e b k.
    stopped _ c.from_residual.result c.from_residual.ensures.1 (pass_refused (setting_of c.args.setting) k c.args.state.now (c.in_err-sides.ensures c.args.setting.unroll e k.event_words))

-- a list: the next statement of what is left stands at `at`

pub list-loop-init : goal.list-loop-init
list-loop-init t c = record { after = omega arith; going = going_first (setting_of c.args.setting) c.args.part.base c.args.part.words.now c.args.state.now c.args.marks.now }

pub list-statement_at-next-requires : goal.list-statement_at-next-requires
list-statement_at-next-requires t c = let p = c.requires.list_is in going_at (c.loop.invariant.going p.tree p.is).going c.loop-test.true

pub list-statement-requires : goal.list-statement-requires
list-statement-requires t c =
    let p = c.requires.list_is in
    let G = (c.loop.invariant.going p.tree p.is).going in
    let k = next_room G c.loop-test.true c.statement_at-next.ensures.words in
    let after = c.loop.invariant.after in
    let moved = c.statement_at-next.ensures.base in
    (omega arith, (next_is G c.loop-test.true c.statement_at-next.ensures.words p.within, omega arith))

pub list-returns-in_err-statement : goal.list-returns-in_err-statement
list-returns-in_err-statement t c = λ d h.
    let G = (c.loop.invariant.going d h).going in
    let some = c.loop-test.true in
    stopped _ c.from_residual.result c.from_residual.ensures.1
    (going_refused G some c.statement_at-next.ensures.words c.statement_at-next.ensures.base (c.in_err-statement.ensures (going_next G some).head (next_words G some c.statement_at-next.ensures.words)))

pub list-loop-preserved : goal.list-loop-preserved
list-loop-preserved t c = record {
  after = let after = c.loop.invariant.after in omega arith;
  going = λ d h.
      let G = c.loop.invariant.going d h in
      let some = c.loop-test.true in
      on_to_end G.going some c.statement_at-next.ensures.words c.statement_at-next.ensures.base (c.in_ok-statement.ensures (going_next G.going some).head (next_words G.going some c.statement_at-next.ensures.words)) G.ends;
}

pub list-returns : goal.list-returns
list-returns t c = λ d h. going_last (c.loop.invariant.going d h).going c.loop-test.false

-- growing: one pass further, or none left

pub growing-returns-in_err-pass : goal.growing-returns-in_err-pass
growing-returns-in_err-pass t c = λ at e b k.
    stopped _ c.from_residual.result c.from_residual.ensures.1
    ((c.loop-i.invariant at e b k).on (growing_refused (setting_of c.args.setting) at e b c.args.most c.loop-i.i c.loop-i-test.true _ c.loop-i.state (c.in_err-pass.ensures at e b k)))

pub growing-returns-then-within : goal.growing-returns-then-within
growing-returns-then-within t c = λ at e b k.
    (c.loop-i.invariant at e b k).on
    (growing_settled (setting_of c.args.setting) at e b c.args.most c.loop-i.i c.loop-i-test.true _ c.loop-i.state (c.in_ok-pass.ensures at e b k) (sym c.within.ensures ∙ c.if-within.true))

pub growing-loop-i-preserved : goal.growing-loop-i-preserved
growing-loop-i-preserved t c = λ at e b k.
    rw c.grow.ensures
    (leads_then (c.loop-i.invariant at e b k)
    (growing_on (setting_of c.args.setting) at e b c.args.most c.loop-i.i c.loop-i-test.true _ c.loop-i.state (c.in_ok-pass.ensures at e b k) (sym c.within.ensures ∙ c.if-within.false)))

pub growing-returns : goal.growing-returns
growing-returns t c = λ at e b k.
    let all : c.loop-i.i ≡ c.args.most = omega arith in
    (c.loop-i.invariant at e b k).on (rw all (growing_none (setting_of c.args.setting) at e b c.args.most c.args.most (omega arith) _ c.loop-i.state))

-- search: one pass further, or none left

pub search-returns-in_err-exit-clause-says : goal.search-returns-in_err-exit-clause-says
search-returns-in_err-exit-clause-says t c = λ at e b k.
    stopped _ c.from_residual.result c.from_residual.ensures.1
    ((c.loop-i.invariant at e b k).on (search_refused (setting_of c.args.setting) at e b 100 c.loop-i.i c.loop-i-test.true c.loop-i.state c.loop-i.exits (c.in_err-exit.ensures at e b k)))

pub search-returns-then-same-clause-says : goal.search-returns-then-same-clause-says
search-returns-then-same-clause-says t c = λ at e b k.
    rw c.join-exits.ensures
    ((c.loop-i.invariant at e b k).on (search_found (setting_of c.args.setting) at e b 100 c.loop-i.i c.loop-i-test.true c.loop-i.state c.loop-i.exits (c.in_ok-exit.ensures at e b k) (sym c.same.ensures ∙ c.if-same.true)))

pub search-loop-i-preserved : goal.search-loop-i-preserved
search-loop-i-preserved t c = λ at e b k.
    rw c.join-exits.ensures
    (leads_then (c.loop-i.invariant at e b k) (search_on (setting_of c.args.setting) at e b 100 c.loop-i.i c.loop-i-test.true c.loop-i.state c.loop-i.exits (c.in_ok-exit.ensures at e b k) (sym c.same.ensures ∙ c.if-same.false)))

pub search-returns-clause-says : goal.search-returns-clause-says
search-returns-clause-says t c = λ at e b k.
    (c.loop-i.invariant at e b k).on (search_none (setting_of c.args.setting) at e b 100 c.loop-i.i c.loop-i-test.false (record { next = c.loop-i.state; exit = c.loop-i.exits }))

-- unrolled: one pass further, or none left

pub unrolled-returns-in_err-exit : goal.unrolled-returns-in_err-exit
unrolled-returns-in_err-exit t c = λ at e b k.
    stopped _ c.from_residual.result c.from_residual.ensures.1
    ((c.loop.invariant at e b k).on (unrolled_refused (setting_of c.args.setting) at e b c.args.parts.turns c.loop.counter c.loop-test.true c.loop.state c.loop.exits (c.in_err-exit.ensures at e b k)))

pub unrolled-loop-preserved : goal.unrolled-loop-preserved
unrolled-loop-preserved t c = λ at e b k.
    rw c.join-exits.ensures
    (leads_then (c.loop.invariant at e b k) (unrolled_on (setting_of c.args.setting) at e b c.args.parts.turns c.loop.counter c.loop-test.true c.loop.state c.loop.exits (c.in_ok-exit.ensures at e b k)))

pub unrolled-returns : goal.unrolled-returns
unrolled-returns t c = λ at e b k.
    (c.loop.invariant at e b k).on (unrolled_none (setting_of c.args.setting) at e b c.args.parts.turns c.loop.counter c.loop-test.false _)

-- settle: joining, then widening

pub settle-returns-in_err-joining : goal.settle-returns-in_err-joining
settle-returns-in_err-joining t c = λ at e b k.
    stopped _ c.from_residual.result c.from_residual.ensures.1 (joining_refused (setting_of c.args.setting) at e b c.args.state.now (c.in_err-joining.ensures at e b k))

pub settle-returns-then-joining : goal.settle-returns-then-joining
settle-returns-then-joining t c = λ at e b k. joining_settled (setting_of c.args.setting) at e b c.args.state.now (c.in_ok-joining.ensures at e b k) c.if-joining.true

pub settle-returns-in_err-widening : goal.settle-returns-in_err-widening
settle-returns-in_err-widening t c = λ at e b k.
    stopped _ c.from_residual-in_err-widening.result c.from_residual-in_err-widening.ensures.1
    ((joining_on (setting_of c.args.setting) at e b c.args.state.now (c.in_ok-joining.ensures at e b k) c.if-joining.false).on (widening_refused (setting_of c.args.setting) at e b c.growing.new.state c.in_ok-joining.joining.passes (omega arith) (c.in_err-widening.ensures at e b k)))

pub settle-returns : goal.settle-returns
settle-returns t c = λ at e b k.
    (joining_on (setting_of c.args.setting) at e b c.args.state.now (c.in_ok-joining.ensures at e b k) c.if-joining.false).on (widening_on (setting_of c.args.setting) at e b c.growing.new.state c.in_ok-joining.joining.passes (omega arith) (c.in_ok-widening.ensures at e b k))

-- a statement, by its kind

pub statement-bounds-part-0 : goal.statement-bounds-part-0
statement-bounds-part-0 t c = statement_filled c.requires.statement_is

pub statement-unwrap-requires : goal.statement-unwrap-requires
statement-unwrap-requires t c = kind_known c.requires.statement_is c.of.result c.of.ensures

pub statement-while_loop-requires : goal.statement-while_loop-requires
statement-while_loop-requires t c = (omega arith, (loop_is c.args.part.words.now c.requires.statement_is (rw c.in-While.ensures at c.of.ensures), c.requires.within_marks))

pub statement-returns-in-While : goal.statement-returns-in-While
statement-returns-in-While t c = λ d h.
    let x = while_here d (begins_whole h) (rw c.in-While.ensures at c.of.ensures) in
    rw x.same (c.while_loop.ensures x.unroll x.event x.body (h ∙ ap code.statement x.same))

pub statement-returns-in-Fail : goal.statement-returns-in-Fail
statement-returns-in-Fail t c = λ d h.
    let x = fail_here d (begins_whole h) (rw c.in-Fail.ensures at c.of.ensures) in
    rw x.same (says_fail (setting_of c.args.setting) c.args.part.base c.args.state.now c.args.marks.now)

pub statement-returns-in-Normalize : goal.statement-returns-in-Normalize
statement-returns-in-Normalize t c = λ d h. let k = c.of-parts.ensures d h in normalize_whole (setting_of c.args.setting) k c.args.state.now (c.normalize.ensures k.body k.body_words)

pub statement-returns-in_default : goal.statement-returns-in_default
statement-returns-in_default t c = λ d h.
    let few : get_or c.args.part.words.now 0 0 < 4 = plain_word c.unwrap.result (rw c.unwrap.ensures at c.of.ensures) c.in_default.not-IfThenElse c.in_default.not-While c.in_default.not-Fail c.in_default.not-Normalize in
    plain_says (setting_of c.args.setting) c.args.part.base d c.args.state.now (rw h at few) (c.change.ensures d h)

pub while_loop-returns-in_err-answer : goal.while_loop-returns-in_err-answer
while_loop-returns-in_err-answer t c = λ u e b h.
    stopped _ c.from_residual.result c.from_residual.ensures.1 (while_refused (setting_of c.args.setting) c.args.part.base e b u c.args.state.now (c.in_err-answer.ensures u e b h))

pub while_loop-returns : goal.while_loop-returns
while_loop-returns t c = λ u e b h. while_on (setting_of c.args.setting) c.args.part.base e b u c.args.state.now (c.in_ok-answer.ensures u e b h)

-- a loop: a refusal, a search at rest, or what follows the search

pub looped-returns-in_err-sought : goal.looped-returns-in_err-sought
looped-returns-in_err-sought t c = λ u e b h.
    let k = c.of-parts.ensures u e b h in
    let g = setting_of c.args.setting in
    let base = c.args.part.base in
    let turns = c.of-parts.result.turns in
    stopped _ c.from_residual.result c.from_residual.ensures.1
    (loop_by g base e b c.args.state.now k.turns (loop_unsearched g base e b turns c.args.state.now (c.in_err-sought.ensures.says base e b k.at)))

pub looped-returns-in-Some : goal.looped-returns-in-Some
looped-returns-in-Some t c = λ u e b h.
    let k = c.of-parts.ensures u e b h in
    let g = setting_of c.args.setting in
    let base = c.args.part.base in
    let turns = c.of-parts.result.turns in
    loop_by g base e b c.args.state.now k.turns (loop_rests g base e b turns c.args.state.now (c.in_ok-sought.ensures.says base e b k.at) (ap a_find c.in-Some.is) c.if-parts-i.true)

pub looped-returns-in_err-exits : goal.looped-returns-in_err-exits
looped-returns-in_err-exits t c = λ u e b h.
    let k = c.of-parts.ensures u e b h in
    let g = setting_of c.args.setting in
    let base = c.args.part.base in
    let turns = c.of-parts.result.turns in
    let f = a_find c.in_ok-sought.sought.found in
    let z : Unrested turns c.in_ok-sought.sought.found c.match-sought.searched =
    elim c.match-sought.branch [ looped-in-Some-2 w ↦ unrested_some w.in-Some.is w.if-parts-i.false w.in-Some-2.is w.searched-is | looped-in-None w ↦ unrested_none w.in-None.is w.searched-is ] in
    let on = loop_searched g base e b turns c.args.state.now (c.in_ok-sought.ensures.says base e b k.at) in
    stopped _ c.from_residual-in_err-exits.result c.from_residual-in_err-exits.ensures.1
    (loop_by g base e b c.args.state.now k.turns (on.on (loop_unturned g base e b turns c.args.state.now f z.many (c.in_err-exits.ensures base e b k.at))))

pub looped-returns-in_err-passes : goal.looped-returns-in_err-passes
looped-returns-in_err-passes t c = λ u e b h.
    let k = c.of-parts.ensures u e b h in
    let g = setting_of c.args.setting in
    let base = c.args.part.base in
    let turns = c.of-parts.result.turns in
    let f = a_find c.in_ok-sought.sought.found in
    let z : Unrested turns c.in_ok-sought.sought.found c.match-sought.searched =
    elim c.match-sought.branch [ looped-in-Some-2 w ↦ unrested_some w.in-Some.is w.if-parts-i.false w.in-Some-2.is w.searched-is | looped-in-None w ↦ unrested_none w.in-None.is w.searched-is ] in
    let on = leads_then (loop_searched g base e b turns c.args.state.now (c.in_ok-sought.ensures.says base e b k.at)) (loop_turned g base e b turns c.args.state.now f z.many (c.in_ok-exits.ensures base e b k.at)) in
    let was = a_pass c.unrolled.new.state c.in_ok-exits.exits in
    stopped _ c.from_residual-in_err-passes.result c.from_residual-in_err-passes.ensures.1
    (loop_by g base e b c.args.state.now k.turns (on.on (loop_unsettled g base e b turns c.args.state.now f was (c.in_err-passes.ensures base e b k.at))))

pub looped-returns-in_err-last : goal.looped-returns-in_err-last
looped-returns-in_err-last t c = λ u e b h.
    let k = c.of-parts.ensures u e b h in
    let g = setting_of c.args.setting in
    let base = c.args.part.base in
    let turns = c.of-parts.result.turns in
    let f = a_find c.in_ok-sought.sought.found in
    let z : Unrested turns c.in_ok-sought.sought.found c.match-sought.searched =
    elim c.match-sought.branch [ looped-in-Some-2 w ↦ unrested_some w.in-Some.is w.if-parts-i.false w.in-Some-2.is w.searched-is | looped-in-None w ↦ unrested_none w.in-None.is w.searched-is ] in
    let on = leads_then (loop_searched g base e b turns c.args.state.now (c.in_ok-sought.ensures.says base e b k.at)) (loop_turned g base e b turns c.args.state.now f z.many (c.in_ok-exits.ensures base e b k.at)) in
    let was = a_pass c.unrolled.new.state c.in_ok-exits.exits in
    stopped _ c.from_residual-in_err-last.result c.from_residual-in_err-last.ensures.1
    (loop_by g base e b c.args.state.now k.turns
    (on.on (loop_unleft g base e b turns c.args.state.now f was (c.in_ok-passes.ensures base e b k.at) (loop_event g k.at c.settle.new.state (c.in_err-last.ensures c.args.setting.unroll e k.at.event_words)))))

pub looped-returns : goal.looped-returns
looped-returns t c = λ u e b h.
    let k = c.of-parts.ensures u e b h in
    let g = setting_of c.args.setting in
    let base = c.args.part.base in
    let turns = c.of-parts.result.turns in
    let f = a_find c.in_ok-sought.sought.found in
    let z : Unrested turns c.in_ok-sought.sought.found c.match-sought.searched =
    elim c.match-sought.branch [ looped-in-Some-2 w ↦ unrested_some w.in-Some.is w.if-parts-i.false w.in-Some-2.is w.searched-is | looped-in-None w ↦ unrested_none w.in-None.is w.searched-is ] in
    let on = leads_then (loop_searched g base e b turns c.args.state.now (c.in_ok-sought.ensures.says base e b k.at)) (loop_turned g base e b turns c.args.state.now f z.many (c.in_ok-exits.ensures base e b k.at)) in
    let was = a_pass c.unrolled.new.state c.in_ok-exits.exits in
    rw c.join.ensures
    (loop_by g base e b c.args.state.now k.turns
    (on.on (loop_ends g base e b turns c.args.state.now z was (c.in_ok-passes.ensures base e b k.at) (loop_event g k.at c.settle.new.state (c.in_ok-last.ensures c.args.setting.unroll e k.at.event_words)))))

-- normalize: the first given variable has values in its range, each of which the rest is enumerated for

pub normalize-returns-then-is_empty : goal.normalize-returns-then-is_empty
normalize-returns-then-is_empty t c = λ b h.
    nothing_given (setting_of c.args.setting) c.args.given.base c.args.body.base b c.args.state.now c.args.given.words.now (none_given c.args.given.words.now c.is_empty.ensures c.if-is_empty.true) (c.list.ensures b h)

pub normalize-returns-in_err-start : goal.normalize-returns-in_err-start
normalize-returns-in_err-start t c = λ b h.
    let l = c.args.given.words.now in
    stopped _ c.from_residual.result c.from_residual.ensures.1
    (given_refused (setting_of c.args.setting) c.args.given.base c.args.body.base b c.args.state.now l (some_given l c.is_empty.ensures c.if-is_empty.false) c.in_err-start.ensures)

pub normalize-loop-x-init : goal.normalize-loop-x-init
normalize-loop-x-init t c = record {
  live = values_live _ _ _ c.in_ok-start.ensures;
  leads = λ b h.
      let l = c.args.given.words.now in
      given_leads (setting_of c.args.setting) c.args.given.base c.args.body.base b c.args.state.now l (some_given l c.is_empty.ensures c.if-is_empty.false) c.in_ok-start.ensures;
}

pub normalize-normalize-requires : goal.normalize-normalize-requires
normalize-normalize-requires t c =
    let l = c.args.given.words.now in
    let some = some_given l c.is_empty.ensures c.if-is_empty.false in
    let left = c.rest-rest.ensures.words_left in (
      omega (arith, ap length left, length-drop {A = ℕ}),
      (rw left (rest_given l c.requires.given_are some), (c.requires.list_is, omega arith)),
    )

pub normalize-returns-in_err-normalize : goal.normalize-returns-in_err-normalize
normalize-returns-in_err-normalize t c = λ b h.
    let put = c.put.ensures ∙ ap (states.put c.args.state.now (get_or c.args.given.words.now 0 0)) c.point.ensures in
    stopped _ c.from_residual-in_err-normalize.result c.from_residual-in_err-normalize.ensures.1
    ((c.loop-x.invariant.leads b h).on
    (value_refused (setting_of c.args.setting) c.args.given.base c.args.body.base b c.args.state.now _ _ c.loop-x.x _ c.rest-rest.ensures.base_moved c.rest-rest.ensures.words_left put (omega arith) c.loop-x.joined (c.in_err-normalize.ensures b h)))

pub normalize-loop-x-preserved : goal.normalize-loop-x-preserved
normalize-loop-x-preserved t c = record {
  live = c.loop-x.invariant.live;
  leads = λ b h.
      let put = c.put.ensures ∙ ap (states.put c.args.state.now (get_or c.args.given.words.now 0 0)) c.point.ensures in
      rw c.join-joined.ensures
      (leads_then (c.loop-x.invariant.leads b h)
      (value_on (setting_of c.args.setting) c.args.given.base c.args.body.base b c.args.state.now _ _ c.loop-x.x _ c.rest-rest.ensures.base_moved c.rest-rest.ensures.words_left put (omega arith) c.loop-x.joined (c.in_ok-normalize.ensures b h)));
}

pub normalize-returns-in_ok-normalize : goal.normalize-returns-in_ok-normalize
normalize-returns-in_ok-normalize t c = λ b h.
    let put = c.put.ensures ∙ ap (states.put c.args.state.now (get_or c.args.given.words.now 0 0)) c.point.ensures in
    rw c.join-joined.ensures
    ((leads_then (c.loop-x.invariant.leads b h)
    (value_on (setting_of c.args.setting) c.args.given.base c.args.body.base b c.args.state.now _ _ c.loop-x.x _ c.rest-rest.ensures.base_moved c.rest-rest.ensures.words_left put (omega arith) c.loop-x.joined (c.in_ok-normalize.ensures b h))).on
    (no_value (setting_of c.args.setting) c.args.given.base c.args.body.base b c.args.state.now _ _ (c.loop-x.x + 1) c.in_ok-start.last (omega arith)))
