-- Each turn goes past one record, which counts as `agrees` says.
use Rattle.std.proofs.Common.{sym, ◌∙◌, true≢false}
use Rattle.replay.proofs.Lines.{one_agrees, one_differs}
use Rattle.replay.proofs.replayed.Goals as goal

pub loop-at-preserved-then-agrees : goal.loop-at-preserved-then-agrees
loop-at-preserved-then-agrees g c =
    let first = c.line_at-text_end.ensures in
    let second = c.line_at-then.ensures in
    one_agrees c.args.list.now c.loop-at.invariant c.loop-at-test.true first.ends first.next second.ends second.next (c.agrees.ensures.0 c.if-agrees.true)

pub loop-at-preserved : goal.loop-at-preserved
loop-at-preserved g c =
    let first = c.line_at-text_end.ensures in
    let second = c.line_at-then.ensures in
    one_differs c.args.list.now c.loop-at.invariant c.loop-at-test.true first.ends first.next second.ends second.next (λ prints. true≢false (sym (c.agrees.ensures.1 prints) ∙ c.if-agrees.false))
