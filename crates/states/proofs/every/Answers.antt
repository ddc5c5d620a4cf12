-- One more cell is tested; past the last there is none to test.
use Rattle.std.proofs.Common.{refl, sym, ◌∙◌, arith}
use Rattle.states.specs.States as states
use Rattle.states.proofs.Cells.{held_next, every_not, every_upto}
use Rattle.states.proofs.every.Goals as goal

pub loop-i-init : goal.loop-i-init
unfolding states.every
loop-i-init g c = λ f h. refl

pub returns-then-not-holds : goal.returns-then-not-holds
returns-then-not-holds g c = λ f h.
    sym (every_not f c.args.n c.loop-i.i c.args.cells.now c.args.others.now _ _ (omega arith) (omega arith) (omega arith)
    (sym (h _ _ _ c.holds.ensures) ∙ c.if-not-holds.true))

pub loop-i-preserved : goal.loop-i-preserved
loop-i-preserved g c = λ f h.
    held_next f c.loop-i.i 64 c.args.cells.now c.args.others.now _ _ c.holds.result (omega arith) (omega arith) (omega arith)
    (c.loop-i.invariant f h) (h _ _ _ c.holds.ensures) c.if-not-holds.false

pub returns : goal.returns
returns g c = λ f h. sym (c.loop-i.invariant f h) ∙ every_upto f _ c.args.n c.args.cells.now _ (omega arith)
