-- One more cell is merged; past the last there is none to merge.
use Rattle.std.proofs.Common.{refl, ◌∙◌, arith}
use Rattle.states.specs.States as states
use Rattle.states.proofs.Cells.{made_next, each_upto}
use Rattle.states.proofs.each.Goals as goal

pub loop-i-init : goal.loop-i-init
unfolding states.each
loop-i-init g c = λ f h. refl

pub loop-i-preserved : goal.loop-i-preserved
loop-i-preserved g c = λ f h.
    made_next f c.loop-i.i 64 c.args.cells c.args.others.now c.loop-i.cells _ _ c.merge.result (omega arith) (omega arith) (omega arith)
    (c.loop-i.invariant f h) (h _ _ _ c.merge.ensures)

pub returns : goal.returns
returns g c = λ f h. c.loop-i.invariant f h ∙ each_upto f _ c.args.n c.args.cells _ (omega arith)
