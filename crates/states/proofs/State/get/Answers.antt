use Rattle.std.proofs.Common.{◌∙◌, sym}
use Rattle.states.proofs.Fits.{blank_at}
use Rattle.states.proofs.State.get.Goals as goal

pub returns-in-Empty : goal.returns-in-Empty
returns-in-Empty c = rw c.in-Empty.is (c.zero.ensures ∙ sym (blank_at 64 c.args.variable))
