-- What the rest of the text holds, behind what was passed.
use Rattle.text.proofs.Passes.{Passing}
use Rattle.text.proofs.reader.pass.Given as goal

abbrev pub invariant-loop-i : goal.invariant-loop-i
invariant-loop-i l = Passing l.text l.initial.words l.words l.mode l.count l.i
