-- The line feed is the first from where the line begins on.
use Rattle.std.proofs.Common.{sym}
use Rattle.replay.proofs.Lines.{line_found}
use Rattle.replay.proofs.line_at.Goals as goal

pub returns-in-Some-clause-ends : goal.returns-in-Some-clause-ends
returns-in-Some-clause-ends c = line_found c.args.list.now c.args.from c.requires c.in-Some.length (sym c.in-Some.ensures)
