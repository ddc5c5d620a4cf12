-- A statement that stands in the words ends in them.
use Rattle.std.proofs.Common.{arith}
use Rattle.words.proofs.Nodes.{statement_ends}
use Rattle.analysis.proofs.parts.statement_at.Goals as goal

pub cut-requires-clause-to_bound : goal.cut-requires-clause-to_bound
cut-requires-clause-to_bound c = let p = c.requires in omega (arith, c.statement_end.ensures p.tree p.is, statement_ends p.tree p.is)
