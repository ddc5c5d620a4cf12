-- The depth falls, and a list stands above its statements, they above what they hold. The statements from the first on read as those from here on, with what was used before.
use Rattle.std.proofs.Common.{◌≡◌, ◌+◌, ◌*◌, ◌-◌}
use Rattle.paper.specs.Reader as reader
use Rattle.paper.specs.Tree.{done, ◌then◌}
use Rattle.paper.specs.Used.{used as variables_used}
use Rattle.words.specs.Words.{seen}
use Rattle.words.proofs.Readings.{raised}
use Rattle.words.proofs.statements.+blocks.Given as goal

abbrev pub decreases-block : goal.decreases-block
decreases-block l = 3 * l.deep + 2

abbrev pub decreases-branch : goal.decreases-branch
decreases-branch l = 3 * l.deep

abbrev pub decreases-normalize : goal.decreases-normalize
decreases-normalize l = 3 * l.deep

abbrev pub decreases-statement : goal.decreases-statement
decreases-statement l = 3 * l.deep + 1

abbrev pub decreases-while_loop : goal.decreases-while_loop
decreases-while_loop l = 3 * l.deep

abbrev pub invariant-block-loop : goal.invariant-block-loop
invariant-block-loop l =
    seen variables_used (reader.many done ◌then◌ (reader.statement l.words l.n l.deep l.loops) l.count l.initial.next)
    ≡ raised l.most_used (seen variables_used (reader.many done ◌then◌ (reader.statement l.words l.n l.deep l.loops) (l.count - l.counter) l.next))
