-- The words after `at` fall, and a list stands above its statements. At each turn the first of them end at `next`.
use Rattle.std.proofs.Common.{◌≡◌, ◌+◌, ◌*◌, ◌-◌, length}
use Rattle.paper.specs.Tree.{Statements}
use Rattle.words.specs.Parts.{Begins}
use Rattle.paper.specs.Code as code
use Rattle.words.proofs.Held.{first_statements}
use Rattle.words.proofs.ends.+list_ends.Given as goal

abbrev pub decreases-statement_end : goal.decreases-statement_end
decreases-statement_end l = 2 * (length l.words.now - l.at)

abbrev pub decreases-list_end : goal.decreases-list_end
decreases-list_end l = 2 * (length l.words.now - l.at) + 1

abbrev pub invariant-list_end-loop : goal.invariant-list_end-loop
invariant-list_end-loop l =
    (cs : Statements) → Begins l.words l.at (code.program cs) → l.next ≡ l.at + 1 + length (code.list (first_statements l.counter cs))
