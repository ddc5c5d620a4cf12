-- Each kind of plain statement by its rule, over its words.
use Rattle.std.proofs.Common.{arith}
use Rattle.analysis.proofs.Plains.{draw_part, factor_small, draw_words, dead_rule, sample_rule, assign_on, assign_over, decrement_rule}
use Rattle.analysis.proofs.plain.change.Goals as goal
use Rattle.analysis.proofs.plain.change.Goals.{in-Sample, in-Assign+in_ok-ok_or-in-Assign, in_default}

pub returns-then-not-is_live : goal.returns-then-not-is_live
returns-then-not-is_live c = λ d e. grind (arith, dead_rule)

pub drawn-requires : goal.drawn-requires
drawn-requires c = rw c.rest.ensures.words_left (draw_part c.requires.statement_is (rw c.in-Sample.ensures at c.of.ensures))

pub overflow_cast-words-in-Assign : goal.overflow_cast-words-in-Assign
overflow_cast-words-in-Assign c = omega (arith, factor_small c.requires.statement_is (rw c.in-Assign.ensures at c.of.ensures))

pub returns-in_err-ok_or-in-Assign : goal.returns-in_err-ok_or-in-Assign
returns-in_err-ok_or-in-Assign c = λ d e. grind (arith, assign_over)

pub returns : goal.returns
returns c = λ d e. elim c.match-unwrap.branch [
  | in-Sample w ↦ grind (arith, draw_words, sample_rule)
  | in-Assign+in_ok-ok_or-in-Assign w ↦ grind (arith, assign_on)
  | in_default w ↦ grind (arith, decrement_rule)
]
