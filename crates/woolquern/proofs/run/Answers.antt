-- A short text has at most 256 words.
use Rattle.std.proofs.Common.{arith}
use Rattle.woolquern.proofs.run.Goals as goal

pub run_in-requires-clause-enough : goal.run_in-requires-clause-enough
run_in-requires-clause-enough c = omega arith
