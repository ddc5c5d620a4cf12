-- What the code hands back, as the job has it.
use Rattle.std.specs.Prelude.{List, ℕ, take}
use Rattle.states.specs.Answers.{Answer, Gives, and_then}
use Rattle.paper.specs.Answers.{as_answer}
use Rattle.paper.specs.Reader as reader
use Rattle.paper.specs.Used.{used}
use Rattle.analysis.specs.Outcomes.{a_loop}
use Rattle.woolquern.specs.declared.Program as code_program
use Rattle.woolquern.specs.declared.marks.Entered as code_entered
use Rattle.woolquern.specs.declared.loops.Loop as code_loop
use Rattle.woolquern.specs.Job.{words_of, Entered, Loop}

-- words that are a program, and how many variables they use
pub record Program : Type 0 where
  pub words : List ℕ
  pub n : ℕ

-- the program that words are: they are checked with n = 64
abbrev pub checked : List ℕ → Answer Program
checked ws = as_answer (reader.program ws 64) (λ p. Gives (record { words = ws; n = used p }))

-- the one that a text holds
abbrev pub held : List ℕ → Answer Program
held text = and_then (words_of text) checked

abbrev pub program : code_program.Program → Program
program p = record { words = p.words.now; n = p.n }

-- the marks are those of so many words
abbrev pub entered : code_entered.Entered → Entered
entered e = record { outcome = record { n = e.n; state = e.found.state }; marks = take e.count e.found.marks }

abbrev pub looped : code_loop.Loop → Loop
looped l = record { n = l.n; looped = a_loop l.found }
