-- What the public functions answer, as the code has it.
use Rattle.std.specs.Prelude.{◌≡◌, List, ℕ, replicate, Result, OnOk}
use Rattle.states.specs.declared.Cell.{Cell}
use Rattle.states.specs.declared.Refusal.{Refusal}
use Rattle.states.specs.declared.State.{State}
use Rattle.states.specs.Answers.{Gives, and_then, outcome}
use Rattle.paper.specs.Answers as answers
use Rattle.paper.specs.Trace.{mark}
use Rattle.analysis.specs.declared.Marked.{Marked}

-- the state, and a byte for each word that is 1 at the lists entered
abbrev pub marked : List ℕ → ℕ → List Cell → ℕ → Result Marked Refusal
marked ws n cs u =
    outcome (and_then (answers.analysed ws n cs u) (λ s.
    Gives (record { state = s; marks = mark (answers.entered ws n cs u) (replicate 8192 0) })))

-- r is the answer, and, where it is no refusal, the marks after it have the lists entered marked
pub record Analysed (ws : List ℕ) (n : ℕ) (cs : List Cell) (u : ℕ) (r : Result State Refusal) (before after : List ℕ) : Type 0 where
  pub out : r ≡ outcome (answers.analysed ws n cs u)
  pub marks : OnOk r (after ≡ mark (answers.entered ws n cs u) before)
