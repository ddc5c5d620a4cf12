-- What the library answers: document 01, "Answers by number", in the order of refusals.
use Rattle.std.specs.Prelude.{true, false, List, [], ℕ, ◌+◌, ltb, eqb, length}
use Rattle.states.specs.declared.State.{State}
use Rattle.states.specs.declared.Cell.{Cell}
use Rattle.states.specs.Answers.{Answer, Gives, Refuses, and_then}
use Rattle.states.specs.States as states
use Rattle.states.specs.Starts as starts
use Rattle.paper.specs.Tree.{Statement, Sample, Assign, Decrement, IfThenElse, While, Fail, Normalize, Statements, done, ◌then◌}
use Rattle.paper.specs.Code as code
use Rattle.paper.specs.Reader as reader
use Rattle.paper.specs.Reader.{Reading, Read, Bad}
use Rattle.paper.specs.Rules as rules
use Rattle.paper.specs.Rules.{Setting, Looped}
use Rattle.paper.specs.Trace as trace
use Rattle.paper.specs.Used.{used}

-- go on with what was read
abbrev pub as_answer : {A B : Type 0} → Reading A → (A → Answer B) → Answer B
as_answer (Read a i) f = f a
as_answer (Bad number place) f = Refuses number place

-- analysis: list length, n, default unroll, 7
abbrev pub admitted : List ℕ → ℕ → ℕ → List Cell → Answer State
admitted ws n u cs =
    elim (ltb 8192 (length ws)) [
      | true ↦ Refuses 4 0
      | false ↦
          elim (ltb 64 n) [
            | true ↦ Refuses 4 0
            | false ↦ elim (ltb 10000 u) [ true ↦ Refuses 4 0 | false ↦ starts.started n cs ]
          ]
    ]

-- then words left to right, and 8 to 10 at the first place reached: a word list over n variables, from the caller's cells, with a default unroll
unfoldable pub analysed : List ℕ → ℕ → List Cell → ℕ → Answer State
analysed ws n cs u =
    and_then (admitted ws n u cs) (λ s.
    as_answer (reader.program ws n) (λ p.
    rules.list (record { n = n; unroll = u }) 1 p s))

-- the lists that this analysis enters with a state that is not empty; none is named by a refusal
abbrev pub entered_by : Reading Statements → ℕ → ℕ → State → List ℕ
entered_by (Read p i) n u s = trace.list (record { n = n; unroll = u }) 1 p s
entered_by (Bad number place) n u s = []

unfoldable pub entered : List ℕ → ℕ → List Cell → ℕ → List ℕ
entered ws n cs u =
    trace.after (analysed ws n cs u) (λ _.
    trace.after (admitted ws n u cs) (λ s.
    entered_by (reader.program ws n) n u s))

-- ---- a loop's own entry

-- a program whose top list is one loop
abbrev pub loop_of : Setting → Statement → State → Answer Looped
loop_of g (While u e b) s =
    rules.looping g.n (λ h. rules.event g 4 e h) (λ h. rules.list g (code.body_at 1 e + 1) b h) (rules.turns g u) s
loop_of g (Sample v add d) s = Refuses 3 1
loop_of g (Assign v add x offset) s = Refuses 3 1
loop_of g (Decrement v offset) s = Refuses 3 1
loop_of g (IfThenElse e t f) s = Refuses 3 1
loop_of g Fail s = Refuses 3 1
loop_of g (Normalize vs b) s = Refuses 3 1

abbrev pub only_loop : Setting → Statements → State → Answer Looped
only_loop g done s = Refuses 3 0
only_loop g (c then cs) s = loop_of g c s

-- a first word other than 1 is 3 at 0, a kind other than 5 is 3 at 1
abbrev pub begins : List ℕ → Answer (Unit {0})
begins ws =
    as_answer (reader.unless ws (λ x. eqb x 1) 3 0) (λ _.
    as_answer (reader.unless ws (λ x. eqb x 5) 3 1) (λ _.
    Gives tt))

-- besides the ranges it gives the settled state, the four counts and the state after the unrolled turns
unfoldable pub looped : List ℕ → ℕ → List Cell → ℕ → Answer Looped
looped ws n cs u =
    and_then (admitted ws n u cs) (λ s.
    and_then (begins ws) (λ _.
    as_answer (reader.program ws n) (λ p.
    only_loop (record { n = n; unroll = u }) p s)))

-- ---- the program's job, on words

-- a state, and for how many variables
pub record Outcome : Type 0 where
  pub n : ℕ
  pub state : State

-- words are checked with n = 64, then with as many as they use; every variable starts at [0,0]; default unroll 0
unfoldable pub ran : List ℕ → Answer Outcome
ran ws =
    elim (ltb 8192 (length ws)) [
      | true ↦ Refuses 4 0
      | false ↦
          as_answer (reader.program ws 64) (λ p.
          and_then (analysed ws (used p) states.zeros 0) (λ s.
          Gives (record { n = used p; state = s })))
    ]
