-- The certainties of texts: reading one into words, printing an answer as a line, and the whole job, from a text to its line. `of_texts` of proofs/Texts.antt proves them.
-- Each function is lent a buffer or more: what it holds before, and after.
use Rattle.std.specs.Prelude.{◌≡◌, List, ◌++◌, ℕ, ◌≤◌, ◌<◌, Option, Some, None, Result, Ok, Err, length, drop}
use Rattle.states.specs.declared.Refusal.{Refusal}
use Rattle.states.specs.Answers.{Answer as AnswerOf, Gives, Refuses, answer_of, refusal as refusal_at}
use Rattle.states.specs.States as states
use Rattle.paper.specs.Limits.{IsProgram}
use Rattle.paper.specs.Runs.{Store, Runs, Holds}
use Rattle.paper.specs.Answers as answers
use Rattle.paper.specs.Places.{Placed}
use Rattle.text.specs.Grammar.{Text, Longest}
use Rattle.text.specs.Says.{Says}
use Rattle.text.specs.Answers.{leaves, of_printed}
use Rattle.text.specs.Line as lines
use Rattle.woolquern.specs.Job as job
use Rattle.certainties.specs.Certainties.{Answer, IsState, One}

-- how many words were read, or a refusal by number and place; how many bytes were printed, or none where the buffer is shorter than the line
abbrev pub Reading : Type 0
Reading = Result ℕ Refusal

abbrev pub Printed : Type 0
Printed = Option ℕ

-- r is the answer: what the contracts prove
abbrev pub Read : (text words : List ℕ) → Reading → (after : List ℕ) → Type 0
Read text words r after = Says text words (leaves (answer_of r) after)

abbrev pub Line : Answer → ℕ → (out : List ℕ) → Printed → (after : List ℕ) → Type 0
Line answer n out r after = leaves (of_printed r) after ≡ lines.printed (lines.line n (answer_of answer)) out

abbrev pub Run : (text out : List ℕ) → Printed → (after : List ℕ) → Type 0
Run text out r after = leaves (of_printed r) after ≡ job.run text out

abbrev pub RunMarked : (text marks out : List ℕ) → Printed → (marked after : List ℕ) → Type 0
RunMarked text marks out r marked after = job.left (of_printed r) marked after ≡ job.run_marked text marks out

abbrev pub RunLoop : (text : List ℕ) → ℕ → (counts settled out : List ℕ) → Printed → (counted rested after : List ℕ) → Type 0
RunLoop text unroll counts settled out r counted rested after = job.all_left (of_printed r) counted rested after ≡ job.run_loop text unroll counts settled out

-- ---- reading and printing

-- "Every program text": its numbers stand in front of the lent buffer, or it is refused by 1 or 2; "A refusal .. writes into no lent buffer."
pub data ReadAnswered (text words : List ℕ) : Reading → (after : List ℕ) → Type 0 where
  numbers : {vs : List ℕ} → Text text vs → ReadAnswered text words (Ok (length vs)) (vs ++ drop (length vs) words)
  no_text : {place : ℕ} → ((vs : List ℕ) → Text text vs → ⊥) → Longest text place → ReadAnswered text words (Err (refusal_at 1 place)) words
  too_much : ReadAnswered text words (Err (refusal_at 2 0)) words

-- the line stands in front of the lent buffer, or the buffer is shorter, which is 2 at 0, and stays as it was
pub data LineAnswered (line out : List ℕ) : Printed → (after : List ℕ) → Type 0 where
  written : length line ≤ length out → LineAnswered line out (Some (length line)) (line ++ drop (length line) out)
  short : length out < length line → LineAnswered line out None out

-- ---- the whole job

-- a state for its variables, or a refusal
abbrev pub JobAnswer : Type 0
JobAnswer = AnswerOf answers.Outcome

-- the answer to a text, by the grammar alone: "Text: length, then 1, then the count.", and then the answer to its numbers as words
pub data TextAnswered (text : List ℕ) : JobAnswer → Type 0 where
  too_long : 65536 < length text → TextAnswered text (Refuses 2 0)
  no_text : {place : ℕ} → length text ≤ 65536 → ((vs : List ℕ) → Text text vs → ⊥) → Longest text place → TextAnswered text (Refuses 1 place)
  too_many : {vs : List ℕ} → length text ≤ 65536 → Text text vs → 8192 < length vs → TextAnswered text (Refuses 2 0)
  words : {vs : List ℕ} → length text ≤ 65536 → Text text vs → length vs ≤ 8192 → TextAnswered text (answers.ran vs)

-- where the refusal of a text lies: document 01, "Answers by number", the column "Place"
pub data InText (text : List ℕ) : (number place : ℕ) → Type 0 where
  -- "length of the longest prefix that such a text can begin with"
  broken : {place : ℕ} → Longest text place → InText text 1 place
  -- 0 for what is too long, or too much
  too_much : InText text 2 0
  -- any other is where it lies among the text's numbers as words
  among : {vs : List ℕ} {n number place : ℕ} → Text text vs → Placed (length vs) n number place → InText text number place

-- "a range for each variable, the answer empty, or one numbered refusal with its place"; never 7, since every variable starts at [0,0]
pub data JobAnswered (text : List ℕ) : JobAnswer → Type 0 where
  state : {o : answers.Outcome} → IsState o.n o.state → JobAnswered text (Gives o)
  refusal : (number place : ℕ) → 1 ≤ number → number ≤ 10 → (number ≡ 7 → ⊥) → InText text number place → JobAnswered text (Refuses number place)

-- what is certain where ranges (or empty) come back: the text's numbers are a program, and every run of it from variables that are all 0 ends inside them
pub record TextCertain (text : List ℕ) (o : answers.Outcome) : Type 0 where
  pub numbers : List ℕ
  pub holds : Text text numbers
  pub program : IsProgram o.n numbers
  pub ends_inside : (σ τ : Store) → ((v : ℕ) → v < o.n → σ v ≡ 0) → Runs program.tree σ τ → Holds o.n o.state τ
  pub none_ends : o.state ≡ states.empty → (σ τ : Store) → ((v : ℕ) → v < o.n → σ v ≡ 0) → Runs program.tree σ τ → ⊥

-- ---- all of it

pub record OfTexts : Type 0 where
  pub read : (text words : List ℕ) (r : Reading) (after : List ℕ) → Read text words r after → ReadAnswered text words r after
  pub line : (answer : Answer) (n : ℕ) (out : List ℕ) (r : Printed) (after : List ℕ) → Line answer n out r after → LineAnswered (lines.line n (answer_of answer)) out r after
  -- every text has an answer, one only, and it is what certainty 1 says; the line is that of the answer
  pub answer : (text : List ℕ) → One (TextAnswered text)
  pub answered : (text : List ℕ) (a : JobAnswer) → TextAnswered text a → JobAnswered text a
  pub run : (text out : List ℕ) (r : Printed) (after : List ℕ) (a : JobAnswer) → Run text out r after → TextAnswered text a → LineAnswered (job.line_of a) out r after
  -- certainty 3
  pub certain : (text : List ℕ) (o : answers.Outcome) → TextAnswered text (Gives o) → TextCertain text o
  -- one answer, and one content of each buffer afterwards
  pub one_read : (text words : List ℕ) → One (λ (x : Reading × List ℕ). Read text words x.0 x.1)
  pub one_line : (answer : Answer) (n : ℕ) (out : List ℕ) → One (λ (x : Printed × List ℕ). Line answer n out x.0 x.1)
  pub one_run : (text out : List ℕ) → One (λ (x : Printed × List ℕ). Run text out x.0 x.1)
  pub one_run_marked : (text marks out : List ℕ) → One (λ (x : Printed × List ℕ × List ℕ). RunMarked text marks out x.0 x.1 x.2)
  pub one_run_loop : (text : List ℕ) (unroll : ℕ) (counts settled out : List ℕ) → One (λ (x : Printed × List ℕ × List ℕ × List ℕ). RunLoop text unroll counts settled out x.0 x.1 x.2 x.3)
