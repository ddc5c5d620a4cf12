-- The whole job, on bytes: "The program reads a text .. It prints one line".
use Rattle.std.specs.Prelude.{cond, List, [], ◌∷◌, ◌++◌, ℕ, ltb, length, drop, replicate}
use Rattle.states.specs.Answers.{Answer, Gives, Refuses, and_then}
use Rattle.states.specs.States as states
use Rattle.paper.specs.Answers as answers
use Rattle.paper.specs.Reader as reader
use Rattle.paper.specs.Rules.{Looped}
use Rattle.paper.specs.Trace.{mark}
use Rattle.paper.specs.Used.{used}
use Rattle.text.specs.Answers as text
use Rattle.text.specs.Machine.{Contents, holds, breaks, contents}
use Rattle.text.specs.declared.reader.Mode.TheVariants.{Start}
use Rattle.text.specs.Line as lines

-- the words that bytes hold: 1 at the place where they break off, 2 for more than 8,192
abbrev pub words_in : Contents → Answer (List ℕ)
words_in (breaks place) = Refuses 1 place
words_in (holds ws) = cond (ltb 8192 (length ws)) (Refuses 2 0) (Gives ws)

-- "Text: length, then 1, then the count."
abbrev pub words_of : List ℕ → Answer (List ℕ)
words_of text = cond (ltb 65536 (length text)) (Refuses 2 0) (words_in (contents text Start))

-- the line of a refusal, for any number of variables
abbrev pub refusal : ℕ → ℕ → List ℕ
refusal number place = lines.line 0 (Refuses number place)

-- the line of a state for its variables, or of a refusal
abbrev pub line_of : Answer answers.Outcome → List ℕ
line_of (Gives o) = lines.line o.n (Gives o.state)
line_of (Refuses number place) = refusal number place

-- the answer to a text: that to its words
abbrev pub answer : List ℕ → Answer answers.Outcome
answer text = and_then (words_of text) answers.ran

-- its line, printed into a buffer: a line longer than that leaves it as it was
abbrev pub run : List ℕ → List ℕ → text.Outcome
run text out = lines.printed (line_of (answer text)) out

-- how many bytes were written; 0 says that the buffer was too short, since no line has none
abbrev pub written : Answer ℕ → ℕ
written (Gives count) = count
written (Refuses number place) = 0

-- ---- with the lists that were entered

-- a state for its variables, and a byte for each word that is 1 at the count of a list that was entered
pub record Entered : Type 0 where
  pub outcome : answers.Outcome
  pub marks : List ℕ

-- those of words, with room for so many marks: fewer than there are words is 2
abbrev pub entered_by : List ℕ → ℕ → Answer Entered
entered_by ws room =
    and_then (answers.ran ws) (λ o.
    cond (ltb room (length ws)) (Refuses 2 0) (Gives (record { outcome = o; marks = mark (answers.entered ws o.n states.zeros 0) (replicate (length ws) 0) })))

abbrev pub entered : List ℕ → ℕ → Answer Entered
entered text room = and_then (words_of text) (λ ws. entered_by ws room)

-- what the printing leaves, and the marks
pub record Marking : Type 0 where
  pub printing : text.Outcome
  pub marks : List ℕ

-- these two, as the code has them
abbrev pub left : Answer ℕ → List ℕ → List ℕ → Marking
left answer marks out = record { printing = text.leaves answer out; marks = marks }

-- bytes in front of a buffer, where the line was printed
abbrev pub beside : Answer ℕ → List ℕ → List ℕ → List ℕ
beside (Gives count) bytes buffer = bytes ++ drop (length bytes) buffer
beside (Refuses number place) bytes buffer = buffer

-- an answer's line, printed, and with it the marks; a refusal leaves them as they were
abbrev pub marking : Answer Entered → List ℕ → List ℕ → Marking
marking (Gives e) marks out =
    let printing = lines.printed (line_of (Gives e.outcome)) out in
    record { printing = printing; marks = beside printing.answer e.marks marks }
marking (Refuses number place) marks out = record { printing = lines.printed (refusal number place) out; marks = marks }

abbrev pub run_marked : List ℕ → List ℕ → List ℕ → Marking
run_marked text marks out = marking (entered text (length marks)) marks out

-- ---- a loop's own entry

-- what a loop gives, and for how many variables
pub record Loop : Type 0 where
  pub n : ℕ
  pub looped : Looped

-- words are checked with n = 64, then as one loop with as many variables as they use; every variable starts at [0,0]
abbrev pub ran_loop : List ℕ → ℕ → Answer Loop
ran_loop ws unroll =
    cond (ltb 8192 (length ws)) (Refuses 4 0)
    (answers.as_answer (reader.program ws 64) (λ p.
    and_then (answers.looped ws (used p) states.zeros unroll) (λ l.
    Gives (record { n = used p; looped = l }))))

-- "the settled state", as a line
abbrev pub settled_line : Loop → List ℕ
settled_line l = lines.line l.n (Gives l.looped.settled)

-- "and the four pass counts (search, unrolled, joining, widening)"
abbrev pub counts_of : Loop → List ℕ
counts_of l = l.looped.searched ∷ l.looped.unrolls ∷ l.looped.joined ∷ l.looped.widened ∷ []

-- with room for so many counts and for so long a line: less than these take is 2
abbrev pub with_room : ℕ → ℕ → Loop → Answer Loop
with_room counts settled l = cond (ltb counts 4) (Refuses 2 0) (cond (ltb settled (length (settled_line l))) (Refuses 2 0) (Gives l))

abbrev pub loop_in : List ℕ → ℕ → ℕ → ℕ → Answer Loop
loop_in text unroll counts settled =
    and_then (words_of text) (λ ws.
    and_then (ran_loop ws unroll) (λ l.
    with_room counts settled l))

-- what the printing leaves, the counts and the settled state's line
pub record Looping : Type 0 where
  pub printing : text.Outcome
  pub counts : List ℕ
  pub settled : List ℕ

-- these three, as the code has them
abbrev pub all_left : Answer ℕ → List ℕ → List ℕ → List ℕ → Looping
all_left answer counts settled out = record { printing = text.leaves answer out; counts = counts; settled = settled }

-- the line of the ranges, printed, and with it the counts and the settled state's line; a refusal leaves them as they were
abbrev pub looping : Answer Loop → List ℕ → List ℕ → List ℕ → Looping
looping (Gives l) counts settled out =
    let printing = lines.printed (lines.line l.n (Gives l.looped.exits)) out in
    record { printing = printing; counts = beside printing.answer (counts_of l) counts; settled = beside printing.answer (settled_line l) settled }
looping (Refuses number place) counts settled out = record { printing = lines.printed (refusal number place) out; counts = counts; settled = settled }

abbrev pub run_loop : List ℕ → ℕ → List ℕ → List ℕ → List ℕ → Looping
run_loop text unroll counts settled out = looping (loop_in text unroll (length counts) (length settled)) counts settled out
