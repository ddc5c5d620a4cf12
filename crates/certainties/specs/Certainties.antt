-- The three certainties, on one page, about what the functions answer. `certainties` of proofs/Certainties.antt proves them. Of texts: Texts.
-- The words used here have their definitions in crate paper: a program Tree, Code, Limits, Reader; the rules Rules, Visits, Trace, Answers; a run Runs, Entries.
use Rattle.std.specs.Prelude.{◌≡◌, true, false, List, [], ◌∷◌, ◌⊎◌, ◌↔◌, ℕ, ◌+◌, ◌*◌, ◌≤◌, ◌<◌, Result, Ok, Err, length, get_or}
use Rattle.ranges.specs.declared.Range.{Range}
use Rattle.ranges.specs.Ranges as ranges
use Rattle.states.specs.declared.State.{State}
use Rattle.states.specs.declared.Start.{Start}
use Rattle.states.specs.declared.Refusal.{Refusal}
use Rattle.states.specs.Answers.{Gives, Refuses, outcome, refusal}
use Rattle.states.specs.States as states
use Rattle.states.specs.Starts as starts
use Rattle.paper.specs.Tree.{Unroll, Event, While, Statements, done, ◌then◌}
use Rattle.paper.specs.Limits.{IsProgram}
use Rattle.paper.specs.Reader as reader
use Rattle.paper.specs.Rules as rules
use Rattle.paper.specs.Rules.{Setting, Looped}
use Rattle.paper.specs.Runs.{Store, Runs, Turned, False, Holds}
use Rattle.paper.specs.Entries.{ListEnters}
use Rattle.paper.specs.Trace as trace
use Rattle.paper.specs.Visits.{Visit, pass_at, exit_at, analysed_at, ListVisits}
use Rattle.paper.specs.Answers as answers
use Rattle.paper.specs.Places.{Placed}
use Rattle.paper.specs.Table.{Table}
use Rattle.words.specs.Words.{checked, used_of}
use Rattle.analysis.specs.declared.Marked.{Marked}
use Rattle.analysis.specs.declared.LoopAnswer.{LoopAnswer}
use Rattle.analysis.specs.Entries.{marked}
use Rattle.analysis.specs.Outcomes.{looped}

-- ---- what a caller hands over, and what the functions answer

-- words, n, starting ranges and a default unroll, each of any value; the ranges are 64 by their type
pub record Input : Type 0 where
  pub words : List ℕ
  pub n : ℕ
  pub start : Start
  pub unroll : ℕ
  pub sixty_four : length start.cells ≡ 64

-- a state, or a refusal by number and place; the same of an answer with marks, of a loop's own entry, and of the check
abbrev pub Answer : Type 0
Answer = Result State Refusal

abbrev pub MarkedAnswer : Type 0
MarkedAnswer = Result Marked Refusal

abbrev pub LoopOutcome : Type 0
LoopOutcome = Result LoopAnswer Refusal

abbrev pub Checked : Type 0
Checked = Result ℕ Refusal

-- an answer with marks, without them
abbrev pub unmarked : MarkedAnswer → Answer
unmarked (Ok m) = Ok m.state
unmarked (Err r) = Err r

-- r is the answer: the equations that the contracts prove, for every input (src/lib.rt holds them to the contracts)
abbrev pub Analyse : Input → Answer → Type 0
Analyse i r = r ≡ outcome (answers.analysed i.words i.n i.start.cells i.unroll)

abbrev pub AnalyseMarked : Input → MarkedAnswer → Type 0
AnalyseMarked i r = r ≡ marked i.words i.n i.start.cells i.unroll

abbrev pub AnalyseLoop : Input → LoopOutcome → Type 0
AnalyseLoop i r = r ≡ looped (answers.looped i.words i.n i.start.cells i.unroll)

abbrev pub Check : List ℕ → ℕ → Checked → Type 0
Check words n r = r ≡ checked (reader.program words n)

abbrev pub Used : List ℕ → ℕ → Type 0
Used words r = r ≡ used_of (reader.program words 64)

-- ---- 1. Always an answer

-- "a range for each variable", its start at most its end, with [0,0] where there is no variable; or "the answer empty", which is one value
pub data IsState (n : ℕ) : State → Type 0 where
  each_a_range : {s : State} → states.is_live s ≡ true → ((v : ℕ) → v < n → (ranges.is_empty (states.get s v) ≡ false) × (ranges.crossed (states.get s v) ≡ false)) →
      ((v : ℕ) → n ≤ v → states.get s v ≡ ranges.point 0) → IsState n s
  empty : IsState n states.empty

-- "Every .. word list and starting state gets a range for each variable, the answer empty, or one numbered refusal with its place. .. A refusal hands back no state"
pub data Answered (size n : ℕ) : Answer → Type 0 where
  state : {s : State} → IsState n s → Answered size n (Ok s)
  refused : (number place : ℕ) → 3 ≤ number → number ≤ 10 → Placed size n number place → Answered size n (Err (refusal number place))

-- the same of a loop's own entry: a refusal hands back no state and no counts
pub data LoopAnswered (size n : ℕ) : LoopOutcome → Type 0 where
  loop : {l : LoopAnswer} → IsState n l.exits → IsState n l.turned → IsState n l.settled → LoopAnswered size n (Ok l)
  refused : (number place : ℕ) → 3 ≤ number → number ≤ 10 → Placed size n number place → LoopAnswered size n (Err (refusal number place))

-- and of the check: a refusal is at a word, or 3 at the list's length
pub data CheckAnswered (size : ℕ) : Checked → Type 0 where
  sound : (variables : ℕ) → CheckAnswered size (Ok variables)
  short : CheckAnswered size (Err (refusal 3 size))
  refused : (number place : ℕ) → 3 ≤ number → number ≤ 6 → place < size → CheckAnswered size (Err (refusal number place))

-- "The caller need check nothing.": no statement has a condition
pub record AlwaysAnAnswer : Type 0 where
  pub analyse : (i : Input) (r : Answer) → Analyse i r → Answered (length i.words) i.n r
  pub analyse_marked : (i : Input) (r : MarkedAnswer) → AnalyseMarked i r → Answered (length i.words) i.n (unmarked r)
  -- a refusal hands back no marks: number and place are all that there is
  pub no_marks : (i : Input) (r : MarkedAnswer) (number place : ℕ) → AnalyseMarked i r → unmarked r ≡ Err (refusal number place) → r ≡ Err (refusal number place)
  pub analyse_loop : (i : Input) (r : LoopOutcome) → AnalyseLoop i r → LoopAnswered (length i.words) i.n r
  pub check : (words : List ℕ) (n : ℕ) (r : Checked) → Check words n r → CheckAnswered (length words) r
  -- each of the eight numbers does occur
  pub every_number : (number : ℕ) → 3 ≤ number → number ≤ 10 → (i : Input) × (place : ℕ) × Analyse i (Err (refusal number place))

-- ---- 2. Document 01's refusals and ranges

-- what is within the limits that come before the words; the caller's range of a variable; the starting state that they make
pub record Within (i : Input) : Type 0 where
  pub words : length i.words ≤ 8192
  pub variables : i.n ≤ 64
  pub unroll : i.unroll ≤ 10000

abbrev pub range : Input → ℕ → Range
range i v = states.get (states.live i.start.cells) v

abbrev pub Starts : Input → State → Type 0
Starts i s = answers.admitted i.words i.n i.unroll i.start.cells ≡ Gives s

abbrev pub setting : Input → Setting
setting i = record { n = i.n; unroll = i.unroll }

-- there is one answer, and only one
pub record One {A : Type 0} (Is : A → Type 0) : Type 0 where
  pub answer : A
  pub is : Is answer
  pub only : (other : A) → Is other → other ≡ answer

-- "Which inputs are refused, with which number and place, and the ranges of all others are proved to be what document 01 says."
-- (That they are the Rust's wherever it returns is shown by runs of both: no theorem speaks of the Rust.)
pub record AsDocument01Says : Type 0 where
  -- "Analysis: list length, n, default unroll,"
  pub over_a_limit : (i : Input) (r : Answer) → Analyse i r → (8192 < length i.words) ⊎ (64 < i.n) ⊎ (10000 < i.unroll) → r ≡ Err (refusal 4 0)
  -- "7," at the lowest variable whose start is over its end; where there is none, the ranges start, and "one Empty among them makes it empty"
  pub start_over_end : (i : Input) (r : Answer) (v : ℕ) → Analyse i r → Within i → v < i.n → ranges.crossed (range i v) ≡ true → ((w : ℕ) → w < v → ranges.crossed (range i w) ≡ false) → r ≡ Err (refusal 7 v)
  pub as_given : (i : Input) → Within i → ((v : ℕ) → v < i.n → (ranges.crossed (range i v) ≡ false) × (ranges.is_empty (range i v) ≡ false)) → Starts i (states.live (starts.first_cells i.n i.start.cells))
  pub one_empty : (i : Input) (v : ℕ) → Within i → ((w : ℕ) → w < i.n → ranges.crossed (range i w) ≡ false) → v < i.n → ranges.is_empty (range i v) ≡ true → Starts i states.empty
  -- "then words left to right; the first bad word decides,"
  pub bad_word : (i : Input) (r : Answer) (s : State) (number place : ℕ) → Analyse i r → Starts i s → reader.program i.words i.n ≡ reader.Bad number place → r ≡ Err (refusal number place)
  pub programs : (words : List ℕ) (n : ℕ) → ((u : ℕ) × Check words n (Ok u)) ↔ IsProgram n words
  -- and a program goes by the rules of the analysis, from which 8 to 10 come
  pub by_the_rules : (i : Input) (r : Answer) (s : State) (p : IsProgram i.n i.words) → Analyse i r → Starts i s → r ≡ outcome (rules.list (setting i) 1 p.tree s)
  -- "A loop's own entry ..; a first word other than 1 is refusal 3 at 0, a kind other than 5 is 3 at 1."
  pub not_one : (i : Input) (r : LoopOutcome) (s : State) → AnalyseLoop i r → Starts i s → (get_or i.words 0 0 ≡ 1 → ⊥) → r ≡ Err (refusal 3 0)
  pub no_loop : (i : Input) (r : LoopOutcome) (s : State) → AnalyseLoop i r → Starts i s → get_or i.words 0 0 ≡ 1 → (get_or i.words 1 0 ≡ 5 → ⊥) → r ≡ Err (refusal 3 1)
  pub loop_by_the_rules : (i : Input) (r : LoopOutcome) (s : State) (p : IsProgram i.n i.words) (u : Unroll) (e : Event) (b : Statements) → AnalyseLoop i r → Starts i s → p.tree ≡ (While u e b then done) →
      r ≡ looped (analysed_at (setting i) (record { unroll = u; event = e; body = b; place = 1; from = s }))
  -- "Prove that no two different answers satisfy it"
  pub analyse : (i : Input) → One (Analyse i)
  pub analyse_marked : (i : Input) → One (AnalyseMarked i)
  pub analyse_loop : (i : Input) → One (AnalyseLoop i)
  pub check : (words : List ℕ) (n : ℕ) → One (Check words n)
  pub used : (words : List ℕ) → One (Used words)
  -- "Proved table"
  pub table : Table

-- ---- 3. Every run ends inside

-- a run begins in any store that lies in each of the caller's first n ranges; its values are of any size
abbrev pub Begins : Input → Store → Type 0
Begins i σ = Holds i.n (states.live i.start.cells) σ

-- how often a loop's body is gone over: its passes, each written down as one place
abbrev pub passes : Setting → Visit → ℕ
passes g v = length (trace.loop g.n (pass_at g v) (λ _. v.place ∷ []) (exit_at g v) (rules.turns g v.unroll) v.from)

-- what is certain where the loop's own entry answers: the words are one loop
pub record LoopCertain (i : Input) (r : LoopAnswer) : Type 0 where
  pub program : IsProgram i.n i.words
  pub unroll : Unroll
  pub event : Event
  pub body : Statements
  pub one_loop : program.tree ≡ (While unroll event body then done)
  pub ends_inside : (k : ℕ) (σ τ : Store) → Begins i σ → Turned event body k σ τ → False event τ → Holds i.n r.exits τ
  pub gone_over : r.searched + r.unrolls + r.joined + r.widened ≤ 201 + rules.turns (setting i) unroll + 2 * i.n
  pub settled : (k : ℕ) (σ τ : Store) → r.unrolls ≤ k → Begins i σ → Turned event body k σ τ → Holds i.n r.settled τ

pub record EveryRunEndsInside : Type 0 where
  -- "When ranges (or empty) come back for a starting state, every finite run from that state that does not fail ends inside them (where empty, none ends)."
  pub program : (i : Input) (s : State) → Analyse i (Ok s) → IsProgram i.n i.words
  pub ends_inside : (i : Input) (s : State) (p : IsProgram i.n i.words) (σ τ : Store) → Analyse i (Ok s) → Begins i σ → Runs p.tree σ τ → Holds i.n s τ
  pub none_ends : (i : Input) (p : IsProgram i.n i.words) (σ τ : Store) → Analyse i (Ok states.empty) → Begins i σ → Runs p.tree σ τ → ⊥
  -- "Each time a loop is analysed its body is gone over at most 201 + U + 2n times," also an inner one, and where a refusal follows too
  pub gone_over : (i : Input) (s : State) (p : IsProgram i.n i.words) (v : Visit) → Starts i s → ListVisits (setting i) p.tree 1 s v → passes (setting i) v ≤ 201 + rules.turns (setting i) v.unroll + 2 * i.n
  -- "and the state it settles on holds every run that reaches the loop's head after the unrolled turns."
  pub settled : (i : Input) (s : State) (p : IsProgram i.n i.words) (v : Visit) (l : Looped) → Starts i s → ListVisits (setting i) p.tree 1 s v → analysed_at (setting i) v ≡ Gives l →
      (k : ℕ) (σ τ : Store) → l.unrolls ≤ k → Holds i.n v.from σ → Turned v.event v.body k σ τ → Holds i.n l.settled τ
  -- the same of the counts and the settled state that a loop's own entry hands back
  pub analyse_loop : (i : Input) (l : LoopAnswer) → AnalyseLoop i (Ok l) → LoopCertain i l
  -- and a list whose mark is 0 is entered by no run, nor by the beginning of one that never ends
  pub dead : (i : Input) (m : Marked) (p : IsProgram i.n i.words) (place : ℕ) (σ : Store) → AnalyseMarked i (Ok m) → get_or m.marks place 0 ≡ 0 → Begins i σ → ListEnters p.tree 1 σ place → ⊥

-- ---- all three

pub record Certainties : Type 0 where
  pub always_an_answer : AlwaysAnAnswer
  pub as_document_01_says : AsDocument01Says
  pub every_run_ends_inside : EveryRunEndsInside
