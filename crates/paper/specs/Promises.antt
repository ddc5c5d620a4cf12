-- Certainty 3 and the marks, on one page: what is certain of an answer. `certain` of proofs/Certain.antt proves it all.
-- What a program is: Tree, Code, Limits. What it does: Runs, Entries. What the analysis does: Rules, Visits, Trace, Answers.
use Rattle.std.specs.Prelude.{◌≡◌, true, false, List, [], ◌∷◌, ◌↔◌, ℕ, ◌+◌, ◌*◌, ◌≤◌, length, get_or}
use Rattle.ranges.specs.Ranges as ranges
use Rattle.states.specs.declared.State.{State}
use Rattle.states.specs.declared.Cell.{Cell}
use Rattle.states.specs.Answers.{Answer, Gives}
use Rattle.states.specs.States as states
use Rattle.states.specs.States.{Fit}
use Rattle.paper.specs.Tree.{Draw, Event, Unroll, While, Statements, done, ◌then◌}
use Rattle.paper.specs.Limits.{EventIn, StatementsIn, IsProgram}
use Rattle.paper.specs.Reader as reader
use Rattle.paper.specs.Reader.{Read}
use Rattle.paper.specs.Rules as rules
use Rattle.paper.specs.Rules.{Setting, Pass, Found, Settling, Looped}
use Rattle.paper.specs.Runs.{Store, Takes, ◌∈◌, False, Runs, Turned, Holds}
use Rattle.paper.specs.Entries.{ListEnters}
use Rattle.paper.specs.Visits.{Visit, pass_at, exit_at, analysed_at, Head, Point, ListVisits}
use Rattle.paper.specs.Trace as trace
use Rattle.paper.specs.Answers as answers
use Rattle.paper.specs.Answers.{Outcome}

-- ---- a word list

-- no run of the program that the words code, from the caller's ranges, comes to the beginning of the list whose count stands at a place: it is dead
abbrev pub Dead : List ℕ → ℕ → List Cell → ℕ → Type 0
Dead ws n cs place = (p : IsProgram n ws) (σ : Store) → Holds n (states.live cs) σ → ListEnters p.tree 1 σ place → ⊥

-- what is certain of the state t that is answered for a word list over n variables, the caller's ranges and a default unroll.
-- A run begins in any store that lies in each of the caller's first n ranges: in every store if n is 0, in none if one of them is Empty.
pub record Covers (ws : List ℕ) (n : ℕ) (cs : List Cell) (u : ℕ) (t : State) : Type 0 where
  -- the words code a program within the limits, the one that is read
  pub program : IsProgram n ws
  pub read : reader.program ws n ≡ Read program.tree (length ws)
  -- every finite run of it that does not fail ends in t; where t is empty, none ends
  pub covers : (σ τ : Store) → Holds n (states.live cs) σ → Runs program.tree σ τ → Holds n t τ
  pub none_ends : states.is_live t ≡ false → (σ τ : Store) → Holds n (states.live cs) σ → Runs program.tree σ τ → ⊥
  -- every list that a run enters, also one that does not end, is named by the trace
  pub named : (σ : Store) (place : ℕ) → Holds n (states.live cs) σ → ListEnters program.tree 1 σ place → ranges.has (answers.entered ws n cs u) place ≡ true
  -- t is a state of n variables
  pub fit : Fit n t

-- ---- a loop

-- a state at a loop's head is accepted by one more pass: the pass is made, and its new state lies within it
pub record Accepted (n : ℕ) (pass : State → Answer Pass) (s : State) : Type 0 where
  pub last : Pass
  pub made : pass s ≡ Gives last
  pub stays : states.within n last.next s ≡ true

-- what is certain of the analysis l of the loop `while e do b`, whose unroll is u, from s: over n variables, by its pass and by what leaves it
pub record LoopHolds (n : ℕ) (pass : State → Answer Pass) (exit : State → Answer State) (e : Event) (b : Statements) (u : ℕ) (s : State) (l : Looped) : Type 0 where
  -- a run that leaves the loop, after any number of turns, leaves it inside the result
  pub covers : (k : ℕ) (σ τ : Store) → Holds n s σ → Turned e b k σ τ → False e τ → Holds n l.exits τ
  -- the settled state holds every run that reaches the head after the unrolled turns
  pub settled : (k : ℕ) (σ τ : Store) → l.unrolls ≤ k → Holds n s σ → Turned e b k σ τ → Holds n l.settled τ
  -- it is accepted by one more pass
  pub accepted : Accepted n pass l.settled
  -- it grew from the state after the unrolled turns, which holds every run that reaches the head after just those
  pub turned : (σ τ : Store) → Holds n s σ → Turned e b l.unrolls σ τ → Holds n l.turned τ
  pub grown : states.within n l.turned l.settled ≡ true
  -- at most 100 search passes; it found an index, or none
  pub found : Found
  pub search : rules.search n pass exit 100 0 s ≡ Gives found
  pub searched : (l.searched ≡ rules.search_passes found) × (l.searched ≤ 100)
  -- max(u, i) unrolled passes if it found i, u if none
  pub unrolls : l.unrolls ≡ rules.unroll_passes u found
  -- at most 100 joining passes and 2n + 1 widening passes, and the widening stage always settles
  pub joined : l.joined ≤ 100
  pub widened : l.widened ≤ 2 * n + 1
  pub settles : (j w : Settling) → rules.growing n pass exit (states.join n) 100 0 l.turned ≡ Gives j → rules.growing n pass exit (states.widen n) (n + n + 1) 0 j.at ≡ Gives w → w.settled ≡ true
  -- together
  pub passes : l.searched + l.unrolls + l.joined + l.widened ≤ 201 + u + 2 * n
  -- its states are states of n variables
  pub exits_fit : Fit n l.exits
  pub turned_fit : Fit n l.turned
  pub settled_fit : Fit n l.settled

-- the same, for a loop that the rules come to
abbrev pub VisitHolds : Setting → Visit → Looped → Type 0
VisitHolds g v l = LoopHolds g.n (pass_at g v) (exit_at g v) v.event v.body (rules.turns g v.unroll) v.from l

-- what is certain of the analysis l that is answered by a loop's own entry
pub record LoopCovers (ws : List ℕ) (n : ℕ) (cs : List Cell) (u : ℕ) (l : Looped) : Type 0 where
  -- the words code a program that is one loop
  pub program : IsProgram n ws
  pub unroll : Unroll
  pub event : Event
  pub body : Statements
  pub is : program.tree ≡ (While unroll event body then done)
  -- a run of it that leaves the loop leaves it inside the result; the settled state holds it at the head after the unrolled turns
  pub covers : (k : ℕ) (σ τ : Store) → Holds n (states.live cs) σ → Turned event body k σ τ → False event τ → Holds n l.exits τ
  pub settled : (k : ℕ) (σ τ : Store) → l.unrolls ≤ k → Holds n (states.live cs) σ → Turned event body k σ τ → Holds n l.settled τ
  -- all else is as for every loop, from the starting state
  pub start : State
  pub started : answers.admitted ws n u cs ≡ Gives start
  pub loop : VisitHolds (record { n = n; unroll = u }) (record { unroll = unroll; event = event; body = body; place = 1; from = start }) l

-- ---- all of it

-- the caller's ranges are 64 cells by their type; nothing else is asked that the analysis does not refuse
pub record Certainty : Type 0 where
  -- the library's three answers: for a word list, for a loop's own entry, and for the program that reads words alone, whose variables start at 0
  pub analysed : (ws : List ℕ) (n : ℕ) (cs : List Cell) (u : ℕ) (t : State) → length cs ≡ 64 → answers.analysed ws n cs u ≡ Gives t → Covers ws n cs u t
  pub looped : (ws : List ℕ) (n : ℕ) (cs : List Cell) (u : ℕ) (l : Looped) → length cs ≡ 64 → answers.looped ws n cs u ≡ Gives l → LoopCovers ws n cs u l
  pub ran : (ws : List ℕ) (o : Outcome) → answers.ran ws ≡ Gives o → Covers ws o.n states.zeros 0 o.state
  -- each time that the rules, going over a program from its starting state, come to a loop and analyse it, also an inner one
  pub each_loop : (ws : List ℕ) (n : ℕ) (cs : List Cell) (u : ℕ) (p : IsProgram n ws) (start : State) (v : Visit) (l : Looped) → length cs ≡ 64 → answers.admitted ws n u cs ≡ Gives start →
      ListVisits (record { n = n; unroll = u }) p.tree 1 start v → analysed_at (record { n = n; unroll = u }) v ≡ Gives l → VisitHolds (record { n = n; unroll = u }) v l
  -- and any loop within the limits, from any state of n variables, whether or not the rules come to it
  pub any_loop : (g : Setting) (deep loops : ℕ) (v : Visit) (l : Looped) → g.n ≤ 64 → EventIn g.n deep v.event → StatementsIn g.n deep loops v.body → Fit g.n v.from →
      analysed_at g v ≡ Gives l → VisitHolds g v l
  -- such a loop's body is gone over at most 201 + U + 2n times, also where the analysis refuses: the trace of its passes, each written down as one place, is no longer
  pub gone_over : (g : Setting) (deep loops : ℕ) (v : Visit) → g.n ≤ 64 → EventIn g.n deep v.event → StatementsIn g.n deep loops v.body → Fit g.n v.from →
      length (trace.loop g.n (pass_at g v) (λ _. v.place ∷ []) (exit_at g v) (rules.turns g v.unroll) v.from) ≤ 201 + rules.turns g v.unroll + 2 * g.n
  -- where it answers, its four counts together are the number of its passes
  pub counted : (n : ℕ) (pass : State → Answer Pass) (exit : State → Answer State) (u : ℕ) (s : State) (l : Looped) (place : ℕ) → rules.loop n pass exit u s ≡ Gives l →
      length (trace.loop n pass (λ _. place ∷ []) exit u s) ≡ l.searched + l.unrolls + l.joined + l.widened
  -- a loop's analysis looks at its pass at no state but a `Head`, a normalize at its body at none but a `Point`: so no visit is missed
  pub heads : (n : ℕ) (pass other : State → Answer Pass) (exit : State → Answer State) (u : ℕ) (s : State) → ((h : State) → Head n pass s h → pass h ≡ other h) →
      rules.loop n pass exit u s ≡ rules.loop n other exit u s
  pub points : (n : ℕ) (body other : State → Answer State) (at : ℕ) (vs : List ℕ) (s : State) → ((h : State) → Point vs s h → body h ≡ other h) →
      rules.normalized n body at vs s ≡ rules.normalized n other at vs s
  -- a list that the trace does not name is dead, and so is one whose byte is 0 among the marks
  pub entered : (ws : List ℕ) (n : ℕ) (cs : List Cell) (u : ℕ) (t : State) (place : ℕ) → length cs ≡ 64 → answers.analysed ws n cs u ≡ Gives t →
      ranges.has (answers.entered ws n cs u) place ≡ false → Dead ws n cs place
  pub marked : (ws : List ℕ) (n : ℕ) (cs : List Cell) (u : ℕ) (t : State) (marks : List ℕ) (place : ℕ) → length cs ≡ 64 → answers.analysed ws n cs u ≡ Gives t →
      length ws ≤ length marks → get_or (trace.mark (answers.entered ws n cs u) marks) place 0 ≡ 0 → Dead ws n cs place
  -- a draw takes just the numbers of its range
  pub draws : (d : Draw) (x : ℕ) → Takes d x ↔ (x ∈ rules.drawn d)
