-- The page's statements, each from the theorem that it cites.
use mathlib.Core.Path.{◌≡◌, refl, sym, ap, ◌∙◌, subst}
use mathlib.Core.Bool.{Bool, true, false, false≢true}
use mathlib.Core.List.{List, [], ◌∷◌}
use mathlib.Core.Logic.{◌⊎◌, inl, inr}
use Prim.Native.Nat.{ℕ, ◌+◌, ◌*◌, ◌≤◌, ◌<◌}
use native.Mathlib.Omega.{arith}
use native.Mathlib.Decide.{dec_le}
use lib.ListN.{length, get_or, replicate, length-replicate}
use Rattle.std.specs.Prelude.{Result, Ok, Err}
use Rattle.ranges.specs.declared.Range.{Range}
use Rattle.ranges.specs.Ranges as ranges
use Rattle.states.specs.declared.State.{State}
use Rattle.states.specs.declared.Cell.{Cell}
use Rattle.states.specs.declared.State.TheVariants as state
use Rattle.states.specs.declared.Refusal.{Refusal}
use Rattle.states.specs.Answers.{Answer, Gives, Refuses, and_then, outcome, answer_of, refusal}
use Rattle.states.specs.States as states
use Rattle.states.specs.Starts as starts
use Rattle.states.proofs.Starts.{Begun, Said, too_many, lowest, one_empty, as_given, started_says}
use Rattle.paper.specs.Tree.{Unroll, Event, While, Statements, done, ◌then◌}
use Rattle.paper.specs.Code as code_of
use Rattle.paper.specs.Limits.{IsProgram}
use Rattle.paper.specs.Reader as reader
use Rattle.paper.specs.Reader.{Read as Reads}
use Rattle.paper.specs.Rules as rules
use Rattle.paper.specs.Rules.{Looped}
use Rattle.paper.specs.Runs.{Store, Runs, Holds}
use Rattle.paper.specs.Entries.{ListEnters}
use Rattle.paper.specs.Visits.{Visit, analysed_at, ListVisits}
use Rattle.paper.specs.Used.{used}
use Rattle.paper.specs.Answers as answers
use Rattle.paper.specs.Promises.{Covers}
use Rattle.paper.specs.Table.{table}
use Rattle.paper.proofs.Reading.{code_is_read}
use Rattle.paper.specs.Places.{Placed}
use Rattle.paper.proofs.Places.{placed_number}
use Rattle.paper.proofs.Numbers.{Numbered, read, ended, bad, program_numbered}
use Rattle.paper.proofs.Ends.{Ends, gives, refuses, Gone, analysed_ends, looped_ends}
use Rattle.paper.proofs.Within.{below}
use Rattle.states.proofs.Sure.{sure_of}
use Rattle.paper.proofs.Held.{holds_dead}
use Rattle.paper.proofs.Starts.{admitted_ok}
use Rattle.paper.proofs.Visits.{visit_most, list_visits}
use Rattle.paper.proofs.Certain.{certain}
use Rattle.words.specs.Words.{checked}
use Rattle.words.proofs.Unique.{code_injective}
use Rattle.words.proofs.Exact.{sound_is_program, program_is_sound}
use Rattle.analysis.specs.declared.Marked.{Marked}
use Rattle.analysis.specs.declared.LoopAnswer.{LoopAnswer}
use Rattle.analysis.specs.Outcomes.{a_loop, looped}
use Rattle.analysis.proofs.Says.{answered_good, looped_good}
use Rattle.analysis.proofs.Entries.{too_long, too_wide, too_deep, let_in, analysed_unadmitted, analysed_bad, analysed_read}
use Rattle.analysis.proofs.Entries.{begins_none, begins_other, begins_short, begins_unlike, begins_loop, looped_unbegun, looped_read}
use Rattle.certainties.proofs.Numbers.{every_number}
use Rattle.certainties.specs.Certainties as page
use Rattle.certainties.specs.Certainties.{Input, Analyse, AnalyseMarked, AnalyseLoop, One, Certainties}

-- ---- results and answers

-- what an answer is as a result is that answer
pub back : {A : Type 0} (a : Answer A) → answer_of (outcome a) ≡ a
back (Gives x) = refl
back (Refuses number place) = refl

-- an answer with marks
with_marks : List ℕ → Answer State → page.MarkedAnswer
with_marks marks a = outcome (and_then a (λ s. Gives (record { state = s; marks = marks })))

without_marks : (marks : List ℕ) (a : Answer State) → page.unmarked (with_marks marks a) ≡ outcome a
unfolding with_marks
without_marks marks (Gives s) = refl
without_marks marks (Refuses number place) = refl

marks_in : List ℕ → page.MarkedAnswer → List ℕ
marks_in none (Ok m) = m.marks
marks_in none (Err r) = none

marks_of : (marks : List ℕ) (a : Answer State) (m : Marked) → Ok m ≡ with_marks marks a → m.marks ≡ marks
unfolding with_marks marks_in
marks_of marks (Gives s) m e = ap (marks_in marks) e
marks_of marks (Refuses number place) m e = absurd (let z : ◌≡◌ {A = ℕ} 0 1 = cc in omega arith)

-- ---- 1. Always an answer

pub is_state : {n : ℕ} (s : State) → Begun n s → page.IsState n s
is_state state.Empty b = page.empty
is_state (state.Live cs) b = page.each_a_range refl (λ v h. (b.fit.full refl v h, b.proper v h)) b.fit.rest

outcome_answered : {size n : ℕ} (a : Answer State) → Ends (Placed size n) (Begun n) a → page.Answered size n (outcome a)
outcome_answered a (gives {a = s} b) = page.state (is_state s b)
outcome_answered a (refuses k at r) = page.refused k at (placed_number r).0 (omega (arith, (placed_number r).1)) r

looped_answered : {size n : ℕ} (a : Answer Looped) → Ends (Placed size n) (Gone n) a → page.LoopAnswered size n (looped a)
looped_answered a (gives {a = l} g) = page.loop (is_state l.exits g.exits) (is_state l.turned g.turned) (is_state l.settled g.settled)
looped_answered a (refuses k at r) = page.refused k at (placed_number r).0 (omega (arith, (placed_number r).1)) r

checked_answered : {size : ℕ} (m : reader.Reading Statements) → Numbered size m → page.CheckAnswered size (checked m)
unfolding checked
checked_answered m (read {a = p} l) = page.sound _
checked_answered m ended = page.short
checked_answered m (bad k {at} l h inside) = page.refused k at l h inside

analyse_answered : (i : Input) (r : page.Answer) → Analyse i r → page.Answered (length i.words) i.n r
analyse_answered i r e = subst (page.Answered (length i.words) i.n) (sym e) (outcome_answered _ (analysed_ends i.words i.n i.start.cells i.unroll i.sixty_four))

marked_answered : (i : Input) (r : page.MarkedAnswer) → AnalyseMarked i r → page.Answered (length i.words) i.n (page.unmarked r)
unfolding with_marks
marked_answered i r e = analyse_answered i (page.unmarked r) (ap page.unmarked e ∙ without_marks _ (answers.analysed i.words i.n i.start.cells i.unroll))

no_marks : (r : page.MarkedAnswer) (number place : ℕ) → page.unmarked r ≡ Err (refusal number place) → r ≡ Err (refusal number place)
no_marks (Ok m) number place e = absurd (let z : ◌≡◌ {A = ℕ} 0 1 = cc in omega arith)
no_marks (Err r) number place e = ap again e
  where
    again : page.Answer → page.MarkedAnswer
    again (Ok s) = Err r
    again (Err r) = Err r

always_an_answer : page.AlwaysAnAnswer
always_an_answer = record {
  analyse = analyse_answered;
  analyse_marked = marked_answered;
  no_marks = λ i r number place e. no_marks r number place;
  analyse_loop = λ i r e. subst (page.LoopAnswered (length i.words) i.n) (sym e) (looped_answered _ (looped_ends i.words i.n i.start.cells i.unroll i.sixty_four));
  check = λ words n r e. subst (page.CheckAnswered (length words)) (sym e) (checked_answered (reader.program words n) (program_numbered words n));
  every_number = every_number;
}

-- ---- 2. Document 01's refusals and ranges

-- an answer that is an equation is one only
equal : {A : Type 0} (a : A) → One (λ (r : A). r ≡ a)
equal a = record { answer = a; is = refl; only = λ other e. e }

-- the caller's starting ranges
module _ (n : ℕ) (cs : List Cell) (long : length cs ≡ 64) (small : n ≤ 64) where
  abbrev range : ℕ → Range
  range v = states.get (states.live cs) v

  start_over_end : (v : ℕ) → v < n → ranges.crossed (range v) ≡ true → ((w : ℕ) → w < v → ranges.crossed (range w) ≡ false) → starts.started n cs ≡ Refuses 7 v
  start_over_end v h q low = go (starts.started n cs) (started_says n cs long)
    where
      go : (a : Answer State) → Said n cs a → a ≡ Refuses 7 v
      go a (too_many k) = absurd (omega arith)
      go a (lowest w k lt c first) = ap (Refuses 7) (same (dec_le w v) (dec_le v w))
        where
          same : Dec (w ≤ v) → Dec (v ≤ w) → w ≡ v
          same (yes x) (yes y) = omega arith
          same (no x) y = absurd (false≢true (sym (first v (omega arith)) ∙ q))
          same (yes x) (no y) = absurd (false≢true (sym (low w (omega arith)) ∙ c))
      go a (one_empty w k proper lt e) = absurd (false≢true (sym (proper v h) ∙ q))
      go a (as_given k proper filled) = absurd (false≢true (sym (proper v h) ∙ q))

  starts_as_given : ((v : ℕ) → v < n → (ranges.crossed (range v) ≡ false) × (ranges.is_empty (range v) ≡ false)) → starts.started n cs ≡ Gives (states.live (starts.first_cells n cs))
  starts_as_given fine = go (starts.started n cs) (started_says n cs long)
    where
      go : (a : Answer State) → Said n cs a → a ≡ Gives (states.live (starts.first_cells n cs))
      go a (too_many k) = absurd (omega arith)
      go a (lowest w k lt c first) = absurd (false≢true (sym (fine w lt).0 ∙ c))
      go a (one_empty w k proper lt e) = absurd (false≢true (sym (fine w lt).1 ∙ e))
      go a (as_given k proper filled) = refl

  starts_empty : (v : ℕ) → ((w : ℕ) → w < n → ranges.crossed (range w) ≡ false) → v < n → ranges.is_empty (range v) ≡ true → starts.started n cs ≡ Gives states.empty
  starts_empty v fine h e = go (starts.started n cs) (started_says n cs long)
    where
      go : (a : Answer State) → Said n cs a → a ≡ Gives states.empty
      go a (too_many k) = absurd (omega arith)
      go a (lowest w k lt c first) = absurd (false≢true (sym (fine w lt) ∙ c))
      go a (one_empty w k proper lt e) = refl
      go a (as_given k proper filled) = absurd (false≢true (sym (filled v h) ∙ e))

-- within the limits they decide
started : (i : Input) → page.Within i → answers.admitted i.words i.n i.unroll i.start.cells ≡ starts.started i.n i.start.cells
started i w = sym (let_in i.words i.n i.unroll i.start.cells w.words w.variables w.unroll)

over_a_limit : (i : Input) (r : page.Answer) → Analyse i r → (8192 < length i.words) ⊎ (64 < i.n) ⊎ (10000 < i.unroll) → r ≡ Err (refusal 4 0)
over_a_limit i r e over = e ∙ ap outcome (analysed_unadmitted i.words i.n i.unroll i.start.cells (sym (go over (dec_le (length i.words) 8192) (dec_le i.n 64))))
  where
    go : (8192 < length i.words) ⊎ (64 < i.n) ⊎ (10000 < i.unroll) → Dec (length i.words ≤ 8192) → Dec (i.n ≤ 64) → Refuses 4 0 ≡ answers.admitted i.words i.n i.unroll i.start.cells
    go o (no a) b = too_long i.words i.n i.unroll i.start.cells (omega arith)
    go o (yes a) (no b) = too_wide i.words i.n i.unroll i.start.cells a (omega arith)
    go (inl h) (yes a) (yes b) = absurd (omega arith)
    go (inr (inl h)) (yes a) (yes b) = absurd (omega arith)
    go (inr (inr h)) (yes a) (yes b) = too_deep i.words i.n i.unroll i.start.cells a b h

-- a program's words are read
is_read : {n : ℕ} {ws : List ℕ} (p : IsProgram n ws) → reader.program ws n ≡ Reads p.tree (length (code_of.program p.tree))
is_read {n} {ws} p = ap (λ (l : List ℕ). reader.program l n) p.is ∙ code_is_read n p.tree p.within

-- how a loop's own entry begins
not_one : (ws : List ℕ) → (get_or ws 0 0 ≡ 1 → ⊥) → Refuses 3 0 ≡ answers.begins ws
not_one [] h = begins_none [] refl
not_one (x ∷ ws) h = begins_other (x ∷ ws) (omega arith) h

no_loop : (ws : List ℕ) → get_or ws 0 0 ≡ 1 → (get_or ws 1 0 ≡ 5 → ⊥) → Refuses 3 1 ≡ answers.begins ws
no_loop [] one h = absurd (omega arith)
no_loop (x ∷ []) one h = begins_short (x ∷ []) one refl
no_loop (x ∷ y ∷ ws) one h = begins_unlike (x ∷ y ∷ ws) one (omega arith) h

loop_begins : (ws : List ℕ) (u : Unroll) (e : Event) (b : Statements) → ws ≡ code_of.program (While u e b then done) → Gives tt ≡ answers.begins ws
unfolding code_of.count code_of.list code_of.statement
loop_begins ws u e b is =
    begins_loop ws (ap (λ (l : List ℕ). get_or l 0 0) is) (omega (arith, ap length is)) (ap (λ (l : List ℕ). get_or l 1 0) is)

loop_by_the_rules : (i : Input) (r : page.LoopOutcome) (s : State) (p : IsProgram i.n i.words) (u : Unroll) (e : Event) (b : Statements) → AnalyseLoop i r → page.Starts i s → p.tree ≡ (While u e b then done) →
    r ≡ looped (analysed_at (page.setting i) (record { unroll = u; event = e; body = b; place = 1; from = s }))
loop_by_the_rules i r s p u e b q start one =
    q
    ∙ ap looped (looped_read i.words i.n i.unroll i.start.cells start (loop_begins i.words u e b (p.is ∙ ap code_of.program one)) (is_read p)
    ∙ ap (λ (t : Statements). answers.only_loop (page.setting i) t s) one)

as_document_01_says : page.AsDocument01Says
as_document_01_says = record {
  over_a_limit = over_a_limit;
  start_over_end = λ i r v e w h q low. e ∙ ap outcome (analysed_unadmitted i.words i.n i.unroll i.start.cells (started i w ∙ start_over_end i.n i.start.cells i.sixty_four w.variables v h q low));
  as_given = λ i w fine. started i w ∙ starts_as_given i.n i.start.cells i.sixty_four w.variables fine;
  one_empty = λ i v w fine h e. started i w ∙ starts_empty i.n i.start.cells i.sixty_four w.variables v fine h e;
  bad_word = λ i r s number place e start bad. e ∙ ap outcome (analysed_bad i.words i.n i.unroll i.start.cells start bad);
  by_the_rules = λ i r s p e start. e ∙ ap outcome (analysed_read i.words i.n i.unroll i.start.cells start (is_read p));
  not_one = λ i r s e start other. e ∙ ap looped (looped_unbegun i.words i.n i.unroll i.start.cells start (not_one i.words other));
  no_loop = λ i r s e start one other. e ∙ ap looped (looped_unbegun i.words i.n i.unroll i.start.cells start (no_loop i.words one other));
  loop_by_the_rules = loop_by_the_rules;
  programs = λ words n. (λ u. (sound_is_program words n (sym u.1)).program, λ p. (used p.tree, sym (program_is_sound words n p)));
  analyse = λ i. equal _;
  analyse_marked = λ i. equal _;
  analyse_loop = λ i. equal _;
  check = λ words n. equal _;
  used = λ words. equal _;
  table = table;
}

-- ---- 3. Every run ends inside

covers : (i : Input) (s : State) → Analyse i (Ok s) → Covers i.words i.n i.start.cells i.unroll s
covers i s e = certain.analysed i.words i.n i.start.cells i.unroll s i.sixty_four (answered_good (answers.analysed i.words i.n i.start.cells i.unroll) e)

-- the words code one program
ends_inside : (i : Input) (s : State) (p : IsProgram i.n i.words) (σ τ : Store) → Analyse i (Ok s) → page.Begins i σ → Runs p.tree σ τ → Holds i.n s τ
ends_inside i s p σ τ e h run = let c = covers i s e in c.covers σ τ h (subst (λ (t : Statements). Runs t σ τ) (code_injective p.tree c.program.tree (sym p.is ∙ c.program.is)) run)

loop_certain : (i : Input) (l : LoopAnswer) → AnalyseLoop i (Ok l) → page.LoopCertain i l
loop_certain i l e =
    let a = answers.looped i.words i.n i.start.cells i.unroll in
    let c = certain.looped i.words i.n i.start.cells i.unroll (a_loop l) i.sixty_four (looped_good a e) in
    record {
      program = c.program;
      unroll = c.unroll;
      event = c.event;
      body = c.body;
      one_loop = c.is;
      ends_inside = c.covers;
      settled = c.settled;
      gone_over = omega (arith, c.loop.passes);
    }

-- words that are answered fit the marks
room : (i : Input) {t : State} → answers.analysed i.words i.n i.start.cells i.unroll ≡ Gives t → length i.words ≤ 8192
room i {t} a = go (dec_le (length i.words) 8192)
  where
    go : Dec (length i.words ≤ 8192) → length i.words ≤ 8192
    go (yes h) = h
    go (no h) =
        let b = analysed_unadmitted i.words i.n i.unroll i.start.cells (sym (too_long i.words i.n i.unroll i.start.cells (omega arith))) in
        absurd (let z : ◌≡◌ {A = ℕ} 0 1 = cc in omega arith)

gone_over : (i : Input) (s : State) (p : IsProgram i.n i.words) (v : Visit) → page.Starts i s → ListVisits (page.setting i) p.tree 1 s v → page.passes (page.setting i) v ≤ 201 + rules.turns (page.setting i) v.unroll + 2 * i.n
gone_over i s p v start visits =
    let A = sure_of (admitted_ok i.words i.n i.unroll i.start.cells i.sixty_four) start in
    visit_most (page.setting i) A.small v (list_visits (page.setting i) A.small p.tree 1 s v (below i.n p.within) A.fit visits)

dead : (i : Input) (m : Marked) (p : IsProgram i.n i.words) (place : ℕ) (σ : Store) → AnalyseMarked i (Ok m) → get_or m.marks place 0 ≡ 0 → page.Begins i σ → ListEnters p.tree 1 σ place → ⊥
unfolding with_marks
dead i m p place σ e clear =
    let analysed = answers.analysed i.words i.n i.start.cells i.unroll in
    let a = answered_good analysed (ap page.unmarked e ∙ without_marks _ analysed) in
    certain.marked i.words i.n i.start.cells i.unroll m.state (replicate 8192 0) place i.sixty_four a (rw length-replicate (room i a))
    (ap (λ (l : List ℕ). get_or l place 0) (sym (marks_of _ analysed m e)) ∙ clear) p σ

every_run_ends_inside : page.EveryRunEndsInside
every_run_ends_inside = record {
  program = λ i s e. (covers i s e).program;
  ends_inside = ends_inside;
  none_ends = λ i p σ τ e h run. holds_dead refl (ends_inside i states.empty p σ τ e h run);
  gone_over = gone_over;
  settled = λ i s p v l start visits q k σ τ after. (certain.each_loop i.words i.n i.start.cells i.unroll p s v l i.sixty_four start visits q).settled k σ τ (omega arith);
  analyse_loop = loop_certain;
  dead = dead;
}

-- ---- all three

pub certainties : Certainties
certainties = record { always_an_answer = always_an_answer; as_document_01_says = as_document_01_says; every_run_ends_inside = every_run_ends_inside }
