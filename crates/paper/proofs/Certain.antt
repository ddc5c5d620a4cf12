-- Certainty 3 and the marks: the answers of the library hold every finite run, a loop's passes and settled state are as promised, and no list that is not named is entered.
use mathlib.Core.Path.{◌≡◌, refl, sym, ap, ◌∙◌, subst}
use mathlib.Core.Bool.{true, false, false≢true}
use mathlib.Core.List.{List}
use Prim.Native.Nat.{ℕ, ◌≤◌, ◌<◌}
use native.Mathlib.Omega.{arith}
use lib.Dec.{eqb, ltb}
use lib.ListN.{length, get_or}
use borrow.Author.Tests.{eqb-true}
use Rattle.ranges.specs.Ranges as ranges
use Rattle.states.specs.declared.State.{State}
use Rattle.states.specs.declared.Cell.{Cell}
use Rattle.states.specs.Answers.{Answer, Gives, Refuses}
use Rattle.states.specs.States as states
use Rattle.states.specs.States.{Fit}
use Rattle.paper.specs.Tree.{Event, Unroll, Statement, Sample, Assign, Decrement, IfThenElse, While, Fail, Normalize, Statements, done, ◌then◌}
use Rattle.paper.specs.Code as code
use Rattle.paper.specs.Limits.{EventIn, StatementsIn, IsProgram}
use Rattle.paper.specs.Reader as reader
use Rattle.paper.specs.Reader.{Reading, Read, Bad}
use Rattle.paper.specs.Rules as rules
use Rattle.paper.specs.Rules.{Setting, Looped}
use Rattle.paper.specs.Runs.{Runs}
use Rattle.paper.specs.Entries.{ListEnters}
use Rattle.paper.specs.Trace as trace
use Rattle.paper.specs.Visits.{Visit, analysed_at, ListVisits, in_first, here}
use Rattle.paper.specs.Answers as answers
use Rattle.paper.specs.Answers.{Outcome}
use Rattle.paper.specs.Used.{used}
use Rattle.paper.specs.Promises.{VisitHolds, Dead, Covers, LoopCovers, Certainty}
use Rattle.paper.proofs.Spelled.{Codes, letter, all_at, unless_is}
use Rattle.paper.proofs.Reading.{read_is_code, code_is_read}
use Rattle.paper.proofs.Below.{StatementsBelow}
use Rattle.paper.proofs.Within.{event_below, below}
use Rattle.states.proofs.Sure.{Sure, given, refused, sure_then, sure_by, sure_elim, sure_map, sure_of}
use Rattle.paper.proofs.Held.{holds_dead}
use Rattle.paper.proofs.Loops.{Post}
use Rattle.paper.proofs.Sound.{list_ok}
use Rattle.paper.proofs.Starts.{Admitted, admitted_ok}
use Rattle.paper.proofs.Draws.{draws}
use Rattle.paper.proofs.Visits.{Good, visit_holds, visit_most, list_visits}
use Rattle.paper.proofs.Entered.{Named, named_after, list_names}
use Rattle.paper.proofs.Marked.{list_place, marked}
use Rattle.paper.proofs.Counted.{counted}
use Rattle.paper.proofs.Heads.{heads, points}

-- ---- what is read

sure_read : {A B : Type 0} {Q : B → Type 0} (r : Reading A) {f : A → Answer B} → ((x : A) (i : ℕ) → r ≡ Read x i → Sure Q (f x)) → Sure Q (answers.as_answer r f)
sure_read (Read x i) h = h x i refl
sure_read (Bad k at) h = refused

abbrev program_of : (ws : List ℕ) (n : ℕ) (p : Statements) (i : ℕ) → reader.program ws n ≡ Read p i → IsProgram n ws
program_of ws n p i e = let T = read_is_code ws n e in record { tree = p; is = T.is; within = T.within }

to_the_end : (ws : List ℕ) (n : ℕ) (p : Statements) (i : ℕ) → reader.program ws n ≡ Read p i → reader.program ws n ≡ Read p (length ws)
to_the_end ws n p i e = e ∙ ap (λ (j : ℕ). Read p j) (read_is_code ws n e).end

-- two programs that the same words code are one
only_tree : (ws : List ℕ) (n : ℕ) (p q : IsProgram n ws) → q.tree ≡ p.tree
only_tree ws n p q =
    let e : Read q.tree (length (code.program q.tree)) ≡ Read p.tree (length (code.program p.tree)) =
    sym (code_is_read n q.tree q.within) ∙ ap (λ (l : List ℕ). reader.program l n) (sym q.is ∙ p.is) ∙ code_is_read n p.tree p.within in
    cc

sure_self : {A : Type 0} (a : Answer A) → Sure (λ x. a ≡ Gives x) a
sure_self (Gives x) = given refl
sure_self (Refuses k at) = refused

-- ---- the analysis of a word list

-- how it comes to t
record Steps (ws : List ℕ) (n : ℕ) (cs : List Cell) (u : ℕ) (t : State) : Type 0 where
  program : Statements
  next : ℕ
  read : reader.program ws n ≡ Read program next
  start : State
  started : answers.admitted ws n u cs ≡ Gives start
  gave : rules.list (record { n = n; unroll = u }) 1 program start ≡ Gives t

steps : (ws : List ℕ) (n : ℕ) (cs : List Cell) (u : ℕ) → Sure (Steps ws n cs u) (answers.analysed ws n cs u)
unfolding answers.analysed
steps ws n cs u =
    sure_by (answers.admitted ws n u cs) (λ s a.
    sure_read (reader.program ws n) (λ p i e.
    sure_map (sure_self (rules.list (record { n = n; unroll = u }) 1 p s)) (λ t q.
    record { program = p; next = i; read = e; start = s; started = a; gave = q })))

-- what the trace of its program names, the answer names
entered_has : (ws : List ℕ) (n : ℕ) (cs : List Cell) (u : ℕ) (t : State) (S : Steps ws n cs u t) (place : ℕ) → answers.analysed ws n cs u ≡ Gives t →
    Named place (trace.list (record { n = n; unroll = u }) 1 S.program S.start) → ranges.has (answers.entered ws n cs u) place ≡ true
unfolding answers.entered
entered_has ws n cs u t S place e h =
    let found : Named place (answers.entered ws n cs u) = named_after _ e (named_after _ S.started (subst (λ (r : Reading Statements). Named place (answers.entered_by r n u S.start)) (sym S.read) h)) in
    found.has

pub analysed_covers : (ws : List ℕ) (n : ℕ) (cs : List Cell) (u : ℕ) (t : State) → length cs ≡ 64 → answers.analysed ws n cs u ≡ Gives t → Covers ws n cs u t
analysed_covers ws n cs u t long e = record {
  program = program_of ws n S.program S.next S.read;
  read = to_the_end ws n S.program S.next S.read;
  covers = λ σ τ h r. T.held σ τ (A.held σ h) r;
  none_ends = λ d σ τ h r. holds_dead d (T.held σ τ (A.held σ h) r);
  named = λ σ place h enters. entered_has ws n cs u t S place e (sure_of (list_names g A.small S.program 1 S.start σ place lt A.fit (A.held σ h) enters) S.gave);
  fit = T.fit;
}
  where
    S : Steps ws n cs u t
    S = sure_of (steps ws n cs u) e

    g : Setting
    g = record { n = n; unroll = u }

    A : Admitted n cs S.start
    A = sure_of (admitted_ok ws n u cs long) S.started

    lt : StatementsBelow n S.program
    lt = below n (read_is_code ws n S.read).within

    T : Post n (Runs S.program) S.start t
    T = sure_of (list_ok g A.small S.program 1 S.start lt A.fit) S.gave

-- a list that is not named is dead
pub entered_dead : (ws : List ℕ) (n : ℕ) (cs : List Cell) (u : ℕ) (t : State) (place : ℕ) → length cs ≡ 64 → answers.analysed ws n cs u ≡ Gives t → ranges.has (answers.entered ws n cs u) place ≡ false → Dead ws n cs place
entered_dead ws n cs u t place long e out p σ h enters =
    let C = analysed_covers ws n cs u t long e in
    false≢true (sym out ∙ C.named σ place h (subst (λ (q : Statements). ListEnters q 1 σ place) (only_tree ws n C.program p) enters))

-- and so is one whose mark is 0: it is not named, or no place of the words
pub marked_dead : (ws : List ℕ) (n : ℕ) (cs : List Cell) (u : ℕ) (t : State) (marks : List ℕ) (place : ℕ) → length cs ≡ 64 → answers.analysed ws n cs u ≡ Gives t →
    length ws ≤ length marks → get_or (trace.mark (answers.entered ws n cs u) marks) place 0 ≡ 0 → Dead ws n cs place
marked_dead ws n cs u t marks place long e room out p σ h enters =
    let C = analysed_covers ws n cs u t long e in
    let named = C.named σ place h (subst (λ (q : Statements). ListEnters q 1 σ place) (only_tree ws n C.program p) enters) in
    let inside : place < length ws = omega (arith, list_place p.tree 1 σ place enters, ap length p.is) in
    omega (arith, out, marked (answers.entered ws n cs u) marks place (omega arith) named)

-- ---- the loop's own entry

first_word : {ws : List ℕ} {x i k : ℕ} (p : Statements) → Codes ws letter (λ x. x ≡ k) 0 x i → ws ≡ code.program p → code.count p ≡ k
first_word p c e = cc

-- a program whose words begin as one loop's do has one statement
begins_one : (ws : List ℕ) → Sure (λ _. (p : Statements) → ws ≡ code.program p → code.count p ≡ 1) (answers.begins ws)
begins_one ws =
    sure_read (reader.unless ws (λ x. eqb x 1) 3 0) (λ x i e.
    sure_read (reader.unless ws (λ x. eqb x 5) 3 1) (λ y j f.
    given (λ p is. first_word p (all_at _ (unless_is ws (λ x. x ≡ 1) (λ x. eqb x 1) 3 0 (λ x t. eqb-true x 1 t)) e) is)))

no_more : (cs : Statements) → code.count cs ≡ 0 → cs ≡ done
unfolding code.count
no_more done h = refl
no_more (c then cs) h = absurd (omega arith)

-- the program p is one loop, and l is its analysis from s
record Entry (g : Setting) (p : Statements) (s : State) (l : Looped) : Type 0 where
  unroll : Unroll
  event : Event
  body : Statements
  is : p ≡ (While unroll event body then done)
  gave : analysed_at g (record { unroll = unroll; event = event; body = body; place = 1; from = s }) ≡ Gives l

entry_of : (g : Setting) (c : Statement) (cs : Statements) (s : State) → cs ≡ done → Sure (Entry g (c then cs) s) (answers.loop_of g c s)
entry_of g (While m e b) cs s q = sure_map (sure_self (analysed_at g (record { unroll = m; event = e; body = b; place = 1; from = s })))
    (λ l r. record { unroll = m; event = e; body = b; is = ap (λ (x : Statements). While m e b then x) q; gave = r })
entry_of g (Sample v a d) cs s q = refused
entry_of g (Assign v a x k) cs s q = refused
entry_of g (Decrement v k) cs s q = refused
entry_of g (IfThenElse e x y) cs s q = refused
entry_of g Fail cs s q = refused
entry_of g (Normalize vs b) cs s q = refused

entry : (g : Setting) (p : Statements) (s : State) → code.count p ≡ 1 → Sure (Entry g p s) (answers.only_loop g p s)
unfolding code.count
entry g done s q = refused
entry g (c then cs) s q = entry_of g c cs s (no_more cs (omega arith))

looped_ok : (ws : List ℕ) (n : ℕ) (cs : List Cell) (u : ℕ) → length cs ≡ 64 → Sure (LoopCovers ws n cs u) (answers.looped ws n cs u)
unfolding answers.looped
looped_ok ws n cs u long =
    sure_by (answers.admitted ws n u cs) (λ s a.
    let A : Admitted n cs s = sure_of (admitted_ok ws n u cs long) a in
    sure_then (begins_one ws) (λ _ one.
    sure_read (reader.program ws n) (λ p i e.
    let lt : StatementsBelow n p = below n (read_is_code ws n e).within in
    sure_map (entry (record { n = n; unroll = u }) p s (one p (read_is_code ws n e).is)) (λ l E.
    let loop : Visit = record { unroll = E.unroll; event = E.event; body = E.body; place = 1; from = s } in
    let good : Good n loop = list_visits (record { n = n; unroll = u }) A.small (While E.unroll E.event E.body then done) 1 s loop (subst (StatementsBelow n) E.is lt) A.fit (in_first (here refl)) in
    let holds : VisitHolds (record { n = n; unroll = u }) loop l = visit_holds (record { n = n; unroll = u }) A.small loop l good E.gave in
    record {
      program = program_of ws n p i e;
      unroll = E.unroll;
      event = E.event;
      body = E.body;
      is = E.is;
      covers = λ k σ τ h r o. holds.covers k σ τ (A.held σ h) r o;
      settled = λ k σ τ le h r. holds.settled k σ τ le (A.held σ h) r;
      start = s;
      started = a;
      loop = holds;
    }))))

pub looped_covers : (ws : List ℕ) (n : ℕ) (cs : List Cell) (u : ℕ) (l : Looped) → length cs ≡ 64 → answers.looped ws n cs u ≡ Gives l → LoopCovers ws n cs u l
looped_covers ws n cs u l long e = sure_of (looped_ok ws n cs u long) e

-- ---- the program's job

ran_ok : (ws : List ℕ) → Sure (λ o. Covers ws o.n states.zeros 0 o.state) (answers.ran ws)
unfolding answers.ran
ran_ok ws = sure_elim (ltb 8192 (length ws)) (λ _. refused) (λ _.
    sure_read (reader.program ws 64) (λ p i e.
    sure_by (answers.analysed ws (used p) states.zeros 0) (λ s q. given (analysed_covers ws (used p) states.zeros 0 s refl q))))

-- from the store of zeros
pub ran_covers : (ws : List ℕ) (o : Outcome) → answers.ran ws ≡ Gives o → Covers ws o.n states.zeros 0 o.state
ran_covers ws o e = sure_of (ran_ok ws) e

-- ---- loops

-- each time that the rules come to one
each_loop : (ws : List ℕ) (n : ℕ) (cs : List Cell) (u : ℕ) (p : IsProgram n ws) (start : State) (v : Visit) (l : Looped) → length cs ≡ 64 → answers.admitted ws n u cs ≡ Gives start →
    ListVisits (record { n = n; unroll = u }) p.tree 1 start v → analysed_at (record { n = n; unroll = u }) v ≡ Gives l → VisitHolds (record { n = n; unroll = u }) v l
each_loop ws n cs u p start v l long started visits q =
    let A = sure_of (admitted_ok ws n u cs long) started in
    visit_holds (record { n = n; unroll = u }) A.small v l (list_visits (record { n = n; unroll = u }) A.small p.tree 1 start v (below n p.within) A.fit visits) q

-- a loop within the limits
good : (n deep loops : ℕ) (v : Visit) → EventIn n deep v.event → StatementsIn n deep loops v.body → Fit n v.from → Good n v
good n deep loops v event body f = record { event = event_below n event; body = below n body; from = f }

-- ---- certainty 3, in one place

pub certain : Certainty
certain = record {
  analysed = analysed_covers;
  looped = looped_covers;
  ran = ran_covers;
  each_loop = each_loop;
  any_loop = λ g deep loops v l small event body f q. visit_holds g small v l (good g.n deep loops v event body f) q;
  gone_over = λ g deep loops v small event body f. visit_most g small v (good g.n deep loops v event body f);
  counted = counted;
  heads = heads;
  points = points;
  entered = entered_dead;
  marked = marked_dead;
  draws = draws;
}
