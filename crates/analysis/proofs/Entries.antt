-- The public functions: admission, the check, and the walk, in the order of refusals.
use mathlib.Core.Path.{◌≡◌, refl, sym, ap, ◌∙◌, subst}
use mathlib.Core.Bool.{Bool, true, false}
use mathlib.Core.List.{List, [], ◌∷◌, append-nil}
use Prim.Native.Nat.{ℕ, ◌+◌, ◌<◌, ◌≤◌}
use native.Mathlib.Omega.{arith}
use lib.Dec.{ltb, eqb}
use lib.ListN.{length, get_or, drop}
use borrow.Author.Tests.{ltb-false, ltb-true, eqb-true, lt-ltb, le-ltb, eq-eqb, ne_eqb}
use Rattle.std.specs.Prelude.{Result, Ok, Err, IsErrAnd}
use Rattle.states.specs.declared.Cell.{Cell}
use Rattle.states.specs.declared.Refusal.{Refusal}
use Rattle.states.specs.declared.State.{State}
use Rattle.states.specs.Answers.{Answer, Gives, Refuses, outcome, refusal}
use Rattle.states.specs.Starts as starts
use Rattle.paper.specs.Tree.{Unroll, Event, Statement, While, Statements, done, ◌then◌}
use Rattle.paper.specs.Code as code
use Rattle.paper.specs.Reader as reader
use Rattle.paper.specs.Reader.{Reading, Read, Bad}
use Rattle.paper.specs.Rules as rules
use Rattle.paper.specs.Rules.{Setting}
use Rattle.paper.specs.Trace as trace
use Rattle.paper.specs.Answers as answers
use Rattle.paper.proofs.Reading.{read_is_code}
use Rattle.words.specs.Words.{checked}
use Rattle.words.specs.Parts.{ListWithin, ListIs, StatementIs}
use Rattle.words.proofs.Parts.{begins_whole}
use Rattle.words.proofs.Nodes.{while_here}
use Rattle.words.proofs.Bounds.{next_bounds}
use Rattle.analysis.specs.declared.LoopAnswer.{LoopAnswer}
use Rattle.analysis.specs.Entries.{Analysed}
use Rattle.analysis.specs.Outcomes.{answer_by, a_loop, looped}
use Rattle.analysis.specs.Noted as noted
use Rattle.analysis.specs.Noted.{Noted, Says, setting}
use Rattle.analysis.specs.Parts.{LoopIs}
use Rattle.analysis.proofs.Cuts.{loop_is}

-- ---- admission

abbrev by_tests : Bool → Bool → Bool → Answer State → Answer State
by_tests long wide deep x =
    elim long [
      | true ↦ Refuses 4 0
      | false ↦ elim wide [ true ↦ Refuses 4 0 | false ↦ elim deep [ true ↦ Refuses 4 0 | false ↦ x ] ]
    ]

module _ (ws : List ℕ) (n u : ℕ) (cs : List Cell) where
  tests : (a b c : Bool) → ltb 8192 (length ws) ≡ a → ltb 64 n ≡ b → ltb 10000 u ≡ c → answers.admitted ws n u cs ≡ by_tests a b c (starts.started n cs)
  tests a b c p q r = λ i. by_tests (p i) (q i) (r i) (starts.started n cs)

  pub too_long : 8192 < length ws → Refuses 4 0 ≡ answers.admitted ws n u cs
  too_long h = sym (tests true (ltb 64 n) (ltb 10000 u) (lt-ltb 8192 (length ws) h) refl refl)

  pub too_wide : length ws ≤ 8192 → 64 < n → Refuses 4 0 ≡ answers.admitted ws n u cs
  too_wide a h = sym (tests false true (ltb 10000 u) (le-ltb 8192 (length ws) a) (lt-ltb 64 n h) refl)

  pub too_deep : length ws ≤ 8192 → n ≤ 64 → 10000 < u → Refuses 4 0 ≡ answers.admitted ws n u cs
  too_deep a b h = sym (tests false false true (le-ltb 8192 (length ws) a) (le-ltb 64 n b) (lt-ltb 10000 u h))

  pub let_in : length ws ≤ 8192 → n ≤ 64 → u ≤ 10000 → starts.started n cs ≡ answers.admitted ws n u cs
  let_in a b h = sym (tests false false false (le-ltb 8192 (length ws) a) (le-ltb 64 n b) (le-ltb 10000 u h))

  -- what is admitted lies within the limits
  pub admitted_small : {s : State} → answers.admitted ws n u cs ≡ Gives s → (length ws ≤ 8192) × (n ≤ 64) × (u ≤ 10000)
  admitted_small {s} e = go (ltb 8192 (length ws)) (ltb 64 n) (ltb 10000 u) refl refl refl e
    where
      go : (a b c : Bool) → ltb 8192 (length ws) ≡ a → ltb 64 n ≡ b → ltb 10000 u ≡ c → by_tests a b c (starts.started n cs) ≡ Gives s → (length ws ≤ 8192) × (n ≤ 64) × (u ≤ 10000)
      go true b c p q r e = absurd (let z : ◌≡◌ {A = ℕ} 0 1 = cc in omega arith)
      go false true c p q r e = absurd (let z : ◌≡◌ {A = ℕ} 0 1 = cc in omega arith)
      go false false true p q r e = absurd (let z : ◌≡◌ {A = ℕ} 0 1 = cc in omega arith)
      go false false false p q r e = (ltb-false 8192 (length ws) p, ltb-false 64 n q, ltb-false 10000 u r)

  -- ---- the check, and the walk

  pub analysed_unadmitted : {number place : ℕ} → answers.admitted ws n u cs ≡ Refuses number place → answers.analysed ws n cs u ≡ Refuses number place
  unfolding answers.analysed
  analysed_unadmitted e = rw e

  module _ {s : State} (start : answers.admitted ws n u cs ≡ Gives s) where
    pub analysed_bad : {number place : ℕ} → reader.program ws n ≡ Bad number place → answers.analysed ws n cs u ≡ Refuses number place
    unfolding answers.analysed
    analysed_bad e = rw (start, e)

    pub analysed_read : {p : Statements} {i : ℕ} → reader.program ws n ≡ Read p i → answers.analysed ws n cs u ≡ rules.list (setting n u) 1 p s
    unfolding answers.analysed
    analysed_read e = rw (start, e)

    entered_read : {p : Statements} {i : ℕ} {t : State} → reader.program ws n ≡ Read p i → answers.analysed ws n cs u ≡ Gives t → answers.entered ws n cs u ≡ trace.list (setting n u) 1 p s
    unfolding answers.entered
    entered_read e g = rw (g, start, e)

    pub walked_list : {p : Statements} {i at : ℕ} {g : Setting} {t : State} {m m₁ : List ℕ} → reader.program ws n ≡ Read p i → g ≡ setting n u → at ≡ 0 → Says (noted.list g (at + 1) p s) (Gives t) m m₁ → Analysed ws n cs u (Ok t) m m₁
    walked_list {p} {t = t} {m} {m₁} e same begin h =
        let q : Says (noted.list (setting n u) 1 p s) (Gives t) m m₁ = subst (λ (x : Noted State). Says x (Gives t) m m₁) (λ j. noted.list (same j) (begin j + 1) p s) h in
        let out : Gives t ≡ answers.analysed ws n cs u = q.out ∙ sym (analysed_read e) in
        record {
          out = ap outcome out;
          marks = q.marks ∙ ap (λ (l : List ℕ). trace.mark l m) (sym (entered_read e (sym out)));
        }

    pub walked_stopped : {p : Statements} {i at : ℕ} {g : Setting} {d : Refusal} {m m₁ : List ℕ} → reader.program ws n ≡ Read p i → g ≡ setting n u → at ≡ 0 → Says (noted.list g (at + 1) p s) (Refuses d.number d.place) m m₁ → answers.analysed ws n cs u ≡ Refuses d.number d.place
    walked_stopped {p} e same begin h = analysed_read e ∙ sym (h.out ∙ (λ j. (noted.list (same j) (begin j + 1) p s).answer))

  -- a refusal, whatever the marks
  pub walked_refused : {d : Refusal} (r : Result State Refusal) {m m₁ : List ℕ} → answers.analysed ws n cs u ≡ Refuses d.number d.place → IsErrAnd r (λ y. y ≡ d) → Analysed ws n cs u r m m₁
  walked_refused (Err y) e q = record { out = ap Err q ∙ ap outcome (sym e); marks = tt }
  walked_refused (Ok y) e q = absurd q

  -- a refusal names no list
  pub entered_none : {number place : ℕ} → answers.analysed ws n cs u ≡ Refuses number place → answers.entered ws n cs u ≡ []
  unfolding answers.entered
  entered_none e = rw e

pub marks_none : {places marks : List ℕ} → places ≡ [] → marks ≡ trace.mark places marks
unfolding trace.mark
marks_none e = rw e

-- ---- what the check says of a reading

pub unsound_is : (m : Reading Statements) {d : Refusal} → Err d ≡ checked m → m ≡ Bad d.number d.place
unfolding checked
unsound_is (Read p i) e = cc
unsound_is (Bad number place) {d} e = let same : d ≡ refusal number place = cc in rw same

pub record Program (n : ℕ) (ws : List ℕ) : Type 0 where
  pub tree : Statements
  pub next : ℕ
  pub read : reader.program ws n ≡ Read tree next
  pub is : ws ≡ code.program tree
  pub within : ListWithin n tree

pub program_words : {n : ℕ} {ws : List ℕ} → Program n ws → ListIs n ws
program_words h = record { tree = h.tree; is = h.is; within = h.within }

sound_reads : (m : Reading Statements) {u : ℕ} → Ok u ≡ checked m → (p : Statements) × (i : ℕ) × (m ≡ Read p i)
unfolding checked
sound_reads (Read p i) e = (p, i, refl)
sound_reads (Bad number place) e = absurd (let z : ◌≡◌ {A = ℕ} 0 1 = cc in omega arith)

pub sound_is : (ws : List ℕ) (n : ℕ) {u : ℕ} → Ok u ≡ checked (reader.program ws n) → Program n ws
sound_is ws n e =
    let r = sound_reads (reader.program ws n) e in
    let t = read_is_code ws n r.2 in
    record { tree = r.0; next = r.1; read = r.2; is = t.is; within = record { deep = 16; loops = 3; holds = t.within } }

-- ---- a loop's own entry

-- a word that passes a test, or the refusal of that number there, by the two tests
abbrev by_word : Bool → Bool → ℕ → ℕ → ℕ → ℕ → Reading ℕ
by_word there ok x size number at =
    elim there [ true ↦ elim ok [ true ↦ Read x (at + 1) | false ↦ Bad number at ] | false ↦ Bad 3 size ]

module _ (ws : List ℕ) where
  unless_is : (ok : ℕ → Bool) (number at : ℕ) (a b : Bool) → ltb at (length ws) ≡ a → ok (get_or ws at 0) ≡ b → reader.unless ws ok number at ≡ by_word a b (get_or ws at 0) (length ws) number at
  unfolding reader.unless reader.word reader.and_read reader.if_read
  unless_is ok number at true true p q = rw (p, q)
  unless_is ok number at true false p q = rw (p, q)
  unless_is ok number at false b p q = rw p

  pub begins_none : length ws ≡ 0 → Refuses 3 0 ≡ answers.begins ws
  begins_none e = rw (unless_is (λ x. eqb x 1) 3 0 false (eqb (get_or ws 0 0) 1) (le-ltb 0 (length ws) (omega arith)) refl, e)

  pub begins_other : 0 < length ws → (get_or ws 0 0 ≡ 1 → ⊥) → Refuses 3 0 ≡ answers.begins ws
  begins_other some other = rw (unless_is (λ x. eqb x 1) 3 0 true false (lt-ltb 0 (length ws) some) (ne_eqb (get_or ws 0 0) 1 other))

  module _ (one : get_or ws 0 0 ≡ 1) where
    pub begins_short : length ws ≡ 1 → Refuses 3 1 ≡ answers.begins ws
    begins_short e = rw (unless_is (λ x. eqb x 1) 3 0 true true (lt-ltb 0 (length ws) (omega arith)) (eq-eqb (get_or ws 0 0) 1 one), unless_is (λ x. eqb x 5) 3 1 false (eqb (get_or ws 1 0) 5) (le-ltb 1 (length ws) (omega arith)) refl, e)

    pub begins_unlike : 1 < length ws → (get_or ws 1 0 ≡ 5 → ⊥) → Refuses 3 1 ≡ answers.begins ws
    begins_unlike some other = rw (unless_is (λ x. eqb x 1) 3 0 true true (lt-ltb 0 (length ws) (omega arith)) (eq-eqb (get_or ws 0 0) 1 one), unless_is (λ x. eqb x 5) 3 1 true false (lt-ltb 1 (length ws) some) (ne_eqb (get_or ws 1 0) 5 other))

    pub begins_loop : 1 < length ws → get_or ws 1 0 ≡ 5 → Gives tt ≡ answers.begins ws
    begins_loop some five = rw (unless_is (λ x. eqb x 1) 3 0 true true (lt-ltb 0 (length ws) (omega arith)) (eq-eqb (get_or ws 0 0) 1 one), unless_is (λ x. eqb x 5) 3 1 true true (lt-ltb 1 (length ws) some) (eq-eqb (get_or ws 1 0) 5 five))

  -- words that begin so are longer than one, the second being 5
  pub record Beginning : Type 0 where
    pub long : 1 < length ws
    pub one : get_or ws 0 0 ≡ 1
    pub five : get_or ws 1 0 ≡ 5

  pub begun_good : Gives tt ≡ answers.begins ws → Beginning
  begun_good e = go (ltb 0 (length ws)) (eqb (get_or ws 0 0) 1) (ltb 1 (length ws)) (eqb (get_or ws 1 0) 5) refl refl refl refl
    where
      go : (a b c d : Bool) → ltb 0 (length ws) ≡ a → eqb (get_or ws 0 0) 1 ≡ b → ltb 1 (length ws) ≡ c → eqb (get_or ws 1 0) 5 ≡ d → Beginning
      go false b c d p q r s = absurd (let h = rw (unless_is (λ x. eqb x 1) 3 0 false b p q) at e in let z : ◌≡◌ {A = ℕ} 0 1 = cc in omega arith)
      go true false c d p q r s = absurd (let h = rw (unless_is (λ x. eqb x 1) 3 0 true false p q) at e in let z : ◌≡◌ {A = ℕ} 0 1 = cc in omega arith)
      go true true false d p q r s = absurd (let h = rw (unless_is (λ x. eqb x 1) 3 0 true true p q, unless_is (λ x. eqb x 5) 3 1 false d r s) at e in let z : ◌≡◌ {A = ℕ} 0 1 = cc in omega arith)
      go true true true false p q r s = absurd (let h = rw (unless_is (λ x. eqb x 1) 3 0 true true p q, unless_is (λ x. eqb x 5) 3 1 true false r s) at e in let z : ◌≡◌ {A = ℕ} 0 1 = cc in omega arith)
      go true true true true p q r s = record { long = ltb-true 1 (length ws) r; one = eqb-true (get_or ws 0 0) 1 q; five = eqb-true (get_or ws 1 0) 5 s }

  module _ (n u : ℕ) (cs : List Cell) where
    pub looped_unadmitted : {number place : ℕ} → answers.admitted ws n u cs ≡ Refuses number place → answers.looped ws n cs u ≡ Refuses number place
    unfolding answers.looped
    looped_unadmitted e = rw e

    module _ {s : State} (start : answers.admitted ws n u cs ≡ Gives s) where
      pub looped_unbegun : {number place : ℕ} → Refuses number place ≡ answers.begins ws → answers.looped ws n cs u ≡ Refuses number place
      unfolding answers.looped
      looped_unbegun e = rw (start, ← e)

      module _ (begin : Gives tt ≡ answers.begins ws) where
        pub looped_bad : {number place : ℕ} → reader.program ws n ≡ Bad number place → answers.looped ws n cs u ≡ Refuses number place
        unfolding answers.looped
        looped_bad e = rw (start, ← begin, e)

        pub looped_read : {p : Statements} {i : ℕ} → reader.program ws n ≡ Read p i → answers.looped ws n cs u ≡ answers.only_loop (setting n u) p s
        unfolding answers.looped
        looped_read e = rw (start, ← begin, e)

-- a program of one loop: the words after its count are the loop
pub record OneLoop (n : ℕ) (ws : List ℕ) (p : Statements) : Type 0 where
  pub unroll : Unroll
  pub event : Event
  pub body : Statements
  pub same : p ≡ (While unroll event body then done)
  pub is : drop 1 ws ≡ code.statement (While unroll event body)
  pub loop : LoopIs n (drop 1 ws)

second : (ws : List ℕ) → 1 < length ws → get_or (drop 1 ws) 0 0 ≡ get_or ws 1 0
second [] h = absurd (omega arith)
second (x ∷ ws) h = refl

no_more : (cs : Statements) → code.count cs ≡ 0 → cs ≡ done
unfolding code.count
no_more done h = refl
no_more (c then cs) h = absurd (omega arith)

part_of : (ws : List ℕ) (c : Statement) → ws ≡ code.program (c then done) → drop 1 ws ≡ code.statement c
unfolding code.list
part_of ws c e = ap (drop 1) e ∙ append-nil (code.statement c)

pub one_loop : {n : ℕ} {ws : List ℕ} (h : Program n ws) → Beginning ws → OneLoop n ws h.tree
unfolding code.count
one_loop {n} {ws} h g = go h.tree h.is h.within (first h.tree h.is)
  where
    first : (p : Statements) → ws ≡ code.program p → code.count p ≡ 1
    first p e = sym (ap (λ (l : List ℕ). get_or l 0 0) e) ∙ g.one

    of_one : (c : Statement) → ws ≡ code.program (c then done) → ListWithin n (c then done) → OneLoop n ws (c then done)
    of_one c e w =
        let part = part_of ws c e in
        let five : get_or (drop 1 ws) 0 0 ≡ 5 = second ws g.long ∙ g.five in
        let is : StatementIs n (drop 1 ws) = record { tree = c; is = part; within = (next_bounds refl w).0 } in
        let x = while_here c (begins_whole part) five in
        record {
          unroll = x.unroll;
          event = x.event;
          body = x.body;
          same = ap (λ (d : Statement). d then done) x.same;
          is = part ∙ ap code.statement x.same;
          loop = loop_is (drop 1 ws) is five;
        }

    go : (p : Statements) → ws ≡ code.program p → ListWithin n p → code.count p ≡ 1 → OneLoop n ws p
    go done e w q = absurd (omega arith)
    go (c then cs) e w q = subst (λ (d : Statements). ws ≡ code.program (c then d) → ListWithin n (c then d) → OneLoop n ws (c then d)) (sym (no_more cs (omega arith))) (of_one c) e w

-- its answer is the loop's, at place 1
pub one_answer : {n : ℕ} {ws : List ℕ} {p : Statements} (u : ℕ) (s : State) (h : OneLoop n ws p) {g : Setting} {at : ℕ} → g ≡ setting n u → at ≡ 1 →
    answers.only_loop (setting n u) p s ≡ (noted.loop g at h.event h.body (rules.turns g h.unroll) s).answer
one_answer {n} u s h same here = ap (λ (p : Statements). answers.only_loop (setting n u) p s) h.same ∙ sym (λ j. (noted.loop (same j) (here j) h.event h.body (rules.turns (same j) h.unroll) s).answer)

-- ---- the code's results

pub as_looped : (r : Result LoopAnswer Refusal) {a : Answer rules.Looped} → answer_by a_loop r ≡ a → r ≡ looped a
as_looped (Ok l) e = rw (← e)
as_looped (Err d) e = rw (← e)

pub looped_refused : (r : Result LoopAnswer Refusal) {d : Refusal} {a : Answer rules.Looped} → a ≡ Refuses d.number d.place → IsErrAnd r (λ y. y ≡ d) → r ≡ looped a
looped_refused (Err y) e q = rw (e, q)
looped_refused (Ok l) e q = absurd q
