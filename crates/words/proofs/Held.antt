-- What events and statements hold. With the kind known: how long the code is, and where the parts stand.
use Rattle.std.proofs.Common.{◌≡◌, ℕ, zero, suc, ◌+◌, ◌<◌, ◌≤◌, List, [], length, get_or, ap, sym, refl, arith, add-one, add-zero, zero-add, length-append}
use Rattle.paper.specs.Code as code
use Rattle.paper.specs.Tree.{Draw, Bernoulli}
use Rattle.paper.specs.Tree.{Event, InSet, DataFromDist, Complement, Intersection, Events, none, ◌also◌}
use Rattle.paper.specs.Tree.{Statement, Sample, IfThenElse, While, Fail, Normalize, Statements, done, ◌then◌}
use Rattle.words.specs.Parts.{Begins, conjunction, EventAt, EventsAt, StatementAt, ListAt}
use Rattle.words.proofs.Parts.{begins_ends, begins_at, begins_head, begins_tail, begins_left, begins_right}
use Rattle.words.proofs.Nodes as nodes

-- ---- events

-- what an event holds; another where it holds none
pub event_draw : Event → Draw
event_draw (DataFromDist x d) = d
event_draw e = Bernoulli

pub inner : Event → Event
inner (Complement e) = e
inner e = e

pub inners : Event → Events
inners (Intersection es) = es
inners e = none

module _ {ws : List ℕ} {at : ℕ} where
  module _ (e : Event) (h : Begins ws at (code.event e)) where
    pub set_size : get_or ws at 0 ≡ 1 → length (code.event e) ≡ 3 + get_or ws (at + 2) 0
    set_size k =
        let x = nodes.set_here e h k in
        omega arith

    pub comparison_size : get_or ws at 0 ≡ 2 → length (code.event e) ≡ 3
    comparison_size k = (nodes.comparison_here e h k).size

    pub datum_size : get_or ws at 0 ≡ 3 → length (code.event e) ≡ 2 + length (code.draw (event_draw e))
    unfolding event_draw
    datum_size k =
        let x = nodes.datum_here e h k in
        rw (ap event_draw x.same) x.size

    pub datum_is : get_or ws at 0 ≡ 3 → Begins ws (at + 2) (code.draw (event_draw e))
    unfolding event_draw
    datum_is k =
        let x = nodes.datum_here e h k in
        rw (ap event_draw x.same) x.draw_is

    pub complement_size : get_or ws at 0 ≡ 4 → length (code.event e) ≡ 1 + length (code.event (inner e))
    unfolding inner
    complement_size k =
        let x = nodes.complement_here e h k in
        rw (ap inner x.same) x.size

    pub complement_is : get_or ws at 0 ≡ 4 → Begins ws (at + 1) (code.event (inner e))
    unfolding inner
    complement_is k =
        let x = nodes.complement_here e h k in
        rw (ap inner x.same) x.event_is

    pub intersection_size : get_or ws at 0 ≡ 5 → length (code.event e) ≡ 1 + length (conjunction (inners e))
    unfolding inners
    intersection_size k =
        let x = nodes.intersection_here e h k in
        rw (ap inners x.same) x.size

    pub intersection_is : get_or ws at 0 ≡ 5 → Begins ws (at + 1) (conjunction (inners e))
    unfolding inners
    intersection_is k =
        let x = nodes.intersection_here e h k in
        rw (ap inners x.same) x.events_are

-- ---- a list of events, one by one

-- the first i of them, and the next
pub first_events : ℕ → Events → Events
first_events zero es = none
first_events (suc i) none = none
first_events (suc i) (e also es) = e also first_events i es

pub next_event : ℕ → Events → Event
next_event zero (e also es) = e
next_event (suc i) (e also es) = next_event i es
next_event i none = InSet 0 []

more_events : (i : ℕ) (es : Events) → i < code.count_events es → length (code.events (first_events (suc i) es)) ≡ length (code.events (first_events i es)) + length (code.event (next_event i es))
unfolding code.event next_event first_events
more_events i none k = absurd (omega arith)
more_events zero (e also es) k = simp (length-append, add-zero, zero-add)
more_events (suc i) (e also es) k = simp length-append (omega (arith, more_events i es (omega arith)))

pub events_more : (i : ℕ) (es : Events) → i < code.count_events es → length (code.events (first_events (i + 1) es)) ≡ length (code.events (first_events i es)) + length (code.event (next_event i es))
events_more i es k = rw add-one (more_events i es k)

pub events_none : (es : Events) → length (code.events (first_events 0 es)) ≡ 0
unfolding code.event first_events
events_none es = refl

pub events_all : (i : ℕ) (es : Events) → code.count_events es ≤ i → length (code.events (first_events i es)) ≡ length (code.events es)
unfolding code.event first_events
events_all zero none k = refl
events_all (suc i) none k = refl
events_all zero (e also es) k = absurd (omega arith)
events_all (suc i) (e also es) k = simp length-append (omega (arith, events_all i es (omega arith)))

module _ {ws : List ℕ} where
  event_stands : (i : ℕ) (es : Events) {at : ℕ} → i < code.count_events es → Begins ws at (code.events es) → Begins ws (at + length (code.events (first_events i es))) (code.event (next_event i es))
  unfolding code.event next_event first_events
  event_stands i none k h = absurd (omega arith)
  event_stands zero (e also es) k h = begins_at (omega arith) (begins_left (code.event e) (code.events es) h)
  event_stands (suc i) (e also es) k h = begins_at (omega (arith, length-append (code.event e) (code.events (first_events i es)))) (event_stands i es (omega arith) (begins_right (code.event e) (code.events es) h))

  module _ {at : ℕ} where
    pub events_count : (es : Events) → Begins ws at (conjunction es) → get_or ws at 0 ≡ code.count_events es
    events_count es h = begins_head h

    pub next_event_is : {i j : ℕ} (es : Events) → Begins ws at (conjunction es) → i < code.count_events es → j ≡ at + 1 + length (code.events (first_events i es)) → Begins ws j (code.event (next_event i es))
    next_event_is {i} es h k e = begins_at (sym e) (event_stands i es k (begins_tail h))

    pub next_event_at : {i j : ℕ} (p : EventsAt ws at) → i < code.count_events p.tree → j ≡ at + 1 + length (code.events (first_events i p.tree)) → EventAt ws j
    next_event_at {i} p k e = record { tree = next_event i p.tree; is = next_event_is p.tree p.is k e }

-- ---- statements

-- what a statement holds; another where it holds none
pub statement_draw : Statement → Draw
statement_draw (Sample v add d) = d
statement_draw c = Bernoulli

pub test : Statement → Event
test (IfThenElse e t f) = e
test (While u e b) = e
test c = InSet 0 []

pub then_list : Statement → Statements
then_list (IfThenElse e t f) = t
then_list c = done

pub else_list : Statement → Statements
else_list (IfThenElse e t f) = f
else_list c = done

pub body : Statement → Statements
body (While u e b) = b
body (Normalize vs b) = b
body c = done

module _ {ws : List ℕ} {at : ℕ} where
  module _ (c : Statement) (h : Begins ws at (code.statement c)) where
    pub sample_size : get_or ws at 0 ≡ 1 → length (code.statement c) ≡ 3 + length (code.draw (statement_draw c))
    unfolding statement_draw
    sample_size k =
        let x = nodes.sample_here c h k in
        rw (ap statement_draw x.same) x.size

    pub sample_is : get_or ws at 0 ≡ 1 → Begins ws (at + 3) (code.draw (statement_draw c))
    unfolding statement_draw
    sample_is k =
        let x = nodes.sample_here c h k in
        rw (ap statement_draw x.same) x.draw_is

    pub assign_size : get_or ws at 0 ≡ 2 → length (code.statement c) ≡ 7
    assign_size k = (nodes.assign_here c h k).size

    pub decrement_size : get_or ws at 0 ≡ 3 → length (code.statement c) ≡ 3
    decrement_size k = (nodes.decrement_here c h k).size

    pub branch_size : get_or ws at 0 ≡ 4 → length (code.statement c) ≡ 1 + length (code.event (test c)) + length (code.program (then_list c)) + length (code.program (else_list c))
    unfolding test then_list else_list
    branch_size k =
        let x = nodes.branch_here c h k in
        rw (ap test x.same, ap then_list x.same, ap else_list x.same) x.size

    pub branch_test_is : get_or ws at 0 ≡ 4 → Begins ws (at + 1) (code.event (test c))
    unfolding test
    branch_test_is k =
        let x = nodes.branch_here c h k in
        rw (ap test x.same) x.event_is

    pub then_is : get_or ws at 0 ≡ 4 → Begins ws (at + 1 + length (code.event (test c))) (code.program (then_list c))
    unfolding test then_list
    then_is k =
        let x = nodes.branch_here c h k in
        rw (ap test x.same, ap then_list x.same) x.then_is

    pub else_is : get_or ws at 0 ≡ 4 → Begins ws (at + 1 + length (code.event (test c)) + length (code.program (then_list c))) (code.program (else_list c))
    unfolding test then_list else_list
    else_is k =
        let x = nodes.branch_here c h k in
        rw (ap test x.same, ap then_list x.same, ap else_list x.same) (begins_at (omega arith) x.else_is)

    pub while_size : get_or ws at 0 ≡ 5 → length (code.statement c) ≡ 3 + length (code.event (test c)) + length (code.program (body c))
    unfolding test body
    while_size k =
        let x = nodes.while_here c h k in
        rw (ap test x.same, ap body x.same) x.size

    pub while_test_is : get_or ws at 0 ≡ 5 → Begins ws (at + 3) (code.event (test c))
    unfolding test
    while_test_is k =
        let x = nodes.while_here c h k in
        rw (ap test x.same) x.event_is

    pub while_body_is : get_or ws at 0 ≡ 5 → Begins ws (at + 3 + length (code.event (test c))) (code.program (body c))
    unfolding test body
    while_body_is k =
        let x = nodes.while_here c h k in
        rw (ap test x.same, ap body x.same) x.body_is

    pub fail_size : get_or ws at 0 ≡ 6 → length (code.statement c) ≡ 1
    fail_size k = (nodes.fail_here c h k).size

    pub normalize_size : get_or ws at 0 ≡ 7 → length (code.statement c) ≡ 2 + get_or ws (at + 1) 0 + length (code.program (body c))
    unfolding body
    normalize_size k =
        let x = nodes.normalize_here c h k in
        rw (ap body x.same) (omega arith)

    pub normalize_body_is : get_or ws at 0 ≡ 7 → Begins ws (at + 2 + get_or ws (at + 1) 0) (code.program (body c))
    unfolding body
    normalize_body_is k =
        let x = nodes.normalize_here c h k in
        rw (ap body x.same) (begins_at (omega arith) x.body_is)

-- ---- a list of statements, one by one

-- the first i of them, and the next
pub first_statements : ℕ → Statements → Statements
first_statements zero cs = done
first_statements (suc i) done = done
first_statements (suc i) (c then cs) = c then first_statements i cs

pub next_statement : ℕ → Statements → Statement
next_statement zero (c then cs) = c
next_statement (suc i) (c then cs) = next_statement i cs
next_statement i done = Fail

more_statements : (i : ℕ) (cs : Statements) → i < code.count cs → length (code.list (first_statements (suc i) cs)) ≡ length (code.list (first_statements i cs)) + length (code.statement (next_statement i cs))
unfolding code.statement next_statement first_statements
more_statements i done k = absurd (omega arith)
more_statements zero (c then cs) k = simp (length-append, add-zero, zero-add)
more_statements (suc i) (c then cs) k = simp length-append (omega (arith, more_statements i cs (omega arith)))

pub list_more : (i : ℕ) (cs : Statements) → i < code.count cs → length (code.list (first_statements (i + 1) cs)) ≡ length (code.list (first_statements i cs)) + length (code.statement (next_statement i cs))
list_more i cs k = rw add-one (more_statements i cs k)

pub list_none : (cs : Statements) → length (code.list (first_statements 0 cs)) ≡ 0
unfolding code.statement first_statements
list_none cs = refl

pub list_all : (i : ℕ) (cs : Statements) → code.count cs ≤ i → length (code.list (first_statements i cs)) ≡ length (code.list cs)
unfolding code.statement first_statements
list_all zero done k = refl
list_all (suc i) done k = refl
list_all zero (c then cs) k = absurd (omega arith)
list_all (suc i) (c then cs) k = simp length-append (omega (arith, list_all i cs (omega arith)))

module _ {ws : List ℕ} where
  statement_stands : (i : ℕ) (cs : Statements) {at : ℕ} → i < code.count cs → Begins ws at (code.list cs) → Begins ws (at + length (code.list (first_statements i cs))) (code.statement (next_statement i cs))
  unfolding code.statement next_statement first_statements
  statement_stands i done k h = absurd (omega arith)
  statement_stands zero (c then cs) k h = begins_at (omega arith) (begins_left (code.statement c) (code.list cs) h)
  statement_stands (suc i) (c then cs) k h = begins_at (omega (arith, length-append (code.statement c) (code.list (first_statements i cs)))) (statement_stands i cs (omega arith) (begins_right (code.statement c) (code.list cs) h))

  module _ {at : ℕ} where
    pub list_count : (cs : Statements) → Begins ws at (code.program cs) → get_or ws at 0 ≡ code.count cs
    list_count cs h = begins_head h

    pub next_statement_is : {i j : ℕ} (cs : Statements) → Begins ws at (code.program cs) → i < code.count cs → j ≡ at + 1 + length (code.list (first_statements i cs)) → Begins ws j (code.statement (next_statement i cs))
    next_statement_is {i} cs h k e = begins_at (sym e) (statement_stands i cs k (begins_tail h))

    pub next_statement_at : {i j : ℕ} (p : ListAt ws at) → i < code.count p.tree → j ≡ at + 1 + length (code.list (first_statements i p.tree)) → StatementAt ws j
    next_statement_at {i} p k e = record { tree = next_statement i p.tree; is = next_statement_is p.tree p.is k e }

-- ---- for the functions

-- what the end of an event, of a list of events, of a statement and of a list is found by
pub ruleset event_rules = (begins_ends, nodes.event_kind, set_size, comparison_size, datum_size, datum_is, complement_size, complement_is, intersection_size, intersection_is)

pub ruleset events_rules = (events_count, events_none, events_more, events_all, next_event_is)

pub ruleset statement_rules = (begins_ends, nodes.statement_some, nodes.statement_kind, sample_size, sample_is, assign_size, decrement_size, branch_size, branch_test_is, then_is, else_is, while_size, while_test_is, while_body_is, fail_size, normalize_size, normalize_body_is)

pub ruleset list_rules = (list_count, list_none, list_more, list_all, next_statement_is)
