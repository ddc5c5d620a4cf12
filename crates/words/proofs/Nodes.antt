-- What the word at a node's start says of the tree that stands there: which words stand where, and where its parts begin.
use mathlib.Core.Path.{◌≡◌, refl}
use mathlib.Core.Bool.{Bool, true, false}
use mathlib.Core.List.{List, [], ◌∷◌, ◌++◌}
use Prim.Native.Nat.{ℕ, zero, suc, ◌+◌, ◌<◌, ◌≤◌}
use native.Mathlib.Omega.{arith}
use lib.Dec.{eqb}
use lib.ListN.{length, get_or, length-append}
use Rattle.paper.specs.Code as code
use Rattle.paper.specs.Tree.{Draw, Dirac, Bernoulli, BernoulliVarProb, BinomialVarTrials, Binomial, Categorical, NegBinomialVarSuccesses, NegBinomial, Geometric, Poisson, PoissonVarRate, Uniform}
use Rattle.paper.specs.Tree.{Event, InSet, VarComparison, DataFromDist, Complement, Intersection, Events, none, ◌also◌}
use Rattle.paper.specs.Tree.{Addend, Nought, Times, Unroll, Default, Turns}
use Rattle.paper.specs.Tree.{Statement, Sample, Assign, Decrement, IfThenElse, While, Fail, Normalize, Statements, done, ◌then◌}
use Rattle.words.specs.Parts.{Begins, conjunction}
use Rattle.words.proofs.Parts.{begins_at, begins_head, begins_tail, begins_left, begins_right, begins_ends}

-- the rest after two, three, .. words
module _ {ws : List ℕ} {at x y : ℕ} {l : List ℕ} where
  pub begins_second : Begins ws at (x ∷ y ∷ l) → get_or ws (at + 1) 0 ≡ y
  begins_second h = begins_head (begins_tail h)

  pub begins_after_two : Begins ws at (x ∷ y ∷ l) → Begins ws (at + 2) l
  begins_after_two h = begins_at (omega arith) (begins_tail (begins_tail h))

module _ {ws : List ℕ} {at x y z : ℕ} {l : List ℕ} where
  pub begins_third : Begins ws at (x ∷ y ∷ z ∷ l) → get_or ws (at + 2) 0 ≡ z
  begins_third h = begins_head (begins_after_two h)

  pub begins_after_three : Begins ws at (x ∷ y ∷ z ∷ l) → Begins ws (at + 3) l
  begins_after_three h = begins_at (omega arith) (begins_tail (begins_after_two h))

-- ---- draws

-- the draw that a kind word and the two words after it say
abbrev pub draw_of : ℕ → ℕ → ℕ → Draw
draw_of kind a b =
    get_or (
    Bernoulli
    ∷ Dirac a b
    ∷ Bernoulli
    ∷ BernoulliVarProb a
    ∷ BinomialVarTrials a
    ∷ Binomial a
    ∷ Categorical a
    ∷ NegBinomialVarSuccesses a
    ∷ NegBinomial a
    ∷ Geometric
    ∷ Poisson
    ∷ PoissonVarRate a
    ∷ Uniform a b
    ∷ []
    )
    kind
    Bernoulli

-- how many words a draw of a kind has
abbrev pub draw_size : ℕ → ℕ
draw_size kind = get_or (1 ∷ 3 ∷ 1 ∷ 2 ∷ 2 ∷ 2 ∷ 2 ∷ 2 ∷ 2 ∷ 1 ∷ 1 ∷ 2 ∷ 3 ∷ []) kind 1

pub record DrawShape (ws : List ℕ) (at : ℕ) (d : Draw) : Type 0 where
  pub same : d ≡ draw_of (get_or ws at 0) (get_or ws (at + 1) 0) (get_or ws (at + 2) 0)
  pub size : length (code.draw d) ≡ draw_size (get_or ws at 0)
  pub some : 0 < get_or ws at 0
  pub most : get_or ws at 0 ≤ 12

module _ {ws : List ℕ} {at : ℕ} where
  shape : (kind : ℕ) {d : Draw} → get_or ws at 0 ≡ kind → d ≡ draw_of kind (get_or ws (at + 1) 0) (get_or ws (at + 2) 0) → length (code.draw d) ≡ draw_size kind → (0 < kind) × (kind ≤ 12) → DrawShape ws at d
  shape kind k e s b = record { same = rw k e; size = rw k s; some = rw k b.0; most = rw k b.1 }

  pub draw_here : (d : Draw) → Begins ws at (code.draw d) → DrawShape ws at d
  draw_here (Dirac p q) h = shape 1 (begins_head h) (rw (begins_second h, begins_third h)) refl (omega arith)
  draw_here Bernoulli h = shape 2 (begins_head h) refl refl (omega arith)
  draw_here (BernoulliVarProb v) h = shape 3 (begins_head h) (rw (begins_second h)) refl (omega arith)
  draw_here (BinomialVarTrials v) h = shape 4 (begins_head h) (rw (begins_second h)) refl (omega arith)
  draw_here (Binomial n) h = shape 5 (begins_head h) (rw (begins_second h)) refl (omega arith)
  draw_here (Categorical n) h = shape 6 (begins_head h) (rw (begins_second h)) refl (omega arith)
  draw_here (NegBinomialVarSuccesses v) h = shape 7 (begins_head h) (rw (begins_second h)) refl (omega arith)
  draw_here (NegBinomial n) h = shape 8 (begins_head h) (rw (begins_second h)) refl (omega arith)
  draw_here Geometric h = shape 9 (begins_head h) refl refl (omega arith)
  draw_here Poisson h = shape 10 (begins_head h) refl refl (omega arith)
  draw_here (PoissonVarRate v) h = shape 11 (begins_head h) (rw (begins_second h)) refl (omega arith)
  draw_here (Uniform a b) h = shape 12 (begins_head h) (rw (begins_second h, begins_third h)) refl (omega arith)

  -- with the kind known, the draw and its size; both compute
  pub draw_is : (kind : ℕ) (d : Draw) → Begins ws at (code.draw d) → get_or ws at 0 ≡ kind → d ≡ draw_of kind (get_or ws (at + 1) 0) (get_or ws (at + 2) 0)
  draw_is kind d h k = rw k at (draw_here d h).same

  pub draw_words : (kind : ℕ) (d : Draw) → Begins ws at (code.draw d) → get_or ws at 0 ≡ kind → length (code.draw d) ≡ draw_size kind
  draw_words kind d h k = rw k at (draw_here d h).size

-- ---- events

-- 1 var count values
pub record SetAt (ws : List ℕ) (at : ℕ) (e : Event) : Type 0 where
  pub var : ℕ
  pub values : List ℕ
  pub same : e ≡ InSet var values
  pub var_is : get_or ws (at + 1) 0 ≡ var
  pub count_is : get_or ws (at + 2) 0 ≡ length values
  pub values_are : Begins ws (at + 3) values
  pub size : length (code.event e) ≡ 3 + length values

-- 2 var var
pub record ComparisonAt (ws : List ℕ) (at : ℕ) (e : Event) : Type 0 where
  pub left : ℕ
  pub right : ℕ
  pub same : e ≡ VarComparison left right
  pub left_is : get_or ws (at + 1) 0 ≡ left
  pub right_is : get_or ws (at + 2) 0 ≡ right
  pub size : length (code.event e) ≡ 3

-- 3 value draw
pub record DatumAt (ws : List ℕ) (at : ℕ) (e : Event) : Type 0 where
  pub value : ℕ
  pub draw : Draw
  pub same : e ≡ DataFromDist value draw
  pub value_is : get_or ws (at + 1) 0 ≡ value
  pub draw_is : Begins ws (at + 2) (code.draw draw)
  pub size : length (code.event e) ≡ 2 + length (code.draw draw)

-- 4 event
pub record ComplementAt (ws : List ℕ) (at : ℕ) (e : Event) : Type 0 where
  pub event : Event
  pub same : e ≡ Complement event
  pub event_is : Begins ws (at + 1) (code.event event)
  pub size : length (code.event e) ≡ 1 + length (code.event event)

-- 5 count events
pub record IntersectionAt (ws : List ℕ) (at : ℕ) (e : Event) : Type 0 where
  pub events : Events
  pub same : e ≡ Intersection events
  pub events_are : Begins ws (at + 1) (conjunction events)
  pub size : length (code.event e) ≡ 1 + length (conjunction events)

-- the shape that a kind word gives an event
abbrev EventShape : List ℕ → ℕ → Event → ℕ → Type 0
EventShape ws at e kind =
    get_or (⊥ ∷ SetAt ws at e ∷ ComparisonAt ws at e ∷ DatumAt ws at e ∷ ComplementAt ws at e ∷ IntersectionAt ws at e ∷ []) kind ⊥

module _ {ws : List ℕ} {at : ℕ} where
  event_here : (e : Event) → Begins ws at (code.event e) → EventShape ws at e (get_or ws at 0)
  unfolding code.event
  event_here (InSet v xs) h =
      rw (begins_head h) (record {
        var = v;
        values = xs;
        same = refl;
        var_is = begins_second h;
        count_is = begins_third h;
        values_are = begins_after_three h;
        size = omega arith;
      })
  event_here (VarComparison v w) h =
      rw (begins_head h) (record {
        left = v;
        right = w;
        same = refl;
        left_is = begins_second h;
        right_is = begins_third h;
        size = refl;
      })
  event_here (DataFromDist x d) h =
      rw (begins_head h) (record {
        value = x;
        draw = d;
        same = refl;
        value_is = begins_second h;
        draw_is = begins_after_two h;
        size = omega arith;
      })
  event_here (Complement e) h =
      rw (begins_head h) (record {
        event = e;
        same = refl;
        event_is = begins_tail h;
        size = omega arith;
      })
  event_here (Intersection es) h =
      rw (begins_head h) (record {
        events = es;
        same = refl;
        events_are = begins_tail h;
        size = omega arith;
      })

  module _ (e : Event) (h : Begins ws at (code.event e)) where
    pub set_here : get_or ws at 0 ≡ 1 → SetAt ws at e
    set_here k = rw k at (event_here e h)

    pub comparison_here : get_or ws at 0 ≡ 2 → ComparisonAt ws at e
    comparison_here k = rw k at (event_here e h)

    pub datum_here : get_or ws at 0 ≡ 3 → DatumAt ws at e
    datum_here k = rw k at (event_here e h)

    pub complement_here : get_or ws at 0 ≡ 4 → ComplementAt ws at e
    complement_here k = rw k at (event_here e h)

    pub intersection_here : get_or ws at 0 ≡ 5 → IntersectionAt ws at e
    intersection_here k = rw k at (event_here e h)

  pub event_kind : (e : Event) → Begins ws at (code.event e) → (0 < get_or ws at 0) × (get_or ws at 0 ≤ 5)
  unfolding code.event
  event_kind (InSet v xs) h = omega (arith, begins_head h)
  event_kind (VarComparison v w) h = omega (arith, begins_head h)
  event_kind (DataFromDist x d) h = omega (arith, begins_head h)
  event_kind (Complement e) h = omega (arith, begins_head h)
  event_kind (Intersection es) h = omega (arith, begins_head h)

-- a list of events that is not at its end
pub record NextEventAt (ws : List ℕ) (at : ℕ) (es : Events) : Type 0 where
  pub head : Event
  pub tail : Events
  pub same : es ≡ (head also tail)
  pub head_is : Begins ws at (code.event head)
  pub tail_is : Begins ws (at + length (code.event head)) (code.events tail)
  pub size : length (code.events es) ≡ length (code.event head) + length (code.events tail)
  pub counts : code.count_events es ≡ code.count_events tail + 1

-- and one that is
pub record NoEventAt (es : Events) : Type 0 where
  pub same : es ≡ none
  pub size : length (code.events es) ≡ 0

pub next_event_here : {ws : List ℕ} {at : ℕ} (es : Events) → Begins ws at (code.events es) → 0 < code.count_events es → NextEventAt ws at es
unfolding code.event
next_event_here none h k = absurd (omega arith)
next_event_here (e also es) h k = record {
  head = e;
  tail = es;
  same = refl;
  head_is = begins_left (code.event e) (code.events es) h;
  tail_is = begins_right (code.event e) (code.events es) h;
  size = simp length-append;
  counts = omega arith;
}

pub no_event_here : (es : Events) → code.count_events es ≡ 0 → NoEventAt es
unfolding code.event
no_event_here none k = record { same = refl; size = refl }
no_event_here (e also es) k = absurd (omega arith)

-- ---- statements

-- 1 var add draw
pub record SampleAt (ws : List ℕ) (at : ℕ) (c : Statement) : Type 0 where
  pub var : ℕ
  pub add : Bool
  pub draw : Draw
  pub same : c ≡ Sample var add draw
  pub var_is : get_or ws (at + 1) 0 ≡ var
  pub add_is : add ≡ eqb (get_or ws (at + 2) 0) 1
  pub draw_is : Begins ws (at + 3) (code.draw draw)
  pub size : length (code.statement c) ≡ 3 + length (code.draw draw)

-- the addend that has, factor and w say
abbrev pub addend_of : ℕ → ℕ → ℕ → Addend
addend_of zero factor w = Nought
addend_of (suc k) factor w = Times factor w

-- the unroll that has and unroll say
abbrev pub unroll_of : ℕ → ℕ → Unroll
unroll_of zero u = Default
unroll_of (suc k) u = Turns u

-- 2 var add has factor w offset
pub record AssignAt (ws : List ℕ) (at : ℕ) (c : Statement) : Type 0 where
  pub var : ℕ
  pub add : Bool
  pub addend : Addend
  pub offset : ℕ
  pub same : c ≡ Assign var add addend offset
  pub var_is : get_or ws (at + 1) 0 ≡ var
  pub add_is : add ≡ eqb (get_or ws (at + 2) 0) 1
  pub has_most : get_or ws (at + 3) 0 ≤ 1
  pub addend_is : addend ≡ addend_of (get_or ws (at + 3) 0) (get_or ws (at + 4) 0) (get_or ws (at + 5) 0)
  pub offset_is : get_or ws (at + 6) 0 ≡ offset
  pub size : length (code.statement c) ≡ 7

-- 3 var offset
pub record DecrementAt (ws : List ℕ) (at : ℕ) (c : Statement) : Type 0 where
  pub var : ℕ
  pub offset : ℕ
  pub same : c ≡ Decrement var offset
  pub var_is : get_or ws (at + 1) 0 ≡ var
  pub offset_is : get_or ws (at + 2) 0 ≡ offset
  pub size : length (code.statement c) ≡ 3

-- 4 event count then-list count else-list
pub record BranchAt (ws : List ℕ) (at : ℕ) (c : Statement) : Type 0 where
  pub event : Event
  pub then_list : Statements
  pub else_list : Statements
  pub same : c ≡ IfThenElse event then_list else_list
  pub event_is : Begins ws (at + 1) (code.event event)
  pub then_is : Begins ws (code.then_at at event) (code.program then_list)
  pub else_is : Begins ws (code.else_at at event then_list) (code.program else_list)
  pub size : length (code.statement c) ≡ 1 + length (code.event event) + length (code.program then_list) + length (code.program else_list)

-- 5 has unroll event count body
pub record WhileAt (ws : List ℕ) (at : ℕ) (c : Statement) : Type 0 where
  pub unroll : Unroll
  pub event : Event
  pub body : Statements
  pub same : c ≡ While unroll event body
  pub has_most : get_or ws (at + 1) 0 ≤ 1
  pub unroll_is : unroll ≡ unroll_of (get_or ws (at + 1) 0) (get_or ws (at + 2) 0)
  pub event_is : Begins ws (at + 3) (code.event event)
  pub body_is : Begins ws (code.body_at at event) (code.program body)
  pub size : length (code.statement c) ≡ 3 + length (code.event event) + length (code.program body)

-- 6
pub record FailAt (c : Statement) : Type 0 where
  pub same : c ≡ Fail
  pub size : length (code.statement c) ≡ 1

-- 7 count given-variables count body
pub record NormalizeAt (ws : List ℕ) (at : ℕ) (c : Statement) : Type 0 where
  pub given : List ℕ
  pub body : Statements
  pub same : c ≡ Normalize given body
  pub count_is : get_or ws (at + 1) 0 ≡ length given
  pub given_are : Begins ws (at + 2) given
  pub body_is : Begins ws (code.normalized_at at given) (code.program body)
  pub size : length (code.statement c) ≡ 2 + length given + length (code.program body)

-- the shape that a kind word gives a statement
abbrev StatementShape : List ℕ → ℕ → Statement → ℕ → Type 0
StatementShape ws at c kind =
    get_or (
    ⊥
    ∷ SampleAt ws at c
    ∷ AssignAt ws at c
    ∷ DecrementAt ws at c
    ∷ BranchAt ws at c
    ∷ WhileAt ws at c
    ∷ FailAt c
    ∷ NormalizeAt ws at c
    ∷ []
    )
    kind
    ⊥

flag_is : (x : ℕ) (add : Bool) → x ≡ code.flag add → add ≡ eqb x 1
flag_is x true k = rw k
flag_is x false k = rw k

-- a loop's event stands after its two words, whatever they are
pub unroll_after : {ws : List ℕ} {at x : ℕ} (u : Unroll) {l : List ℕ} → Begins ws at (x ∷ code.unroll u ++ l) → Begins ws (at + 3) l
unroll_after Default h = begins_after_three h
unroll_after (Turns u) h = begins_after_three h

module _ {ws : List ℕ} {at : ℕ} where
  statement_here : (c : Statement) → Begins ws at (code.statement c) → StatementShape ws at c (get_or ws at 0)
  unfolding code.statement
  statement_here (Sample v add d) h =
      rw (begins_head h) (record {
        var = v;
        add = add;
        draw = d;
        same = refl;
        var_is = begins_second h;
        add_is = flag_is _ add (begins_third h);
        draw_is = begins_after_three h;
        size = omega arith;
      })
  statement_here (Assign v add Nought k) h =
      let has : Begins ws (at + 3) (0 ∷ 0 ∷ 0 ∷ k ∷ []) = begins_after_three h in
      let offset : Begins ws (at + 6) (k ∷ []) = begins_at (omega arith) (begins_after_three has) in
      rw (begins_head h) (record {
        var = v;
        add = add;
        addend = Nought;
        offset = k;
        same = refl;
        var_is = begins_second h;
        add_is = flag_is _ add (begins_third h);
        has_most = omega (arith, begins_head has);
        addend_is = rw (begins_head has);
        offset_is = begins_head offset;
        size = refl;
      })
  statement_here (Assign v add (Times f w) k) h =
      let has : Begins ws (at + 3) (1 ∷ f ∷ w ∷ k ∷ []) = begins_after_three h in
      let factor : Begins ws (at + 4) (f ∷ w ∷ k ∷ []) = begins_at (omega arith) (begins_tail has) in
      let var : Begins ws (at + 5) (w ∷ k ∷ []) = begins_at (omega arith) (begins_tail factor) in
      let offset : Begins ws (at + 6) (k ∷ []) = begins_at (omega arith) (begins_tail var) in
      rw (begins_head h) (record {
        var = v;
        add = add;
        addend = Times f w;
        offset = k;
        same = refl;
        var_is = begins_second h;
        add_is = flag_is _ add (begins_third h);
        has_most = omega (arith, begins_head has);
        addend_is = rw (begins_head has, begins_head factor, begins_head var);
        offset_is = begins_head offset;
        size = refl;
      })
  statement_here (Decrement v k) h =
      rw (begins_head h) (record {
        var = v;
        offset = k;
        same = refl;
        var_is = begins_second h;
        offset_is = begins_third h;
        size = refl;
      })
  statement_here (IfThenElse e t f) h =
      let lists = begins_right (code.event e) (code.program t ++ code.program f) (begins_tail h) in
      rw (begins_head h) (record {
        event = e;
        then_list = t;
        else_list = f;
        same = refl;
        event_is = begins_left (code.event e) (code.program t ++ code.program f) (begins_tail h);
        then_is = begins_left (code.program t) (code.program f) lists;
        else_is = begins_at (omega arith) (begins_right (code.program t) (code.program f) lists);
        size = simp length-append (omega arith);
      })
  statement_here (While Default e b) h =
      let rest = begins_after_three h in
      rw (begins_head h) (record {
        unroll = Default;
        event = e;
        body = b;
        same = refl;
        has_most = omega (arith, begins_second h);
        unroll_is = rw (begins_second h);
        event_is = begins_left (code.event e) (code.program b) rest;
        body_is = begins_right (code.event e) (code.program b) rest;
        size = simp length-append (omega arith);
      })
  statement_here (While (Turns u) e b) h =
      let rest = begins_after_three h in
      rw (begins_head h) (record {
        unroll = Turns u;
        event = e;
        body = b;
        same = refl;
        has_most = omega (arith, begins_second h);
        unroll_is = rw (begins_second h, begins_third h);
        event_is = begins_left (code.event e) (code.program b) rest;
        body_is = begins_right (code.event e) (code.program b) rest;
        size = simp length-append (omega arith);
      })
  statement_here Fail h = rw (begins_head h) (record { same = refl; size = refl })
  statement_here (Normalize vs b) h =
      rw (begins_head h) (record {
        given = vs;
        body = b;
        same = refl;
        count_is = begins_second h;
        given_are = begins_left vs (code.program b) (begins_after_two h);
        body_is = begins_right vs (code.program b) (begins_after_two h);
        size = simp length-append (omega arith);
      })

  module _ (c : Statement) (h : Begins ws at (code.statement c)) where
    pub sample_here : get_or ws at 0 ≡ 1 → SampleAt ws at c
    sample_here k = rw k at (statement_here c h)

    pub assign_here : get_or ws at 0 ≡ 2 → AssignAt ws at c
    assign_here k = rw k at (statement_here c h)

    pub decrement_here : get_or ws at 0 ≡ 3 → DecrementAt ws at c
    decrement_here k = rw k at (statement_here c h)

    pub branch_here : get_or ws at 0 ≡ 4 → BranchAt ws at c
    branch_here k = rw k at (statement_here c h)

    pub while_here : get_or ws at 0 ≡ 5 → WhileAt ws at c
    while_here k = rw k at (statement_here c h)

    pub fail_here : get_or ws at 0 ≡ 6 → FailAt c
    fail_here k = rw k at (statement_here c h)

    pub normalize_here : get_or ws at 0 ≡ 7 → NormalizeAt ws at c
    normalize_here k = rw k at (statement_here c h)

  pub statement_kind : (c : Statement) → Begins ws at (code.statement c) → (0 < get_or ws at 0) × (get_or ws at 0 ≤ 7)
  unfolding code.statement
  statement_kind (Sample v add d) h = omega (arith, begins_head h)
  statement_kind (Assign v add x k) h = omega (arith, begins_head h)
  statement_kind (Decrement v k) h = omega (arith, begins_head h)
  statement_kind (IfThenElse e t f) h = omega (arith, begins_head h)
  statement_kind (While u e b) h = omega (arith, begins_head h)
  statement_kind Fail h = omega (arith, begins_head h)
  statement_kind (Normalize vs b) h = omega (arith, begins_head h)

-- a list that is not at its end
pub record NextAt (ws : List ℕ) (at : ℕ) (cs : Statements) : Type 0 where
  pub head : Statement
  pub tail : Statements
  pub same : cs ≡ (head then tail)
  pub head_is : Begins ws at (code.statement head)
  pub tail_is : Begins ws (at + length (code.statement head)) (code.list tail)
  pub size : length (code.list cs) ≡ length (code.statement head) + length (code.list tail)
  pub counts : code.count cs ≡ code.count tail + 1

-- and one that is
pub record DoneAt (cs : Statements) : Type 0 where
  pub same : cs ≡ done
  pub size : length (code.list cs) ≡ 0

pub next_here : {ws : List ℕ} {at : ℕ} (cs : Statements) → Begins ws at (code.list cs) → 0 < code.count cs → NextAt ws at cs
unfolding code.statement
next_here done h k = absurd (omega arith)
next_here (c then cs) h k = record {
  head = c;
  tail = cs;
  same = refl;
  head_is = begins_left (code.statement c) (code.list cs) h;
  tail_is = begins_right (code.statement c) (code.list cs) h;
  size = simp length-append;
  counts = omega arith;
}

pub done_here : (cs : Statements) → code.count cs ≡ 0 → DoneAt cs
unfolding code.statement
done_here done k = record { same = refl; size = refl }
done_here (c then cs) k = absurd (omega arith)

-- ---- a code has a word, and ends within the words

pub draw_some : (d : Draw) → 0 < length (code.draw d)
draw_some (Dirac p q) = omega arith
draw_some Bernoulli = omega arith
draw_some (BernoulliVarProb v) = omega arith
draw_some (BinomialVarTrials v) = omega arith
draw_some (Binomial n) = omega arith
draw_some (Categorical n) = omega arith
draw_some (NegBinomialVarSuccesses v) = omega arith
draw_some (NegBinomial n) = omega arith
draw_some Geometric = omega arith
draw_some Poisson = omega arith
draw_some (PoissonVarRate v) = omega arith
draw_some (Uniform a b) = omega arith

pub event_some : (e : Event) → 0 < length (code.event e)
unfolding code.event
event_some (InSet v xs) = omega arith
event_some (VarComparison v w) = omega arith
event_some (DataFromDist x d) = omega arith
event_some (Complement e) = omega arith
event_some (Intersection es) = omega arith

pub statement_some : (c : Statement) → 0 < length (code.statement c)
unfolding code.statement
statement_some (Sample v add d) = omega arith
statement_some (Assign v add x k) = omega arith
statement_some (Decrement v k) = omega arith
statement_some (IfThenElse e t f) = omega arith
statement_some (While u e b) = omega arith
statement_some Fail = omega arith
statement_some (Normalize vs b) = omega arith

module _ {ws : List ℕ} {at : ℕ} where
  pub event_ends : (e : Event) → Begins ws at (code.event e) → at + length (code.event e) ≤ length ws
  event_ends e h = begins_ends h (event_some e)

  pub statement_ends : (c : Statement) → Begins ws at (code.statement c) → at + length (code.statement c) ≤ length ws
  statement_ends c h = begins_ends h (statement_some c)
