-- The ways of the walk's functions, put together at the places that the code has.
use mathlib.Core.Path.{◌≡◌, refl, sym, ap, ◌∙◌, subst}
use mathlib.Core.Bool.{Bool, true, false, cond}
use mathlib.Core.List.{List, [], ◌∷◌, ◌++◌}
use Prim.Native.Nat.{ℕ, ◌+◌, ◌<◌, ◌≤◌}
use native.Mathlib.Omega.{arith}
use lib.ListN.{length, get_or, set}
use Rattle.std.specs.Prelude.{Result, Ok, Err}
use Rattle.states.specs.declared.Refusal.{Refusal}
use Rattle.states.specs.declared.State.{State}
use Rattle.states.specs.Answers.{Answer, Gives, Refuses}
use Rattle.states.specs.States as states
use Rattle.paper.specs.Code as code
use Rattle.paper.specs.Rules as rules
use Rattle.paper.specs.Rules.{Setting}
use Rattle.paper.specs.Trace as trace
use Rattle.paper.specs.Tree.{Event, Statement, Sample, Assign, Decrement, IfThenElse, While, Fail, Normalize, Statements, done, ◌then◌}
use Rattle.events.specs.Sided.{sided}
use Rattle.events.specs.declared.Sides.{Sides}
use Rattle.analysis.specs.Outcomes.{answer_by}
use Rattle.analysis.specs.declared.parts.Branch.{Branch}
use Rattle.analysis.specs.declared.parts.Loop.{Loop}
use Rattle.analysis.specs.Parts.{BranchOf, LoopAt}
use Rattle.words.specs.Parts.{Begins, ListWithin, StatementAt, StatementIs}
use Rattle.words.proofs.Parts.{begins_whole, begins_at, begins_tail}
use Rattle.words.proofs.Nodes.{NextAt, next_here, statement_some, done_here, statement_ends}
use Rattle.words.proofs.Bounds.{next_bounds}
use Rattle.analysis.specs.Noted as noted
use Rattle.analysis.specs.Noted.{Noted, then_noted, from, ending, Says}
use Rattle.analysis.proofs.Says.{Leads, leads_self, leads_then, says_plain, from_good, from_refused, then_good, then_refused, ending_good, ending_refused}

-- ---- a block

entered_if : (b : Bool) (at : ℕ) (x : Noted State) (m : List ℕ) → Leads (record { answer = x.answer; places = cond b (at ∷ []) [] ++ x.places }) m x (cond b (set m at 1) m)
unfolding trace.mark
entered_if true at x m = record { on = λ q. record { out = q.out; marks = q.marks } }
entered_if false at x m = leads_self

-- the marks after it is entered, by whether its state is not empty
pub entered_so : (s : State) (at : ℕ) (m : List ℕ) {m₁ : List ℕ} (live : Bool) → states.is_live s ≡ live → m₁ ≡ cond live (set m at 1) m → m₁ ≡ cond (states.is_live s) (set m at 1) m
entered_so s at m live e q = q ∙ ap (λ (b : Bool). cond b (set m at 1) m) (sym e)

-- it is named where its state is not empty, and then gone over
pub entered_block : (g : Setting) (at : ℕ) (t : Statements) (s : State) (m : List ℕ) {a : Answer State} {m₁ m₂ : List ℕ} →
    m₁ ≡ cond (states.is_live s) (set m at 1) m → Says (noted.list g (at + 1) t s) a m₁ m₂ → Says (noted.block g at t s) a m m₂
entered_block g at t s m {a} {m₂ = m₂} e h = (entered_if (states.is_live s) at (noted.list g (at + 1) t s) m).on (subst (λ (l : List ℕ). Says (noted.list g (at + 1) t s) a l m₂) e h)

-- ---- a list

module _ (g : Setting) (at : ℕ) (c : Statement) (cs : Statements) (s : State) where
  abbrev pub rest_of : State → Noted State
  rest_of t = noted.list g (at + length (code.statement c)) cs t

  pub list_on : {v : State} {m m₁ : List ℕ} → Says (noted.statement g at c s) (Gives v) m m₁ → Leads (noted.list g at (c then cs) s) m (rest_of v) m₁
  unfolding rules.list trace.list
  list_on q = then_good rest_of q

  pub list_refused : {number place : ℕ} {m m₁ : List ℕ} → Says (noted.statement g at c s) (Refuses number place) m m₁ → Says (noted.list g at (c then cs) s) (Refuses number place) m m₁
  unfolding rules.list trace.list
  list_refused q = then_refused rest_of q

pub list_done : (g : Setting) (at : ℕ) (s : State) (m : List ℕ) → Says (noted.list g at done s) (Gives s) m m
unfolding rules.list trace.list
list_done g at s m = says_plain (Gives s) m

-- a plain statement enters no list
pub plain_says : (g : Setting) (at : ℕ) (c : Statement) (s : State) {a : Answer State} {m : List ℕ} → get_or (code.statement c) 0 0 < 4 → a ≡ rules.statement g at c s → Says (noted.statement g at c s) a m m
unfolding code.statement trace.statement trace.mark
plain_says g at c s {m = m} few e = record { out = e; marks = ap (λ (l : List ℕ). trace.mark l m) (none c few) }
  where
    none : (c : Statement) → get_or (code.statement c) 0 0 < 4 → [] ≡ trace.statement g at c s
    none (Sample v add d) h = refl
    none (Assign v add x offset) h = refl
    none (Decrement v offset) h = refl
    none (IfThenElse e t f) h = absurd (omega arith)
    none (While u e b) h = absurd (omega arith)
    none Fail h = absurd (omega arith)
    none (Normalize vs b) h = absurd (omega arith)

-- what is left of the list t at `at`, with i of k statements gone over: it lies within the limits, and what it answers from here on is t's answer
pub record Going (g : Setting) (base : ℕ) (ws : List ℕ) (s₀ : State) (m₀ : List ℕ) (t : Statements) (i k at : ℕ) (s : State) (m : List ℕ) : Type 0 where
  pub rest : Statements
  pub is : Begins ws at (code.list rest)
  pub counts : i + code.count rest ≡ k
  pub within : ListWithin g.n t → ListWithin g.n rest
  pub leads : Leads (noted.list g (base + 1) t s₀) m₀ (noted.list g (base + at) rest s) m

-- the same, and what is left ends where the words do
pub record GoingToEnd (g : Setting) (base : ℕ) (ws : List ℕ) (s₀ : State) (m₀ : List ℕ) (t : Statements) (i k at : ℕ) (s : State) (m : List ℕ) : Type 0 where
  pub going : Going g base ws s₀ m₀ t i k at s m
  pub ends : at + length (code.list going.rest) ≡ length ws

pub going_first : (g : Setting) (base : ℕ) (ws : List ℕ) (s : State) (m : List ℕ) (t : Statements) → ws ≡ code.program t → GoingToEnd g base ws s m t 0 (get_or ws 0 0) 1 s m
going_first g base ws s m t e = record {
  going = record {
    rest = t;
    is = begins_tail (begins_whole e);
    counts = let q = ap (λ (l : List ℕ). get_or l 0 0) e in omega arith;
    within = λ w. w;
    leads = leads_self;
  };
  ends = let q = ap length e in omega arith;
}

module _ {g : Setting} {base : ℕ} {ws : List ℕ} {s₀ : State} {m₀ : List ℕ} {t : Statements} {i k at : ℕ} {s : State} {m : List ℕ} (G : Going g base ws s₀ m₀ t i k at s m) where
  -- no statement is left
  pub going_last : k ≤ i → Says (noted.list g (base + 1) t s₀) (Gives s) m₀ m
  going_last e =
      let d = done_here G.rest (omega (arith, G.counts)) in
      G.leads.on (subst (λ (r : Statements). Says (noted.list g (base + at) r s) (Gives s) m m) (sym d.same) (list_done g (base + at) s m))

  module _ (some : i < k) where
    pub going_next : NextAt ws at G.rest
    going_next = next_here G.rest G.is (omega (arith, G.counts))

    pub going_at : StatementAt ws at
    going_at = record { tree = going_next.head; is = going_next.head_is }

    pub from_next : {a : Answer State} {m₁ : List ℕ} → Says (noted.list g (base + at) (going_next.head then going_next.tail) s) a m m₁ → Says (noted.list g (base + 1) t s₀) a m₀ m₁
    from_next {a} {m₁} h = G.leads.on (subst (λ (x : Statements). Says (noted.list g (base + at) x s) a m m₁) (sym going_next.same) h)

    -- the part that it is
    module _ {words : List ℕ} (cut : (c : Statement) → Begins ws at (code.statement c) → words ≡ code.statement c) where
      pub next_words : words ≡ code.statement going_next.head
      next_words = cut going_next.head going_next.head_is

      pub next_is : ListWithin g.n t → StatementIs g.n words
      next_is w = record { tree = going_next.head; is = next_words; within = (next_bounds going_next.same (G.within w)).0 }

      pub next_room : (0 < length words) × (at + length words ≤ length ws)
      next_room =
          let l = ap length next_words in
          (omega (arith, statement_some going_next.head), omega (arith, statement_ends going_next.head going_next.head_is))

      module _ {spot : ℕ} (moved : spot ≡ base + at) {m₁ : List ℕ} where
        pub here : {a : Answer State} → Says (noted.statement g spot going_next.head s) a m m₁ → Says (noted.statement g (base + at) going_next.head s) a m m₁
        here {a} q = subst (λ (p : ℕ). Says (noted.statement g p going_next.head s) a m m₁) moved q

        pub going_refused : {number place : ℕ} → Says (noted.statement g spot going_next.head s) (Refuses number place) m m₁ → Says (noted.list g (base + 1) t s₀) (Refuses number place) m₀ m₁
        going_refused q = from_next (list_refused g (base + at) going_next.head going_next.tail s (here q))

        unfoldable pub going_on : {s₁ : State} → Says (noted.statement g spot going_next.head s) (Gives s₁) m m₁ → Going g base ws s₀ m₀ t (i + 1) k (at + length words) s₁ m₁
        going_on {s₁} q = record {
          rest = going_next.tail;
          is = begins_at (let l = ap length next_words in let e : at + length (code.statement going_next.head) ≡ at + length words = omega arith in e) going_next.tail_is;
          counts = omega (arith, G.counts, going_next.counts);
          within = λ w. (next_bounds going_next.same (G.within w)).1;
          leads = record {
            on = λ {a} {m'} h. from_next ((list_on g (base + at) going_next.head going_next.tail s (here q)).on
                (subst (λ (j : ℕ). Says (noted.list g j going_next.tail s₁) a m₁ m')
                (let l = ap length next_words in let e : base + (at + length words) ≡ base + at + length (code.statement going_next.head) = omega arith in e) h));
          };
        }

        -- and what ended where the words do still does
        pub on_to_end : {s₁ : State} → Says (noted.statement g spot going_next.head s) (Gives s₁) m m₁ → at + length (code.list G.rest) ≡ length ws →
            GoingToEnd g base ws s₀ m₀ t (i + 1) k (at + length words) s₁ m₁
        unfolding going_on
        on_to_end q ends = record { going = going_on q; ends = let l = ap length next_words in omega (arith, ends, going_next.size) }

-- ---- an if

-- the sides of an event, as the rules have them
abbrev pub two : Sides → rules.Sides
two z = record { yes = z.yes; no = z.no }

pub sides_are : (a : Answer rules.Sides) (r : Result Sides Refusal) → r ≡ sided a → a ≡ answer_by two r
sides_are (Gives t) r e = rw e
sides_are (Refuses number place) r e = rw e

module _ (g : Setting) {base size : ℕ} {c : Statement} {parts : Branch} (k : BranchOf base size c parts) (s : State) (m : List ℕ) where
  abbrev an_if : Statement
  an_if = IfThenElse k.event k.then_list k.else_list

  abbrev pub otherwise : rules.Sides → State → Noted State
  otherwise z a = ending (noted.block g (code.else_at base k.event k.then_list) k.else_list z.no) (λ b. Gives (states.join g.n a b))

  abbrev pub branches : rules.Sides → Noted State
  branches z = then_noted (noted.block g (code.then_at base k.event) k.then_list z.yes) (otherwise z)

  is_if : {a : Answer State} {m₁ : List ℕ} → Says (noted.statement g base an_if s) a m m₁ → Says (noted.statement g base c s) a m m₁
  is_if {a} {m₁} h = subst (λ (d : Statement). Says (noted.statement g base d s) a m m₁) (sym k.same) h

  event_here : {r : Result Sides Refusal} → r ≡ sided (rules.event g parts.event.base k.event s) → rules.event g (base + 1) k.event s ≡ answer_by two r
  event_here {r} q = subst (λ (at : ℕ). rules.event g at k.event s ≡ answer_by two r) k.event_base (sides_are (rules.event g parts.event.base k.event s) r q)

  pub if_unsplit : {d : Refusal} → Err d ≡ sided (rules.event g parts.event.base k.event s) → Says (noted.statement g base c s) (Refuses d.number d.place) m m
  unfolding rules.statement trace.statement
  if_unsplit q = is_if (from_refused (rules.event g (base + 1) k.event s) branches m (event_here q))

  module _ {z : Sides} (split : Ok z ≡ sided (rules.event g parts.event.base k.event s)) where
    branching : Leads (noted.statement g base an_if s) m (branches (two z)) m
    unfolding rules.statement trace.statement
    branching = from_good (rules.event g (base + 1) k.event s) branches m (event_here split)

    then_block : {a : Answer State} {m₁ : List ℕ} → Says (noted.block g parts.then.base k.then_list z.yes) a m m₁ → Says (noted.block g (code.then_at base k.event) k.then_list z.yes) a m m₁
    then_block {a} {m₁} q = subst (λ (at : ℕ). Says (noted.block g at k.then_list z.yes) a m m₁) k.then_base q

    pub if_then_refused : {number place : ℕ} {m₁ : List ℕ} → Says (noted.block g parts.then.base k.then_list z.yes) (Refuses number place) m m₁ → Says (noted.statement g base c s) (Refuses number place) m m₁
    if_then_refused q = is_if (branching.on (then_refused (otherwise (two z)) (then_block q)))

    module _ {a : State} {m₁ : List ℕ} (went : Says (noted.block g parts.then.base k.then_list z.yes) (Gives a) m m₁) where
      else_block : {b : Answer State} {m₂ : List ℕ} → Says (noted.block g parts.otherwise.base k.else_list z.no) b m₁ m₂ → Says (noted.block g (code.else_at base k.event k.then_list) k.else_list z.no) b m₁ m₂
      else_block {b} {m₂} q = subst (λ (at : ℕ). Says (noted.block g at k.else_list z.no) b m₁ m₂) k.else_base q

      on_else : Leads (noted.statement g base an_if s) m (otherwise (two z) a) m₁
      on_else = leads_then branching (then_good (otherwise (two z)) (then_block went))

      pub if_else_refused : {number place : ℕ} {m₂ : List ℕ} → Says (noted.block g parts.otherwise.base k.else_list z.no) (Refuses number place) m₁ m₂ → Says (noted.statement g base c s) (Refuses number place) m m₂
      if_else_refused q = is_if (on_else.on (ending_refused (λ b. Gives (states.join g.n a b)) (else_block q)))

      pub if_joined : {b : State} {m₂ : List ℕ} → Says (noted.block g parts.otherwise.base k.else_list z.no) (Gives b) m₁ m₂ → Says (noted.statement g base c s) (Gives (states.join g.n a b)) m m₂
      if_joined q = is_if (on_else.on (ending_good (λ b. Gives (states.join g.n a b)) (else_block q)))

-- ---- a fail

pub says_fail : (g : Setting) (at : ℕ) (s : State) (m : List ℕ) → Says (noted.statement g at Fail s) (Gives states.empty) m m
unfolding rules.statement trace.statement
says_fail g at s m = says_plain (Gives states.empty) m

-- ---- a pass

module _ (g : Setting) {at : ℕ} {e : Event} {b : Statements} {parts : Loop} (k : LoopAt at e b parts) (s : State) where
  -- what the code's sides say of the event
  pub loop_event : {r : Result Sides Refusal} → r ≡ sided (rules.event g parts.event.base e s) → rules.event g (at + 3) e s ≡ answer_by two r
  loop_event {r} q = subst (λ (i : ℕ). rules.event g i e s ≡ answer_by two r) k.event_base (sides_are (rules.event g parts.event.base e s) r q)

  pub pass_refused : {d : Refusal} {m : List ℕ} → Err d ≡ sided (rules.event g parts.event.base e s) → Says (noted.pass g at e b s) (Refuses d.number d.place) m m
  pass_refused {m = m} q = from_refused (rules.event g (at + 3) e s) (λ t. ending (noted.block g (code.body_at at e) b t.yes) (λ x. Gives (record { next = x; exit = t.no }))) m (loop_event q)
