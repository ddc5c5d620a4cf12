-- When the rules come to a loop, also to an inner one, and from which state.
use Rattle.std.specs.Prelude.{◌≡◌, List, [], ◌∷◌, ℕ, ◌+◌, length}
use Rattle.ranges.specs.Ranges as ranges
use Rattle.states.specs.declared.State.{State}
use Rattle.states.specs.Answers.{Answer, Gives}
use Rattle.states.specs.States as states
use Rattle.paper.specs.Tree.{Event, Unroll, Statement, IfThenElse, While, Normalize, Statements, ◌then◌}
use Rattle.paper.specs.Code as code
use Rattle.paper.specs.Rules as rules
use Rattle.paper.specs.Rules.{Setting, Sides, Pass, Looped}

-- a loop of a program, the place of its kind word, and the state from which the rules analyse it
pub record Visit : Type 0 where
  pub unroll : Unroll
  pub event : Event
  pub body : Statements
  pub place : ℕ
  pub from : State

-- the loop's event, body, pass and exit there, as the rules have them, and their analysis of it
abbrev pub event_at : Setting → Visit → State → Answer Sides
event_at g v h = rules.event g (v.place + 3) v.event h

abbrev pub body_at : Setting → Visit → State → Answer State
body_at g v h = rules.list g (code.body_at v.place v.event + 1) v.body h

abbrev pub pass_at : Setting → Visit → State → Answer Pass
pass_at g v = rules.pass_of (event_at g v) (body_at g v)

abbrev pub exit_at : Setting → Visit → State → Answer State
exit_at g v = rules.exit_of (event_at g v)

abbrev pub analysed_at : Setting → Visit → Answer Looped
analysed_at g v = rules.looping g.n (event_at g v) (body_at g v) (rules.turns g v.unroll) v.from

-- the states at its head from which a loop that is analysed from s is passed over: the searched and the unrolled ones, the joined, the widened; and maybe more
pub data Head (n : ℕ) (pass : State → Answer Pass) (s : State) : State → Type 0 where
  first : Head n pass s s
  next : {h : State} {p : Pass} → Head n pass s h → pass h ≡ Gives p → Head n pass s p.next
  joined : {h : State} {p : Pass} → Head n pass s h → pass h ≡ Gives p → Head n pass s (states.join n h p.next)
  widened : {h : State} {p : Pass} → Head n pass s h → pass h ≡ Gives p → Head n pass s (states.widen n h p.next)

-- the states from which a normalize that is analysed from s goes over its body: each given variable set to a point; and maybe more
pub data Point : List ℕ → State → State → Type 0 where
  all_set : {s : State} → Point [] s s
  set_to : {v : ℕ} {vs : List ℕ} {s h : State} (x : ℕ) → Point vs (states.put s v (ranges.point x)) h → Point (v ∷ vs) s h

mutual
  -- going over a statement whose kind word stands at `at`, from s, the rules come to a loop; every time that they do is among these
  pub data StatementVisits (g : Setting) : Statement → (at : ℕ) → (s : State) → Visit → Type 0 where
    here : {u : Unroll} {e : Event} {b : Statements} {at : ℕ} {s : State} {v : Visit} → v ≡ record { unroll = u; event = e; body = b; place = at; from = s } → StatementVisits g (While u e b) at s v
    in_then : {e : Event} {t f : Statements} {at : ℕ} {s : State} {sides : Sides} {v : Visit} → rules.event g (at + 1) e s ≡ Gives sides →
        ListVisits g t (code.then_at at e + 1) sides.yes v → StatementVisits g (IfThenElse e t f) at s v
    in_else : {e : Event} {t f : Statements} {at : ℕ} {s : State} {sides : Sides} {v : Visit} → rules.event g (at + 1) e s ≡ Gives sides →
        ListVisits g f (code.else_at at e t + 1) sides.no v → StatementVisits g (IfThenElse e t f) at s v
    in_body : {u : Unroll} {e : Event} {b : Statements} {at : ℕ} {s h : State} {sides : Sides} {v : Visit} →
        Head g.n (pass_at g (record { unroll = u; event = e; body = b; place = at; from = s })) s h → rules.event g (at + 3) e h ≡ Gives sides →
        ListVisits g b (code.body_at at e + 1) sides.yes v → StatementVisits g (While u e b) at s v
    in_normalize : {vs : List ℕ} {b : Statements} {at : ℕ} {s h : State} {v : Visit} → Point vs s h →
        ListVisits g b (code.normalized_at at vs + 1) h v → StatementVisits g (Normalize vs b) at s v

  -- going over a list whose first statement stands at `at`
  pub data ListVisits (g : Setting) : Statements → (at : ℕ) → (s : State) → Visit → Type 0 where
    in_first : {c : Statement} {cs : Statements} {at : ℕ} {s : State} {v : Visit} → StatementVisits g c at s v → ListVisits g (c then cs) at s v
    in_rest : {c : Statement} {cs : Statements} {at : ℕ} {s t : State} {v : Visit} → rules.statement g at c s ≡ Gives t →
        ListVisits g cs (at + length (code.statement c)) t v → ListVisits g (c then cs) at s v
