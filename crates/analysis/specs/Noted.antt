-- The rules and the trace side by side: an answer, and the lists entered on the way to it.
use Rattle.std.specs.Prelude.{◌≡◌, List, [], ◌++◌, ℕ, ◌+◌}
use Rattle.states.specs.declared.State.{State}
use Rattle.events.specs.declared.Setting as events
use Rattle.states.specs.Answers.{Answer, Gives, and_then}
use Rattle.paper.specs.Tree.{Event, Statement, Statements}
use Rattle.paper.specs.Code as code
use Rattle.paper.specs.Rules as rules
use Rattle.paper.specs.Rules.{Setting}
use Rattle.paper.specs.Trace as trace
use Rattle.paper.specs.Trace.{after, entering, mark}
use Rattle.states.specs.States as states
use Rattle.analysis.specs.Sought as seeking

pub record Noted (A : Type 0) : Type 0 where
  pub answer : Answer A
  pub places : List ℕ

-- an answer on the way to which no list is entered
abbrev pub plain : {A : Type 0} → Answer A → Noted A
plain a = record { answer = a; places = [] }

-- go on with what is given, and enter further lists
abbrev pub then_noted : {A B : Type 0} → Noted A → (A → Noted B) → Noted B
then_noted x f = record { answer = and_then x.answer (λ a. (f a).answer); places = x.places ++ after x.answer (λ a. (f a).places) }

-- the same, from an answer on the way to which no list is entered
abbrev pub from : {A B : Type 0} → Answer A → (A → Noted B) → Noted B
from a f = record { answer = and_then a (λ x. (f x).answer); places = after a (λ x. (f x).places) }

-- go on with what is given, and enter no further list
abbrev pub ending : {A B : Type 0} → Noted A → (A → Answer B) → Noted B
ending x f = record { answer = and_then x.answer f; places = x.places }

-- a is the answer, and the marks after it are those before it with the places entered marked
pub record Says {A : Type 0} (x : Noted A) (a : Answer A) (before after : List ℕ) : Type 0 where
  pub out : a ≡ x.answer
  pub marks : after ≡ mark x.places before

abbrev pub setting : ℕ → ℕ → Setting
setting n u = record { n = n; unroll = u }

-- the code's setting
abbrev pub setting_of : events.Setting → Setting
setting_of g = setting g.n g.unroll

-- the statements from a place on
abbrev pub list : Setting → ℕ → Statements → State → Noted State
list g at t s = record { answer = rules.list g at t s; places = trace.list g at t s }

-- the statement whose kind word stands at a place
abbrev pub statement : Setting → ℕ → Statement → State → Noted State
statement g at c s = record { answer = rules.statement g at c s; places = trace.statement g at c s }

-- a branch or a body, whose count stands at a place: it is named where it is entered with a state that is not empty
abbrev pub block : Setting → ℕ → Statements → State → Noted State
block g at t s = record { answer = rules.list g (at + 1) t s; places = entering at s ++ trace.list g (at + 1) t s }

-- a loop whose kind word stands at a place, by its event and body: its pass, what a pass enters, and its exit
module _ (g : Setting) (at : ℕ) (e : Event) (b : Statements) where
  abbrev pub pass_by : State → Answer rules.Pass
  pass_by = rules.pass_of (λ h. rules.event g (at + 3) e h) (λ h. rules.list g (code.body_at at e + 1) b h)

  abbrev pub entered_by : State → List ℕ
  entered_by = trace.pass_of (λ h. rules.event g (at + 3) e h) (λ h. entering (code.body_at at e) h ++ trace.list g (code.body_at at e + 1) b h)

  abbrev pub exit_by : State → Answer State
  exit_by = rules.exit_of (λ h. rules.event g (at + 3) e h)

  abbrev pub pass : State → Noted rules.Pass
  pass s = record { answer = pass_by s; places = entered_by s }

  abbrev pub search : ℕ → ℕ → State → Noted rules.Found
  search k i s = record { answer = rules.search g.n pass_by exit_by k i s; places = trace.search g.n pass_by entered_by k s }

  -- the search as the code makes it enters what the search enters
  abbrev pub sought : ℕ → ℕ → rules.Pass → Noted seeking.Sought
  sought k i t = record { answer = seeking.sought g.n pass_by k i t; places = trace.search g.n pass_by entered_by k t.next }

  abbrev pub unrolled : ℕ → rules.Pass → Noted rules.Pass
  unrolled k t = record { answer = rules.unrolled g.n pass_by exit_by k t; places = trace.unrolled g.n pass_by entered_by k t.next }

  abbrev pub growing : (State → State → State) → ℕ → ℕ → State → Noted rules.Settling
  growing grow k i s = record { answer = rules.growing g.n pass_by exit_by grow k i s; places = trace.growing g.n pass_by entered_by grow k s }

  abbrev pub settle : State → Noted rules.Settled
  settle s = record { answer = rules.settle g.n pass_by exit_by s; places = trace.settle g.n pass_by entered_by exit_by s }

  -- what follows a search that found f: unrolled passes, settling, the settled state's exit
  module _ (u : ℕ) (s : State) (f : rules.Found) where
    abbrev pub summary : rules.Pass → rules.Settled → State → rules.Looped
    summary t m x = record {
      exits = states.join g.n t.exit x;
      turned = t.next;
      settled = m.at;
      searched = rules.search_passes f;
      unrolls = rules.unroll_passes u f;
      joined = m.joined;
      widened = m.widened;
    }

    abbrev pub finish : rules.Pass → rules.Settled → Answer rules.Looped
    finish t m = and_then (exit_by m.at) (λ x. Gives (summary t m x))

    abbrev pub onward : Noted rules.Looped
    onward = then_noted (unrolled (rules.unroll_passes u f) (record { next = s; exit = states.empty })) (λ t. ending (settle t.next) (finish t))

  abbrev pub loop : ℕ → State → Noted rules.Looped
  loop u s = record { answer = rules.loop g.n pass_by exit_by u s; places = trace.loop g.n pass_by entered_by exit_by u s }

-- a normalize over given variables, the first of which stands at a place, and a body whose count stands at another
abbrev pub normalized : Setting → ℕ → List ℕ → ℕ → Statements → State → Noted State
normalized g at vs body_at b s = record {
  answer = rules.normalized g.n (λ h. rules.list g (body_at + 1) b h) at vs s;
  places = trace.normalized g.n (λ h. rules.list g (body_at + 1) b h) (λ h. trace.list g (body_at + 1) b h) at vs s;
}

-- k values from x on of the variable v, the rest of the given variables enumerated for each, joined with what was joined before
abbrev pub enumerated : Setting → ℕ → ℕ → List ℕ → ℕ → Statements → State → ℕ → ℕ → State → Noted State
enumerated g at v vs body_at b s k x joined = record {
  answer =
      rules.enumerated g.n (λ h. rules.list g (body_at + 1) b h)
      (rules.normalized g.n (λ h. rules.list g (body_at + 1) b h) (at + 1) vs) v s k x joined;
  places =
      trace.enumerated g.n (λ h. rules.list g (body_at + 1) b h) (λ h. trace.list g (body_at + 1) b h)
      (rules.normalized g.n (λ h. rules.list g (body_at + 1) b h) (at + 1) vs)
      (trace.normalized g.n (λ h. rules.list g (body_at + 1) b h) (λ h. trace.list g (body_at + 1) b h) (at + 1) vs) v s k x;
}
