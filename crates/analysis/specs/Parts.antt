-- The parts of a statement's words, as the code cuts them, and the place of each.
use Rattle.std.specs.Prelude.{◌≡◌, List, ℕ, ◌+◌, ◌<◌, ◌≤◌, length, get_or}
use Rattle.paper.specs.Code as code
use Rattle.paper.specs.Limits.{UnrollIn, Each}
use Rattle.paper.specs.Rules as rules
use Rattle.paper.specs.Rules.{Setting}
use Rattle.paper.specs.Tree.{Unroll, Event, Statement, IfThenElse, While, Normalize, Statements}
use Rattle.words.specs.Parts.{EventWithin, ListWithin, EventIs, ListIs}
use Rattle.events.specs.declared.Part.{Part}
use Rattle.analysis.specs.declared.parts.Branch.{Branch}
use Rattle.analysis.specs.declared.parts.Loop.{Loop}
use Rattle.analysis.specs.declared.parts.Normalize as normalizes

-- the words are a statement of a kind
pub record OfKind (kind : ℕ) (ws : List ℕ) : Type 0 where
  pub tree : Statement
  pub is : ws ≡ code.statement tree
  pub first : get_or ws 0 0 ≡ kind

-- the words are a loop, within the limits over n variables
pub record LoopIs (n : ℕ) (ws : List ℕ) : Type 0 where
  pub unroll : Unroll
  pub event : Event
  pub body : Statements
  pub is : ws ≡ code.statement (While unroll event body)
  pub few : UnrollIn unroll
  pub event_within : EventWithin n event
  pub body_within : ListWithin n body

-- the words are given variables
pub record GivenAre (n : ℕ) (ws : List ℕ) : Type 0 where
  pub each : Each (λ v. v < n) ws

-- a part lies within so many words from a place on
pub record Inside (base size : ℕ) (p : Part) : Type 0 where
  pub begins : base < p.base
  pub ends : p.base + length p.words.now ≤ base + size

-- the parts of c, an if of so many words whose kind word stands at a place
pub record BranchOf (base size : ℕ) (c : Statement) (b : Branch) : Type 0 where
  pub event : Event
  pub then_list : Statements
  pub else_list : Statements
  pub same : c ≡ IfThenElse event then_list else_list
  pub event_words : b.event.words.now ≡ code.event event
  pub event_base : b.event.base ≡ base + 1
  pub then_words : b.then.words.now ≡ code.program then_list
  pub then_base : b.then.base ≡ code.then_at base event
  pub else_words : b.otherwise.words.now ≡ code.program else_list
  pub else_base : b.otherwise.base ≡ code.else_at base event then_list
  pub then_inside : Inside base size b.then
  pub else_inside : Inside base size b.otherwise

-- the event and the body of a loop whose kind word stands at a place
pub record LoopAt (base : ℕ) (e : Event) (b : Statements) (l : Loop) : Type 0 where
  pub event_words : l.event.words.now ≡ code.event e
  pub event_base : l.event.base ≡ base + 3
  pub body_words : l.body.words.now ≡ code.program b
  pub body_base : l.body.base ≡ code.body_at base e

-- the same, of so many words, with its turns
pub record LoopOf (g : Setting) (base size : ℕ) (u : Unroll) (e : Event) (b : Statements) (l : Loop) : Type 0 where
  pub at : LoopAt base e b l
  pub turns : l.turns ≡ rules.turns g u
  pub body_inside : Inside base size l.body

-- its event and its body are within the limits over n variables
pub record LoopWithin (n : ℕ) (l : Loop) : Type 0 where
  pub event_is : EventIs n l.event.words.now
  pub body_is : ListIs n l.body.words.now

-- the parts of c, a normalize of so many words whose kind word stands at a place
pub record NormalizeOf (base size : ℕ) (c : Statement) (p : normalizes.Normalize) : Type 0 where
  pub given : List ℕ
  pub body : Statements
  pub same : c ≡ Normalize given body
  pub given_words : p.given.words.now ≡ given
  pub given_base : p.given.base ≡ base + 2
  pub body_words : p.body.words.now ≡ code.program body
  pub body_base : p.body.base ≡ code.normalized_at base given
  pub less : length given + length p.body.words.now < size
  pub body_inside : Inside base size p.body
