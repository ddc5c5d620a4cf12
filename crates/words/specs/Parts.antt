-- Parts of the words that are the code of a draw, an event, a statement or a list.
use Rattle.std.specs.Prelude.{◌≡◌, List, ◌∷◌, ℕ, length, take, drop}
use Rattle.paper.specs.Tree.{Draw, Event, Events, Statement, Statements}
use Rattle.paper.specs.Code as code
use Rattle.paper.specs.Limits.{DrawIn, EventIn, EventsIn, StatementIn, StatementsIn}

-- a list of events: a count, then that many events
abbrev pub conjunction : Events → List ℕ
conjunction es = code.count_events es ∷ code.events es

-- ---- at an index

-- the words from `at` on begin with l
pub record Begins (ws : List ℕ) (at : ℕ) (l : List ℕ) : Type 0 where
  pub taken : take (length l) (drop at ws) ≡ l

-- a draw stands at `at`
pub record DrawAt (ws : List ℕ) (at : ℕ) : Type 0 where
  pub tree : Draw
  pub is : Begins ws at (code.draw tree)

-- an event stands at `at`
pub record EventAt (ws : List ℕ) (at : ℕ) : Type 0 where
  pub tree : Event
  pub is : Begins ws at (code.event tree)

-- a list of events stands at `at`, with its count
pub record EventsAt (ws : List ℕ) (at : ℕ) : Type 0 where
  pub tree : Events
  pub is : Begins ws at (conjunction tree)

-- a statement stands at `at`
pub record StatementAt (ws : List ℕ) (at : ℕ) : Type 0 where
  pub tree : Statement
  pub is : Begins ws at (code.statement tree)

-- a list of statements stands at `at`, with its count
pub record ListAt (ws : List ℕ) (at : ℕ) : Type 0 where
  pub tree : Statements
  pub is : Begins ws at (code.program tree)

-- ---- within the limits over n variables, however deep it may nest

pub record EventWithin (n : ℕ) (e : Event) : Type 0 where
  pub deep : ℕ
  pub holds : EventIn n deep e

pub record EventsWithin (n : ℕ) (es : Events) : Type 0 where
  pub deep : ℕ
  pub holds : EventsIn n deep es

pub record StatementWithin (n : ℕ) (c : Statement) : Type 0 where
  pub deep : ℕ
  pub loops : ℕ
  pub holds : StatementIn n deep loops c

pub record ListWithin (n : ℕ) (cs : Statements) : Type 0 where
  pub deep : ℕ
  pub loops : ℕ
  pub holds : StatementsIn n deep loops cs

-- ---- the words are one part whole, within the limits

pub record DrawIs (n : ℕ) (ws : List ℕ) : Type 0 where
  pub tree : Draw
  pub is : ws ≡ code.draw tree
  pub within : DrawIn n tree

pub record EventIs (n : ℕ) (ws : List ℕ) : Type 0 where
  pub tree : Event
  pub is : ws ≡ code.event tree
  pub within : EventWithin n tree

pub record EventsAre (n : ℕ) (ws : List ℕ) : Type 0 where
  pub tree : Events
  pub is : ws ≡ conjunction tree
  pub within : EventsWithin n tree

pub record StatementIs (n : ℕ) (ws : List ℕ) : Type 0 where
  pub tree : Statement
  pub is : ws ≡ code.statement tree
  pub within : StatementWithin n tree

pub record ListIs (n : ℕ) (ws : List ℕ) : Type 0 where
  pub tree : Statements
  pub is : ws ≡ code.program tree
  pub within : ListWithin n tree
