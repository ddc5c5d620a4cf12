-- How many words a node has, and the refusals at its words.
use mathlib.Core.Path.{◌≡◌}
use mathlib.Core.List.{List}
use Prim.Native.Nat.{ℕ, ◌+◌, ◌≤◌, ◌<◌}
use native.Mathlib.Omega.{arith}
use lib.ListN.{length, length-append}
use Rattle.paper.specs.Tree.{Event, Events, ◌also◌, Unroll, Default, Turns, Statement, IfThenElse, While, Normalize, Statements, ◌then◌}
use Rattle.paper.specs.Code as code
use Rattle.paper.specs.Places.{Placed, limit, short, variable, word}

-- ---- words

pub events_length : (e : Event) (es : Events) → length (code.events (e also es)) ≡ length (code.event e) + length (code.events es)
unfolding code.events
events_length e es = simp length-append

pub if_length : (e : Event) (t f : Statements) → length (code.statement (IfThenElse e t f)) ≡ 3 + length (code.event e) + length (code.list t) + length (code.list f)
unfolding code.statement
if_length e t f = simp length-append (omega arith)

pub while_length : (u : Unroll) (e : Event) (b : Statements) → length (code.statement (While u e b)) ≡ 4 + length (code.event e) + length (code.list b)
unfolding code.statement
while_length Default e b = simp length-append (omega arith)
while_length (Turns u) e b = simp length-append (omega arith)

pub normalize_length : (vs : List ℕ) (b : Statements) → length (code.statement (Normalize vs b)) ≡ 3 + length vs + length (code.list b)
unfolding code.statement
normalize_length vs b = simp length-append (omega arith)

pub list_length : (c : Statement) (cs : Statements) → length (code.list (c then cs)) ≡ length (code.statement c) + length (code.list cs)
unfolding code.list
list_length c cs = simp length-append

-- ---- refusals

-- 8, 9 or 10 at a word from one place on and before another
pub record Among (first end number place : ℕ) : Type 0 where
  pub low : 8 ≤ number
  pub high : number ≤ 10
  pub from : first ≤ place
  pub before : place < end

pub among : {first end number place : ℕ} → 8 ≤ number → number ≤ 10 → first ≤ place → place < end → Among first end number place
among l m f b = record { low = l; high = m; from = f; before = b }

-- document 01's numbers for words
pub placed_number : {size n number place : ℕ} → Placed size n number place → (3 ≤ number) × (number ≤ 10)
placed_number limit = (omega arith, omega arith)
placed_number short = (omega arith, omega arith)
placed_number (variable v lt) = (omega arith, omega arith)
placed_number (word k at low high other inside) = (low, high)
