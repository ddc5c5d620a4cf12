-- What the limits say of a node's words and parts: an inversion for each kind of node.
use mathlib.Core.Path.{◌≡◌}
use mathlib.Core.Bool.{Bool}
use mathlib.Core.List.{List, [], ◌∷◌}
use Prim.Native.Nat.{ℕ, zero, suc, ◌+◌, ◌<◌, ◌≤◌}
use native.Mathlib.Omega.{arith}
use lib.ListN.{length, get_or}
use Rattle.paper.specs.Limits as limits
use Rattle.paper.specs.Code as code
use Rattle.paper.specs.Tree.{Draw, Event, InSet, VarComparison, DataFromDist, Complement, Intersection, Events, ◌also◌}
use Rattle.paper.specs.Tree.{Addend, Unroll, Statement, Sample, Assign, Decrement, IfThenElse, While, Normalize, Statements, ◌then◌}
use Rattle.paper.specs.Limits.{Small, Each, DrawIn, AddendIn, UnrollIn, EventIn, EventsIn, StatementIn, StatementsIn, IsProgram}
use Rattle.words.specs.Parts.{Begins, EventWithin, EventsWithin, StatementWithin, ListWithin, ListIs}
use Rattle.words.proofs.Nodes.{draw_of, draw_is}

-- a program is a list
pub program_list : {n : ℕ} {ws : List ℕ} → IsProgram n ws → ListIs n ws
program_list p = record { tree = p.tree; is = p.is; within = record { deep = 16; loops = 3; holds = p.within } }

-- what holds of each holds at an index
pub each_at : (P : ℕ → Type 0) (xs : List ℕ) (i : ℕ) → Each P xs → i < length xs → P (get_or xs i 0)
unfolding Each
each_at P [] i h k = absurd (omega arith)
each_at P (x ∷ xs) zero h k = h.0
each_at P (x ∷ xs) (suc i) h k = each_at P xs i h.1 (omega arith)

-- ---- draws

-- with the kind known, the limits of the words after it; under `unfolding DrawIn` they compute
pub draw_bounds : {ws : List ℕ} {at : ℕ} (n kind : ℕ) (d : Draw) → Begins ws at (code.draw d) → get_or ws at 0 ≡ kind → DrawIn n d → DrawIn n (draw_of kind (get_or ws (at + 1) 0) (get_or ws (at + 2) 0))
draw_bounds n kind d h k w = rw (draw_is kind d h k) at w

-- ---- events

pub record SetBounds (n v : ℕ) (xs : List ℕ) : Type 0 where
  pub var : v < n
  pub few : length xs ≤ 256
  pub small : Each Small xs

pub set_bounds : {n v : ℕ} {e : Event} {xs : List ℕ} → e ≡ InSet v xs → EventWithin n e → SetBounds n v xs
set_bounds {n} {v} {e} {xs} s w = go (rw s at w.holds)
  where
    go : {deep : ℕ} → EventIn n deep (InSet v xs) → SetBounds n v xs
    go (limits.set a b c) = record { var = a; few = b; small = c }

pub comparison_bounds : {n v w : ℕ} {e : Event} → e ≡ VarComparison v w → EventWithin n e → (v < n) × (w < n)
comparison_bounds {n} {v} {w} s h = go (rw s at h.holds)
  where
    go : {deep : ℕ} → EventIn n deep (VarComparison v w) → (v < n) × (w < n)
    go (limits.comparison a b) = (a, b)

pub datum_bounds : {n x : ℕ} {e : Event} {d : Draw} → e ≡ DataFromDist x d → EventWithin n e → Small x × DrawIn n d
datum_bounds {n} {x} {e} {d} s w = go (rw s at w.holds)
  where
    go : {deep : ℕ} → EventIn n deep (DataFromDist x d) → Small x × DrawIn n d
    go (limits.datum a b) = (a, b)

pub complement_bounds : {n : ℕ} {e x : Event} → e ≡ Complement x → EventWithin n e → EventWithin n x
complement_bounds {n} {e} {x} s w = go (rw s at w.holds)
  where
    go : {deep : ℕ} → EventIn n deep (Complement x) → EventWithin n x
    go (limits.complement {deep = deep} a) = record { deep = deep; holds = a }

pub intersection_bounds : {n : ℕ} {e : Event} {es : Events} → e ≡ Intersection es → EventWithin n e → EventsWithin n es
intersection_bounds {n} {e} {es} s w = go (rw s at w.holds)
  where
    go : {deep : ℕ} → EventIn n deep (Intersection es) → EventsWithin n es
    go (limits.intersection {deep = deep} a) = record { deep = deep; holds = a }

pub next_event_bounds : {n : ℕ} {e : Event} {es fs : Events} → es ≡ (e also fs) → EventsWithin n es → EventWithin n e × EventsWithin n fs
next_event_bounds {n} {e} {es} {fs} s w = go (rw s at w.holds)
  where
    go : {deep : ℕ} → EventsIn n deep (e also fs) → EventWithin n e × EventsWithin n fs
    go (limits.and_event {deep = deep} a b) = (record { deep = deep; holds = a }, record { deep = deep; holds = b })

-- ---- statements

pub sample_bounds : {n v : ℕ} {add : Bool} {c : Statement} {d : Draw} → c ≡ Sample v add d → StatementWithin n c → (v < n) × DrawIn n d
sample_bounds {n} {v} {add} {c} {d} s w = go (rw s at w.holds)
  where
    go : {deep loops : ℕ} → StatementIn n deep loops (Sample v add d) → (v < n) × DrawIn n d
    go (limits.sample a b) = (a, b)

pub assign_bounds : {n v k : ℕ} {add : Bool} {c : Statement} {x : Addend} → c ≡ Assign v add x k → StatementWithin n c → (v < n) × AddendIn n x × Small k
assign_bounds {n} {v} {k} {add} {c} {x} s w = go (rw s at w.holds)
  where
    go : {deep loops : ℕ} → StatementIn n deep loops (Assign v add x k) → (v < n) × AddendIn n x × Small k
    go (limits.assign a b d) = (a, b, d)

pub decrement_bounds : {n v k : ℕ} {c : Statement} → c ≡ Decrement v k → StatementWithin n c → (v < n) × Small k
decrement_bounds {n} {v} {k} s w = go (rw s at w.holds)
  where
    go : {deep loops : ℕ} → StatementIn n deep loops (Decrement v k) → (v < n) × Small k
    go (limits.decrement a b) = (a, b)

pub branch_bounds : {n : ℕ} {c : Statement} {e : Event} {t f : Statements} → c ≡ IfThenElse e t f → StatementWithin n c → EventWithin n e × ListWithin n t × ListWithin n f
branch_bounds {n} {c} {e} {t} {f} s w = go (rw s at w.holds)
  where
    go : {deep loops : ℕ} → StatementIn n deep loops (IfThenElse e t f) → EventWithin n e × ListWithin n t × ListWithin n f
    go (limits.branch {deep = deep} {loops = loops} a b d) = (
      record { deep = suc deep; holds = a },
      record { deep = deep; loops = loops; holds = b },
      record { deep = deep; loops = loops; holds = d },
    )

pub while_bounds : {n : ℕ} {c : Statement} {u : Unroll} {e : Event} {b : Statements} → c ≡ While u e b → StatementWithin n c → UnrollIn u × EventWithin n e × ListWithin n b
while_bounds {n} {c} {u} {e} {b} s w = go (rw s at w.holds)
  where
    go : {deep loops : ℕ} → StatementIn n deep loops (While u e b) → UnrollIn u × EventWithin n e × ListWithin n b
    go (limits.while {deep = deep} {loops = loops} a d f) = (
      a,
      record { deep = suc deep; holds = d },
      record { deep = deep; loops = loops; holds = f },
    )

pub normalize_bounds : {n : ℕ} {c : Statement} {vs : List ℕ} {b : Statements} → c ≡ Normalize vs b → StatementWithin n c → (length vs ≤ 8) × Each (λ v. v < n) vs × ListWithin n b
normalize_bounds {n} {c} {vs} {b} s w = go (rw s at w.holds)
  where
    go : {deep loops : ℕ} → StatementIn n deep loops (Normalize vs b) → (length vs ≤ 8) × Each (λ v. v < n) vs × ListWithin n b
    go (limits.normalize {deep = deep} {loops = loops} a d f) = (a, d, record { deep = deep; loops = loops; holds = f })

pub next_bounds : {n : ℕ} {c : Statement} {cs ds : Statements} → cs ≡ (c then ds) → ListWithin n cs → StatementWithin n c × ListWithin n ds
next_bounds {n} {c} {cs} {ds} s w = go (rw s at w.holds)
  where
    go : {deep loops : ℕ} → StatementsIn n deep loops (c then ds) → StatementWithin n c × ListWithin n ds
    go (limits.and_statement {deep = deep} {loops = loops} a b) = (
      record { deep = deep; loops = loops; holds = a },
      record { deep = deep; loops = loops; holds = b },
    )
