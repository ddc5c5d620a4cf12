-- Which lists a run enters: then-lists, else-lists and loop bodies, each by the place of its count.
-- Only the beginning of a run is looked at: it may go on for ever, fail, or end.
use Rattle.std.specs.Prelude.{◌≡◌, List, ℕ, ◌+◌, length}
use Rattle.paper.specs.Tree.{Event, Unroll, Statement, IfThenElse, While, Normalize, Statements, ◌then◌}
use Rattle.paper.specs.Code as code
use Rattle.paper.specs.Runs.{Store, True, False, Run, Turned}

mutual
  -- a statement whose kind word stands at `at` is begun in a store, and comes to the beginning of the list whose count stands at `place`
  pub data StatementEnters : Statement → (at : ℕ) → Store → (place : ℕ) → Type 0 where
    then_list : {e : Event} {t f : Statements} {at place : ℕ} {σ : Store} → True e σ → place ≡ code.then_at at e → StatementEnters (IfThenElse e t f) at σ place
    in_then : {e : Event} {t f : Statements} {at place : ℕ} {σ : Store} → True e σ → ListEnters t (code.then_at at e + 1) σ place → StatementEnters (IfThenElse e t f) at σ place
    else_list : {e : Event} {t f : Statements} {at place : ℕ} {σ : Store} → False e σ → place ≡ code.else_at at e t → StatementEnters (IfThenElse e t f) at σ place
    in_else : {e : Event} {t f : Statements} {at place : ℕ} {σ : Store} → False e σ → ListEnters f (code.else_at at e t + 1) σ place → StatementEnters (IfThenElse e t f) at σ place
    -- a body is entered after any number of turns, k
    loop_body : {u : Unroll} {e : Event} {b : Statements} {at k place : ℕ} {σ ρ : Store} → Turned e b k σ ρ → True e ρ → place ≡ code.body_at at e → StatementEnters (While u e b) at σ place
    in_body : {u : Unroll} {e : Event} {b : Statements} {at k place : ℕ} {σ ρ : Store} → Turned e b k σ ρ → True e ρ → ListEnters b (code.body_at at e + 1) ρ place → StatementEnters (While u e b) at σ place
    in_normalize : {vs : List ℕ} {b : Statements} {at place : ℕ} {σ : Store} → ListEnters b (code.normalized_at at vs + 1) σ place → StatementEnters (Normalize vs b) at σ place

  -- a list whose first statement stands at `at`: in that one, or in the rest once that one has ended
  pub data ListEnters : Statements → (at : ℕ) → Store → (place : ℕ) → Type 0 where
    in_first : {c : Statement} {cs : Statements} {at place : ℕ} {σ : Store} → StatementEnters c at σ place → ListEnters (c then cs) at σ place
    in_rest : {c : Statement} {cs : Statements} {at place : ℕ} {σ ρ : Store} → Run c σ ρ → ListEnters cs (at + length (code.statement c)) ρ place → ListEnters (c then cs) at σ place
