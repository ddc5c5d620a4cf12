-- A place that a run enters is a place of the program's words, and its mark is 1 where it is named.
use mathlib.Core.Path.{◌≡◌, refl, ◌∙◌}
use mathlib.Core.Bool.{Bool, true, false, cond, false≢true}
use mathlib.Core.List.{List, [], ◌∷◌}
use Prim.Native.Nat.{ℕ, ◌+◌, ◌<◌}
use native.Mathlib.Omega.{arith}
use lib.Dec.{eqb}
use lib.ListN.{length, get_or, set, length-set}
use lib.Seq.{get_or-set_same, get_or-set_other}
use borrow.Author.Tests.{eqb-true, eqb-false}
use Rattle.ranges.specs.Ranges as ranges
use Rattle.paper.specs.Tree.{Statement, Statements}
use Rattle.paper.specs.Code as code
use Rattle.paper.specs.Trace as trace
use Rattle.paper.specs.Runs.{Store}
use Rattle.paper.specs.Entries.{StatementEnters, then_list, in_then, else_list, in_else, loop_body, in_body, in_normalize, ListEnters, in_first, in_rest}
use Rattle.paper.proofs.Places.{if_length, while_length, normalize_length, list_length}

-- ---- places

mutual
  statement_place : (c : Statement) (at : ℕ) (σ : Store) (place : ℕ) → StatementEnters c at σ place → place < at + length (code.statement c)
  statement_place c at σ place (then_list {e = e} {t = t} {f = f} y q) = omega (arith, if_length e t f)
  statement_place c at σ place (in_then {e = e} {t = t} {f = f} y inside) = omega (arith, if_length e t f, list_place t (code.then_at at e + 1) σ place inside)
  statement_place c at σ place (else_list {e = e} {t = t} {f = f} y q) = omega (arith, if_length e t f)
  statement_place c at σ place (in_else {e = e} {t = t} {f = f} y inside) = omega (arith, if_length e t f, list_place f (code.else_at at e t + 1) σ place inside)
  statement_place c at σ place (loop_body {u = u} {e = e} {b = b} r y q) = omega (arith, while_length u e b)
  statement_place c at σ place (in_body {u = u} {e = e} {b = b} {ρ = ρ} r y inside) = omega (arith, while_length u e b, list_place b (code.body_at at e + 1) ρ place inside)
  statement_place c at σ place (in_normalize {vs = vs} {b = b} inside) = omega (arith, normalize_length vs b, list_place b (code.normalized_at at vs + 1) σ place inside)

  pub list_place : (p : Statements) (at : ℕ) (σ : Store) (place : ℕ) → ListEnters p at σ place → place < at + length (code.list p)
  list_place p at σ place (in_first {c = c} {cs = cs} inside) = omega (arith, list_length c cs, statement_place c at σ place inside)
  list_place p at σ place (in_rest {c = c} {cs = cs} {ρ = ρ} r inside) = omega (arith, list_length c cs, list_place cs (at + length (code.statement c)) ρ place inside)

-- ---- marks

set_here : (marks : List ℕ) (at place : ℕ) → place < length marks → eqb place at ≡ true → get_or (set marks at 1) place 0 ≡ 1
set_here marks at place lt q = rw (← eqb-true place at q) (get_or-set_same marks place 1 0 lt)

-- a mark of 1 stays
stays : (places marks : List ℕ) (place : ℕ) → place < length marks → get_or marks place 0 ≡ 1 → get_or (trace.mark places marks) place 0 ≡ 1
unfolding trace.mark
stays [] marks place lt h = h
stays (at ∷ places) marks place lt h = stays places (set marks at 1) place (omega (arith, length-set marks at 1)) (go (eqb place at) refl)
  where
    go : (b : Bool) → eqb place at ≡ b → get_or (set marks at 1) place 0 ≡ 1
    go true q = set_here marks at place lt q
    go false q = get_or-set_other marks at place 1 0 (eqb-false place at q) ∙ h

pub marked : (places marks : List ℕ) (place : ℕ) → place < length marks → ranges.has places place ≡ true → get_or (trace.mark places marks) place 0 ≡ 1
unfolding trace.mark ranges.has
marked [] marks place lt h = absurd (false≢true h)
marked (at ∷ places) marks place lt h = go (eqb place at) refl h (marked places (set marks at 1) place (omega (arith, length-set marks at 1)))
  where
    go : (b : Bool) → eqb place at ≡ b → cond b true (ranges.has places place) ≡ true → (ranges.has places place ≡ true → get_or (trace.mark places (set marks at 1)) place 0 ≡ 1) →
        get_or (trace.mark places (set marks at 1)) place 0 ≡ 1
    go true q h on = stays places (set marks at 1) place (omega (arith, length-set marks at 1)) (set_here marks at place lt q)
    go false q h on = on h
