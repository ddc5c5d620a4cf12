-- The runs of Witnesses, made.
use mathlib.Core.Path.{◌≡◌, refl, sym, ◌∙◌}
use mathlib.Core.Bool.{true, false, false≢true}
use mathlib.Core.List.{[], ◌∷◌}
use Prim.Native.Nat.{ℕ, zero, suc, ◌+◌, ◌≤◌}
use native.Mathlib.Omega.{arith}
use Rattle.ranges.specs.Ranges as ranges
use Rattle.paper.specs.Tree.{Event, InSet, VarComparison, DataFromDist, Complement, Intersection, none, ◌also◌, Nought, Default, Sample, Assign, IfThenElse, While, Fail, Statements, done, ◌then◌, Bernoulli, Binomial, Uniform}
use Rattle.paper.specs.Code as code
use Rattle.paper.specs.Runs.{Store, stored, True, False, Run, sampled, assigned, decremented, went_then, went_else, left, normalized, Runs, ended, went_on, Turned, at_head, once_more}
use Rattle.paper.specs.Entries.{ListEnters, then_list, in_body, in_first}
use Rattle.paper.specs.Witnesses.{noughts, first_one, tour, coin, endless, Witnesses}

goes_past : (σ : Store) → Run (IfThenElse (Intersection (VarComparison 0 1 also Complement (DataFromDist 7 Bernoulli) also none)) done (Fail then done)) σ σ
unfolding True
goes_past σ = let all : True (Intersection (VarComparison 0 1 also Complement (DataFromDist 7 Bernoulli) also none)) σ = (tt, (tt, tt)) in went_then all ended

toured : (τ : Store) × Runs tour noughts τ × (τ 0 ≡ 5) × (τ 1 ≡ 2)
unfolding True ranges.has
toured = (
  _,
  went_on (sampled {d = Uniform 2 5} 4 (omega arith))
      (went_on assigned
      (went_on decremented
      (went_on (went_then refl (went_on (sampled {d = Binomial 2} 2 (omega arith)) ended))
      (went_on (goes_past _)
      (went_on (went_else tt ended)
      (went_on (normalized (went_on assigned ended)) ended)))))),
  refl,
  refl,
)

-- ---- the coin

abbrev shows : Event
shows = InSet 0 (1 ∷ [])

abbrev coin_body : Statements
coin_body = Sample 0 false Bernoulli then Assign 1 true Nought 1 then done

-- a turn that draws a number up to 1
turn : (k x : ℕ) (ρ : Store) → x ≤ 1 → Turned shows coin_body k first_one ρ → ρ 0 ≡ 1 → ρ 1 ≡ k → (τ : Store) × Turned shows coin_body (suc k) first_one τ × (τ 0 ≡ x) × (τ 1 ≡ suc k)
unfolding True ranges.has
turn k x ρ le r one many = (_, once_more r (rw one refl) (went_on (sampled {d = Bernoulli} x le) (went_on assigned ended)), omega arith, omega arith)

-- after k turns the coin may show 1 still
still_one : (k : ℕ) → (ρ : Store) × Turned shows coin_body k first_one ρ × (ρ 0 ≡ 1) × (ρ 1 ≡ k)
still_one zero = (first_one, at_head, refl, refl)
still_one (suc k) = let (ρ, r, one, many) = still_one k in turn k 1 ρ (omega arith) r one many

counted : (k : ℕ) → (τ : Store) × Runs coin first_one τ × (τ 1 ≡ suc k)
unfolding False ranges.has
counted k =
    let (ρ, r, one, many) = still_one k in
    let (τ, last, nought, most) = turn k 0 ρ (omega arith) r one many in
    (τ, went_on (left last (rw nought refl)) ended, most)

-- ---- the endless loop

abbrev stays : Event
stays = InSet 0 (0 ∷ [])

abbrev endless_body : Statements
endless_body = IfThenElse (InSet 1 (3 ∷ [])) done done then Assign 1 true Nought 1 then done

-- no turn changes c
nothing : (ρ τ : Store) → Runs done ρ τ → τ 0 ≡ ρ 0
nothing ρ τ ended = refl

either_way : (ρ τ : Store) → Run (IfThenElse (InSet 1 (3 ∷ [])) done done) ρ τ → τ 0 ≡ ρ 0
either_way ρ τ (went_then y r) = nothing ρ τ r
either_way ρ τ (went_else y r) = nothing ρ τ r

grows : (ρ τ : Store) → Run (Assign 1 true Nought 1) ρ τ → τ 0 ≡ ρ 0
grows ρ τ assigned = refl

last_of : (ρ τ : Store) → Runs (Assign 1 true Nought 1 then done) ρ τ → τ 0 ≡ ρ 0
last_of ρ τ (went_on {ρ = π} c d) = nothing π τ d ∙ grows ρ π c

once_round : (ρ τ : Store) → Runs endless_body ρ τ → τ 0 ≡ ρ 0
once_round ρ τ (went_on {ρ = π} c d) = last_of π τ d ∙ either_way ρ π c

all_round : (k : ℕ) (τ : Store) → Turned stays endless_body k noughts τ → τ 0 ≡ 0
all_round k τ at_head = refl
all_round k τ (once_more {k = m} {ρ = ρ} r y d) = once_round ρ τ d ∙ all_round m ρ r

not_left : (τ : Store) → τ 0 ≡ 0 → False stays τ → ⊥
unfolding False ranges.has
not_left τ c out = false≢true (sym out ∙ rw c refl)

no_way_out : (ρ : Store) → Run (While Default stays endless_body) noughts ρ → ⊥
no_way_out ρ (left {k = k} r out) = not_left ρ (all_round k ρ r) out

never_ends : (τ : Store) → Runs endless noughts τ → ⊥
never_ends τ (went_on {ρ = ρ} c d) = no_way_out ρ c

-- a turn by the else-list
by_else : (ρ : Store) → False (InSet 1 (3 ∷ [])) ρ → Runs endless_body ρ (stored ρ 1 (ρ 1 + 0 + 1))
by_else ρ out = went_on (went_else out ended) (went_on assigned ended)

-- three of them, and into the then-list
enters : ListEnters endless 1 noughts 14
unfolding True False ranges.has code.event
enters = in_first (in_body (once_more (once_more (once_more at_head refl (by_else _ refl)) refl (by_else _ refl)) refl (by_else _ refl)) refl (in_first (then_list refl refl)))

pub witnessed : Witnesses
witnessed = record { toured = toured; counted = counted; never_ends = never_ends; enters = enters }
