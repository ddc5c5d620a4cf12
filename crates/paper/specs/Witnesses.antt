-- Runs that there are: the promises do not hold for want of them. `witnessed` of proofs/Witnessed.antt proves these.
use Rattle.std.specs.Prelude.{◌≡◌, true, false, cond, [], ◌∷◌, ℕ, suc, eqb}
use Rattle.paper.specs.Tree.{Bernoulli, Binomial, Uniform, InSet, VarComparison, DataFromDist, Complement, Intersection, none, ◌also◌, Nought, Times, Default, Sample, Assign, Decrement, IfThenElse, While, Fail, Normalize, Statements, done, ◌then◌}
use Rattle.paper.specs.Runs.{Store, Runs}
use Rattle.paper.specs.Entries.{ListEnters}

-- every variable holds 0; the first holds 1
abbrev pub noughts : Store
noughts _ = 0

abbrev pub first_one : Store
first_one v = cond (eqb v 0) 1 0

-- x is drawn from 2 below 5; y := 3x + 1; y is decremented by 20; if x is 4 then y grows by a draw up to 2, else fail;
-- if x compares with y and 7 is not drawn by 2, nothing, else fail; if x compares with y, fail, else nothing; given x, x grows by 1
abbrev pub tour : Statements
tour =
    Sample 0 false (Uniform 2 5) then
    Assign 1 false (Times 3 0) 1 then
    Decrement 1 20 then
    IfThenElse (InSet 0 (4 ∷ [])) (Sample 1 true (Binomial 2) then done) (Fail then done) then
    IfThenElse (Intersection (VarComparison 0 1 also Complement (DataFromDist 7 Bernoulli) also none)) done (Fail then done) then
    IfThenElse (VarComparison 0 1) (Fail then done) done then
    Normalize (0 ∷ []) (Assign 0 true Nought 1 then done) then
    done

-- while c in {1}, c is drawn by 2 and x grows by 1: row 13 of the table
abbrev pub coin : Statements
coin = While Default (InSet 0 (1 ∷ [])) (Sample 0 false Bernoulli then Assign 1 true Nought 1 then done) then done

-- while c in {0}, if x is 3 then nothing, else nothing; x grows by 1
abbrev pub endless : Statements
endless = While Default (InSet 0 (0 ∷ [])) (IfThenElse (InSet 1 (3 ∷ [])) done done then Assign 1 true Nought 1 then done) then done

pub record Witnesses : Type 0 where
  -- a run through every kind of statement and event, past each Fail: 4 is drawn, then 2; the decrement stops at 0; the comparison goes both ways
  pub toured : (τ : Store) × Runs tour noughts τ × (τ 0 ≡ 5) × (τ 1 ≡ 2)
  -- a loop may be left after any number of turns: every number but 0 is where some run ends, within the [0,–) that row 13 answers
  pub counted : (k : ℕ) → (τ : Store) × Runs coin first_one τ × (τ 1 ≡ suc k)
  -- no run of the endless loop ends, and yet one enters the then-list, whose count stands at 14, in the fourth turn: it is not dead
  pub never_ends : (τ : Store) → Runs endless noughts τ → ⊥
  pub enters : ListEnters endless 1 noughts 14
