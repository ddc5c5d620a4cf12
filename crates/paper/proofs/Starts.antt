-- The starting state is well formed, and holds the stores of the caller's ranges.
use mathlib.Core.Path.{◌≡◌, refl, sym, ◌∙◌, subst}
use mathlib.Core.Bool.{true, false≢true}
use mathlib.Core.List.{List}
use Prim.Native.Nat.{ℕ, ◌≤◌}
use native.Mathlib.Omega.{arith}
use lib.Dec.{ltb}
use lib.ListN.{length}
use Rattle.ranges.specs.declared.Range.{Range}
use Rattle.ranges.specs.Ranges as ranges
use Rattle.ranges.proofs.Laws as laws
use Rattle.states.specs.declared.State.{State}
use Rattle.states.specs.declared.Cell.{Cell}
use Rattle.states.specs.States as states
use Rattle.states.specs.States.{Fit}
use Rattle.states.specs.Answers.{Answer}
use Rattle.states.specs.Starts as starts
use Rattle.states.proofs.Cells.{at}
use Rattle.states.proofs.Starts.{Said, too_many, lowest, one_empty, as_given, started_says, first_at, first_fit}
use Rattle.states.proofs.Fits.{fit_empty}
use Rattle.paper.specs.Runs.{Store, Holds}
use Rattle.paper.specs.Answers as answers
use Rattle.states.proofs.Sure.{Sure, given, refused, sure_elim}

-- what is admitted: at most 64 variables, and a state that holds the stores of the caller's ranges
pub record Admitted (n : ℕ) (cs : List Cell) (s : State) : Type 0 where
  pub small : n ≤ 64
  pub fit : Fit n s
  pub held : (σ : Store) → Holds n (states.live cs) σ → Holds n s σ

said_admitted : (n : ℕ) (cs : List Cell) → length cs ≡ 64 → (a : Answer State) → Said n cs a → Sure (Admitted n cs) a
said_admitted n cs long a (too_many h) = refused
said_admitted n cs long a (lowest v small h q low) = refused
said_admitted n cs long a (one_empty v small proper h e) = given (record {
  small = small;
  fit = fit_empty n;
  held = λ σ k. absurd (false≢true (sym (laws.holds_filled (at cs v) (σ v) (k.each v h)) ∙ e));
})
said_admitted n cs long a (as_given small proper filled) = given (record {
  small = small;
  fit = first_fit n small cs (omega arith) filled;
  held = λ σ k. record { live = refl; each = λ v h. subst (λ (r : Range). ranges.holds r (σ v) ≡ true) (sym (first_at n small cs (omega arith) v h)) (k.each v h) };
})

pub admitted_ok : (ws : List ℕ) (n u : ℕ) (cs : List Cell) → length cs ≡ 64 → Sure (Admitted n cs) (answers.admitted ws n u cs)
admitted_ok ws n u cs long =
    sure_elim (ltb 8192 (length ws)) (λ _. refused) (λ _.
    sure_elim (ltb 64 n) (λ _. refused) (λ _.
    sure_elim (ltb 10000 u) (λ _. refused) (λ _. said_admitted n cs long (starts.started n cs) (started_says n cs long))))
