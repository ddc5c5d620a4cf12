-- What a program does when it runs: document 01, "Runs". Values are whole numbers of any size.
use Rattle.std.specs.Prelude.{◌≡◌, Bool, true, false, cond, List, ◌⊎◌, ℕ, suc, ◌+◌, ◌-◌, ◌*◌, ◌/◌, ◌<◌, ◌≤◌, eqb}
use Rattle.ranges.specs.declared.Range.{Range}
use Rattle.ranges.specs.Ranges as ranges
use Rattle.states.specs.declared.State.{State}
use Rattle.states.specs.States as states
use Rattle.paper.specs.Tree.{Draw, Dirac, Bernoulli, BernoulliVarProb, BinomialVarTrials, Binomial, Categorical, NegBinomialVarSuccesses, NegBinomial, Geometric, Poisson, PoissonVarRate, Uniform}
use Rattle.paper.specs.Tree.{Event, InSet, VarComparison, DataFromDist, Complement, Intersection, Events, none, ◌also◌}
use Rattle.paper.specs.Tree.{Addend, Nought, Times, Unroll}
use Rattle.paper.specs.Tree.{Statement, Sample, Assign, Decrement, IfThenElse, While, Normalize, Statements, done, ◌then◌}

infix 20 ◌∈◌
-- what each variable holds
abbrev pub Store : Type 0
Store = ℕ → ℕ

-- the same, but x in v
abbrev pub stored : Store → ℕ → ℕ → Store
stored σ v x = λ w. cond (eqb w v) x (σ w)

-- what a draw may take, whatever the variable that it names holds: any number of its range; of an empty interval there is none
abbrev pub Takes : Draw → ℕ → Type 0
Takes (Dirac numer denom) x = x ≡ numer / denom
Takes Bernoulli x = x ≤ 1
Takes (BernoulliVarProb v) x = x ≤ 1
Takes (BinomialVarTrials v) x = Unit {0}
Takes (Binomial n) x = x ≤ n
Takes (Categorical length) x = x < length
Takes (NegBinomialVarSuccesses v) x = Unit {0}
Takes (NegBinomial n) x = Unit {0}
Takes Geometric x = Unit {0}
Takes Poisson x = Unit {0}
Takes (PoissonVarRate v) x = Unit {0}
Takes (Uniform start end) x = (start ≤ x) × (x < end)

-- which way an event may go: 2 and 3 either way; 5 is true when all its events are, false when one is
unfoldable mutual
  pub True : Event → Store → Type 0
  True (InSet v xs) σ = ranges.has xs (σ v) ≡ true
  True (VarComparison v w) σ = Unit {0}
  True (DataFromDist x d) σ = Unit {0}
  True (Complement e) σ = False e σ
  True (Intersection es) σ = AllTrue es σ

  pub False : Event → Store → Type 0
  False (InSet v xs) σ = ranges.has xs (σ v) ≡ false
  False (VarComparison v w) σ = Unit {0}
  False (DataFromDist x d) σ = Unit {0}
  False (Complement e) σ = True e σ
  False (Intersection es) σ = OneFalse es σ

  pub AllTrue : Events → Store → Type 0
  AllTrue none σ = Unit {0}
  AllTrue (e also es) σ = True e σ × AllTrue es σ

  pub OneFalse : Events → Store → Type 0
  OneFalse none σ = ⊥
  OneFalse (e also es) σ = False e σ ⊎ OneFalse es σ

-- what an addend is worth
abbrev pub worth : Store → Addend → ℕ
worth σ Nought = 0
worth σ (Times f w) = f * σ w

mutual
  -- a finite run of a statement that does not fail, from a store to a store; a decrement stops at 0; Fail has none
  pub data Run : Statement → Store → Store → Type 0 where
    sampled : {v : ℕ} {add : Bool} {d : Draw} {σ : Store} (x : ℕ) → Takes d x → Run (Sample v add d) σ (stored σ v (cond add (σ v) 0 + x))
    assigned : {v k : ℕ} {add : Bool} {a : Addend} {σ : Store} → Run (Assign v add a k) σ (stored σ v (cond add (σ v) 0 + worth σ a + k))
    decremented : {v k : ℕ} {σ : Store} → Run (Decrement v k) σ (stored σ v (σ v - k))
    went_then : {e : Event} {t f : Statements} {σ τ : Store} → True e σ → Runs t σ τ → Run (IfThenElse e t f) σ τ
    went_else : {e : Event} {t f : Statements} {σ τ : Store} → False e σ → Runs f σ τ → Run (IfThenElse e t f) σ τ
    left : {u : Unroll} {e : Event} {b : Statements} {k : ℕ} {σ τ : Store} → Turned e b k σ τ → False e τ → Run (While u e b) σ τ
    normalized : {vs : List ℕ} {b : Statements} {σ τ : Store} → Runs b σ τ → Run (Normalize vs b) σ τ

  -- of a list, in order
  pub data Runs : Statements → Store → Store → Type 0 where
    ended : {σ : Store} → Runs done σ σ
    went_on : {c : Statement} {cs : Statements} {σ ρ τ : Store} → Run c σ ρ → Runs cs ρ τ → Runs (c then cs) σ τ

  -- k turns of a loop, from its head to its head
  pub data Turned : Event → Statements → ℕ → Store → Store → Type 0 where
    at_head : {e : Event} {b : Statements} {σ : Store} → Turned e b 0 σ σ
    once_more : {e : Event} {b : Statements} {k : ℕ} {σ ρ τ : Store} → Turned e b k σ ρ → True e ρ → Runs b ρ τ → Turned e b (suc k) σ τ

-- x is one of a range's values
abbrev pub ◌∈◌ : ℕ → Range → Type 0
x ∈ r = ranges.holds r x ≡ true

-- a state over n variables holds a store: it is not empty, and each of the n ranges holds the variable's value
pub record Holds (n : ℕ) (s : State) (σ : Store) : Type 0 where
  pub live : states.is_live s ≡ true
  pub each : (v : ℕ) → v < n → σ v ∈ states.get s v
