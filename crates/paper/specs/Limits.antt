-- Which trees are within the limits over n variables: document 01, "Words" and "Most allowed".
use Rattle.std.specs.Prelude.{◌≡◌, Bool, List, [], ◌∷◌, ℕ, suc, ◌<◌, ◌≤◌, ◌/◌, ◌%◌, length}
use Rattle.ranges.specs.Ranges as ranges
use Rattle.paper.specs.Code as code
use Rattle.paper.specs.Tree.{Draw, Dirac, Bernoulli, BernoulliVarProb, BinomialVarTrials, Binomial, Categorical, NegBinomialVarSuccesses, NegBinomial, Geometric, Poisson, PoissonVarRate, Uniform}
use Rattle.paper.specs.Tree.{Event, InSet, VarComparison, DataFromDist, Complement, Intersection, Events, none, ◌also◌}
use Rattle.paper.specs.Tree.{Addend, Nought, Times, Unroll, Default, Turns}
use Rattle.paper.specs.Tree.{Statement, Sample, Assign, Decrement, IfThenElse, While, Fail, Normalize, Statements, done, ◌then◌}

-- a value fits u32
abbrev pub Small : ℕ → Type 0
Small x = x ≤ ranges.top

-- each of a list
unfoldable pub Each : (ℕ → Type 0) → List ℕ → Type 0
Each P [] = Unit {0}
Each P (x ∷ xs) = P x × Each P xs

-- draw 1 is a u32 integer
pub record Whole (p q : ℕ) : Type 0 where
  pub divides : 0 < q
  pub exact : p % q ≡ 0
  pub small : Small (p / q)

module _ (n : ℕ) where
  -- a draw's variables are below n, its values fit u32; numer and denom need not
  unfoldable pub DrawIn : Draw → Type 0
  DrawIn (Dirac p q) = Whole p q
  DrawIn Bernoulli = Unit {0}
  DrawIn (BernoulliVarProb v) = v < n
  DrawIn (BinomialVarTrials v) = v < n
  DrawIn (Binomial x) = Small x
  DrawIn (Categorical x) = Small x
  DrawIn (NegBinomialVarSuccesses v) = v < n
  DrawIn (NegBinomial x) = Small x
  DrawIn Geometric = Unit {0}
  DrawIn Poisson = Unit {0}
  DrawIn (PoissonVarRate v) = v < n
  DrawIn (Uniform a b) = Small a × Small b

  -- factor fits u32, and w is below n where there is one
  unfoldable pub AddendIn : Addend → Type 0
  AddendIn Nought = Unit {0}
  AddendIn (Times f w) = Small f × (w < n)

-- unroll 10,000
unfoldable pub UnrollIn : Unroll → Type 0
UnrollIn Default = Unit {0}
UnrollIn (Turns u) = u ≤ 10000

-- an event that nests `deep` deep at most, one more for each nesting; 256 values in a set
mutual
  pub data EventIn (n : ℕ) : ℕ → Event → Type 0 where
    set : {deep v : ℕ} {xs : List ℕ} → v < n → length xs ≤ 256 → Each Small xs → EventIn n (suc deep) (InSet v xs)
    comparison : {deep v w : ℕ} → v < n → w < n → EventIn n (suc deep) (VarComparison v w)
    datum : {deep x : ℕ} {d : Draw} → Small x → DrawIn n d → EventIn n (suc deep) (DataFromDist x d)
    complement : {deep : ℕ} {e : Event} → EventIn n deep e → EventIn n (suc deep) (Complement e)
    intersection : {deep : ℕ} {es : Events} → EventsIn n deep es → EventIn n (suc deep) (Intersection es)

  pub data EventsIn (n : ℕ) : ℕ → Events → Type 0 where
    no_event : {deep : ℕ} → EventsIn n deep none
    and_event : {deep : ℕ} {e : Event} {es : Events} → EventIn n deep e → EventsIn n deep es → EventsIn n deep (e also es)

-- a statement that nests `deep` deep and `loops` loops deep at most, its event as deep as it is; 8 given variables
mutual
  pub data StatementIn (n : ℕ) : ℕ → ℕ → Statement → Type 0 where
    sample : {deep loops v : ℕ} {a : Bool} {d : Draw} → v < n → DrawIn n d → StatementIn n (suc deep) loops (Sample v a d)
    assign : {deep loops v k : ℕ} {a : Bool} {x : Addend} → v < n → AddendIn n x → Small k → StatementIn n (suc deep) loops (Assign v a x k)
    decrement : {deep loops v k : ℕ} → v < n → Small k → StatementIn n (suc deep) loops (Decrement v k)
    branch : {deep loops : ℕ} {e : Event} {t f : Statements} → EventIn n (suc deep) e → StatementsIn n deep loops t → StatementsIn n deep loops f → StatementIn n (suc deep) loops (IfThenElse e t f)
    while : {deep loops : ℕ} {u : Unroll} {e : Event} {b : Statements} → UnrollIn u → EventIn n (suc deep) e → StatementsIn n deep loops b → StatementIn n (suc deep) (suc loops) (While u e b)
    fail : {deep loops : ℕ} → StatementIn n (suc deep) loops Fail
    normalize : {deep loops : ℕ} {vs : List ℕ} {b : Statements} → length vs ≤ 8 → Each (λ v. v < n) vs → StatementsIn n deep loops b → StatementIn n (suc deep) loops (Normalize vs b)

  pub data StatementsIn (n : ℕ) : ℕ → ℕ → Statements → Type 0 where
    no_statement : {deep loops : ℕ} → StatementsIn n deep loops done
    and_statement : {deep loops : ℕ} {c : Statement} {cs : Statements} → StatementIn n deep loops c → StatementsIn n deep loops cs → StatementsIn n deep loops (c then cs)

-- a program: depth 16, loops 3 deep
abbrev pub ProgramIn : ℕ → Statements → Type 0
ProgramIn n p = StatementsIn n 16 3 p

-- words that are the code of a program within the limits
pub record IsProgram (n : ℕ) (ws : List ℕ) : Type 0 where
  pub tree : Statements
  pub is : ws ≡ code.program tree
  pub within : ProgramIn n tree
