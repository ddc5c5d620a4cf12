-- How many variables a program uses: one more than the highest that genfer's `used_vars` counts, 0 if none.
use Rattle.std.specs.Prelude.{ℕ, ◌+◌, max}
use Rattle.paper.specs.Tree.{Draw, Dirac, Bernoulli, BernoulliVarProb, BinomialVarTrials, Binomial, Categorical, NegBinomialVarSuccesses, NegBinomial, Geometric, Poisson, PoissonVarRate, Uniform}
use Rattle.paper.specs.Tree.{Event, InSet, VarComparison, DataFromDist, Complement, Intersection, Events, none, ◌also◌}
use Rattle.paper.specs.Tree.{Addend, Nought, Times}
use Rattle.paper.specs.Tree.{Statement, Sample, Assign, Decrement, IfThenElse, While, Fail, Normalize, Statements, done, ◌then◌}

-- a draw's own variable
abbrev pub used_draw : Draw → ℕ
used_draw (Dirac p q) = 0
used_draw Bernoulli = 0
used_draw (BernoulliVarProb v) = v + 1
used_draw (BinomialVarTrials v) = v + 1
used_draw (Binomial n) = 0
used_draw (Categorical n) = 0
used_draw (NegBinomialVarSuccesses v) = v + 1
used_draw (NegBinomial n) = 0
used_draw Geometric = 0
used_draw Poisson = 0
used_draw (PoissonVarRate v) = v + 1
used_draw (Uniform a b) = 0

-- the variables of an event and of the draws and events in it
unfoldable mutual
  pub used_event : Event → ℕ
  used_event (InSet v xs) = v + 1
  used_event (VarComparison v w) = max (v + 1) (w + 1)
  used_event (DataFromDist x d) = used_draw d
  used_event (Complement e) = used_event e
  used_event (Intersection es) = used_events es

  pub used_events : Events → ℕ
  used_events none = 0
  used_events (e also es) = max (used_event e) (used_events es)

-- w, where there is one
abbrev pub used_addend : Addend → ℕ
used_addend Nought = 0
used_addend (Times f w) = w + 1

-- the variables of a statement and of what it holds; given variables are not counted
unfoldable mutual
  pub used_statement : Statement → ℕ
  used_statement (Sample v a d) = max (used_draw d) (v + 1)
  used_statement (Assign v a x k) = max (v + 1) (used_addend x)
  used_statement (Decrement v k) = v + 1
  used_statement (IfThenElse e t f) = max (used_event e) (max (used t) (used f))
  used_statement (While u e b) = max (used_event e) (used b)
  used_statement Fail = 0
  used_statement (Normalize vs b) = used b

  pub used : Statements → ℕ
  used done = 0
  used (c then cs) = max (used_statement c) (used cs)
