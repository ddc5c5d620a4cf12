-- The variables of a program are below n.
use mathlib.Core.List.{List, [], ◌∷◌}
use Prim.Native.Nat.{ℕ, ◌<◌}
use Rattle.paper.specs.Tree.{Draw, Dirac, Bernoulli, BernoulliVarProb, BinomialVarTrials, Binomial, Categorical, NegBinomialVarSuccesses, NegBinomial, Geometric, Poisson, PoissonVarRate, Uniform}
use Rattle.paper.specs.Tree.{Event, InSet, VarComparison, DataFromDist, Complement, Intersection, Events, none, ◌also◌}
use Rattle.paper.specs.Tree.{Addend, Nought, Times}
use Rattle.paper.specs.Tree.{Statement, Sample, Assign, Decrement, IfThenElse, While, Fail, Normalize, Statements, done, ◌then◌}

module _ (n : ℕ) where
  abbrev pub DrawBelow : Draw → Type 0
  DrawBelow (Dirac p q) = Unit {0}
  DrawBelow Bernoulli = Unit {0}
  DrawBelow (BernoulliVarProb v) = v < n
  DrawBelow (BinomialVarTrials v) = v < n
  DrawBelow (Binomial k) = Unit {0}
  DrawBelow (Categorical k) = Unit {0}
  DrawBelow (NegBinomialVarSuccesses v) = v < n
  DrawBelow (NegBinomial k) = Unit {0}
  DrawBelow Geometric = Unit {0}
  DrawBelow Poisson = Unit {0}
  DrawBelow (PoissonVarRate v) = v < n
  DrawBelow (Uniform a b) = Unit {0}

  abbrev mutual
    pub EventBelow : Event → Type 0
    EventBelow (InSet v xs) = v < n
    EventBelow (VarComparison v w) = (v < n) × (w < n)
    EventBelow (DataFromDist x d) = DrawBelow d
    EventBelow (Complement e) = EventBelow e
    EventBelow (Intersection es) = EventsBelow es

    pub EventsBelow : Events → Type 0
    EventsBelow none = Unit {0}
    EventsBelow (e also es) = EventBelow e × EventsBelow es

  abbrev pub AddendBelow : Addend → Type 0
  AddendBelow Nought = Unit {0}
  AddendBelow (Times f w) = w < n

  abbrev pub EachBelow : List ℕ → Type 0
  EachBelow [] = Unit {0}
  EachBelow (v ∷ vs) = (v < n) × EachBelow vs

  abbrev mutual
    pub StatementBelow : Statement → Type 0
    StatementBelow (Sample v add d) = (v < n) × DrawBelow d
    StatementBelow (Assign v add x k) = (v < n) × AddendBelow x
    StatementBelow (Decrement v k) = v < n
    StatementBelow (IfThenElse e t f) = EventBelow e × StatementsBelow t × StatementsBelow f
    StatementBelow (While u e b) = EventBelow e × StatementsBelow b
    StatementBelow Fail = Unit {0}
    StatementBelow (Normalize vs b) = EachBelow vs × StatementsBelow b

    pub StatementsBelow : Statements → Type 0
    StatementsBelow done = Unit {0}
    StatementsBelow (c then cs) = StatementBelow c × StatementsBelow cs
