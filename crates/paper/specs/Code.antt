-- How a program is coded as words: document 01, "Words", a line for each kind of node.
use Rattle.std.specs.Prelude.{Bool, true, false, List, [], ◌∷◌, ◌++◌, ℕ, suc, ◌+◌, length}
use Rattle.paper.specs.Tree.{Draw, Dirac, Bernoulli, BernoulliVarProb, BinomialVarTrials, Binomial, Categorical, NegBinomialVarSuccesses, NegBinomial, Geometric, Poisson, PoissonVarRate, Uniform}
use Rattle.paper.specs.Tree.{Event, InSet, VarComparison, DataFromDist, Complement, Intersection, Events, none, ◌also◌}
use Rattle.paper.specs.Tree.{Addend, Nought, Times, Unroll, Default, Turns}
use Rattle.paper.specs.Tree.{Statement, Sample, Assign, Decrement, IfThenElse, While, Fail, Normalize, Statements, done, ◌then◌}

-- `add` and `has` are 0 or 1
abbrev pub flag : Bool → ℕ
flag true = 1
flag false = 0

-- draws, in the order of genfer's `Distribution`
abbrev pub draw : Draw → List ℕ
draw (Dirac numer denom) = 1 ∷ numer ∷ denom ∷ []
draw Bernoulli = 2 ∷ []
draw (BernoulliVarProb v) = 3 ∷ v ∷ []
draw (BinomialVarTrials v) = 4 ∷ v ∷ []
draw (Binomial n) = 5 ∷ n ∷ []
draw (Categorical length) = 6 ∷ length ∷ []
draw (NegBinomialVarSuccesses v) = 7 ∷ v ∷ []
draw (NegBinomial n) = 8 ∷ n ∷ []
draw Geometric = 9 ∷ []
draw Poisson = 10 ∷ []
draw (PoissonVarRate v) = 11 ∷ v ∷ []
draw (Uniform start end) = 12 ∷ start ∷ end ∷ []

-- has factor w: with `has` 0 the words it governs are 0
abbrev pub addend : Addend → List ℕ
addend Nought = 0 ∷ 0 ∷ 0 ∷ []
addend (Times factor w) = 1 ∷ factor ∷ w ∷ []

-- has unroll
abbrev pub unroll : Unroll → List ℕ
unroll Default = 0 ∷ 0 ∷ []
unroll (Turns u) = 1 ∷ u ∷ []

-- events; a list of them is its count and then the events
unfoldable mutual
  pub event : Event → List ℕ
  event (InSet v values) = 1 ∷ v ∷ length values ∷ values
  event (VarComparison v w) = 2 ∷ v ∷ w ∷ []
  event (DataFromDist value d) = 3 ∷ value ∷ draw d
  event (Complement e) = 4 ∷ event e
  event (Intersection es) = 5 ∷ count_events es ∷ events es

  pub events : Events → List ℕ
  events none = []
  events (e also es) = event e ++ events es

  pub count_events : Events → ℕ
  count_events none = 0
  count_events (e also es) = suc (count_events es)

-- statements; a list of them is its count and then the statements
unfoldable mutual
  pub statement : Statement → List ℕ
  statement (Sample v add d) = 1 ∷ v ∷ flag add ∷ draw d
  statement (Assign v add x offset) = (2 ∷ v ∷ flag add ∷ addend x) ++ (offset ∷ [])
  statement (Decrement v offset) = 3 ∷ v ∷ offset ∷ []
  statement (IfThenElse e t f) = 4 ∷ event e ++ ((count t ∷ list t) ++ (count f ∷ list f))
  statement (While u e b) = 5 ∷ unroll u ++ (event e ++ (count b ∷ list b))
  statement Fail = 6 ∷ []
  statement (Normalize given b) = 7 ∷ length given ∷ given ++ (count b ∷ list b)

  pub list : Statements → List ℕ
  list done = []
  list (c then cs) = statement c ++ list cs

  pub count : Statements → ℕ
  count done = 0
  count (c then cs) = suc (count cs)

-- a program is a count, then that many statements
abbrev pub program : Statements → List ℕ
program p = count p ∷ list p

-- where the counts of the lists inside a statement stand, if its kind word stands at `at`
abbrev pub then_at : ℕ → Event → ℕ
then_at at e = at + 1 + length (event e)

abbrev pub else_at : ℕ → Event → Statements → ℕ
else_at at e t = then_at at e + 1 + length (list t)

abbrev pub body_at : ℕ → Event → ℕ
body_at at e = at + 3 + length (event e)

abbrev pub normalized_at : ℕ → List ℕ → ℕ
normalized_at at given = at + 2 + length given
