-- The kinds of draws, events and statements, by the word at their start.
use Rattle.std.specs.Prelude.{◌≡◌, ℕ, ◌<◌, ◌⊎◌, Option, Some, None}
use Rattle.words.specs.declared.kinds.DrawKind.{DrawKind}
use Rattle.words.specs.declared.kinds.DrawKind.TheVariants.{Dirac, Bernoulli, BernoulliVarProb, BinomialVarTrials, Binomial, Categorical, NegBinomialVarSuccesses, NegBinomial, Geometric, Poisson, PoissonVarRate, Uniform, Exponential, Gamma, UniformCont}
use Rattle.words.specs.declared.kinds.EventKind.{EventKind}
use Rattle.words.specs.declared.kinds.EventKind.TheVariants.{InSet, VarComparison, DataFromDist, Complement, Intersection}
use Rattle.words.specs.declared.kinds.StatementKind.{StatementKind}
use Rattle.words.specs.declared.kinds.StatementKind.TheVariants.{Sample, Assign, Decrement, IfThenElse, While, Fail, Normalize}

-- the word of a kind of draw
abbrev pub draw_word : DrawKind → ℕ
draw_word Dirac = 1
draw_word Bernoulli = 2
draw_word BernoulliVarProb = 3
draw_word BinomialVarTrials = 4
draw_word Binomial = 5
draw_word Categorical = 6
draw_word NegBinomialVarSuccesses = 7
draw_word NegBinomial = 8
draw_word Geometric = 9
draw_word Poisson = 10
draw_word PoissonVarRate = 11
draw_word Uniform = 12
draw_word Exponential = 13
draw_word Gamma = 14
draw_word UniformCont = 15

-- the kind whose word it is, or none
abbrev pub SaysDraw : ℕ → Option DrawKind → Type 0
SaysDraw word (Some kind) = word ≡ draw_word kind
SaysDraw word None = (word ≡ 0) ⊎ (15 < word)

-- the word of a kind of event
abbrev pub event_word : EventKind → ℕ
event_word InSet = 1
event_word VarComparison = 2
event_word DataFromDist = 3
event_word Complement = 4
event_word Intersection = 5

-- the kind whose word it is, or none
abbrev pub SaysEvent : ℕ → Option EventKind → Type 0
SaysEvent word (Some kind) = word ≡ event_word kind
SaysEvent word None = (word ≡ 0) ⊎ (5 < word)

-- the word of a kind of statement
abbrev pub statement_word : StatementKind → ℕ
statement_word Sample = 1
statement_word Assign = 2
statement_word Decrement = 3
statement_word IfThenElse = 4
statement_word While = 5
statement_word Fail = 6
statement_word Normalize = 7

-- the kind whose word it is, or none
abbrev pub SaysStatement : ℕ → Option StatementKind → Type 0
SaysStatement word (Some kind) = word ≡ statement_word kind
SaysStatement word None = (word ≡ 0) ⊎ (7 < word)
