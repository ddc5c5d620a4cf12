-- A draw takes just the numbers of its range.
use Rattle.std.specs.Prelude.{Some}
use mathlib.Core.Path.{◌≡◌, refl}
use mathlib.Core.Bool.{Bool, true, false, cond}
use mathlib.Core.Logic.{◌↔◌}
use Prim.Native.Nat.{ℕ, ◌-◌, ◌≤◌, ◌<◌}
use native.Mathlib.Omega.{arith}
use lib.Dec.{ltb}
use borrow.Author.Tests.{ltb-true, ltb-false}
use Rattle.ranges.specs.declared.Range.TheVariants.{Empty, Span}
use Rattle.ranges.proofs.Laws as laws
use Rattle.paper.specs.Tree.{Draw, Dirac, Bernoulli, BernoulliVarProb, BinomialVarTrials, Binomial, Categorical, NegBinomialVarSuccesses, NegBinomial, Geometric, Poisson, PoissonVarRate, Uniform}
use Rattle.paper.specs.Rules as rules
use Rattle.paper.specs.Runs.{Takes, ◌∈◌}

-- from a start below an end
below_in : (start end x : ℕ) → ((start ≤ x) × (x < end)) ↔ laws.In (rules.below start end) x
below_in start end x = go (ltb start end) refl
  where
    go : (b : Bool) → ltb start end ≡ b → ((start ≤ x) × (x < end)) ↔ laws.In (cond b (Span start (Some (end - 1))) Empty) x
    go true q = let h = ltb-true start end q in (λ p. omega arith, λ p. omega arith)
    go false q = let h = ltb-false start end q in (λ p. omega arith, λ p. absurd p)

takes_in : (d : Draw) (x : ℕ) → Takes d x ↔ laws.In (rules.drawn d) x
takes_in (Dirac numer denom) x = (λ h. omega arith, λ h. omega arith)
takes_in Bernoulli x = (λ h. omega arith, λ h. h.1)
takes_in (BernoulliVarProb v) x = (λ h. omega arith, λ h. h.1)
takes_in (BinomialVarTrials v) x = (λ h. omega arith, λ h. tt)
takes_in (Binomial n) x = (λ h. omega arith, λ h. h.1)
takes_in (Categorical length) x = (λ h. (below_in 0 length x).0 (omega arith), λ h. ((below_in 0 length x).1 h).1)
takes_in (NegBinomialVarSuccesses v) x = (λ h. omega arith, λ h. tt)
takes_in (NegBinomial n) x = (λ h. omega arith, λ h. tt)
takes_in Geometric x = (λ h. omega arith, λ h. tt)
takes_in Poisson x = (λ h. omega arith, λ h. tt)
takes_in (PoissonVarRate v) x = (λ h. omega arith, λ h. tt)
takes_in (Uniform start end) x = below_in start end x

pub draws : (d : Draw) (x : ℕ) → Takes d x ↔ (x ∈ rules.drawn d)
draws d x = (λ h. laws.of_in (rules.drawn d) x ((takes_in d x).0 h), λ h. (takes_in d x).1 (laws.in_of (rules.drawn d) x h))
