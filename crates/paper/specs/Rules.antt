-- The rules of the analysis, on trees: document 01, "Rules of the analysis". A place is a word's index in the program.
use Rattle.std.specs.Prelude.{Option, Some, None, Bool, true, false, cond, List, [], ◌∷◌, ℕ, zero, suc, ◌+◌, ◌-◌, ◌/◌, max, ltb, length}
use Rattle.ranges.specs.declared.Range.{Range}
use Rattle.ranges.specs.declared.Range.TheVariants.{Empty, Span}
use Rattle.ranges.specs.Ranges as ranges
use Rattle.states.specs.declared.State.{State}
use Rattle.states.specs.Answers.{Answer, Gives, Refuses, and_then}
use Rattle.states.specs.States as states
use Rattle.paper.specs.Code as code
use Rattle.paper.specs.Tree.{Draw, Dirac, Bernoulli, BernoulliVarProb, BinomialVarTrials, Binomial, Categorical, NegBinomialVarSuccesses, NegBinomial, Geometric, Poisson, PoissonVarRate, Uniform}
use Rattle.paper.specs.Tree.{Event, InSet, VarComparison, DataFromDist, Complement, Intersection, Events, none, ◌also◌}
use Rattle.paper.specs.Tree.{Addend, Nought, Times, Unroll, Default, Turns}
use Rattle.paper.specs.Tree.{Statement, Sample, Assign, Decrement, IfThenElse, While, Fail, Normalize, Statements, done, ◌then◌}

-- the caller's: how many variables, and the unroll of a loop that has none of its own
pub record Setting : Type 0 where
  pub n : ℕ
  pub unroll : ℕ

-- ---- draws

-- from a start below an end; an empty interval is Empty
abbrev pub below : ℕ → ℕ → Range
below start end = cond (ltb start end) (Span start (Some (end - 1))) Empty

-- 1 the integer point; 2, 3 [0,1]; 5 [0,n]; 6 from 0 below the length; 12 from start below end; 4, 7 to 11 [0,–)
abbrev pub drawn : Draw → Range
drawn (Dirac numer denom) = ranges.point (numer / denom)
drawn Bernoulli = Span 0 (Some 1)
drawn (BernoulliVarProb v) = Span 0 (Some 1)
drawn (BinomialVarTrials v) = ranges.naturals
drawn (Binomial n) = Span 0 (Some n)
drawn (Categorical length) = below 0 length
drawn (NegBinomialVarSuccesses v) = ranges.naturals
drawn (NegBinomial n) = ranges.naturals
drawn Geometric = ranges.naturals
drawn Poisson = ranges.naturals
drawn (PoissonVarRate v) = ranges.naturals
drawn (Uniform start end) = below start end

-- ---- events

-- the true and the false side of an event
pub record Sides : Type 0 where
  pub yes : State
  pub no : State

-- event 1 gives retain and remove; a removal over the top is 8 at the event, unless the state is empty
abbrev pub cut : ℕ → State → ℕ → List ℕ → Option Range → Answer Sides
cut at s v values (Some removed) = Gives (record { yes = states.put s v (ranges.retain (states.get s v) values); no = states.put s v removed })
cut at s v values None = cond (states.is_live s) (Refuses 8 at) (Gives (record { yes = s; no = s }))

-- event 4 exchanges the sides
abbrev pub exchanged : Sides → Sides
exchanged t = record { yes = t.no; no = t.yes }

-- events 2 and 3 give the state twice
unfoldable mutual
  pub event : Setting → ℕ → Event → State → Answer Sides
  event g at (InSet v values) s = cut at s v values (ranges.remove (states.get s v) values)
  event g at (VarComparison v w) s = Gives (record { yes = s; no = s })
  event g at (DataFromDist value d) s = Gives (record { yes = s; no = s })
  event g at (Complement e) s = and_then (event g (at + 1) e s) (λ t. Gives (exchanged t))
  event g at (Intersection es) s = events g (at + 2) es (record { yes = s; no = states.empty })

  -- event 5 goes on with the true side and joins all false sides, starting from empty
  pub events : Setting → ℕ → Events → Sides → Answer Sides
  events g at none t = Gives t
  events g at (e also es) t =
      and_then (event g at e t.yes) (λ u.
      events g (at + length (code.event e)) es (record { yes = u.yes; no = states.join g.n t.no u.no }))

-- ---- loops

-- one pass over a loop, from the state at its head: the new state there, and the exit
pub record Pass : Type 0 where
  pub next : State
  pub exit : State

-- the index of the pass at which the search stopped, or none found
pub data Found : Type 0 where
  AtPass : ℕ → Found
  Nowhere : Found

-- a state that a stage came to after so many passes, settled or not
pub record Settling : Type 0 where
  pub settled : Bool
  pub at : State
  pub passes : ℕ

-- the state that joining and widening settle on, and how many passes each took
pub record Settled : Type 0 where
  pub at : State
  pub joined : ℕ
  pub widened : ℕ

-- what the analysis of a loop gives: its result, the state after the unrolled turns, the settled state, and the four counts of passes
pub record Looped : Type 0 where
  pub exits : State
  pub turned : State
  pub settled : State
  pub searched : ℕ
  pub unrolls : ℕ
  pub joined : ℕ
  pub widened : ℕ

-- a search that stops at index i has made i + 1 passes
abbrev pub search_passes : Found → ℕ
search_passes (AtPass i) = i + 1
search_passes Nowhere = 100

-- max(U, i) passes, U if none found
abbrev pub unroll_passes : ℕ → Found → ℕ
unroll_passes u (AtPass i) = max u i
unroll_passes u Nowhere = u

-- a loop over n variables, by its pass, and by what leaves it from a state at its head
module _ (n : ℕ) (pass : State → Answer Pass) (exit : State → Answer State) where
  -- search: stop at the first index, from i, whose new state equals the old; up to k passes
  unfoldable pub search : ℕ → ℕ → State → Answer Found
  search zero i s = Gives Nowhere
  search (suc k) i s =
      and_then (pass s) (λ p.
      elim (states.same n s p.next) [ true ↦ Gives (AtPass i) | false ↦ search k (i + 1) p.next ])

  -- k unrolled passes, joining exits
  unfoldable pub unrolled : ℕ → Pass → Answer Pass
  unrolled zero t = Gives t
  unrolled (suc k) t =
      and_then (pass t.next) (λ p. unrolled k (record { next = p.next; exit = states.join n t.exit p.exit }))

  -- up to k passes by which a state grows: stop if new lies within old, else old grows by new; i passes went before
  unfoldable pub growing : (State → State → State) → ℕ → ℕ → State → Answer Settling
  growing grow zero i s = Gives (record { settled = false; at = s; passes = i })
  growing grow (suc k) i s =
      and_then (pass s) (λ p.
      elim (states.within n p.next s) [
        | true ↦ Gives (record { settled = true; at = s; passes = i + 1 })
        | false ↦ growing grow k (i + 1) (grow s p.next)
      ])

  -- up to 100 joining passes; then, where they did not settle, widening passes, of which 2n + 1 always do
  unfoldable pub settle : State → Answer Settled
  settle s =
      and_then (growing (states.join n) 100 0 s) (λ j.
      elim j.settled [
        | true ↦ Gives (record { at = j.at; joined = j.passes; widened = 0 })
        | false ↦
            and_then (growing (states.widen n) (n + n + 1) 0 j.at) (λ w.
            Gives (record { at = w.at; joined = j.passes; widened = w.passes }))
      ])

  -- search up to 100 passes; go the unrolled passes; settle; the result is the joined exits with the settled state's exit
  unfoldable pub loop : ℕ → State → Answer Looped
  loop u s =
      and_then (search 100 0 s) (λ f.
      and_then (unrolled (unroll_passes u f) (record { next = s; exit = states.empty })) (λ t.
      and_then (settle t.next) (λ m.
      and_then (exit m.at) (λ x.
      Gives (record {
        exits = states.join n t.exit x;
        turned = t.next;
        settled = m.at;
        searched = search_passes f;
        unrolls = unroll_passes u f;
        joined = m.joined;
        widened = m.widened;
      })))))

-- a pass splits by the event; the body over the true side is the new state, the false side the exit
abbrev pub pass_of : (State → Answer Sides) → (State → Answer State) → State → Answer Pass
pass_of event body h = and_then (event h) (λ t. and_then (body t.yes) (λ b. Gives (record { next = b; exit = t.no })))

-- what leaves a loop from a state at its head
abbrev pub exit_of : (State → Answer Sides) → State → Answer State
exit_of event h = and_then (event h) (λ t. Gives t.no)

abbrev pub looping : ℕ → (State → Answer Sides) → (State → Answer State) → ℕ → State → Answer Looped
looping n event body u s = loop n (pass_of event body) (exit_of event) u s

-- U is its unroll, else the default given by the caller
abbrev pub turns : Setting → Unroll → ℕ
turns g Default = g.unroll
turns g (Turns u) = u

-- ---- normalize

module _ (n : ℕ) (body : State → Answer State) where
  -- k values from x on, each set as a point in turn, the rest enumerated, the results joined
  unfoldable pub enumerated : (State → Answer State) → ℕ → State → ℕ → ℕ → State → Answer State
  enumerated rest v s zero x joined = Gives joined
  enumerated rest v s (suc k) x joined =
      and_then (rest (states.put s v (ranges.point x))) (λ t. enumerated rest v s k (x + 1) (states.join n joined t))

  -- 9: no finite range; 10: more than 4,096 values; else each value, joined from empty
  abbrev pub values : (State → Answer State) → ℕ → ℕ → State → Range → Answer State
  values rest at v s Empty = Refuses 9 at
  values rest at v s (Span start None) = Refuses 9 at
  values rest at v s (Span start (Some end)) =
      elim (ltb 4096 (end - start + 1)) [ true ↦ Refuses 10 at | false ↦ enumerated rest v s (end - start + 1) start states.empty ]

  -- the given variables are peeled off one at a time; with none left, the body; an empty state counts as unbounded
  unfoldable pub normalized : ℕ → List ℕ → State → Answer State
  normalized at [] s = body s
  normalized at (v ∷ vs) s =
      elim (states.is_live s) [ true ↦ values (normalized (at + 1) vs) at v s (states.get s v) | false ↦ Refuses 9 at ]

-- ---- statements

-- factor times the old range of w
abbrev pub scaled : State → Addend → Option Range
scaled s Nought = Some (ranges.point 0)
scaled s (Times factor w) = ranges.times (states.get s w) factor

-- what a draw or an assign begins with: the old range if `add`, else [0,0]
abbrev pub old : State → ℕ → Bool → Range
old s v add = cond add (states.get s v) (ranges.point 0)

-- the old range if `add`, else [0,0], with the product and the offset; a product over the top is 8 at the assign, unless the state is empty
abbrev pub assigned : ℕ → State → ℕ → Bool → ℕ → Option Range → Answer State
assigned at s v add offset (Some product) = Gives (states.put s v (ranges.sum (ranges.sum (old s v add) product) (ranges.point offset)))
assigned at s v add offset None = cond (states.is_live s) (Refuses 8 at) (Gives s)

unfoldable mutual
  pub statement : Setting → ℕ → Statement → State → Answer State
  statement g at (Sample v add d) s = Gives (states.put s v (ranges.sum (old s v add) (drawn d)))
  statement g at (Assign v add x offset) s = assigned at s v add offset (scaled s x)
  statement g at (Decrement v offset) s = Gives (states.put s v (ranges.less (states.get s v) offset))
  -- if joins the two lists' results
  statement g at (IfThenElse e t f) s =
      and_then (event g (at + 1) e s) (λ u.
      and_then (list g (code.then_at at e + 1) t u.yes) (λ a.
      and_then (list g (code.else_at at e t + 1) f u.no) (λ b.
      Gives (states.join g.n a b))))
  statement g at (While u e b) s =
      and_then (looping g.n (λ h. event g (at + 3) e h) (λ h. list g (code.body_at at e + 1) b h) (turns g u) s) (λ l.
      Gives l.exits)
  -- fail gives empty
  statement g at Fail s = Gives states.empty
  statement g at (Normalize vs b) s = normalized g.n (λ h. list g (code.normalized_at at vs + 1) b h) (at + 2) vs s

  -- a list goes in order
  pub list : Setting → ℕ → Statements → State → Answer State
  list g at done s = Gives s
  list g at (c then cs) s = and_then (statement g at c s) (λ t. list g (at + length (code.statement c)) cs t)
