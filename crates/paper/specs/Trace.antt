-- Which lists the analysis enters with a state that is not empty: then-lists, else-lists and loop bodies, each by the place of its count.
-- By recursion on the same trees as the rules; in the order of the work, up to a refusal; a list may be named more than once.
use Rattle.std.specs.Prelude.{Some, None, true, false, cond, List, [], ◌∷◌, ◌++◌, ℕ, zero, suc, ◌+◌, ◌-◌, ltb, length, set}
use Rattle.ranges.specs.declared.Range.{Range}
use Rattle.ranges.specs.declared.Range.TheVariants.{Empty, Span}
use Rattle.ranges.specs.Ranges as ranges
use Rattle.states.specs.declared.State.{State}
use Rattle.states.specs.Answers.{Answer, Gives, Refuses}
use Rattle.states.specs.States as states
use Rattle.paper.specs.Code as code
use Rattle.paper.specs.Rules as rules
use Rattle.paper.specs.Rules.{Setting, Pass}
use Rattle.paper.specs.Tree.{Statement, Sample, Assign, Decrement, IfThenElse, While, Fail, Normalize, Statements, done, ◌then◌}

-- what is entered after an answer; after a refusal, nothing
abbrev pub after : {A : Type 0} → Answer A → (A → List ℕ) → List ℕ
after (Gives a) f = f a
after (Refuses number place) f = []

-- the list whose count stands at a place is gone over from a state
abbrev pub entering : ℕ → State → List ℕ
entering at s = cond (states.is_live s) (at ∷ []) []

-- a loop over n variables, by its pass and by the lists that a pass from a state enters
module _ (n : ℕ) (pass : State → Answer Pass) (passed : State → List ℕ) where
  unfoldable pub search : ℕ → State → List ℕ
  search zero s = []
  search (suc k) s =
      passed s
      ++ after (pass s) (λ p. elim (states.same n s p.next) [ true ↦ [] | false ↦ search k p.next ])

  unfoldable pub unrolled : ℕ → State → List ℕ
  unrolled zero s = []
  unrolled (suc k) s = passed s ++ after (pass s) (λ p. unrolled k p.next)

  unfoldable pub growing : (State → State → State) → ℕ → State → List ℕ
  growing grow zero s = []
  growing grow (suc k) s =
      passed s
      ++ after (pass s) (λ p. elim (states.within n p.next s) [ true ↦ [] | false ↦ growing grow k (grow s p.next) ])

  module _ (exit : State → Answer State) where
    unfoldable pub settle : State → List ℕ
    settle s =
        growing (states.join n) 100 s
        ++ after (rules.growing n pass exit (states.join n) 100 0 s) (λ j.
        elim j.settled [ true ↦ [] | false ↦ growing (states.widen n) (n + n + 1) j.at ])

    unfoldable pub loop : ℕ → State → List ℕ
    loop u s =
        search 100 s
        ++ after (rules.search n pass exit 100 0 s) (λ f.
        unrolled (rules.unroll_passes u f) s
        ++ after (rules.unrolled n pass exit (rules.unroll_passes u f) (record { next = s; exit = states.empty })) (λ t.
        settle t.next))

-- a pass enters the body from the true side
abbrev pub pass_of : (State → Answer rules.Sides) → (State → List ℕ) → State → List ℕ
pass_of event body h = after (event h) (λ t. body t.yes)

-- a normalize, by what its body gives and enters
module _ (n : ℕ) (body : State → Answer State) (entered : State → List ℕ) where
  unfoldable pub enumerated : (State → Answer State) → (State → List ℕ) → ℕ → State → ℕ → ℕ → List ℕ
  enumerated rest entered_by_rest v s zero x = []
  enumerated rest entered_by_rest v s (suc k) x =
      entered_by_rest (states.put s v (ranges.point x))
      ++ after (rest (states.put s v (ranges.point x))) (λ _. enumerated rest entered_by_rest v s k (x + 1))

  abbrev pub values : (State → Answer State) → (State → List ℕ) → ℕ → State → Range → List ℕ
  values rest entered_by_rest v s Empty = []
  values rest entered_by_rest v s (Span start None) = []
  values rest entered_by_rest v s (Span start (Some end)) =
      elim (ltb 4096 (end - start + 1)) [ true ↦ [] | false ↦ enumerated rest entered_by_rest v s (end - start + 1) start ]

  unfoldable pub normalized : ℕ → List ℕ → State → List ℕ
  normalized at [] s = entered s
  normalized at (v ∷ vs) s =
      elim (states.is_live s) [
        | true ↦ values (rules.normalized n body (at + 1) vs) (normalized (at + 1) vs) v s (states.get s v)
        | false ↦ []
      ]

unfoldable mutual
  pub statement : Setting → ℕ → Statement → State → List ℕ
  statement g at (Sample v add d) s = []
  statement g at (Assign v add x offset) s = []
  statement g at (Decrement v offset) s = []
  statement g at (IfThenElse e t f) s =
      after (rules.event g (at + 1) e s) (λ u.
      (entering (code.then_at at e) u.yes ++ list g (code.then_at at e + 1) t u.yes)
      ++ after (rules.list g (code.then_at at e + 1) t u.yes) (λ _.
      entering (code.else_at at e t) u.no ++ list g (code.else_at at e t + 1) f u.no))
  statement g at (While u e b) s =
      loop g.n
      (rules.pass_of (λ h. rules.event g (at + 3) e h) (λ h. rules.list g (code.body_at at e + 1) b h))
      (pass_of (λ h. rules.event g (at + 3) e h) (λ h. entering (code.body_at at e) h ++ list g (code.body_at at e + 1) b h))
      (rules.exit_of (λ h. rules.event g (at + 3) e h))
      (rules.turns g u)
      s
  statement g at Fail s = []
  statement g at (Normalize vs b) s =
      normalized g.n (λ h. rules.list g (code.normalized_at at vs + 1) b h) (λ h. list g (code.normalized_at at vs + 1) b h) (at + 2) vs s

  pub list : Setting → ℕ → Statements → State → List ℕ
  list g at done s = []
  list g at (c then cs) s = statement g at c s ++ after (rules.statement g at c s) (λ t. list g (at + length (code.statement c)) cs t)

-- marks, one byte a word: the byte at each place named is 1
unfoldable pub mark : List ℕ → List ℕ → List ℕ
mark [] marks = marks
mark (at ∷ places) marks = mark places (set marks at 1)
