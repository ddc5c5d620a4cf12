-- The sides of an event are the same under any unroll.
use mathlib.Core.Path.{◌≡◌, refl, ap, ◌∙◌}
use Prim.Native.Nat.{ℕ, ◌+◌}
use lib.ListN.{length}
use Rattle.states.specs.Answers.{Answer, Gives, Refuses, and_then}
use Rattle.states.specs.declared.State.{State}
use Rattle.states.specs.States as states
use Rattle.paper.specs.Tree.{Event, InSet, VarComparison, DataFromDist, Complement, Intersection, Events, none, ◌also◌}
use Rattle.paper.specs.Code as code
use Rattle.paper.specs.Rules as rules
use Rattle.paper.specs.Rules.{Setting, Sides}

module _ (g h : Setting) (same : g.n ≡ h.n) where
  mutual
    unfolding rules.event rules.events

    pub event_unroll : (at : ℕ) (e : Event) (s : State) → rules.event g at e s ≡ rules.event h at e s
    event_unroll at (InSet v values) s = refl
    event_unroll at (VarComparison v w) s = refl
    event_unroll at (DataFromDist value d) s = refl
    event_unroll at (Complement e) s = ap (λ (a : Answer Sides). and_then a (λ t. Gives (rules.exchanged t))) (event_unroll (at + 1) e s)
    event_unroll at (Intersection es) s = events_unroll (at + 2) es (record { yes = s; no = states.empty })

    pub events_unroll : (at : ℕ) (es : Events) (t : Sides) → rules.events g at es t ≡ rules.events h at es t
    events_unroll at none t = refl
    events_unroll at (e also es) t =
        ap (λ (a : Answer Sides). and_then a (λ u. rules.events g (at + length (code.event e)) es (record { yes = u.yes; no = states.join g.n t.no u.no }))) (event_unroll at e t.yes)
        ∙ on (rules.event h at e t.yes) (λ w. events_unroll (at + length (code.event e)) es w)
      where
        on : (a : Answer Sides) → ((w : Sides) → rules.events g (at + length (code.event e)) es w ≡ rules.events h (at + length (code.event e)) es w) →
            and_then a (λ u. rules.events g (at + length (code.event e)) es (record { yes = u.yes; no = states.join g.n t.no u.no })) ≡
            and_then a (λ u. rules.events h (at + length (code.event e)) es (record { yes = u.yes; no = states.join h.n t.no u.no }))
        on (Gives u) rest =
            rest (record { yes = u.yes; no = states.join g.n t.no u.no })
            ∙ ap (λ (n : ℕ). rules.events h (at + length (code.event e)) es (record { yes = u.yes; no = states.join n t.no u.no })) same
        on (Refuses number place) rest = refl
