-- What the rules say of a draw and of an event by the words of its code, and of a list of events one by one.
use mathlib.Core.Path.{◌≡◌, refl, sym, ap, ◌∙◌}
use mathlib.Core.Bool.{false, false≢true}
use mathlib.Core.List.{List, ◌++◌}
use Prim.Native.Nat.{ℕ, zero, suc, ◌+◌, ◌-◌, ◌<◌, ◌≤◌}
use native.Mathlib.Nat.{suc-add}
use native.Mathlib.Omega.{arith}
use lib.ListN.{length, get_or, drop}
use Rattle.std.specs.Prelude.{Option, Some, None}
use Rattle.ranges.specs.declared.Range.{Range}
use Rattle.std.specs.Prelude.{Ok, slice_range}
use Rattle.ranges.specs.Ranges as ranges
use Rattle.states.specs.Answers.{Answer, Gives, Refuses, and_then}
use Rattle.states.specs.declared.State.{State}
use Rattle.states.specs.declared.State.TheVariants as state
use Rattle.states.specs.States as states
use Rattle.paper.specs.Tree.{Draw, Dirac, Bernoulli, BernoulliVarProb, BinomialVarTrials, Binomial, Categorical, NegBinomialVarSuccesses, NegBinomial, Geometric, Poisson, PoissonVarRate, Uniform}
use Rattle.paper.specs.Tree.{Event, InSet, VarComparison, DataFromDist, Complement, Intersection, Events, none, ◌also◌}
use Rattle.paper.specs.Code as code
use Rattle.paper.specs.Rules as rules
use Rattle.events.specs.Sided.{sided}
use Rattle.events.specs.declared.Sides.{Sides}
use Rattle.words.specs.Parts.{Begins, conjunction, EventWithin, EventsWithin}
use Rattle.words.proofs.Parts.{begins_whole, begins_at, begins_head, begins_left, begins_right, begins_tail, begins_ends}
use Rattle.words.proofs.Nodes.{event_some}
use Rattle.words.proofs.Bounds.{next_event_bounds}

-- ---- a draw

-- the kinds that have no end: 4, 7 to 11
pub drawn_open : {ws : List ℕ} (d : Draw) → ws ≡ code.draw d
    → (get_or ws 0 0 ≡ 1 → ⊥)
    → (get_or ws 0 0 ≡ 2 → ⊥)
    → (get_or ws 0 0 ≡ 3 → ⊥)
    → (get_or ws 0 0 ≡ 5 → ⊥)
    → (get_or ws 0 0 ≡ 6 → ⊥)
    → (get_or ws 0 0 ≡ 12 → ⊥)
    → ranges.naturals ≡ rules.drawn d
drawn_open (Dirac p q) h k1 k2 k3 k5 k6 k12 = absurd (k1 (begins_head (begins_whole h)))
drawn_open Bernoulli h k1 k2 k3 k5 k6 k12 = absurd (k2 (begins_head (begins_whole h)))
drawn_open (BernoulliVarProb v) h k1 k2 k3 k5 k6 k12 = absurd (k3 (begins_head (begins_whole h)))
drawn_open (BinomialVarTrials v) h k1 k2 k3 k5 k6 k12 = refl
drawn_open (Binomial n) h k1 k2 k3 k5 k6 k12 = absurd (k5 (begins_head (begins_whole h)))
drawn_open (Categorical n) h k1 k2 k3 k5 k6 k12 = absurd (k6 (begins_head (begins_whole h)))
drawn_open (NegBinomialVarSuccesses v) h k1 k2 k3 k5 k6 k12 = refl
drawn_open (NegBinomial n) h k1 k2 k3 k5 k6 k12 = refl
drawn_open Geometric h k1 k2 k3 k5 k6 k12 = refl
drawn_open Poisson h k1 k2 k3 k5 k6 k12 = refl
drawn_open (PoissonVarRate v) h k1 k2 k3 k5 k6 k12 = refl
drawn_open (Uniform a b) h k1 k2 k3 k5 k6 k12 = absurd (k12 (begins_head (begins_whole h)))

-- ---- an event, whose kind is its first word

-- the event in a complement
abbrev pub inner : Event → Event
inner (Complement e) = e
inner e = e

-- the events in an intersection
abbrev pub inner_events : Event → Events
inner_events (Intersection es) = es
inner_events e = none

pub complement_words : (e : Event) → get_or (code.event e) 0 0 ≡ 4 → drop 1 (code.event e) ≡ code.event (inner e)
unfolding code.event
complement_words (Complement e) k = refl
complement_words (InSet v values) k = absurd (omega arith)
complement_words (VarComparison v w) k = absurd (omega arith)
complement_words (DataFromDist x d) k = absurd (omega arith)
complement_words (Intersection es) k = absurd (omega arith)

pub intersection_words : (e : Event) → get_or (code.event e) 0 0 ≡ 5 → drop 1 (code.event e) ≡ conjunction (inner_events e)
unfolding code.event
intersection_words (Intersection es) k = refl
intersection_words (InSet v values) k = absurd (omega arith)
intersection_words (VarComparison v w) k = absurd (omega arith)
intersection_words (DataFromDist x d) k = absurd (omega arith)
intersection_words (Complement e) k = absurd (omega arith)

module _ (g : rules.Setting) (at : ℕ) where
  pub set_rule :
      (e : Event) (s : State) → get_or (code.event e) 0 0 ≡ 1 →
      rules.event g at e s ≡ rules.cut at s (get_or (code.event e) 1 0) (drop 3 (code.event e)) (ranges.remove (states.get s (get_or (code.event e) 1 0)) (drop 3 (code.event e)))
  unfolding rules.event code.event
  set_rule (InSet v values) s k = refl
  set_rule (VarComparison v w) s k = absurd (omega arith)
  set_rule (DataFromDist x d) s k = absurd (omega arith)
  set_rule (Complement e) s k = absurd (omega arith)
  set_rule (Intersection es) s k = absurd (omega arith)

  -- of an empty state, that state twice
  pub set_none : (e : Event) (s : State) → get_or (code.event e) 0 0 ≡ 1 → states.is_live s ≡ false → rules.event g at e s ≡ Gives (record { yes = s; no = s })
  set_none e (state.Live cells) k dead = absurd (false≢true (sym dead))
  set_none e state.Empty k dead = set_rule e state.Empty k ∙ by (ranges.remove (states.get state.Empty (get_or (code.event e) 1 0)) (drop 3 (code.event e)))
    where
      by : (left : Option Range) → rules.cut at state.Empty (get_or (code.event e) 1 0) (drop 3 (code.event e)) left ≡ Gives (record { yes = state.Empty; no = state.Empty })
      by (Some r) = refl
      by None = refl

  pub complement_rule :
      (e : Event) (s : State) → get_or (code.event e) 0 0 ≡ 4 →
      rules.event g at e s ≡ and_then (rules.event g (at + 1) (inner e) s) (λ t. Gives (rules.exchanged t))
  unfolding rules.event code.event
  complement_rule (Complement e) s k = refl
  complement_rule (InSet v values) s k = absurd (omega arith)
  complement_rule (VarComparison v w) s k = absurd (omega arith)
  complement_rule (DataFromDist x d) s k = absurd (omega arith)
  complement_rule (Intersection es) s k = absurd (omega arith)

  -- its events begin two places on
  pub intersection_rule :
      (e : Event) (s : State) → get_or (code.event e) 0 0 ≡ 5 →
      rules.event g at e s ≡ rules.events g (at + 1 + 1) (inner_events e) (record { yes = s; no = states.empty })
  unfolding rules.event code.event
  intersection_rule (Intersection es) s k = let two : at + 2 ≡ at + 1 + 1 = omega arith in rw two
  intersection_rule (InSet v values) s k = absurd (omega arith)
  intersection_rule (VarComparison v w) s k = absurd (omega arith)
  intersection_rule (DataFromDist x d) s k = absurd (omega arith)
  intersection_rule (Complement e) s k = absurd (omega arith)

  -- kinds 2 and 3
  pub same_rule :
      (e : Event) (s : State) → (get_or (code.event e) 0 0 ≡ 1 → ⊥) → (get_or (code.event e) 0 0 ≡ 4 → ⊥) → (get_or (code.event e) 0 0 ≡ 5 → ⊥) →
      rules.event g at e s ≡ Gives (record { yes = s; no = s })
  unfolding rules.event code.event
  same_rule (InSet v values) s k1 k4 k5 = absurd (k1 refl)
  same_rule (VarComparison v w) s k1 k4 k5 = refl
  same_rule (DataFromDist x d) s k1 k4 k5 = refl
  same_rule (Complement e) s k1 k4 k5 = absurd (k4 refl)
  same_rule (Intersection es) s k1 k4 k5 = absurd (k5 refl)

pub ruleset of_event = (complement_words, intersection_words, set_rule, complement_rule, intersection_rule, same_rule)

-- ---- a list of events, one by one

-- what is left after k of them, and the next of them
abbrev pub after : ℕ → Events → Events
after zero es = es
after (suc k) none = none
after (suc k) (e also es) = after k es

abbrev pub next : ℕ → Events → Event
next zero (e also es) = e
next (suc k) (e also es) = next k es
next k none = VarComparison 0 0

after_words : (k : ℕ) (es : Events) → k < code.count_events es → code.events (after k es) ≡ code.event (next k es) ++ code.events (after (k + 1) es)
unfolding code.event
after_words k none more = absurd (omega arith)
after_words zero (e also es) more = refl
after_words (suc k) (e also es) more = rw suc-add (after_words k es (omega arith))

pub next_within : {n : ℕ} (k : ℕ) (es : Events) → EventsWithin n es → k < code.count_events es → EventWithin n (next k es)
unfolding code.event
next_within k none w more = absurd (omega arith)
next_within zero (e also es) w more = (next_event_bounds refl w).0
next_within (suc k) (e also es) w more = next_within k es (next_event_bounds refl w).1 (omega arith)

pub first_is : {ws : List ℕ} (es : Events) → ws ≡ conjunction es → Begins ws 1 (code.events (after 0 es))
first_is es h = begins_tail (begins_whole h)

module _ {ws : List ℕ} {at : ℕ} (k : ℕ) (es : Events) (more : k < code.count_events es) (h : Begins ws at (code.events (after k es))) where
  pub next_is : Begins ws at (code.event (next k es))
  next_is = begins_left (code.event (next k es)) (code.events (after (k + 1) es)) (rw (after_words k es more) at h)

  pub after_is : {end : ℕ} → end ≡ at + length (code.event (next k es)) → Begins ws end (code.events (after (k + 1) es))
  after_is e = begins_at (sym e) (begins_right (code.event (next k es)) (code.events (after (k + 1) es)) (rw (after_words k es more) at h))

-- on with the true side of the next, and its false side joined
pub next_rule :
    (g : rules.Setting) (at k : ℕ) (es : Events) (t : rules.Sides) → k < code.count_events es →
    rules.events g at (after k es) t
    ≡ and_then (rules.event g at (next k es) t.yes) (λ u. rules.events g (at + length (code.event (next k es))) (after (k + 1) es) (record { yes = u.yes; no = states.join g.n t.no u.no }))
unfolding rules.event code.event
next_rule g at k none t more = absurd (omega arith)
next_rule g at zero (e also es) t more = refl
next_rule g at (suc k) (e also es) t more = rw suc-add (next_rule g at k es t (omega arith))

pub end_rule : (g : rules.Setting) (at k : ℕ) (es : Events) (t : rules.Sides) → code.count_events es ≤ k → rules.events g at (after k es) t ≡ Gives t
unfolding rules.event code.event
end_rule g at zero none t over = refl
end_rule g at (suc k) none t over = refl
end_rule g at zero (e also es) t over = absurd (omega arith)
end_rule g at (suc k) (e also es) t over = end_rule g at k es t (omega arith)

-- what a turn over the next of them knows: where it ends, its words, what is left behind it, and that the rules go on from there with its sides
pub record OneMore (ws : List ℕ) (es : Events) (k at end : ℕ) : Type 0 where
  pub few : k < code.count_events es
  pub long : end ≡ at + length (code.event (next k es))
  pub some : at < end
  pub ends : end ≤ length ws
  pub words : slice_range ws at end ≡ code.event (next k es)
  pub left : Begins ws end (code.events (after (k + 1) es))
  pub on :
      (g : rules.Setting) (base : ℕ) (t : rules.Sides) {z : Sides} → Ok z ≡ sided (rules.event g (base + at) (next k es) t.yes) →
      rules.events g (base + at) (after k es) t ≡ rules.events g (base + end) (after (k + 1) es) (record { yes = z.yes; no = states.join g.n t.no z.no })

module _ {ws : List ℕ} (es : Events) (whole : ws ≡ conjunction es) (k at : ℕ) (more : k < get_or ws 0 0) (left : Begins ws at (code.events (after k es))) where
  more_of : k < code.count_events es
  more_of = omega (arith, ap (λ (l : List ℕ). get_or l 0 0) whole)

  pub here : Begins ws at (code.event (next k es))
  here = next_is k es more_of left

  pub one_more : (end : ℕ) → ((e : Event) → Begins ws at (code.event e) → end ≡ at + length (code.event e)) → OneMore ws es k at end
  one_more end is =
      let long : end ≡ at + length (code.event (next k es)) = is (next k es) here in
      let cut : end - at ≡ length (code.event (next k es)) = omega (arith, long) in
      record {
        few = more_of;
        long = long;
        some = omega (arith, long, event_some (next k es));
        ends = omega (arith, long, begins_ends here (event_some (next k es)));
        words = rw cut here.taken;
        left = after_is k es more_of left long;
        on = λ g base t {z} split.
            let place : base + at + length (code.event (next k es)) ≡ base + end = omega (arith, long) in
            next_rule g (base + at) k es t more_of ∙ rw (gives (rules.event g (base + at) (next k es) t.yes) split, place) refl;
      }
    where
      gives : (a : Answer rules.Sides) {z : Sides} → Ok z ≡ sided a → a ≡ Gives (record { yes = z.yes; no = z.no })
      gives (Gives u) {z} e = let same : z ≡ record { yes = u.yes; no = u.no } = cc in rw same refl
      gives (Refuses number place) e = absurd cc

pub ruleset of_events = (begins_ends, event_some, next_within, first_is, next_is, after_is, next_rule, end_rule)
