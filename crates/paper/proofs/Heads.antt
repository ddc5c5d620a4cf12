-- A loop's analysis looks at its pass at the heads alone, a normalize at its body at the points alone.
use Rattle.std.specs.Prelude.{Some, None}
use mathlib.Core.Path.{◌≡◌, refl, ap, ◌∙◌}
use mathlib.Core.Bool.{Bool, true, false}
use mathlib.Core.List.{List, [], ◌∷◌}
use Prim.Native.Nat.{ℕ, zero, suc, ◌+◌, ◌-◌}
use lib.Dec.{ltb}
use Rattle.ranges.specs.declared.Range.{Range}
use Rattle.ranges.specs.declared.Range.TheVariants.{Empty, Span}
use Rattle.ranges.specs.Ranges as ranges
use Rattle.states.specs.declared.State.{State}
use Rattle.states.specs.Answers.{Answer, Gives, Refuses, and_then}
use Rattle.states.specs.States as states
use Rattle.paper.specs.Rules as rules
use Rattle.paper.specs.Rules.{Pass}
use Rattle.paper.specs.Visits.{Head, first, next, joined, widened, Point, all_set, set_to}
use Rattle.states.proofs.Sure.{Sure, given, sure_by, sure_elim, sure_of}

-- ---- the heads and the points

and_same : {A B : Type 0} (a : Answer A) {f g : A → Answer B} → ((x : A) → a ≡ Gives x → f x ≡ g x) → and_then a f ≡ and_then a g
and_same (Gives x) h = h x refl
and_same (Refuses k at) h = refl

-- two answers that agree, and what is done with them
and_both : {A B : Type 0} {a b : Answer A} {f g : A → Answer B} → a ≡ b → ((x : A) → a ≡ Gives x → f x ≡ g x) → and_then a f ≡ and_then b g
and_both {A} {a = a} {g = g} q h = and_same a h ∙ ap (λ (a : Answer A). and_then a g) q

elim_same : {A : Type 0} (b : Bool) {x y z w : A} → x ≡ z → y ≡ w → ◌≡◌ {A = A} (elim b [ true ↦ x | false ↦ y ]) (elim b [ true ↦ z | false ↦ w ])
elim_same true p q = p
elim_same false p q = q

module _ (n : ℕ) (pass other : State → Answer Pass) (exit : State → Answer State) (s : State) (agree : (h : State) → Head n pass s h → pass h ≡ other h) where
  search_heads : (k i : ℕ) (h : State) → Head n pass s h → rules.search n pass exit k i h ≡ rules.search n other exit k i h
  unfolding rules.search
  search_heads zero i h H = refl
  search_heads (suc k) i h H = and_both (agree h H) (λ p q. elim_same (states.same n h p.next) refl (search_heads k (i + 1) p.next (next H q)))

  unrolled_heads : (k : ℕ) (t : Pass) → Head n pass s t.next → rules.unrolled n pass exit k t ≡ rules.unrolled n other exit k t
  unfolding rules.unrolled
  unrolled_heads zero t H = refl
  unrolled_heads (suc k) t H = and_both (agree t.next H) (λ p q. unrolled_heads k _ (next H q))

  -- and the state where the unrolled passes end is one
  unrolled_head : (k : ℕ) (t : Pass) → Head n pass s t.next → Sure (λ u. Head n pass s u.next) (rules.unrolled n pass exit k t)
  unfolding rules.unrolled
  unrolled_head zero t H = given H
  unrolled_head (suc k) t H = sure_by (pass t.next) (λ p q. unrolled_head k _ (next H q))

  -- by joining or by widening
  module _ (grow : State → State → State) (grown : (h : State) (p : Pass) → Head n pass s h → pass h ≡ Gives p → Head n pass s (grow h p.next)) where
    growing_heads : (k i : ℕ) (h : State) → Head n pass s h → rules.growing n pass exit grow k i h ≡ rules.growing n other exit grow k i h
    unfolding rules.growing
    growing_heads zero i h H = refl
    growing_heads (suc k) i h H = and_both (agree h H) (λ p q. elim_same (states.within n p.next h) refl (growing_heads k (i + 1) (grow h p.next) (grown h p H q)))

    growing_head : (k i : ℕ) (h : State) → Head n pass s h → Sure (λ j. Head n pass s j.at) (rules.growing n pass exit grow k i h)
    unfolding rules.growing
    growing_head zero i h H = given H
    growing_head (suc k) i h H = sure_by (pass h) (λ p q. sure_elim (states.within n p.next h) (λ _. given H) (λ _. growing_head k (i + 1) (grow h p.next) (grown h p H q)))

  settle_heads : (h : State) → Head n pass s h → rules.settle n pass exit h ≡ rules.settle n other exit h
  unfolding rules.settle
  settle_heads h H = and_both (growing_heads (states.join n) (λ h p. joined) 100 0 h H) (λ j q. elim_same j.settled refl
      (and_both (growing_heads (states.widen n) (λ h p. widened) (n + n + 1) 0 j.at (sure_of (growing_head (states.join n) (λ h p. joined) 100 0 h H) q)) (λ w r. refl)))

  loop_heads : (u : ℕ) → rules.loop n pass exit u s ≡ rules.loop n other exit u s
  unfolding rules.loop
  loop_heads u = and_both (search_heads 100 0 s first) (λ f q.
      and_both (unrolled_heads (rules.unroll_passes u f) (record { next = s; exit = states.empty }) first) (λ t r.
      and_both (settle_heads t.next (sure_of (unrolled_head (rules.unroll_passes u f) (record { next = s; exit = states.empty }) first) r)) (λ m w. refl)))

-- a loop's analysis looks at its pass at the heads alone
pub heads : (n : ℕ) (pass other : State → Answer Pass) (exit : State → Answer State) (u : ℕ) (s : State) → ((h : State) → Head n pass s h → pass h ≡ other h) →
    rules.loop n pass exit u s ≡ rules.loop n other exit u s
heads n pass other exit u s agree = loop_heads n pass other exit s agree u

module _ (n : ℕ) (body other : State → Answer State) where
  enumerated_points : (rest rest' : State → Answer State) (v : ℕ) (s : State) → ((x : ℕ) → rest (states.put s v (ranges.point x)) ≡ rest' (states.put s v (ranges.point x))) →
      (k x : ℕ) (acc : State) → rules.enumerated n body rest v s k x acc ≡ rules.enumerated n other rest' v s k x acc
  unfolding rules.enumerated
  enumerated_points rest rest' v s agree zero x acc = refl
  enumerated_points rest rest' v s agree (suc k) x acc = and_both (agree x) (λ t q. enumerated_points rest rest' v s agree k (x + 1) (states.join n acc t))

  values_points : (rest rest' : State → Answer State) (at v : ℕ) (s : State) (r : Range) → ((x : ℕ) → rest (states.put s v (ranges.point x)) ≡ rest' (states.put s v (ranges.point x))) →
      rules.values n body rest at v s r ≡ rules.values n other rest' at v s r
  values_points rest rest' at v s Empty agree = refl
  values_points rest rest' at v s (Span a None) agree = refl
  values_points rest rest' at v s (Span a (Some b)) agree = elim_same (ltb 4096 (b - a + 1)) refl (enumerated_points rest rest' v s agree (b - a + 1) a states.empty)

  normalized_points : (vs : List ℕ) (at : ℕ) (s : State) → ((h : State) → Point vs s h → body h ≡ other h) → rules.normalized n body at vs s ≡ rules.normalized n other at vs s
  unfolding rules.normalized
  normalized_points [] at s agree = agree s all_set
  normalized_points (v ∷ vs) at s agree = elim_same (states.is_live s)
      (values_points (rules.normalized n body (at + 1) vs) (rules.normalized n other (at + 1) vs) at v s (states.get s v)
      (λ x. normalized_points vs (at + 1) (states.put s v (ranges.point x)) (λ h P. agree h (set_to x P))))
      refl

-- a normalize looks at its body at the points alone
pub points : (n : ℕ) (body other : State → Answer State) (at : ℕ) (vs : List ℕ) (s : State) → ((h : State) → Point vs s h → body h ≡ other h) →
    rules.normalized n body at vs s ≡ rules.normalized n other at vs s
points n body other at vs s agree = normalized_points n body other vs at s agree
