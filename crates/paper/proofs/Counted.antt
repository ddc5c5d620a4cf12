-- The four counts of a loop's analysis are the number of its passes, and these are at most 201 + U + 2n, also where it refuses.
use mathlib.Core.Path.{◌≡◌, refl, sym, ap, ◌∙◌}
use mathlib.Core.Bool.{Bool, true, false, false≢true}
use mathlib.Core.List.{List, [], ◌∷◌, ◌++◌}
use Prim.Native.Nat.{ℕ, zero, suc, ◌+◌, ◌*◌, max, ◌≤◌}
use native.Mathlib.Omega.{arith}
use lib.ListN.{length, length-append}
use Rattle.states.specs.declared.State.{State}
use Rattle.states.specs.Answers.{Answer, Gives, Refuses}
use Rattle.states.specs.States as states
use Rattle.states.specs.States.{Fit}
use Rattle.paper.specs.Tree.{Event, Statements}
use Rattle.paper.specs.Rules as rules
use Rattle.paper.specs.Rules.{Pass, Found, AtPass, Nowhere, Looped}
use Rattle.paper.specs.Trace as trace
use Rattle.paper.specs.Runs.{False}
use Rattle.states.proofs.Sure.{Sure, given, sure_by, sure_elim, sure_map, sure_of}
use Rattle.paper.proofs.Splits.{Kept}
use Rattle.paper.proofs.Loops.{Passed, Still, still_within, joining_still, found_still}

-- ---- the counts

length_true : (b : Bool) (l : List ℕ) → b ≡ true → length {A = ℕ} (elim b [ true ↦ [] | false ↦ l ]) ≡ 0
length_true true l q = refl
length_true false l q = absurd (false≢true q)

length_false : (b : Bool) (l : List ℕ) → b ≡ false → length {A = ℕ} (elim b [ true ↦ [] | false ↦ l ]) ≡ length l
length_false true l q = absurd (false≢true (sym q))
length_false false l q = refl

length_after : {A : Type 0} {a : Answer A} {x : A} (f : A → List ℕ) → a ≡ Gives x → length (trace.after a f) ≡ length (f x)
length_after {A} f q = ap (λ (a : Answer A). length (trace.after a f)) q

-- what is written down after an answer by which a stage may stop
module _ {A : Type 0} (a : Answer A) (test : A → Bool) (on : A → List ℕ) (x : A) (q : a ≡ Gives x) where
  stops : test x ≡ true → length (trace.after a (λ x. elim (test x) [ true ↦ [] | false ↦ on x ])) ≡ 0
  stops t = length_after _ q ∙ length_true (test x) (on x) t

  goes_on : test x ≡ false → length (trace.after a (λ x. elim (test x) [ true ↦ [] | false ↦ on x ])) ≡ length (on x)
  goes_on t = length_after _ q ∙ length_false (test x) (on x) t

last_one : (i made : ℕ) → made ≡ 0 → i + 1 ≡ i + suc made
last_one i made h = omega arith

-- each pass is written down as one place
abbrev once : ℕ → State → List ℕ
once place _ = place ∷ []

module _ (n : ℕ) (pass : State → Answer Pass) (exit : State → Answer State) (place : ℕ) where
  -- a search from pass i on, by at most k passes, that makes `made` of them
  Searched : (k i made : ℕ) → Found → Type 0
  Searched k i made (AtPass j) = j + 1 ≡ i + made
  Searched k i made Nowhere = made ≡ k

  one_more : (k i made whole : ℕ) (f : Found) → whole ≡ suc made → Searched k (i + 1) made f → Searched (suc k) i whole f
  unfolding Searched
  one_more k i made whole (AtPass j) q h = omega arith
  one_more k i made whole Nowhere q h = omega arith

  search_length : (k i : ℕ) (s : State) → Sure (Searched k i (length (trace.search n pass (once place) k s))) (rules.search n pass exit k i s)
  unfolding rules.search trace.search Searched
  search_length zero i s = given {a = Nowhere} refl
  search_length (suc k) i s = sure_by (pass s) (λ p q. sure_elim (states.same n s p.next)
      (λ t. given {a = AtPass i} (last_one i _ (stops (pass s) (λ p. states.same n s p.next) (λ p. trace.search n pass (once place) k p.next) p q t)))
      (λ t. sure_map (search_length k (i + 1) p.next) (λ f. one_more k i _ _ f (ap suc (goes_on (pass s) (λ p. states.same n s p.next) (λ p. trace.search n pass (once place) k p.next) p q t)))))

  unrolled_length : (k : ℕ) (t : Pass) → Sure (λ _. length (trace.unrolled n pass (once place) k t.next) ≡ k) (rules.unrolled n pass exit k t)
  unfolding rules.unrolled trace.unrolled
  unrolled_length zero t = given refl
  unrolled_length (suc k) t = sure_by (pass t.next) (λ p q.
      sure_map (unrolled_length k _) (λ _ h. ap suc (length_after _ q ∙ h)))

  growing_length : (grow : State → State → State) (k i : ℕ) (s : State) → Sure (λ j. j.passes ≡ i + length (trace.growing n pass (once place) grow k s)) (rules.growing n pass exit grow k i s)
  unfolding rules.growing trace.growing
  growing_length grow zero i s = let none : i ≡ i + 0 = omega arith in given none
  growing_length grow (suc k) i s = sure_by (pass s) (λ p q. sure_elim (states.within n p.next s)
      (λ t. given (last_one i _ (stops (pass s) (λ p. states.within n p.next s) (λ p. trace.growing n pass (once place) grow k (grow s p.next)) p q t)))
      (λ t. sure_map (growing_length grow k (i + 1) (grow s p.next))
      (λ j h. omega (arith, goes_on (pass s) (λ p. states.within n p.next s) (λ p. trace.growing n pass (once place) grow k (grow s p.next)) p q t))))

  settle_length : (s : State) → Sure (λ m. length (trace.settle n pass (once place) exit s) ≡ m.joined + m.widened) (rules.settle n pass exit s)
  unfolding rules.settle trace.settle
  settle_length s = sure_by (rules.growing n pass exit (states.join n) 100 0 s) (λ j q.
      let joining = sure_of (growing_length (states.join n) 100 0 s) q in
      sure_elim j.settled
      (λ t. let all : length (trace.settle n pass (once place) exit s) ≡ j.passes + 0 = rw length-append (omega (arith, joining, stops (rules.growing n pass exit (states.join n) 100 0 s) (λ j. j.settled) (λ j. trace.growing n pass (once place) (states.widen n) (n + n + 1) j.at) j q t)) in given all)
      (λ t. sure_by (rules.growing n pass exit (states.widen n) (n + n + 1) 0 j.at) (λ w r.
      let all : length (trace.settle n pass (once place) exit s) ≡ j.passes + w.passes = rw length-append (omega (arith, joining, sure_of (growing_length (states.widen n) (n + n + 1) 0 j.at) r, goes_on (rules.growing n pass exit (states.join n) 100 0 s) (λ j. j.settled) (λ j. trace.growing n pass (once place) (states.widen n) (n + n + 1) j.at) j q t)) in given all)))

  search_count : (f : Found) (made : ℕ) → Searched 100 0 made f → made ≡ rules.search_passes f
  unfolding Searched
  search_count (AtPass j) made h = omega arith
  search_count Nowhere made h = h

  -- what is written down after the search
  abbrev after_search : ℕ → State → Found → List ℕ
  after_search u s f =
      trace.unrolled n pass (once place) (rules.unroll_passes u f) s
      ++ trace.after (rules.unrolled n pass exit (rules.unroll_passes u f) (record { next = s; exit = states.empty })) (λ t. trace.settle n pass (once place) exit t.next)

  loop_length : (u : ℕ) (s : State) → Sure (λ l. length (trace.loop n pass (once place) exit u s) ≡ l.searched + l.unrolls + l.joined + l.widened) (rules.loop n pass exit u s)
  unfolding rules.loop trace.loop
  loop_length u s =
      sure_by (rules.search n pass exit 100 0 s) (λ f search.
      sure_by (rules.unrolled n pass exit (rules.unroll_passes u f) (record { next = s; exit = states.empty })) (λ t unrolled.
      sure_by (rules.settle n pass exit t.next) (λ m settled.
      sure_by (exit m.at) (λ x out.
      let later = length_after (after_search u s) search ∙ length-append (trace.unrolled n pass (once place) (rules.unroll_passes u f) s) _ in
      let last = length_after (λ t. trace.settle n pass (once place) exit t.next) unrolled in
      let all : length (trace.loop n pass (once place) exit u s) ≡ rules.search_passes f + rules.unroll_passes u f + m.joined + m.widened =
      rw length-append (omega (
        arith,
        later,
        last,
        search_count f _ (sure_of (search_length 100 0 s) search),
        sure_of (unrolled_length (rules.unroll_passes u f) (record { next = s; exit = states.empty })) unrolled,
        sure_of (settle_length t.next) settled,
      )) in
      given all))))

pub counted : (n : ℕ) (pass : State → Answer Pass) (exit : State → Answer State) (u : ℕ) (s : State) (l : Looped) (place : ℕ) → rules.loop n pass exit u s ≡ Gives l →
    length (trace.loop n pass (λ _. place ∷ []) exit u s) ≡ l.searched + l.unrolls + l.joined + l.widened
counted n pass exit u s l place q = sure_of (loop_length n pass exit place u s) q

-- ---- their bound, also where the analysis refuses

after_most : {A : Type 0} (a : Answer A) (f : A → List ℕ) (m : ℕ) → ((x : A) → a ≡ Gives x → length (f x) ≤ m) → length (trace.after a f) ≤ m
after_most (Gives x) f m h = h x refl
after_most (Refuses k at) f m h = omega arith

elim_most : (b : Bool) (l : List ℕ) (m : ℕ) → (b ≡ false → length l ≤ m) → length {A = ℕ} (elim b [ true ↦ [] | false ↦ l ]) ≤ m
elim_most true l m h = omega arith
elim_most false l m h = h refl

module _ (n : ℕ) (pass : State → Answer Pass) (exit : State → Answer State) (place : ℕ) where
  search_most : (k : ℕ) (s : State) → length (trace.search n pass (once place) k s) ≤ k
  unfolding trace.search
  search_most zero s = omega arith
  search_most (suc k) s =
      let later = after_most (pass s) (λ p. elim (states.same n s p.next) [ true ↦ [] | false ↦ trace.search n pass (once place) k p.next ]) k
      (λ p q. elim_most (states.same n s p.next) (trace.search n pass (once place) k p.next) k (λ _. search_most k p.next)) in omega arith

  unrolled_most : (k : ℕ) (s : State) → length (trace.unrolled n pass (once place) k s) ≤ k
  unfolding trace.unrolled
  unrolled_most zero s = omega arith
  unrolled_most (suc k) s = let later = after_most (pass s) (λ p. trace.unrolled n pass (once place) k p.next) k (λ p q. unrolled_most k p.next) in omega arith

  growing_most : (grow : State → State → State) (k : ℕ) (s : State) → length (trace.growing n pass (once place) grow k s) ≤ k
  unfolding trace.growing
  growing_most grow zero s = omega arith
  growing_most grow (suc k) s =
      let later = after_most (pass s) (λ p. elim (states.within n p.next s) [ true ↦ [] | false ↦ trace.growing n pass (once place) grow k (grow s p.next) ]) k
      (λ p q. elim_most (states.within n p.next s) (trace.growing n pass (once place) grow k (grow s p.next)) k (λ _. growing_most grow k (grow s p.next))) in omega arith

  settle_most : (s : State) → length (trace.settle n pass (once place) exit s) ≤ 100 + (n + n + 1)
  unfolding trace.settle
  settle_most s =
      let first = growing_most (states.join n) 100 s in
      let later = after_most (rules.growing n pass exit (states.join n) 100 0 s) (λ j. elim j.settled [ true ↦ [] | false ↦ trace.growing n pass (once place) (states.widen n) (n + n + 1) j.at ]) (n + n + 1)
      (λ j q. elim_most j.settled (trace.growing n pass (once place) (states.widen n) (n + n + 1) j.at) (n + n + 1) (λ _. growing_most (states.widen n) (n + n + 1) j.at)) in
      rw length-append (omega arith)

module _ (n : ℕ) (small : n ≤ 64) (e : Event) (b : Statements) (pass : State → Answer Pass) (exit : State → Answer State)
    (pass_fine : (s : State) → Fit n s → Sure (Passed n e b s) (pass s))
    (exit_fine : (s : State) → Fit n s → Sure (Kept n (False e) s) (exit s)) (place : ℕ) where
  -- from a state that a pass leaves alone, one pass
  still_once : (k : ℕ) (s : State) → Fit n s → Still n small e b pass exit pass_fine exit_fine s → length (trace.growing n pass (once place) (states.join n) (suc k) s) ≤ 1
  unfolding trace.growing
  still_once k s f st =
      let later = after_most (pass s) (λ p. elim (states.within n p.next s) [ true ↦ [] | false ↦ trace.growing n pass (once place) (states.join n) k (states.join n s p.next) ]) 0
      (λ p q. elim_most (states.within n p.next s) (trace.growing n pass (once place) (states.join n) k (states.join n s p.next)) 0
      (λ w. absurd (false≢true (sym w ∙ still_within n small e b pass exit pass_fine exit_fine s p f st q)))) in omega arith

  settle_once : (s : State) → Fit n s → Still n small e b pass exit pass_fine exit_fine s → length (trace.settle n pass (once place) exit s) ≤ 1
  unfolding trace.settle
  settle_once s f st =
      let first = still_once 99 s f st in
      let later = after_most (rules.growing n pass exit (states.join n) 100 0 s) (λ j. elim j.settled [ true ↦ [] | false ↦ trace.growing n pass (once place) (states.widen n) (n + n + 1) j.at ]) 0
      (λ j q. elim_most j.settled (trace.growing n pass (once place) (states.widen n) (n + n + 1) j.at) 0
      (λ t. absurd (false≢true (sym t ∙ (sure_of (joining_still n small e b pass exit pass_fine exit_fine 99 0 s f st) q).0)))) in
      rw length-append (omega arith)

  pub loop_most : (first : State) (u : ℕ) → Fit n first → length (trace.loop n pass (once place) exit u first) ≤ 201 + u + 2 * n
  unfolding trace.loop
  loop_most first u f = rw length-append (by (rules.search n pass exit 100 0 first) refl)
    where
      unrolled : ℕ → Answer Pass
      unrolled k = rules.unrolled n pass exit k (record { next = first; exit = states.empty })

      by : (a : Answer Found) → rules.search n pass exit 100 0 first ≡ a →
          length (trace.search n pass (once place) 100 first) + length (trace.after a (after_search n pass exit place u first)) ≤ 201 + u + 2 * n
      by (Refuses k at) q = omega (arith, search_most n pass exit place 100 first)
      by (Gives Nowhere) q =
          let later = after_most (unrolled u) (λ t. trace.settle n pass (once place) exit t.next) (100 + (n + n + 1)) (λ t r. settle_most n pass exit place t.next) in
          rw length-append (omega (arith, search_most n pass exit place 100 first, unrolled_most n pass exit place u first))
      by (Gives (AtPass j)) q =
          let S = found_still n small e b pass exit pass_fine exit_fine first u j f q in
          let later = after_most (unrolled (max u j)) (λ t. trace.settle n pass (once place) exit t.next) 1 (λ t r. let T = sure_of S.1 r in settle_once t.next T.0 T.1) in
          rw length-append (omega (arith, S.0, search_count n pass exit place (AtPass j) _ (sure_of (search_length n pass exit place 100 0 first) q), unrolled_most n pass exit place (max u j) first))
