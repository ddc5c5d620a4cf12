-- A loop that comes to rest: the search has made every pass that the unrolled turns and the settling would make again.
use mathlib.Core.Path.{◌≡◌, refl, sym, ap, ◌∙◌, subst}
use mathlib.Core.Bool.{Bool, true, false}
use mathlib.Core.List.{List, [], ◌∷◌, ◌++◌, append-nil, append_assoc}
use Prim.Native.Nat.{ℕ, zero, suc, ◌+◌, ◌≤◌, max}
use native.Mathlib.Omega.{arith}
use lib.ListN.{set}
use Rattle.states.specs.declared.State.{State}
use Rattle.states.specs.Answers.{Answer, Gives, Refuses, and_then}
use Rattle.states.specs.States as states
use Rattle.states.proofs.Order.{same_within}
use Rattle.states.proofs.Sure.{gives_one}
use Rattle.paper.specs.Rules as rules
use Rattle.paper.specs.Trace as trace
use Rattle.paper.specs.Trace.{after, mark}
use Rattle.analysis.specs.Sought.{Sought, sought, at_rest}
use Rattle.analysis.proofs.Says.{mark_append}

-- ---- marking twice is marking once

set_twice : (m : List ℕ) (at : ℕ) → set (set m at 1) at 1 ≡ set m at 1
set_twice [] at = refl
set_twice (x ∷ m) zero = refl
set_twice (x ∷ m) (suc at) = ap {B = List ℕ} (λ l. x ∷ l) (set_twice m at)

set_turned : (m : List ℕ) (a b : ℕ) → set (set m a 1) b 1 ≡ set (set m b 1) a 1
set_turned [] a b = refl
set_turned (x ∷ m) zero zero = refl
set_turned (x ∷ m) zero (suc b) = refl
set_turned (x ∷ m) (suc a) zero = refl
set_turned (x ∷ m) (suc a) (suc b) = ap {B = List ℕ} (λ l. x ∷ l) (set_turned m a b)

mark_set : (p m : List ℕ) (at : ℕ) → set (mark p m) at 1 ≡ mark p (set m at 1)
unfolding mark
mark_set [] m at = refl
mark_set (a ∷ p) m at = mark_set p (set m a 1) at ∙ ap (mark p) (set_turned m a at)

mark_twice : (p m : List ℕ) → mark p (mark p m) ≡ mark p m
unfolding mark
mark_twice [] m = refl
mark_twice (at ∷ p) m =
    ap (mark p) (mark_set p (set m at 1) at ∙ ap (mark p) (set_twice m at)) ∙ mark_twice p (set m at 1)

pub mark_again : (p m : List ℕ) → mark (p ++ p) m ≡ mark p m
mark_again p m = mark_append p p m ∙ mark_twice p m

-- ---- the passes again

module _ (n : ℕ) (pass : State → Answer rules.Pass) (exit : State → Answer State) (passed : State → List ℕ) where
  -- the search is the code's, but for what that keeps
  pub search_is : (k i : ℕ) (t : rules.Pass) → rules.search n pass exit k i t.next ≡ and_then (sought n pass k i t) (λ r. Gives r.found)
  unfolding rules.search sought
  search_is zero i t = refl
  search_is (suc k) i t = by_pass (pass t.next) (λ p. search_is k (i + 1) p)
    where
      on : rules.Pass → rules.Pass
      on p = record { next = p.next; exit = states.join n t.exit p.exit }

      by_test : (p : rules.Pass) (c : Bool) → ((x : rules.Pass) → rules.search n pass exit k (i + 1) x.next ≡ and_then (sought n pass k (i + 1) x) (λ r. Gives r.found)) →
          elim c [ true ↦ Gives (rules.AtPass i) | false ↦ rules.search n pass exit k (i + 1) p.next ]
          ≡ and_then (elim c [ true ↦ Gives (record { found = rules.AtPass i; turned = t.next; exits = states.join n t.exit p.exit }) | false ↦ sought n pass k (i + 1) (on p) ]) (λ (r : Sought). Gives r.found)
      by_test p true more = refl
      by_test p false more = more (on p)

      by_pass : (a : Answer rules.Pass) → ((x : rules.Pass) → rules.search n pass exit k (i + 1) x.next ≡ and_then (sought n pass k (i + 1) x) (λ r. Gives r.found)) →
          and_then a (λ p. elim (states.same n t.next p.next) [ true ↦ Gives (rules.AtPass i) | false ↦ rules.search n pass exit k (i + 1) p.next ])
          ≡ and_then (and_then a (λ p. elim (states.same n t.next p.next) [ true ↦ Gives (record { found = rules.AtPass i; turned = t.next; exits = states.join n t.exit p.exit }) | false ↦ sought n pass k (i + 1) (on p) ])) (λ (r : Sought). Gives r.found)
      by_pass (Gives p) more = by_test p (states.same n t.next p.next) more
      by_pass (Refuses number place) more = refl

  -- k passes of the search from t, the first of index i, stopped at index j with what r keeps
  pub record Replay (k i : ℕ) (t : rules.Pass) (r : Sought) (j : ℕ) : Type 0 where
    pub turns : ℕ
    pub index : j ≡ i + turns
    -- the exits of all passes but the last
    pub before : State
    pub unrolled : rules.unrolled n pass exit turns t ≡ Gives (record { next = r.turned; exit = before })
    -- the last pass
    pub last : rules.Pass
    pub again : pass r.turned ≡ Gives last
    pub same : states.same n r.turned last.next ≡ true
    pub exits : r.exits ≡ states.join n before last.exit
    pub places : trace.search n pass passed k t.next ≡ trace.unrolled n pass passed turns t.next ++ passed r.turned

  replay : (k i : ℕ) (t : rules.Pass) (r : Sought) (j : ℕ) → sought n pass k i t ≡ Gives r → r.found ≡ rules.AtPass j → Replay k i t r j
  unfolding sought rules.unrolled trace.search trace.unrolled
  replay zero i t r j q f = absurd (let z : ◌≡◌ {A = ℕ} 0 1 = cc in omega arith)
  replay (suc k) i t r j q f = by_pass (pass t.next) refl (λ x w. replay k (i + 1) x r j w f) q
    where
      on : rules.Pass → rules.Pass
      on p = record { next = p.next; exit = states.join n t.exit p.exit }

      stop : rules.Pass → Sought
      stop p = record { found = rules.AtPass i; turned = t.next; exits = states.join n t.exit p.exit }

      -- what the search enters, by its first pass and its test
      searched : (p : rules.Pass) {c : Bool} → pass t.next ≡ Gives p → states.same n t.next p.next ≡ c →
          trace.search n pass passed (suc k) t.next ≡ passed t.next ++ elim c [ true ↦ [] | false ↦ trace.search n pass passed k p.next ]
      searched p e w =
          ap (λ (a : Answer rules.Pass). passed t.next ++ after a (λ x. elim (states.same n t.next x.next) [ true ↦ [] | false ↦ trace.search n pass passed k x.next ])) e
          ∙ ap (λ (b : Bool). passed t.next ++ elim b [ true ↦ [] | false ↦ trace.search n pass passed k p.next ]) w

      -- the pass was the last
      ends : (p : rules.Pass) → pass t.next ≡ Gives p → states.same n t.next p.next ≡ true → i ≡ j → Replay (suc k) i t (stop p) j
      ends p e w h = record {
        turns = 0;
        index = omega (arith, h);
        before = t.exit;
        unrolled = refl;
        last = p;
        again = e;
        same = w;
        exits = refl;
        places = searched p e w ∙ append-nil (passed t.next);
      }

      -- one pass more before those that followed
      goes : (p : rules.Pass) → pass t.next ≡ Gives p → states.same n t.next p.next ≡ false → Replay k (i + 1) (on p) r j → Replay (suc k) i t r j
      goes p e w m = record {
        turns = suc m.turns;
        index = omega (arith, m.index);
        before = m.before;
        unrolled = ap (λ (a : Answer rules.Pass). and_then a (λ x. rules.unrolled n pass exit m.turns (on x))) e ∙ m.unrolled;
        last = m.last;
        again = m.again;
        same = m.same;
        exits = m.exits;
        places =
            searched p e w
            ∙ ap (λ (l : List ℕ). passed t.next ++ l) m.places
            ∙ sym (append_assoc (passed t.next) (trace.unrolled n pass passed m.turns p.next) (passed r.turned))
            ∙ ap (λ (a : Answer rules.Pass). (passed t.next ++ after a (λ x. trace.unrolled n pass passed m.turns x.next)) ++ passed r.turned) (sym e);
      }

      by_test : (p : rules.Pass) → pass t.next ≡ Gives p → (c : Bool) → states.same n t.next p.next ≡ c → ((x : rules.Pass) → sought n pass k (i + 1) x ≡ Gives r → Replay k (i + 1) x r j) →
          elim c [ true ↦ Gives (stop p) | false ↦ sought n pass k (i + 1) (on p) ] ≡ Gives r → Replay (suc k) i t r j
      by_test p e true w more q = subst (λ (x : Sought). Replay (suc k) i t x j) (gives_one q) (ends p e w (let h = gives_one q in cc))
      by_test p e false w more q = goes p e w (more (on p) q)

      by_pass : (a : Answer rules.Pass) → pass t.next ≡ a → ((x : rules.Pass) → sought n pass k (i + 1) x ≡ Gives r → Replay k (i + 1) x r j) →
          and_then a (λ p. elim (states.same n t.next p.next) [ true ↦ Gives (stop p) | false ↦ sought n pass k (i + 1) (on p) ]) ≡ Gives r → Replay (suc k) i t r j
      by_pass (Gives p) e more q = by_test p e (states.same n t.next p.next) refl more q
      by_pass (Refuses number place) e more q = absurd (let z : ◌≡◌ {A = ℕ} 0 1 = cc in omega arith)

  -- a state that a pass gives again settles after one pass
  module _ (s : State) (p : rules.Pass) (e : pass s ≡ Gives p) (same : states.same n s p.next ≡ true) where
    grows : (k : ℕ) → rules.growing n pass exit (states.join n) (suc k) 0 s ≡ Gives (record { settled = true; at = s; passes = 1 })
    unfolding rules.growing
    grows k =
        ap (λ (a : Answer rules.Pass). and_then a (λ x. by x (states.within n x.next s))) e
        ∙ ap (by p) (same_within n s p.next same)
      where
        by : rules.Pass → Bool → Answer rules.Settling
        by x c = elim c [ true ↦ Gives (record { settled = true; at = s; passes = 1 }) | false ↦ rules.growing n pass exit (states.join n) k 1 (states.join n s x.next) ]

    grows_by : (k : ℕ) → trace.growing n pass passed (states.join n) (suc k) s ≡ passed s
    unfolding trace.growing
    grows_by k =
        ap (λ (a : Answer rules.Pass). passed s ++ after a (λ x. by x (states.within n x.next s))) e
        ∙ ap (λ (c : Bool). passed s ++ by p c) (same_within n s p.next same)
        ∙ append-nil (passed s)
      where
        by : rules.Pass → Bool → List ℕ
        by x c = elim c [ true ↦ [] | false ↦ trace.growing n pass passed (states.join n) k (states.join n s x.next) ]

    settles : rules.settle n pass exit s ≡ Gives (record { at = s; joined = 1; widened = 0 })
    unfolding rules.settle
    settles = rw (grows 99) refl

    settles_by : trace.settle n pass passed exit s ≡ passed s
    unfolding trace.settle
    settles_by = rw (grows 99, grows_by 99) (append-nil (passed s))

  -- a loop whose search stopped no sooner than its own turns
  module _ (leaves : (x : State) (p : rules.Pass) → pass x ≡ Gives p → exit x ≡ Gives p.exit) (u : ℕ) (s : State) (r : Sought) (j : ℕ)
      (q : sought n pass 100 0 (record { next = s; exit = states.empty }) ≡ Gives r) (f : r.found ≡ rules.AtPass j) (few : u ≤ j) where
    abbrev start : rules.Pass
    start = record { next = s; exit = states.empty }

    played : Replay 100 0 start r j
    played = replay 100 0 start r j q f

    found : rules.search n pass exit 100 0 s ≡ Gives (rules.AtPass j)
    found = search_is 100 0 start ∙ ap (λ (a : Answer Sought). and_then a (λ x. Gives x.found)) q ∙ ap Gives f

    turned : rules.unrolled n pass exit (rules.unroll_passes u (rules.AtPass j)) start ≡ Gives (record { next = r.turned; exit = played.before })
    turned = ap (λ (k : ℕ). rules.unrolled n pass exit k start) many ∙ played.unrolled
      where
        many : max u j ≡ played.turns
        many = omega (arith, few, played.index)

    pub rests : rules.loop n pass exit u s ≡ Gives (at_rest j r)
    unfolding rules.loop
    rests =
        rw (found, turned, settles r.turned played.last played.again played.same, leaves r.turned played.last played.again)
        (ap (λ (k : ℕ). Gives (at_rest_by k (states.join n played.before played.last.exit))) largest ∙ ap (λ (x : State). Gives (at_rest_by j x)) (sym played.exits))
      where
        at_rest_by : ℕ → State → rules.Looped
        at_rest_by k x = record { exits = x; turned = r.turned; settled = r.turned; searched = j + 1; unrolls = k; joined = 1; widened = 0 }

        largest : max u j ≡ j
        largest = omega (arith, few)

    pub rests_by : trace.loop n pass passed exit u s ≡ trace.search n pass passed 100 s ++ trace.search n pass passed 100 s
    unfolding trace.loop
    rests_by = rw (found, turned, settles_by r.turned played.last played.again played.same) (ap (λ (l : List ℕ). trace.search n pass passed 100 s ++ l) (ap (λ (k : ℕ). trace.unrolled n pass passed k s ++ passed r.turned) many ∙ sym played.places))
      where
        many : max u j ≡ played.turns
        many = omega (arith, few, played.index)
