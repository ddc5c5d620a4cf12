-- One law for each way that the code of a loop's passes and stages goes.
use mathlib.Core.Path.{◌≡◌, sym, ap, ◌∙◌, subst}
use mathlib.Core.Bool.{Bool, true, false}
use mathlib.Core.List.{List, []}
use Prim.Native.Nat.{ℕ, zero, suc, ◌+◌, ◌-◌, ◌<◌, ◌≤◌}
use native.Mathlib.Omega.{arith}
use Rattle.std.specs.Prelude.{Option, Some, None}
use Rattle.states.specs.declared.State.{State}
use Rattle.states.specs.Answers.{Answer, Gives, Refuses, and_then}
use Rattle.states.specs.States as states
use Rattle.states.proofs.Sure.{gives_one}
use Rattle.paper.specs.Code as code
use Rattle.paper.specs.Rules as rules
use Rattle.paper.specs.Rules.{Setting}
use Rattle.paper.specs.Trace as trace
use Rattle.paper.specs.Trace.{mark}
use Rattle.paper.specs.Tree.{Event, Statements, Unroll, While}
use Rattle.analysis.specs.Outcomes.{a_find}
use Rattle.analysis.specs.Noted as noted
use Rattle.analysis.specs.Noted.{Noted, then_noted, ending, Says}
use Rattle.analysis.specs.Sought.{Sought, sought, at_rest}
use Rattle.analysis.proofs.Rests.{mark_again, search_is, rests, rests_by}
use Rattle.analysis.proofs.Says.{Leads, leads_self, leads_then, leads_by, says_plain, then_good, then_refused, ending_good, ending_refused}

-- ---- what the search found

-- an index found is below the number of passes
module _ (n : ℕ) (pass : State → Answer rules.Pass) (exit : State → Answer State) where
  search_below : (k i : ℕ) (s : State) (j : ℕ) → rules.search n pass exit k i s ≡ Gives (rules.AtPass j) → j < i + k
  unfolding rules.search
  search_below zero i s j e = absurd (let z : ◌≡◌ {A = ℕ} 0 1 = cc in omega arith)
  search_below (suc k) i s j e = by_pass (pass s) (λ t q. search_below k (i + 1) t j q) e
    where
      by_test : (p : rules.Pass) (c : Bool) → ((t : State) → rules.search n pass exit k (i + 1) t ≡ Gives (rules.AtPass j) → j < i + 1 + k) →
          elim c [ true ↦ Gives (rules.AtPass i) | false ↦ rules.search n pass exit k (i + 1) p.next ] ≡ Gives (rules.AtPass j) → j < i + suc k
      by_test p true more q = let h : i ≡ j = cc in omega arith
      by_test p false more q = omega (arith, more p.next q)

      by_pass : (a : Answer rules.Pass) → ((t : State) → rules.search n pass exit k (i + 1) t ≡ Gives (rules.AtPass j) → j < i + 1 + k) →
          and_then a (λ p. elim (states.same n s p.next) [ true ↦ Gives (rules.AtPass i) | false ↦ rules.search n pass exit k (i + 1) p.next ]) ≡ Gives (rules.AtPass j) → j < i + suc k
      by_pass (Gives p) more q = by_test p (states.same n s p.next) more q
      by_pass (Refuses number place) more q = absurd (let z : ◌≡◌ {A = ℕ} 0 1 = cc in omega arith)

pub search_few : (g : Setting) (at : ℕ) (e : Event) (b : Statements) (s : State) {f : rules.Found} {m m₁ : List ℕ} → Says (noted.search g at e b 100 0 s) (Gives f) m m₁ → rules.search_passes f ≤ 100
search_few g at e b s {f = rules.AtPass j} q = omega (arith, search_below g.n (noted.pass_by g at e b) (noted.exit_by g at e b) 100 0 s j (sym q.out))
search_few g at e b s {f = rules.Nowhere} q = omega arith

-- a search that did not stop at rest leaves the loop its own turns, and has made so many passes
pub record Unrested (turns : ℕ) (found : Option ℕ) (searched : ℕ) : Type 0 where
  pub many : rules.unroll_passes turns (a_find found) ≡ turns
  pub counted : searched ≡ rules.search_passes (a_find found)

pub unrested_some : {turns searched i j : ℕ} {found : Option ℕ} → found ≡ Some i → i < turns → found ≡ Some j → searched ≡ j + 1 → Unrested turns found searched
unrested_some {i = i} {j} e h f q = let same : i ≡ j = cc in record { many = rw e (omega arith); counted = rw f q }

pub unrested_none : {turns searched : ℕ} {found : Option ℕ} → found ≡ None → searched ≡ 100 → Unrested turns found searched
unrested_none e q = record { many = rw e; counted = rw e q }

module _ (g : Setting) (at : ℕ) (e : Event) (b : Statements) where
  -- ---- the stages, one pass further: i of k passes went before

  -- the state and the exits from which a pass sets out
  abbrev pub from_here : State → State → rules.Pass
  from_here s exits = record { next = s; exit = exits }

  module _ (k i : ℕ) where
    -- after a pass of the search, by whether the new state equals the old
    abbrev pub searched : State → State → rules.Pass → Bool → Noted Sought
    searched s exits p c = record {
      answer = elim c [
        | true ↦ Gives (record { found = rules.AtPass i; turned = s; exits = states.join g.n exits p.exit })
        | false ↦ (noted.sought g at e b (k - (i + 1)) (i + 1) (from_here p.next (states.join g.n exits p.exit))).answer
      ];
      places = elim c [ true ↦ [] | false ↦ (noted.sought g at e b (k - (i + 1)) (i + 1) (from_here p.next (states.join g.n exits p.exit))).places ];
    }

    -- after an unrolled pass
    abbrev pub turned : State → rules.Pass → Noted rules.Pass
    turned exits p = noted.unrolled g at e b (k - (i + 1)) (from_here p.next (states.join g.n exits p.exit))

    -- after a pass by which the state s may grow, by whether the new state lies within it
    abbrev pub grows : (State → State → State) → State → rules.Pass → Bool → Noted rules.Settling
    grows grow s p c = record {
      answer = elim c [ true ↦ Gives (record { settled = true; at = s; passes = i + 1 }) | false ↦ (noted.growing g at e b grow (k - (i + 1)) (i + 1) (grow s p.next)).answer ];
      places = elim c [ true ↦ [] | false ↦ (noted.growing g at e b grow (k - (i + 1)) (i + 1) (grow s p.next)).places ];
    }

    module _ (some : i < k) where
      one_more : k - i ≡ suc (k - (i + 1))
      one_more = omega arith

      module _ (s exits : State) where
        by_search : rules.Pass → Noted Sought
        by_search p = searched s exits p (states.same g.n s p.next)

        one_search : {m : List ℕ} → Leads (noted.sought g at e b (k - i) i (from_here s exits)) m (then_noted (noted.pass g at e b s) by_search) m
        unfolding sought trace.search by_search
        one_search = leads_by (ap (λ (left : ℕ). noted.sought g at e b left i (from_here s exits)) one_more)

        pub search_refused : {number place : ℕ} {m m₁ : List ℕ} → Says (noted.pass g at e b s) (Refuses number place) m m₁ → Says (noted.sought g at e b (k - i) i (from_here s exits)) (Refuses number place) m m₁
        search_refused q = one_search.on (then_refused by_search q)

        module _ {p : rules.Pass} {m m₁ : List ℕ} (q : Says (noted.pass g at e b s) (Gives p) m m₁) where
          after_search : {c : Bool} → states.same g.n s p.next ≡ c → Leads (noted.sought g at e b (k - i) i (from_here s exits)) m (searched s exits p c) m₁
          unfolding by_search
          after_search w = leads_then one_search (leads_then (then_good by_search q) (leads_by (ap (searched s exits p) w)))

          abbrev last_search : Sought
          last_search = record { found = rules.AtPass i; turned = s; exits = states.join g.n exits p.exit }

          pub search_found : states.same g.n s p.next ≡ true → Says (noted.sought g at e b (k - i) i (from_here s exits)) (Gives last_search) m m₁
          search_found w = (after_search w).on (says_plain (Gives last_search) m₁)

          pub search_on : states.same g.n s p.next ≡ false →
              Leads (noted.sought g at e b (k - i) i (from_here s exits)) m (noted.sought g at e b (k - (i + 1)) (i + 1) (from_here p.next (states.join g.n exits p.exit))) m₁
          search_on w = after_search w

        one_turn : {m : List ℕ} → Leads (noted.unrolled g at e b (k - i) (from_here s exits)) m (then_noted (noted.pass g at e b s) (turned exits)) m
        unfolding rules.unrolled trace.unrolled
        one_turn = leads_by (ap (λ (left : ℕ). noted.unrolled g at e b left (from_here s exits)) one_more)

        pub unrolled_refused : {number place : ℕ} {m m₁ : List ℕ} → Says (noted.pass g at e b s) (Refuses number place) m m₁ → Says (noted.unrolled g at e b (k - i) (from_here s exits)) (Refuses number place) m m₁
        unrolled_refused q = one_turn.on (then_refused (turned exits) q)

        pub unrolled_on : {p : rules.Pass} {m m₁ : List ℕ} → Says (noted.pass g at e b s) (Gives p) m m₁ → Leads (noted.unrolled g at e b (k - i) (from_here s exits)) m (turned exits p) m₁
        unrolled_on q = leads_then one_turn (then_good (turned exits) q)

      module _ (grow : State → State → State) (s : State) where
        by_growth : rules.Pass → Noted rules.Settling
        by_growth p = grows grow s p (states.within g.n p.next s)

        one_growth : {m : List ℕ} → Leads (noted.growing g at e b grow (k - i) i s) m (then_noted (noted.pass g at e b s) by_growth) m
        unfolding rules.growing trace.growing by_growth
        one_growth = leads_by (ap (λ (left : ℕ). noted.growing g at e b grow left i s) one_more)

        pub growing_refused : {number place : ℕ} {m m₁ : List ℕ} → Says (noted.pass g at e b s) (Refuses number place) m m₁ → Says (noted.growing g at e b grow (k - i) i s) (Refuses number place) m m₁
        growing_refused q = one_growth.on (then_refused by_growth q)

        module _ {p : rules.Pass} {m m₁ : List ℕ} (q : Says (noted.pass g at e b s) (Gives p) m m₁) where
          after_growth : {c : Bool} → states.within g.n p.next s ≡ c → Leads (noted.growing g at e b grow (k - i) i s) m (grows grow s p c) m₁
          unfolding by_growth
          after_growth w = leads_then one_growth (leads_then (then_good by_growth q) (leads_by (ap (grows grow s p) w)))

          pub growing_settled : states.within g.n p.next s ≡ true → Says (noted.growing g at e b grow (k - i) i s) (Gives (record { settled = true; at = s; passes = i + 1 })) m m₁
          growing_settled w = (after_growth w).on (says_plain (Gives (record { settled = true; at = s; passes = i + 1 })) m₁)

          pub growing_on : states.within g.n p.next s ≡ false → Leads (noted.growing g at e b grow (k - i) i s) m (noted.growing g at e b grow (k - (i + 1)) (i + 1) (grow s p.next)) m₁
          growing_on w = after_growth w

    -- ---- a stage with no pass left

    module _ (none : k ≤ i) where
      no_more : k - i ≡ 0
      no_more = omega arith

      pub search_none : (t : rules.Pass) {m : List ℕ} → Says (noted.sought g at e b (k - i) i t) (Gives (record { found = rules.Nowhere; turned = t.next; exits = t.exit })) m m
      unfolding sought trace.search
      search_none t {m} = (leads_by (ap (λ (left : ℕ). noted.sought g at e b left i t) no_more)).on (says_plain (Gives (record { found = rules.Nowhere; turned = t.next; exits = t.exit })) m)

      pub unrolled_none : (t : rules.Pass) {m : List ℕ} → Says (noted.unrolled g at e b (k - i) t) (Gives t) m m
      unfolding rules.unrolled trace.unrolled
      unrolled_none t {m} = (leads_by (ap (λ (left : ℕ). noted.unrolled g at e b left t) no_more)).on (says_plain (Gives t) m)

      pub growing_none : (grow : State → State → State) (s : State) {m : List ℕ} → Says (noted.growing g at e b grow (k - i) i s) (Gives (record { settled = false; at = s; passes = i })) m m
      unfolding rules.growing trace.growing
      growing_none grow s {m} = (leads_by (ap (λ (left : ℕ). noted.growing g at e b grow left i s) no_more)).on (says_plain (Gives (record { settled = false; at = s; passes = i })) m)

  -- ---- joining, then widening

  abbrev pub widens : State → ℕ → Noted rules.Settled
  widens s passes = ending (noted.growing g at e b (states.widen g.n) (g.n + g.n + 1) 0 s) (λ w. Gives (record { at = w.at; joined = passes; widened = w.passes }))

  -- after the joining stage, by whether it settled
  abbrev pub joins : rules.Settling → Bool → Noted rules.Settled
  joins j c = record {
    answer = elim c [ true ↦ Gives (record { at = j.at; joined = j.passes; widened = 0 }) | false ↦ (widens j.at j.passes).answer ];
    places = elim c [ true ↦ [] | false ↦ (widens j.at j.passes).places ];
  }

  module _ (s : State) where
    one_joining : {m : List ℕ} → Leads (noted.settle g at e b s) m (then_noted (noted.growing g at e b (states.join g.n) 100 0 s) (λ j. joins j j.settled)) m
    unfolding rules.settle trace.settle
    one_joining = leads_self

    pub joining_refused : {number place : ℕ} {m m₁ : List ℕ} → Says (noted.growing g at e b (states.join g.n) 100 0 s) (Refuses number place) m m₁ → Says (noted.settle g at e b s) (Refuses number place) m m₁
    joining_refused q = one_joining.on (then_refused (λ j. joins j j.settled) q)

    module _ {j : rules.Settling} {m m₁ : List ℕ} (q : Says (noted.growing g at e b (states.join g.n) 100 0 s) (Gives j) m m₁) where
      after_joining : {c : Bool} → j.settled ≡ c → Leads (noted.settle g at e b s) m (joins j c) m₁
      after_joining w = leads_then one_joining (leads_then (then_good (λ j. joins j j.settled) q) (leads_by (ap (joins j) w)))

      pub joining_settled : j.settled ≡ true → Says (noted.settle g at e b s) (Gives (record { at = j.at; joined = j.passes; widened = 0 })) m m₁
      joining_settled w = (after_joining w).on (says_plain (Gives (record { at = j.at; joined = j.passes; widened = 0 })) m₁)

      pub joining_on : j.settled ≡ false → Leads (noted.settle g at e b s) m (widens j.at j.passes) m₁
      joining_on w = after_joining w

  module _ (s : State) (passes : ℕ) {most : ℕ} (many : most ≡ g.n + g.n + 1) {m m₁ : List ℕ} where
    widens_so : {a : Answer rules.Settling} → Says (noted.growing g at e b (states.widen g.n) most 0 s) a m m₁ → Says (noted.growing g at e b (states.widen g.n) (g.n + g.n + 1) 0 s) a m m₁
    widens_so {a} q = subst (λ (k : ℕ). Says (noted.growing g at e b (states.widen g.n) k 0 s) a m m₁) many q

    pub widening_refused : {number place : ℕ} → Says (noted.growing g at e b (states.widen g.n) most 0 s) (Refuses number place) m m₁ → Says (widens s passes) (Refuses number place) m m₁
    widening_refused q = ending_refused (λ w. Gives (record { at = w.at; joined = passes; widened = w.passes })) (widens_so q)

    pub widening_on : {w : rules.Settling} → Says (noted.growing g at e b (states.widen g.n) most 0 s) (Gives w) m m₁ → Says (widens s passes) (Gives (record { at = w.at; joined = passes; widened = w.passes })) m m₁
    widening_on q = ending_good (λ w. Gives (record { at = w.at; joined = passes; widened = w.passes })) (widens_so q)

  -- ---- the loop: search, unrolled passes, settling, exit

  -- what leaves a state is its pass's exit
  leaves : (x : State) (p : rules.Pass) → noted.pass_by g at e b x ≡ Gives p → noted.exit_by g at e b x ≡ Gives p.exit
  leaves x p q = by_event (rules.event g (at + 3) e x) q
    where
      by_body : (t : rules.Sides) (a : Answer State) → and_then a (λ y. Gives (record { next = y; exit = t.no })) ≡ Gives p → Gives t.no ≡ Gives p.exit
      by_body t (Gives y) h = ap (λ (z : rules.Pass). Gives z.exit) (gives_one h)
      by_body t (Refuses number place) h = absurd (let z : ◌≡◌ {A = ℕ} 0 1 = cc in omega arith)

      by_event : (a : Answer rules.Sides) → and_then a (λ t. and_then (rules.list g (code.body_at at e + 1) b t.yes) (λ y. Gives (record { next = y; exit = t.no }))) ≡ Gives p →
          and_then a (λ t. Gives t.no) ≡ Gives p.exit
      by_event (Gives t) h = by_body t (rules.list g (code.body_at at e + 1) b t.yes) h
      by_event (Refuses number place) h = absurd (let z : ◌≡◌ {A = ℕ} 0 1 = cc in omega arith)

  module _ (u : ℕ) (s : State) where
    -- what follows a search that found f
    abbrev pub settles : rules.Found → rules.Pass → Noted rules.Looped
    settles f t = ending (noted.settle g at e b t.next) (noted.finish g at e b u s f t)

    one_loop : {m : List ℕ} → Leads (noted.loop g at e b u s) m (then_noted (noted.search g at e b 100 0 s) (noted.onward g at e b u s)) m
    unfolding rules.loop trace.loop
    one_loop = leads_self

    abbrev found_in : Answer Sought → Answer rules.Found
    found_in a = and_then a (λ (r : Sought). Gives r.found)

    -- the search as the code makes it finds what the search finds
    pub search_says : (t : rules.Pass) {a : Answer Sought} {m m₁ : List ℕ} → Says (noted.sought g at e b 100 0 t) a m m₁ → Says (noted.search g at e b 100 0 t.next) (found_in a) m m₁
    search_says t q = record {
      out = ap found_in q.out ∙ sym (search_is g.n (noted.pass_by g at e b) (noted.exit_by g at e b) (noted.entered_by g at e b) 100 0 t);
      marks = q.marks;
    }

    pub loop_unsearched : {number place : ℕ} {m m₁ : List ℕ} → Says (noted.sought g at e b 100 0 (from_here s states.empty)) (Refuses number place) m m₁ → Says (noted.loop g at e b u s) (Refuses number place) m m₁
    loop_unsearched q = one_loop.on (then_refused (noted.onward g at e b u s) (search_says (from_here s states.empty) q))

    module _ {r : Sought} {m m₁ : List ℕ} (q : Says (noted.sought g at e b 100 0 (from_here s states.empty)) (Gives r) m m₁) where
      pub loop_searched : Leads (noted.loop g at e b u s) m (noted.onward g at e b u s r.found) m₁
      loop_searched = leads_then one_loop (then_good (noted.onward g at e b u s) (search_says (from_here s states.empty) q))

      -- a search that found a pass no sooner than the loop's own turns has made every pass
      pub loop_rests : {i : ℕ} → r.found ≡ rules.AtPass i → u ≤ i → Says (noted.loop g at e b u s) (Gives (at_rest i r)) m m₁
      loop_rests {i} f few = record {
        out = sym (rests g.n (noted.pass_by g at e b) (noted.exit_by g at e b) (noted.entered_by g at e b) leaves u s r i (sym q.out) f few);
        marks =
            q.marks
            ∙ sym (mark_again (noted.search g at e b 100 0 s).places m)
            ∙ ap (λ (l : List ℕ). mark l m) (sym (rests_by g.n (noted.pass_by g at e b) (noted.exit_by g at e b) (noted.entered_by g at e b) leaves u s r i (sym q.out) f few));
      }

    module _ (f : rules.Found) {k : ℕ} (many : rules.unroll_passes u f ≡ k) where
      turns_so : {a : Answer rules.Pass} {m m₁ : List ℕ} → Says (noted.unrolled g at e b k (from_here s states.empty)) a m m₁ → Says (noted.unrolled g at e b (rules.unroll_passes u f) (from_here s states.empty)) a m m₁
      turns_so q = (leads_by (ap (λ (i : ℕ). noted.unrolled g at e b i (from_here s states.empty)) many)).on q

      pub loop_unturned : {number place : ℕ} {m m₁ : List ℕ} → Says (noted.unrolled g at e b k (from_here s states.empty)) (Refuses number place) m m₁ → Says (noted.onward g at e b u s f) (Refuses number place) m m₁
      loop_unturned q = then_refused (settles f) (turns_so q)

      pub loop_turned : {t : rules.Pass} {m m₁ : List ℕ} → Says (noted.unrolled g at e b k (from_here s states.empty)) (Gives t) m m₁ → Leads (noted.onward g at e b u s f) m (settles f t) m₁
      loop_turned q = then_good (settles f) (turns_so q)

    module _ (f : rules.Found) (t : rules.Pass) where
      pub loop_unsettled : {number place : ℕ} {m m₁ : List ℕ} → Says (noted.settle g at e b t.next) (Refuses number place) m m₁ → Says (settles f t) (Refuses number place) m m₁
      loop_unsettled q = ending_refused (noted.finish g at e b u s f t) q

      module _ {z : rules.Settled} {m m₁ : List ℕ} (q : Says (noted.settle g at e b t.next) (Gives z) m m₁) where
        left_by : Answer rules.Sides → Answer rules.Looped
        left_by a = and_then (and_then a (λ x. Gives x.no)) (λ x. Gives (noted.summary g at e b u s f t z x))

        -- by the settled state's exit
        finished : {a : Answer rules.Sides} → rules.event g (at + 3) e z.at ≡ a → Says (settles f t) (left_by a) m m₁
        unfolding left_by
        finished w = subst (λ (a : Answer rules.Sides). Says (settles f t) (left_by a) m m₁) w (ending_good (noted.finish g at e b u s f t) q)

        pub loop_unleft : {number place : ℕ} → rules.event g (at + 3) e z.at ≡ Refuses number place → Says (settles f t) (Refuses number place) m m₁
        unfolding left_by
        loop_unleft w = finished w

        pub loop_left : {x : rules.Sides} → rules.event g (at + 3) e z.at ≡ Gives x → Says (settles f t) (Gives (noted.summary g at e b u s f t z x.no)) m m₁
        unfolding left_by
        loop_left w = finished w

    -- the loop's own turns, where the search did not stop at rest
    module _ {found : Option ℕ} {searched : ℕ} (r : Unrested u found searched) (t : rules.Pass) {z : rules.Settled} {m m₁ : List ℕ} (q : Says (noted.settle g at e b t.next) (Gives z) m m₁) where
      abbrev in_all : ℕ → ℕ → State → rules.Looped
      in_all many turns x = record { exits = states.join g.n t.exit x; turned = t.next; settled = z.at; searched = many; unrolls = turns; joined = z.joined; widened = z.widened }

      pub loop_ends : {x : rules.Sides} → rules.event g (at + 3) e z.at ≡ Gives x → Says (settles (a_find found) t) (Gives (in_all searched u x.no)) m m₁
      loop_ends {x} w =
          subst (λ (l : rules.Looped). Says (settles (a_find found) t) (Gives l) m m₁) (λ i. in_all (sym r.counted i) (r.many i) x.no) (loop_left (a_find found) t q w)

  -- a loop by its turns
  pub loop_by : (s : State) {u v : ℕ} {a : Answer rules.Looped} {m m₁ : List ℕ} → u ≡ v → Says (noted.loop g at e b u s) a m m₁ → Says (noted.loop g at e b v s) a m m₁
  loop_by s {a = a} {m} {m₁} q h = subst (λ (k : ℕ). Says (noted.loop g at e b k s) a m m₁) q h

  -- a loop as a statement gives its joined exits
  module _ (u : Unroll) (s : State) where
    pub while_refused : {number place : ℕ} {m m₁ : List ℕ} → Says (noted.loop g at e b (rules.turns g u) s) (Refuses number place) m m₁ → Says (noted.statement g at (While u e b) s) (Refuses number place) m m₁
    unfolding rules.statement trace.statement
    while_refused q = ending_refused (λ l. Gives l.exits) q

    pub while_on : {l : rules.Looped} {m m₁ : List ℕ} → Says (noted.loop g at e b (rules.turns g u) s) (Gives l) m m₁ → Says (noted.statement g at (While u e b) s) (Gives l.exits) m m₁
    unfolding rules.statement trace.statement
    while_on q = ending_good (λ l. Gives l.exits) q
