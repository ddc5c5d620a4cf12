-- A loop's analysis, by what is known of its pass: it covers every run, its passes are bounded, and the state it settles on
-- is accepted by one more pass and holds every run that reaches the head after the unrolled turns.
use mathlib.Core.Path.{◌≡◌, refl, sym, ◌∙◌, subst}
use mathlib.Core.Bool.{Bool, true, false, false≢true}
use Prim.Native.Nat.{ℕ, zero, suc, ◌+◌, ◌-◌, ◌*◌, max, ◌≤◌, ◌<◌}
use native.Mathlib.Omega.{arith}
use lib.Dec.{eqb, ltb}
use borrow.Author.Tests.{eqb-true, eqb-false, ltb-true, ltb-false}
use Rattle.states.specs.declared.State.{State}
use Rattle.states.specs.Answers.{Answer, Gives}
use Rattle.states.specs.States as states
use Rattle.states.specs.States.{Fit}
use Rattle.states.proofs.Fits.{fit_empty, fit_join, fit_widen, join_dead, widen_dead}
use Rattle.states.proofs.Order.{same_eq, within_self, within_dead, within_trans, join_above_left, widen_above_old}
use Rattle.states.proofs.Widening.{left_of, left_bound, widen_falls}
use Rattle.paper.specs.Tree.{Event, Statements}
use Rattle.paper.specs.Rules as rules
use Rattle.paper.specs.Rules.{Pass, Settled, Found, AtPass, Nowhere, Settling, Looped}
use Rattle.paper.specs.Runs.{Store, True, False, Runs, Turned, at_head, once_more, Holds}
use Rattle.paper.specs.Promises.{Accepted, LoopHolds}
use Rattle.states.proofs.Sure.{Sure, given, sure_then, sure_by, sure_elim, sure_map, sure_of, sure_eq, sure_both}
use Rattle.paper.proofs.Held.{join_left, join_right, within_held}
use Rattle.paper.proofs.Splits.{Kept}

-- the state t holds every store to which R leads from one of s; it is well formed, and empty where s is
pub record Post (n : ℕ) (R : Store → Store → Type 0) (s t : State) : Type 0 where
  pub fit : Fit n t
  pub dead : states.is_live s ≡ false → states.is_live t ≡ false
  pub held : (σ τ : Store) → Holds n s σ → R σ τ → Holds n t τ

-- one turn of a loop
abbrev pub Turn : Event → Statements → Store → Store → Type 0
Turn e b σ τ = True e σ × Runs b σ τ

-- one pass over it
pub record Passed (n : ℕ) (e : Event) (b : Statements) (s : State) (p : Pass) : Type 0 where
  pub next : Post n (Turn e b) s p.next
  pub exit : Kept n (False e) s p.exit

-- below a bound, or not
pub either : {A : Type 0} (k m : ℕ) → (k < m → A) → (m ≤ k → A) → A
either {A} k m f h = go (ltb k m) refl
  where
    go : (b : Bool) → ltb k m ≡ b → A
    go true q = f (ltb-true k m q)
    go false q = h (ltb-false k m q)

-- ---- turns, from a store of the first state

module _ (n : ℕ) (e : Event) (b : Statements) (first : State) where
  -- t holds every store that i turns lead to
  abbrev pub Covered : ℕ → State → Type 0
  Covered i t = (σ τ : Store) → Holds n first σ → Turned e b i σ τ → Holds n t τ

  no_turn : (s : State) (σ τ : Store) → Turned e b 0 σ τ → Holds n s σ → Holds n s τ
  no_turn s σ τ at_head h = h

  pub covered_first : Covered 0 first
  covered_first σ τ h r = no_turn first σ τ r h

  pub covered_next : (i : ℕ) (s : State) (p : Pass) → Passed n e b s p → Covered i s → Covered (suc i) p.next
  covered_next i s p P c σ τ h (once_more {ρ = ρ} r t d) = P.next.held ρ τ (c σ ρ h r) (t, d)

  -- a state that a turn does not leave holds every later turn
  covered_later : (s : State) (j : ℕ) → ((σ τ : Store) → Holds n s σ → Turn e b σ τ → Holds n s τ) → Covered j s → (k i : ℕ) → i ≡ j + k → Covered i s
  covered_later s j closed c zero i q = subst (λ (m : ℕ). Covered m s) (omega arith) c
  covered_later s j closed c (suc k) i q = subst (λ (m : ℕ). Covered m s) (omega arith) (one (covered_later s j closed c k (j + k) refl))
    where
      one : Covered (j + k) s → Covered (suc (j + k)) s
      one d σ τ h (once_more {ρ = ρ} r t go) = closed ρ τ (d σ ρ h r) (t, go)

module _ (n : ℕ) (small : n ≤ 64) (e : Event) (b : Statements) (pass : State → Answer Pass) (exit : State → Answer State)
    (pass_ok : (s : State) → Fit n s → Sure (Passed n e b s) (pass s))
    (exit_ok : (s : State) → Fit n s → Sure (Kept n (False e) s) (exit s)) where
  -- ---- the search: a state that a pass leaves alone stays alone

  abbrev pub Still : State → Type 0
  Still s = Sure (λ p. states.same n s p.next ≡ true) (pass s)

  left_alone : (s : State) (p : Pass) → Fit n s → Still s → pass s ≡ Gives p → s ≡ p.next
  left_alone s p f st q = same_eq n small s p.next f (sure_of (pass_ok s f) q).next.fit (sure_of st q)

  still_next : (s : State) (p : Pass) → Fit n s → Still s → pass s ≡ Gives p → Still p.next
  still_next s p f st q = subst Still (left_alone s p f st q) st

  pub still_within : (s : State) (p : Pass) → Fit n s → Still s → pass s ≡ Gives p → states.within n p.next s ≡ true
  still_within s p f st q = subst (λ (x : State). states.within n x s ≡ true) (left_alone s p f st q) (within_self n small s)

  -- after m passes
  StillIn : ℕ → State → Type 0
  StillIn zero s = Still s
  StillIn (suc m) s = Sure (λ p. StillIn m p.next) (pass s)

  Searched : ℕ → ℕ → State → Found → Type 0
  Searched k i s (AtPass j) = (m : ℕ) × (j ≡ i + m) × (m < k) × StillIn m s
  Searched k i s Nowhere = Unit {0}

  search_ok : (k i : ℕ) (s : State) → Fit n s → Sure (Searched k i s) (rules.search n pass exit k i s)
  unfolding rules.search Searched StillIn
  search_ok zero i s f = given tt
  search_ok (suc k) i s f = sure_by (pass s) (λ p q. sure_elim (states.same n s p.next)
      (λ t. given {a = AtPass i} (0, omega arith, omega arith, sure_eq q t))
      (λ t. sure_map (search_ok k (i + 1) p.next (sure_of (pass_ok s f) q).next.fit) (later p q)))
    where
      later : (p : Pass) → pass s ≡ Gives p → (x : Found) → Searched k (i + 1) p.next x → Searched (suc k) i s x
      later p q (AtPass j) (m, r, h, st) = (suc m, omega arith, omega arith, sure_eq q st)
      later p q Nowhere h = tt

  unrolled_still : (k m : ℕ) (t : Pass) → Fit n t.next → m ≤ k → StillIn m t.next → Sure (λ u. Still u.next) (rules.unrolled n pass exit k t)
  unfolding rules.unrolled StillIn
  unrolled_still zero zero t f h st = given st
  unrolled_still zero (suc m) t f h st = absurd (omega arith)
  unrolled_still (suc k) zero t f h st = sure_by (pass t.next) (λ p q.
      unrolled_still k zero _ (sure_of (pass_ok t.next f) q).next.fit (omega arith) (still_next t.next p f st q))
  unrolled_still (suc k) (suc m) t f h st = sure_by (pass t.next) (λ p q.
      unrolled_still k m _ (sure_of (pass_ok t.next f) q).next.fit (omega arith) (sure_of st q))

  pub joining_still : (k i : ℕ) (s : State) → Fit n s → Still s → Sure (λ j. (j.settled ≡ true) × (j.passes ≡ i + 1)) (rules.growing n pass exit (states.join n) (suc k) i s)
  unfolding rules.growing
  joining_still k i s f st = sure_by (pass s) (λ p q. sure_elim (states.within n p.next s)
      (λ t. given (refl, refl))
      (λ t. absurd (false≢true (sym t ∙ still_within s p f st q))))

  -- ---- joining and widening: the state grows until a pass stays within it

  -- what a stage needs of the way in which a state grows
  pub record Grows (grow : State → State → State) : Type 0 where
    pub fit : (s t : State) → Fit n s → Fit n t → Fit n (grow s t)
    pub dead : (s t : State) → states.is_live s ≡ false → states.is_live t ≡ false → states.is_live (grow s t) ≡ false
    pub above : (s t : State) → Fit n s → Fit n t → states.within n s (grow s t) ≡ true

  pub join_grows : Grows (states.join n)
  join_grows = record { fit = fit_join n small; dead = join_dead n; above = join_above_left n small }

  pub widen_grows : Grows (states.widen n)
  widen_grows = record { fit = fit_widen n small; dead = widen_dead n; above = widen_above_old n small }

  -- from s, after at most k passes
  pub record Grown (k i : ℕ) (s : State) (j : Settling) : Type 0 where
    pub fit : Fit n j.at
    pub dead : states.is_live s ≡ false → states.is_live j.at ≡ false
    pub above : states.within n s j.at ≡ true
    pub accepted : j.settled ≡ true → Accepted n pass j.at
    pub few : j.passes ≤ i + k

  unsettled : (i : ℕ) (s : State) → Fit n s → Grown zero i s (record { settled = false; at = s; passes = i })
  unsettled i s f = record { fit = f; dead = λ d. d; above = within_self n small s; accepted = λ x. absurd (false≢true x); few = omega arith }

  stopped : (k i : ℕ) (s : State) → Fit n s → Accepted n pass s → Grown (suc k) i s (record { settled = true; at = s; passes = i + 1 })
  stopped k i s f a = record { fit = f; dead = λ d. d; above = within_self n small s; accepted = λ _. a; few = omega arith }

  pub growing_ok : {grow : State → State → State} → Grows grow → (k i : ℕ) (s : State) → Fit n s → Sure (Grown k i s) (rules.growing n pass exit grow k i s)
  unfolding rules.growing
  growing_ok G zero i s f = given (unsettled i s f)
  growing_ok {grow} G (suc k) i s f = sure_by (pass s) (λ p q. sure_elim (states.within n p.next s)
      (λ w. given (stopped k i s f (record { last = p; made = q; stays = w })))
      (λ w.
      let P = (sure_of (pass_ok s f) q).next in
      let grown = G.fit s p.next f P.fit in
      sure_map (growing_ok G k (i + 1) (grow s p.next) grown) (λ j J. record {
        fit = J.fit;
        dead = λ d. J.dead (G.dead s p.next d (P.dead d));
        above = within_trans n small s (grow s p.next) j.at f grown J.fit (G.above s p.next f P.fit) J.above;
        accepted = J.accepted;
        few = omega (arith, J.few);
      })))

  -- a pass from an empty state stops
  was_live : (s : State) (p : Pass) → Passed n e b s p → states.within n p.next s ≡ false → states.is_live s ≡ true
  was_live s p P w = go (states.is_live s) refl
    where
      go : (b : Bool) → states.is_live s ≡ b → states.is_live s ≡ true
      go true l = l
      go false d = absurd (false≢true (sym w ∙ within_dead n small p.next s (P.next.dead d)))

  -- each widening pass that does not stop gives up a start or an end
  falls : (k i : ℕ) (s : State) → Fit n s → 0 < k → (states.is_live s ≡ true → left_of n small s < k) → Sure (λ w. w.settled ≡ true) (rules.growing n pass exit (states.widen n) k i s)
  unfolding rules.growing
  falls zero i s f h enough = absurd (omega arith)
  falls (suc k) i s f h enough = sure_then (pass_ok s f) (λ p P. sure_elim (states.within n p.next s)
      (λ w. given refl)
      (λ w. let l = was_live s p P w in
      let less : left_of n small (states.widen n s p.next) < k = omega (arith, widen_falls n small s p.next f l w, enough l) in
      falls k (i + 1) (states.widen n s p.next) (fit_widen n small s p.next f P.next.fit) (omega arith) (λ _. less)))

  -- so the widening stage settles
  pub widening_settles : (s : State) → Fit n s → Sure (λ w. w.settled ≡ true) (rules.growing n pass exit (states.widen n) (n + n + 1) 0 s)
  widening_settles s f = falls (n + n + 1) 0 s f (omega arith) (λ _. omega (arith, left_bound n small s))

  -- the two stages
  pub record Settles (s : State) (m : Settled) : Type 0 where
    pub fit : Fit n m.at
    pub dead : states.is_live s ≡ false → states.is_live m.at ≡ false
    pub above : states.within n s m.at ≡ true
    pub accepted : Accepted n pass m.at
    pub joined : m.joined ≤ 100
    pub widened : m.widened ≤ n + n + 1

  joined_only : (s : State) (j : Settling) → Grown 100 0 s j → j.settled ≡ true → Settles s (record { at = j.at; joined = j.passes; widened = 0 })
  joined_only s j J t = record { fit = J.fit; dead = J.dead; above = J.above; accepted = J.accepted t; joined = omega (arith, J.few); widened = omega arith }

  then_widened : (s : State) (j w : Settling) → Fit n s → Grown 100 0 s j → Grown (n + n + 1) 0 j.at w → w.settled ≡ true → Settles s (record { at = w.at; joined = j.passes; widened = w.passes })
  then_widened s j w f J W t = record {
    fit = W.fit;
    dead = λ d. W.dead (J.dead d);
    above = within_trans n small s j.at w.at f J.fit W.fit J.above W.above;
    accepted = W.accepted t;
    joined = omega (arith, J.few);
    widened = omega (arith, W.few);
  }

  settle_ok : (s : State) → Fit n s → Sure (Settles s) (rules.settle n pass exit s)
  unfolding rules.settle
  settle_ok s f = sure_then (growing_ok join_grows 100 0 s f) (λ j J. sure_elim j.settled
      (λ t. given (joined_only s j J t))
      (λ _. sure_then (sure_both (growing_ok widen_grows (n + n + 1) 0 j.at J.fit) (widening_settles j.at J.fit)) (λ w W. given (then_widened s j w f J W.0 W.1))))

  settle_still : (s : State) → Fit n s → Still s → Sure (λ m. (m.joined ≡ 1) × (m.widened ≡ 0)) (rules.settle n pass exit s)
  unfolding rules.settle
  settle_still s f st = sure_then (joining_still 99 0 s f st) (λ j J. sure_elim j.settled
      (λ t. given (J.1, refl))
      (λ t. absurd (false≢true (sym t ∙ J.0))))

  -- a state that is accepted is not left by a turn
  closed : (s : State) → Fit n s → Accepted n pass s → (σ τ : Store) → Holds n s σ → Turn e b σ τ → Holds n s τ
  closed s f a σ τ h t = let P = (sure_of (pass_ok s f) a.made).next in within_held n small a.last.next s τ P.fit f a.stays (P.held σ τ h t)

  -- ---- the loop

  module _ (first : State) where
    record Unrolled (k i : ℕ) (t u : Pass) : Type 0 where
      next_fit : Fit n u.next
      exit_fit : Fit n u.exit
      next_dead : states.is_live t.next ≡ false → states.is_live u.next ≡ false
      exit_dead : states.is_live t.next ≡ false → states.is_live t.exit ≡ false → states.is_live u.exit ≡ false
      next_held : (j : ℕ) → j ≡ i + k → Covered n e b first j u.next
      exit_kept : (τ : Store) → Holds n t.exit τ → Holds n u.exit τ
      exit_held : (j : ℕ) → i ≤ j → j < i + k → (σ τ : Store) → Holds n first σ → Turned e b j σ τ → False e τ → Holds n u.exit τ

    unrolled_ok : (k i : ℕ) (t : Pass) → Fit n t.next → Fit n t.exit → Covered n e b first i t.next → Sure (Unrolled k i t) (rules.unrolled n pass exit k t)
    unfolding rules.unrolled
    unrolled_ok zero i t f x c = given (record {
      next_fit = f;
      exit_fit = x;
      next_dead = λ d. d;
      exit_dead = λ _ d. d;
      next_held = λ j q. subst (λ (k : ℕ). Covered n e b first k t.next) (omega arith) c;
      exit_kept = λ τ h. h;
      exit_held = λ j l m. absurd (omega arith);
    })
    unrolled_ok (suc k) i t f x c = sure_then (pass_ok t.next f) (λ p P.
        sure_map (unrolled_ok k (suc i) _ P.next.fit (fit_join n small t.exit p.exit x P.exit.fit) (covered_next n e b first i t.next p P c)) (λ u U. record {
          next_fit = U.next_fit;
          exit_fit = U.exit_fit;
          next_dead = λ d. U.next_dead (P.next.dead d);
          exit_dead = λ d g. U.exit_dead (P.next.dead d) (join_dead n t.exit p.exit g (P.exit.dead d));
          next_held = λ j q. U.next_held j (omega arith);
          exit_kept = λ τ h. U.exit_kept τ (join_left n small t.exit p.exit τ x P.exit.fit h);
          exit_held = λ j l m σ τ h r o. here (eqb j i) j refl l σ τ h r o p P (U.exit_kept τ) (λ l. U.exit_held j l (omega arith) σ τ h r o);
        }))
      where
        here : (q : Bool) (j : ℕ) → eqb j i ≡ q → i ≤ j → (σ τ : Store) → Holds n first σ → Turned e b j σ τ → False e τ → (p : Pass) → Passed n e b t.next p →
            {u : State} → (Holds n (states.join n t.exit p.exit) τ → Holds n u τ) → (suc i ≤ j → Holds n u τ) → Holds n u τ
        here true j q l σ τ h r o p P k m = k (join_right n small t.exit p.exit τ x P.exit.fit (P.exit.held τ (c σ τ h (subst (λ (m : ℕ). Turned e b m σ τ) (eqb-true j i q) r)) o))
        here false j q l σ τ h r o p P k m = m (let d : j ≡ i → ⊥ = eqb-false j i q in omega arith)

    -- where the search found a state, the unrolled passes come to it
    pub found_still : (u j : ℕ) → Fit n first → rules.search n pass exit 100 0 first ≡ Gives (AtPass j) →
        (j < 100) × Sure (λ t. Fit n t.next × Still t.next) (rules.unrolled n pass exit (max u j) (record { next = first; exit = states.empty }))
    unfolding Searched
    found_still u j f q = by_then (sure_of (search_ok 100 0 first f) q)
      where
        by_then : Searched 100 0 first (AtPass j) → (j < 100) × Sure (λ t. Fit n t.next × Still t.next) (rules.unrolled n pass exit (max u j) (record { next = first; exit = states.empty }))
        by_then (m, r, lt, st) = (
          omega arith,
          sure_both (sure_map (unrolled_ok (max u j) 0 (record { next = first; exit = states.empty }) f (fit_empty n) (covered_first n e b first)) (λ t T. T.next_fit))
              (unrolled_still (max u j) m (record { next = first; exit = states.empty }) f (omega arith) st),
        )

    -- and the joining stops at its first pass
    Quick : Found → State → Type 0
    Quick (AtPass j) s = Still s × (j < 100)
    Quick Nowhere s = Unit {0}

    quick : (u : ℕ) (w : Found) → Fit n first → rules.search n pass exit 100 0 first ≡ Gives w → Sure (λ t. Quick w t.next) (rules.unrolled n pass exit (rules.unroll_passes u w) (record { next = first; exit = states.empty }))
    unfolding Quick
    quick u (AtPass j) f q = let S = found_still u j f q in sure_map S.1 (λ t T. (T.1, S.0))
    quick u Nowhere f q = sure_map (unrolled_ok u 0 (record { next = first; exit = states.empty }) f (fit_empty n) (covered_first n e b first)) (λ t T. tt)

    Counted : Found → (joined widened : ℕ) → Type 0
    Counted (AtPass j) x y = (x ≡ 1) × (y ≡ 0) × (j < 100)
    Counted Nowhere x y = Unit {0}

    counted : (w : Found) (s : State) → Fit n s → Quick w s → Sure (λ m. Counted w m.joined m.widened) (rules.settle n pass exit s)
    unfolding Quick Counted
    counted (AtPass j) s f (st, lt) = sure_map (settle_still s f st) (λ m M. (M.0, M.1, lt))
    counted Nowhere s f h = sure_map (settle_ok s f) (λ m M. tt)

    searched_le : (w : Found) → Searched 100 0 first w → rules.search_passes w ≤ 100
    unfolding Searched
    searched_le (AtPass j) (m, q, lt, st) = omega arith
    searched_le Nowhere h = omega arith

    total : (u : ℕ) (w : Found) (x y : ℕ) → Counted w x y → x ≤ 100 → y ≤ n + n + 1 → rules.search_passes w + rules.unroll_passes u w + x + y ≤ 201 + u + 2 * n
    unfolding Counted
    total u (AtPass j) x y c h k = omega arith
    total u Nowhere x y c h k = omega arith

    -- all that is certain, and that nothing leaves a loop which nothing enters
    pub record Looping (u : ℕ) (l : Looped) : Type 0 where
      pub holds : LoopHolds n pass exit e b u first l
      pub dead : states.is_live first ≡ false → states.is_live l.exits ≡ false

    pub loop_ok : (u : ℕ) → Fit n first → Sure (Looping u) (rules.loop n pass exit u first)
    unfolding rules.loop
    loop_ok u f =
        sure_by (rules.search n pass exit 100 0 first) (λ w search.
        let W = sure_of (search_ok 100 0 first f) search in
        sure_then (sure_both (unrolled_ok (rules.unroll_passes u w) 0 (record { next = first; exit = states.empty }) f (fit_empty n) (covered_first n e b first)) (quick u w f search)) (λ t T.
        sure_then (sure_both (settle_ok t.next T.0.next_fit) (counted w t.next T.0.next_fit T.1)) (λ m M.
        sure_then (exit_ok m.at M.0.fit) (λ x X.
        let turned : Covered n e b first (rules.unroll_passes u w) t.next = T.0.next_held (rules.unroll_passes u w) (omega arith) in
        let held : (k : ℕ) (σ τ : Store) → rules.unroll_passes u w ≤ k → Holds n first σ → Turned e b k σ τ → Holds n m.at τ =
        λ k σ τ h. covered_later n e b first m.at (rules.unroll_passes u w) (closed m.at M.0.fit M.0.accepted)
        (λ σ τ g r. within_held n small t.next m.at τ T.0.next_fit M.0.fit M.0.above (turned σ τ g r)) (k - rules.unroll_passes u w) k (omega arith) σ τ in
        given (record {
          holds = record {
            covers = λ k σ τ h r o. either k (rules.unroll_passes u w)
                (λ lt. join_left n small t.exit x τ T.0.exit_fit X.fit (T.0.exit_held k (omega arith) (omega arith) σ τ h r o))
                (λ le. join_right n small t.exit x τ T.0.exit_fit X.fit (X.held τ (held k σ τ le h r) o));
            settled = held;
            accepted = M.0.accepted;
            turned = turned;
            grown = M.0.above;
            found = w;
            search = search;
            searched = (refl, searched_le w W);
            unrolls = refl;
            joined = M.0.joined;
            widened = omega (arith, M.0.widened);
            settles = λ j v q r. sure_of (widening_settles j.at (sure_of (growing_ok join_grows 100 0 t.next T.0.next_fit) q).fit) r;
            passes = total u w m.joined m.widened M.1 M.0.joined M.0.widened;
            exits_fit = fit_join n small t.exit x T.0.exit_fit X.fit;
            turned_fit = T.0.next_fit;
            settled_fit = M.0.fit;
          };
          dead = λ d. join_dead n t.exit x (T.0.exit_dead d refl) (X.dead (M.0.dead (T.0.next_dead d)));
        })))))
