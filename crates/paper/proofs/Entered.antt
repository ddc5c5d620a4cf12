-- A list that a run enters is named by the trace: the run stands at each head in a state from which the rules make a pass.
use Rattle.std.specs.Prelude.{Some, None}
use mathlib.Core.Path.{◌≡◌, refl, sym, subst}
use mathlib.Core.Bool.{Bool, true, false, cond, false≢true}
use mathlib.Core.List.{List, [], ◌∷◌, ◌++◌}
use mathlib.Core.Logic.{◌⊎◌, inl, inr}
use Prim.Native.Nat.{ℕ, zero, suc, ◌+◌, ◌-◌, ◌≤◌, ◌<◌}
use native.Mathlib.Omega.{arith}
use lib.Dec.{eqb, ltb}
use lib.ListN.{length}
use borrow.Author.Tests.{eq-eqb}
use Rattle.ranges.specs.declared.Range.{Range}
use Rattle.ranges.specs.declared.Range.TheVariants.{Empty, Span}
use Rattle.ranges.specs.Ranges as ranges
use Rattle.ranges.proofs.Laws as laws
use Rattle.states.specs.declared.State.{State}
use Rattle.states.specs.Answers.{Answer, Gives, Refuses}
use Rattle.states.specs.States as states
use Rattle.states.specs.States.{Fit}
use Rattle.states.proofs.Fits.{fit_put}
use Rattle.paper.specs.Tree.{Event, Unroll, Statement, IfThenElse, While, Statements, ◌then◌}
use Rattle.paper.specs.Code as code
use Rattle.paper.specs.Rules as rules
use Rattle.paper.specs.Rules.{Setting, Sides, Pass, Found}
use Rattle.paper.specs.Trace as trace
use Rattle.paper.specs.Visits.{Visit, event_at, body_at, pass_at, exit_at}
use Rattle.paper.specs.Runs.{Store, True, False, Runs, Turned, Holds, ◌∈◌}
use Rattle.paper.specs.Entries.{StatementEnters, then_list, in_then, else_list, in_else, loop_body, in_body, in_normalize, ListEnters, in_first, in_rest}
use Rattle.paper.proofs.Below.{EachBelow, StatementBelow, StatementsBelow}
use Rattle.states.proofs.Sure.{Sure, given, refused, sure_then, sure_by, sure_elim, sure_map, sure_of, sure_both}
use Rattle.paper.proofs.Held.{put_kept}
use Rattle.paper.proofs.Splits.{Kept, Split, event_ok}
use Rattle.paper.proofs.Loops.{Post, Passed, either, Covered, covered_first, covered_next, Grows, join_grows, widen_grows, growing_ok, widening_settles, loop_ok}
use Rattle.paper.proofs.Sound.{pass_ok, exit_ok, statement_ok, list_ok}

-- ---- places that are named

pub record Named (place : ℕ) (places : List ℕ) : Type 0 where
  pub has : ranges.has places place ≡ true

named_or : (b : Bool) {c : Bool} → c ≡ true → cond b true c ≡ true
named_or true h = refl
named_or false h = h

has_left : (place : ℕ) (l m : List ℕ) → ranges.has l place ≡ true → ranges.has (l ++ m) place ≡ true
unfolding ranges.has
has_left place [] m h = absurd (false≢true h)
has_left place (x ∷ l) m h = go (eqb place x) (has_left place l m) h
  where
    go : (b : Bool) → (ranges.has l place ≡ true → ranges.has (l ++ m) place ≡ true) → cond b true (ranges.has l place) ≡ true → cond b true (ranges.has (l ++ m) place) ≡ true
    go true on h = refl
    go false on h = on h

has_right : (place : ℕ) (l m : List ℕ) → ranges.has m place ≡ true → ranges.has (l ++ m) place ≡ true
unfolding ranges.has
has_right place [] m h = h
has_right place (x ∷ l) m h = named_or (eqb place x) (has_right place l m h)

named_left : {place : ℕ} {l : List ℕ} (m : List ℕ) → Named place l → Named place (l ++ m)
named_left {place} {l} m h = record { has = has_left place l m h.has }

named_right : {place : ℕ} (l : List ℕ) {m : List ℕ} → Named place m → Named place (l ++ m)
named_right {place} l {m} h = record { has = has_right place l m h.has }

-- by what an answer gives
pub named_after : {A : Type 0} {a : Answer A} {x : A} {place : ℕ} (f : A → List ℕ) → a ≡ Gives x → Named place (f x) → Named place (trace.after a f)
named_after {A} {place = place} f q h = subst (λ (a : Answer A). Named place (trace.after a f)) (sym q) h

named_else : {place : ℕ} (b : Bool) {l : List ℕ} → b ≡ false → Named place l → Named place (elim b [ true ↦ [] | false ↦ l ])
named_else true q h = absurd (false≢true (sym q))
named_else false q h = h

named_if : {place : ℕ} (b : Bool) {l : List ℕ} → b ≡ true → Named place l → Named place (elim b [ true ↦ l | false ↦ [] ])
named_if true q h = h
named_if false q h = absurd (false≢true q)

-- a list that is gone over from a state that holds a store
named_entering : (n at place : ℕ) (s : State) (σ : Store) → place ≡ at → Holds n s σ → Named place (trace.entering at s)
unfolding ranges.has
named_entering n at place s σ q h = record { has = rw h.live (rw (eq-eqb place at q) refl) }

sure_any : {A : Type 0} {P : A → Type 0} (a : Answer A) → ((x : A) → P x) → Sure P a
sure_any (Gives x) h = given (h x)
sure_any (Refuses k at) h = refused

-- ---- a loop, for a run that stands at its head after some turns, in ρ

module _ (n : ℕ) (small : n ≤ 64) (e : Event) (b : Statements) (pass : State → Answer Pass) (exit : State → Answer State)
    (pass_fine : (s : State) → Fit n s → Sure (Passed n e b s) (pass s))
    (exit_fine : (s : State) → Fit n s → Sure (Kept n (False e) s) (exit s))
    (passed : State → List ℕ) (place : ℕ) (ρ : Store)
    (passed_names : (h : State) → Fit n h → Holds n h ρ → Sure (λ _. Named place (passed h)) (pass h)) where
  -- by the lists of a pass that is made, or by those of the passes after it
  now_names : (s : State) (p : Pass) (on : Pass → List ℕ) → Fit n s → Holds n s ρ → pass s ≡ Gives p → Named place (passed s ++ trace.after (pass s) on)
  now_names s p on f h q = named_left (trace.after (pass s) on) (sure_of (passed_names s f h) q)

  later_names : (s : State) (p : Pass) (on : Pass → List ℕ) → pass s ≡ Gives p → Named place (on p) → Named place (passed s ++ trace.after (pass s) on)
  later_names s p on q h = named_right (passed s) (named_after on q h)

  -- one of k unrolled passes from i on, the one after j turns
  unrolled_names : (first : State) (σ : Store) → Holds n first σ → (k i j : ℕ) (t : Pass) → Fit n t.next → Covered n e b first i t.next → i ≤ j → j < i + k → Turned e b j σ ρ →
      Sure (λ _. Named place (trace.unrolled n pass passed k t.next)) (rules.unrolled n pass exit k t)
  unfolding rules.unrolled trace.unrolled
  unrolled_names first σ h zero i j t f c le lt r = absurd (omega arith)
  unrolled_names first σ h (suc k) i j t f c le lt r = sure_by (pass t.next) (λ p q. either j (suc i)
      (λ now. sure_any _ (λ _. now_names t.next p _ f (c σ ρ h (subst (λ (m : ℕ). Turned e b m σ ρ) (omega arith) r)) q))
      (λ later. let P = sure_of (pass_fine t.next f) q in
      sure_map (unrolled_names first σ h k (suc i) j _ P.next.fit (covered_next n e b first i t.next p P c) (omega arith) (omega arith) r)
      (λ _. later_names t.next p _ q)))

  -- the last pass of a stage that settles
  growing_names : {grow : State → State → State} → Grows n small e b pass exit pass_fine exit_fine grow → (k i : ℕ) (s : State) → Fit n s →
      Sure (λ j. j.settled ≡ true → Holds n j.at ρ → Named place (trace.growing n pass passed grow k s)) (rules.growing n pass exit grow k i s)
  unfolding rules.growing trace.growing
  growing_names G zero i s f = given (λ t. absurd (false≢true t))
  growing_names {grow} G (suc k) i s f = sure_by (pass s) (λ p q. sure_elim (states.within n p.next s)
      (λ w. given (λ _ h. now_names s p _ f h q))
      (λ w. sure_map (growing_names G k (i + 1) (grow s p.next) (G.fit s p.next f (sure_of (pass_fine s f) q).next.fit))
      (λ j N t h. later_names s p _ q (named_else (states.within n p.next s) w (N t h)))))

  settle_names : (s : State) → Fit n s → Sure (λ m. Holds n m.at ρ → Named place (trace.settle n pass passed exit s)) (rules.settle n pass exit s)
  unfolding rules.settle trace.settle
  settle_names s f = sure_by (rules.growing n pass exit (states.join n) 100 0 s) (λ j q. sure_elim j.settled
      (λ t. given (λ h. named_left _
      (sure_of (growing_names (join_grows n small e b pass exit pass_fine exit_fine) 100 0 s f) q t h)))
      (λ t. let J = sure_of (growing_ok n small e b pass exit pass_fine exit_fine (join_grows n small e b pass exit pass_fine exit_fine) 100 0 s f) q in
      sure_then (sure_both (growing_names (widen_grows n small e b pass exit pass_fine exit_fine) (n + n + 1) 0 j.at J.fit) (widening_settles n small e b pass exit pass_fine exit_fine j.at J.fit)) (λ w W.
      given (λ h. named_right (trace.growing n pass passed (states.join n) 100 s) (named_after _ q (named_else j.settled t (W.0 W.1 h)))))))

  -- what is entered after the search
  abbrev searched : State → ℕ → Found → List ℕ
  searched first u w =
      trace.unrolled n pass passed (rules.unroll_passes u w) first
      ++ trace.after (rules.unrolled n pass exit (rules.unroll_passes u w) (record { next = first; exit = states.empty })) (λ t. trace.settle n pass passed exit t.next)

  -- a run that begins in a store of the first state, and turns k times: by the unrolled passes, or by the pass that accepts the settled state
  stage_names : (first : State) (u : ℕ) (σ : Store) (k : ℕ) → Fit n first → Holds n first σ → Turned e b k σ ρ →
      Sure (λ l. (k < l.unrolls) ⊎ (Fit n l.turned × Holds n l.settled ρ) → Named place (trace.loop n pass passed exit u first)) (rules.loop n pass exit u first)
  unfolding rules.loop trace.loop
  stage_names first u σ k f h r =
      sure_by (rules.search n pass exit 100 0 first) (λ w search.
      sure_by (rules.unrolled n pass exit (rules.unroll_passes u w) (record { next = first; exit = states.empty })) (λ t unrolled.
      sure_by (rules.settle n pass exit t.next) (λ m settled.
      sure_by (exit m.at) (λ x out. given (elim [
        | inl lt ↦ named_right (trace.search n pass passed 100 first) (named_after (searched first u) search (named_left _
            (sure_of (unrolled_names first σ h (rules.unroll_passes u w) 0 k (record { next = first; exit = states.empty }) f (covered_first n e b first) (omega arith) (omega arith) r) unrolled)))
        | inr held ↦ named_right (trace.search n pass passed 100 first) (named_after (searched first u) search (named_right (trace.unrolled n pass passed (rules.unroll_passes u w) first)
            (named_after (λ t. trace.settle n pass passed exit t.next) unrolled (sure_of (settle_names t.next held.0) settled held.1))))
      ])))))

  loop_names : (first : State) (u : ℕ) (σ : Store) (k : ℕ) → Fit n first → Holds n first σ → Turned e b k σ ρ →
      Sure (λ _. Named place (trace.loop n pass passed exit u first)) (rules.loop n pass exit u first)
  loop_names first u σ k f h r = sure_map (sure_both (loop_ok n small e b pass exit pass_fine exit_fine first u f) (stage_names first u σ k f h r)) (λ l L.
      either k l.unrolls (λ lt. L.1 (inl lt)) (λ le. L.1 (inr (L.0.holds.turned_fit, L.0.holds.settled k σ ρ le h r))))

-- ---- a normalize, for a run that comes to it in σ

module _ (n : ℕ) (small : n ≤ 64) (body : State → Answer State) (entered : State → List ℕ) (place : ℕ) (σ : Store)
    (body_names : (h : State) → Fit n h → Holds n h σ → Sure (λ _. Named place (entered h)) (body h)) where
  -- one of k values from x on, the run's own
  enumerated_names : (rest : State → Answer State) (rest_entered : State → List ℕ) → ((h : State) → Fit n h → Holds n h σ → Sure (λ _. Named place (rest_entered h)) (rest h)) →
      (v : ℕ) (s : State) → v < n → Fit n s → Holds n s σ → (k x : ℕ) (acc : State) → x ≤ σ v → σ v < x + k →
      Sure (λ _. Named place (trace.enumerated n body entered rest rest_entered v s k x)) (rules.enumerated n body rest v s k x acc)
  unfolding rules.enumerated trace.enumerated
  enumerated_names rest rest_entered rest_names v s lt f h zero x acc le less = absurd (omega arith)
  enumerated_names rest rest_entered rest_names v s lt f h (suc k) x acc le less = sure_by (rest (states.put s v (ranges.point x))) (λ t q. either (σ v) (suc x)
      (λ now. sure_any _ (λ _. named_left _ (sure_of (rest_names (states.put s v (ranges.point x)) (fit_put n small s v (ranges.point x) lt f)
      (put_kept n small s v (ranges.point x) σ lt f h (subst (λ (y : ℕ). σ v ∈ ranges.point y) (let same : σ v ≡ x = omega arith in same) (laws.point_holds (σ v))))) q)))
      (λ later. sure_map (enumerated_names rest rest_entered rest_names v s lt f h k (x + 1) (states.join n acc t) (omega arith) (omega arith))
      (λ _ N. named_right (rest_entered (states.put s v (ranges.point x))) (named_after _ q N))))

  values_names : (rest : State → Answer State) (rest_entered : State → List ℕ) → ((h : State) → Fit n h → Holds n h σ → Sure (λ _. Named place (rest_entered h)) (rest h)) →
      (at v : ℕ) (s : State) → v < n → Fit n s → Holds n s σ → (r : Range) → laws.In r (σ v) →
      Sure (λ _. Named place (trace.values n body entered rest rest_entered v s r)) (rules.values n body rest at v s r)
  values_names rest rest_entered rest_names at v s lt f h Empty i = refused
  values_names rest rest_entered rest_names at v s lt f h (Span x None) i = refused
  values_names rest rest_entered rest_names at v s lt f h (Span x (Some y)) i = sure_elim (ltb 4096 (y - x + 1)) (λ _. refused) (λ few.
      sure_map (enumerated_names rest rest_entered rest_names v s lt f h (y - x + 1) x states.empty i.0 (omega arith)) (λ _. named_else (ltb 4096 (y - x + 1)) few))

  normalized_names : (vs : List ℕ) (at : ℕ) (s : State) → EachBelow n vs → Fit n s → Holds n s σ → Sure (λ _. Named place (trace.normalized n body entered at vs s)) (rules.normalized n body at vs s)
  unfolding rules.normalized trace.normalized
  normalized_names [] at s lt f h = body_names s f h
  normalized_names (v ∷ vs) at s lt f h = sure_elim (states.is_live s)
      (λ l. sure_map (values_names (rules.normalized n body (at + 1) vs) (trace.normalized n body entered (at + 1) vs) (λ t. normalized_names vs (at + 1) t lt.1) at v s lt.0 f h (states.get s v) (laws.in_of (states.get s v) (σ v) (h.each v lt.0)))
      (λ _. named_if (states.is_live s) l))
      (λ _. refused)

-- ---- statements

module _ (g : Setting) (small : g.n ≤ 64) where
  -- an if names what its then-list enters, and what its else-list enters; a list what its first statement enters, and what the rest does
  if_then : {place : ℕ} (at : ℕ) (e : Event) (t f : Statements) (s : State) (u : Sides) → rules.event g (at + 1) e s ≡ Gives u →
      Named place (trace.entering (code.then_at at e) u.yes ++ trace.list g (code.then_at at e + 1) t u.yes) → Named place (trace.statement g at (IfThenElse e t f) s)
  unfolding trace.statement
  if_then at e t f s u q h = named_after _ q (named_left _ h)

  if_else : {place : ℕ} (at : ℕ) (e : Event) (t f : Statements) (s : State) (u : Sides) (a : State) → rules.event g (at + 1) e s ≡ Gives u → rules.list g (code.then_at at e + 1) t u.yes ≡ Gives a →
      Named place (trace.entering (code.else_at at e t) u.no ++ trace.list g (code.else_at at e t + 1) f u.no) → Named place (trace.statement g at (IfThenElse e t f) s)
  unfolding trace.statement
  if_else at e t f s u a q r h = named_after _ q (named_right (trace.entering (code.then_at at e) u.yes ++ trace.list g (code.then_at at e + 1) t u.yes) (named_after _ r h))

  first_of : {place : ℕ} (at : ℕ) (c : Statement) (cs : Statements) (s : State) → Named place (trace.statement g at c s) → Named place (trace.list g at (c then cs) s)
  unfolding trace.list
  first_of at c cs s h = named_left _ h

  rest_of : {place : ℕ} (at : ℕ) (c : Statement) (cs : Statements) (s t : State) → rules.statement g at c s ≡ Gives t → Named place (trace.list g (at + length (code.statement c)) cs t) → Named place (trace.list g at (c then cs) s)
  unfolding trace.list
  rest_of at c cs s t q h = named_right (trace.statement g at c s) (named_after _ q h)

  -- a loop names what its body enters from a state that holds the run after some turns
  while_names : (m : Unroll) (e : Event) (b : Statements) (at : ℕ) (s : State) (σ ρ : Store) (place k : ℕ) → StatementBelow g.n (While m e b) → Fit g.n s → Holds g.n s σ → Turned e b k σ ρ → True e ρ →
      ((h : State) → Fit g.n h → Holds g.n h ρ →
      Sure (λ _. Named place (trace.entering (code.body_at at e) h ++ trace.list g (code.body_at at e + 1) b h)) (rules.list g (code.body_at at e + 1) b h)) →
      Sure (λ _. Named place (trace.statement g at (While m e b) s)) (rules.statement g at (While m e b) s)
  unfolding rules.statement trace.statement
  while_names m e b at s σ ρ place k lt f h r y body = sure_then
      (loop_names g.n small e b (pass_at g v) (exit_at g v)
      (pass_ok g.n small e b (event_at g v) (body_at g v) event_fine body_fine) (exit_ok g.n small e b (event_at g v) (body_at g v) event_fine body_fine)
      (trace.pass_of (event_at g v) (λ h. trace.entering (code.body_at at e) h ++ trace.list g (code.body_at at e + 1) b h)) place ρ
      (λ h i held. sure_by (event_at g v h) (λ t q. let T = (sure_of (event_fine h i) q).yes in sure_then (body t.yes T.fit (T.held ρ held y)) (λ a N. given (named_after _ q N))))
      s (rules.turns g m) σ k f h r)
      (λ l N. given N)
    where
      v : Visit
      v = record { unroll = m; event = e; body = b; place = at; from = s }

      event_fine : (s : State) → Fit g.n s → Sure (Split g.n e s) (event_at g v s)
      event_fine s f = event_ok g small e (at + 3) s lt.0 f

      body_fine : (s : State) → Fit g.n s → Sure (Post g.n (Runs b) s) (body_at g v s)
      body_fine s f = list_ok g small b (code.body_at at e + 1) s lt.1 f

  mutual
    unfolding rules.statement rules.list trace.statement

    statement_names : (c : Statement) (at : ℕ) (s : State) (σ : Store) (place : ℕ) → StatementBelow g.n c → Fit g.n s → Holds g.n s σ → StatementEnters c at σ place →
        Sure (λ _. Named place (trace.statement g at c s)) (rules.statement g at c s)
    statement_names c at s σ place lt f h (then_list {e = e} {t = t} {f = o} y q) = sure_by (rules.event g (at + 1) e s) (λ u split.
        let U = (sure_of (event_ok g small e (at + 1) s lt.0 f) split).yes in
        sure_any _ (λ _. if_then at e t o s u split (named_left _ (named_entering g.n (code.then_at at e) place u.yes σ q (U.held σ h y)))))
    statement_names c at s σ place lt f h (in_then {e = e} {t = t} {f = o} y inside) = sure_by (rules.event g (at + 1) e s) (λ u split.
        let U = (sure_of (event_ok g small e (at + 1) s lt.0 f) split).yes in
        sure_then (list_names t (code.then_at at e + 1) u.yes σ place lt.1 U.fit (U.held σ h y) inside) (λ a N.
        sure_any _ (λ _. if_then at e t o s u split (named_right (trace.entering (code.then_at at e) u.yes) N))))
    statement_names c at s σ place lt f h (else_list {e = e} {t = t} {f = o} y q) = sure_by (rules.event g (at + 1) e s) (λ u split.
        let U = (sure_of (event_ok g small e (at + 1) s lt.0 f) split).no in
        sure_by (rules.list g (code.then_at at e + 1) t u.yes) (λ a then_ends.
        sure_any _ (λ _. if_else at e t o s u a split then_ends (named_left _ (named_entering g.n (code.else_at at e t) place u.no σ q (U.held σ h y))))))
    statement_names c at s σ place lt f h (in_else {e = e} {t = t} {f = o} y inside) = sure_by (rules.event g (at + 1) e s) (λ u split.
        let U = (sure_of (event_ok g small e (at + 1) s lt.0 f) split).no in
        sure_by (rules.list g (code.then_at at e + 1) t u.yes) (λ a then_ends.
        sure_then (list_names o (code.else_at at e t + 1) u.no σ place lt.2 U.fit (U.held σ h y) inside) (λ b N.
        sure_any _ (λ _. if_else at e t o s u a split then_ends (named_right (trace.entering (code.else_at at e t) u.no) N)))))
    statement_names c at s σ place lt f h (loop_body {u = m} {e = e} {b = b} {k = k} {ρ = ρ} r y q) =
        while_names m e b at s σ ρ place k lt f h r y (λ i fit held. sure_any _ (λ _. named_left _ (named_entering g.n (code.body_at at e) place i ρ q held)))
    statement_names c at s σ place lt f h (in_body {u = m} {e = e} {b = b} {k = k} {ρ = ρ} r y inside) =
        while_names m e b at s σ ρ place k lt f h r y (λ i fit held.
        sure_map (list_names b (code.body_at at e + 1) i ρ place lt.1 fit held inside) (λ _. named_right (trace.entering (code.body_at at e) i)))
    statement_names c at s σ place lt f h (in_normalize {vs = vs} {b = b} inside) =
        normalized_names g.n small (λ h. rules.list g (code.normalized_at at vs + 1) b h) (λ h. trace.list g (code.normalized_at at vs + 1) b h) place σ
        (λ i fit held. list_names b (code.normalized_at at vs + 1) i σ place lt.1 fit held inside) vs (at + 2) s lt.0 f h

    pub list_names : (p : Statements) (at : ℕ) (s : State) (σ : Store) (place : ℕ) → StatementsBelow g.n p → Fit g.n s → Holds g.n s σ → ListEnters p at σ place →
        Sure (λ _. Named place (trace.list g at p s)) (rules.list g at p s)
    list_names p at s σ place lt f h (in_first {c = c} {cs = cs} inside) =
        sure_then (statement_names c at s σ place lt.0 f h inside) (λ t N. sure_any _ (λ _. first_of at c cs s N))
    list_names p at s σ place lt f h (in_rest {c = c} {cs = cs} {ρ = ρ} r inside) = sure_by (rules.statement g at c s) (λ t q.
        let T = sure_of (statement_ok g small c at s lt.0 f) q in
        sure_map (list_names cs (at + length (code.statement c)) t ρ place lt.1 T.fit (T.held σ ρ h r) inside) (λ _. rest_of at c cs s t q))
