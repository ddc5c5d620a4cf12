-- Each time that the rules come to a loop, also to an inner one, its analysis is as promised: the state that they come from is well formed.
use mathlib.Core.Path.{◌≡◌, sym, subst}
use mathlib.Core.List.{List, [], ◌∷◌}
use Prim.Native.Nat.{ℕ, ◌+◌, ◌*◌, ◌≤◌}
use lib.ListN.{length}
use Rattle.ranges.specs.Ranges as ranges
use Rattle.states.specs.declared.State.{State}
use Rattle.states.specs.Answers.{Answer, Gives}
use Rattle.states.specs.States as states
use Rattle.states.specs.States.{Fit}
use Rattle.states.proofs.Fits.{fit_put, fit_join, fit_widen}
use Rattle.paper.specs.Tree.{Event, Statement, Statements}
use Rattle.paper.specs.Code as code
use Rattle.paper.specs.Rules as rules
use Rattle.paper.specs.Rules.{Setting, Pass, Looped}
use Rattle.paper.specs.Runs.{Runs}
use Rattle.paper.specs.Trace as trace
use Rattle.paper.specs.Visits.{Visit, event_at, body_at, pass_at, exit_at, analysed_at, Head, first, next, joined, widened, Point, all_set, set_to}
use Rattle.paper.specs.Visits.{StatementVisits, here, in_then, in_else, in_body, in_normalize, ListVisits, in_first, in_rest}
use Rattle.paper.specs.Promises.{VisitHolds}
use Rattle.paper.proofs.Below.{EachBelow, EventBelow, StatementBelow, StatementsBelow}
use Rattle.states.proofs.Sure.{Sure, sure_of}
use Rattle.paper.proofs.Splits.{Split, event_ok}
use Rattle.paper.proofs.Loops.{Post, Passed}
use Rattle.paper.proofs.Sound.{pass_ok, exit_ok, looping_ok, statement_ok, list_ok}
use Rattle.paper.proofs.Counted.{loop_most}

module _ (n : ℕ) (small : n ≤ 64) where
  head_fit : (e : Event) (b : Statements) (pass : State → Answer Pass) → ((s : State) → Fit n s → Sure (Passed n e b s) (pass s)) → (s h : State) → Fit n s → Head n pass s h → Fit n h
  head_fit e b pass ok s h f first = f
  head_fit e b pass ok s h f (next {h = k} {p = p} H q) = (sure_of (ok k (head_fit e b pass ok s k f H)) q).next.fit
  head_fit e b pass ok s h f (joined {h = k} {p = p} H q) =
      let i = head_fit e b pass ok s k f H in fit_join n small k p.next i (sure_of (ok k i) q).next.fit
  head_fit e b pass ok s h f (widened {h = k} {p = p} H q) =
      let i = head_fit e b pass ok s k f H in fit_widen n small k p.next i (sure_of (ok k i) q).next.fit

  point_fit : {vs : List ℕ} (s h : State) → EachBelow n vs → Fit n s → Point vs s h → Fit n h
  point_fit s h lt f all_set = f
  point_fit s h lt f (set_to {v = v} x P) = point_fit (states.put s v (ranges.point x)) h lt.1 (fit_put n small s v (ranges.point x) lt.0 f) P

-- a loop whose variables are below n, come to from a state of n variables
pub record Good (n : ℕ) (v : Visit) : Type 0 where
  pub event : EventBelow n v.event
  pub body : StatementsBelow n v.body
  pub from : Fit n v.from

module _ (g : Setting) (small : g.n ≤ 64) where
  event_fine : (v : Visit) → Good g.n v → (s : State) → Fit g.n s → Sure (Split g.n v.event s) (event_at g v s)
  event_fine v G s f = event_ok g small v.event (v.place + 3) s G.event f

  body_fine : (v : Visit) → Good g.n v → (s : State) → Fit g.n s → Sure (Post g.n (Runs v.body) s) (body_at g v s)
  body_fine v G s f = list_ok g small v.body (code.body_at v.place v.event + 1) s G.body f

  -- the analysis of such a loop is as promised
  pub visit_holds : (v : Visit) (l : Looped) → Good g.n v → analysed_at g v ≡ Gives l → VisitHolds g v l
  visit_holds v l G q = (sure_of (looping_ok g.n small v.event v.body (event_at g v) (body_at g v) (event_fine v G) (body_fine v G) (rules.turns g v.unroll) v.from G.from) q).holds

  -- and its body is gone over so often at most
  pub visit_most : (v : Visit) → Good g.n v →
      length (trace.loop g.n (pass_at g v) (λ _. v.place ∷ []) (exit_at g v) (rules.turns g v.unroll) v.from) ≤ 201 + rules.turns g v.unroll + 2 * g.n
  visit_most v G = loop_most g.n small v.event v.body (pass_at g v) (exit_at g v)
      (pass_ok g.n small v.event v.body (event_at g v) (body_at g v) (event_fine v G) (body_fine v G))
      (exit_ok g.n small v.event v.body (event_at g v) (body_at g v) (event_fine v G) (body_fine v G)) v.place v.from (rules.turns g v.unroll) G.from

  mutual
    statement_visits : (c : Statement) (at : ℕ) (s : State) (v : Visit) → StatementBelow g.n c → Fit g.n s → StatementVisits g c at s v → Good g.n v
    statement_visits c at s v lt f (here q) = subst (Good g.n) (sym q) (record { event = lt.0; body = lt.1; from = f })
    statement_visits c at s v lt f (in_then {e = e} {t = t} {sides = u} q inside) =
        list_visits t (code.then_at at e + 1) u.yes v lt.1 (sure_of (event_ok g small e (at + 1) s lt.0 f) q).yes.fit inside
    statement_visits c at s v lt f (in_else {e = e} {t = t} {f = o} {sides = u} q inside) =
        list_visits o (code.else_at at e t + 1) u.no v lt.2 (sure_of (event_ok g small e (at + 1) s lt.0 f) q).no.fit inside
    statement_visits c at s v lt f (in_body {u = m} {e = e} {b = b} {h = h} {sides = u} H q inside) =
        let loop : Visit = record { unroll = m; event = e; body = b; place = at; from = s } in
        let G : Good g.n loop = record { event = lt.0; body = lt.1; from = f } in
        let i = head_fit g.n small e b (pass_at g loop) (pass_ok g.n small e b (event_at g loop) (body_at g loop) (event_fine loop G) (body_fine loop G)) s h f H in
        list_visits b (code.body_at at e + 1) u.yes v lt.1 (sure_of (event_ok g small e (at + 3) h lt.0 i) q).yes.fit inside
    statement_visits c at s v lt f (in_normalize {vs = vs} {b = b} {h = h} P inside) =
        list_visits b (code.normalized_at at vs + 1) h v lt.1 (point_fit g.n small s h lt.0 f P) inside

    pub list_visits : (p : Statements) (at : ℕ) (s : State) (v : Visit) → StatementsBelow g.n p → Fit g.n s → ListVisits g p at s v → Good g.n v
    list_visits p at s v lt f (in_first {c = c} inside) = statement_visits c at s v lt.0 f inside
    list_visits p at s v lt f (in_rest {c = c} {cs = cs} {t = t} q inside) =
        list_visits cs (at + length (code.statement c)) t v lt.1 (sure_of (statement_ok g small c at s lt.0 f) q).fit inside
