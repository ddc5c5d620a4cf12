-- The analysis holds every finite run that does not fail.
use Rattle.std.specs.Prelude.{Option, Some, None}
use mathlib.Core.Path.{refl}
use mathlib.Core.Bool.{Bool, true, false, cond}
use mathlib.Core.List.{List}
use Prim.Native.Nat.{ℕ, ◌+◌, ◌-◌, ◌≤◌, ◌<◌}
use native.Mathlib.Nat.{mul_comm}
use lib.ListN.{length}
use Rattle.ranges.specs.declared.Range.{Range}
use Rattle.ranges.specs.Ranges as ranges
use Rattle.ranges.proofs.Laws as laws
use Rattle.states.specs.declared.State.{State}
use Rattle.states.specs.States as states
use Rattle.states.specs.States.{Fit}
use Rattle.states.proofs.Fits.{fit_empty, fit_put, fit_join, put_dead, join_dead}
use Rattle.paper.specs.Tree.{Draw, Event, Addend, Nought, Times, Unroll}
use Rattle.paper.specs.Tree.{Statement, Sample, Assign, Decrement, IfThenElse, While, Fail, Normalize, Statements, done, ◌then◌}
use Rattle.paper.specs.Code as code
use Rattle.paper.specs.Rules as rules
use Rattle.states.specs.Answers.{Answer}
use Rattle.paper.specs.Rules.{Setting, Sides}
use Rattle.paper.specs.Runs.{Store, worth, ◌∈◌, False, Run, sampled, assigned, decremented, went_then, went_else, left, normalized, Runs, ended, went_on, Turned, Holds}
use Rattle.paper.proofs.Below.{AddendBelow, StatementBelow, StatementsBelow}
use Rattle.states.proofs.Sure.{Sure, given, refused, sure_then, sure_if, sure_map}
use Rattle.paper.proofs.Held.{holds_dead, put_stored, join_left, join_right}
use Rattle.paper.proofs.Splits.{Kept, Split, event_ok}
use Rattle.paper.proofs.Loops.{Post, Passed, Looping, loop_ok}
use Rattle.paper.proofs.Enumerated.{normalized_ok}
use Rattle.paper.proofs.Draws.{draws}

-- ---- loops

module _ (n : ℕ) (small : n ≤ 64) (e : Event) (b : Statements) (event : State → Answer Sides) (body : State → Answer State)
    (event_fine : (s : State) → Fit n s → Sure (Split n e s) (event s))
    (body_fine : (s : State) → Fit n s → Sure (Post n (Runs b) s) (body s)) where
  pub pass_ok : (s : State) → Fit n s → Sure (Passed n e b s) (rules.pass_of event body s)
  pass_ok s f = sure_then (event_fine s f) (λ t T. sure_then (body_fine t.yes T.yes.fit) (λ a A. given (record {
    next = record { fit = A.fit; dead = λ d. A.dead (T.yes.dead d); held = λ σ τ h r. A.held σ τ (T.yes.held σ h r.0) r.1 };
    exit = T.no;
  })))

  pub exit_ok : (s : State) → Fit n s → Sure (Kept n (False e) s) (rules.exit_of event s)
  exit_ok s f = sure_then (event_fine s f) (λ t T. given T.no)

  pub looping_ok : (u : ℕ) (s : State) → Fit n s → Sure (Looping n small e b (rules.pass_of event body) (rules.exit_of event) pass_ok exit_ok s u) (rules.looping n event body u s)
  looping_ok u s f = loop_ok n small e b (rules.pass_of event body) (rules.exit_of event) pass_ok exit_ok s u f

-- ---- statements

module _ (g : Setting) (small : g.n ≤ 64) where
  -- the old value, or 0
  old_held : (add : Bool) (s : State) (v : ℕ) (σ : Store) → v < g.n → Holds g.n s σ → cond add (σ v) 0 ∈ rules.old s v add
  old_held true s v σ lt h = h.each v lt
  old_held false s v σ lt h = refl

  -- what setting a variable needs
  set_ok : (v : ℕ) (r : Range) (s : State) (R : Store → Store → Type 0) → v < g.n → Fit g.n s → ((σ τ : Store) → Holds g.n s σ → R σ τ → Holds g.n (states.put s v r) τ) → Post g.n R s (states.put s v r)
  set_ok v r s R lt f held = record { fit = fit_put g.n small s v r lt f; dead = put_dead s v r; held = held }

  sampled_held : (v : ℕ) (add : Bool) (d : Draw) (s : State) (σ τ : Store) → v < g.n → Fit g.n s → Holds g.n s σ → Run (Sample v add d) σ τ →
      Holds g.n (states.put s v (ranges.sum (rules.old s v add) (rules.drawn d))) τ
  sampled_held v add d s σ τ lt f h (sampled x t) =
      put_stored g.n small s v (ranges.sum (rules.old s v add) (rules.drawn d)) σ (cond add (σ v) 0 + x) lt f h
      (laws.sum_holds (rules.old s v add) (rules.drawn d) (cond add (σ v) 0) x (old_held add s v σ lt h) ((draws d x).0 t))

  scaled_held : (x : Addend) (s : State) (σ : Store) → AddendBelow g.n x → Holds g.n s σ → laws.HoldsBounded (rules.scaled s x) (worth σ x)
  scaled_held Nought s σ lt h = refl
  scaled_held (Times f w) s σ lt h = rw (mul_comm f (σ w)) (laws.times_holds (states.get s w) f (σ w) (h.each w lt))

  assigned_held : (v : ℕ) (add : Bool) (x : Addend) (k : ℕ) (r : Range) (s : State) (σ τ : Store) → v < g.n → Fit g.n s → Holds g.n s σ → worth σ x ∈ r → Run (Assign v add x k) σ τ →
      Holds g.n (states.put s v (ranges.sum (ranges.sum (rules.old s v add) r) (ranges.point k))) τ
  assigned_held v add x k r s σ τ lt f h i assigned =
      put_stored g.n small s v (ranges.sum (ranges.sum (rules.old s v add) r) (ranges.point k)) σ (cond add (σ v) 0 + worth σ x + k) lt f h
      (laws.sum_holds (ranges.sum (rules.old s v add) r) (ranges.point k) (cond add (σ v) 0 + worth σ x) k
      (laws.sum_holds (rules.old s v add) r (cond add (σ v) 0) (worth σ x) (old_held add s v σ lt h) i) (laws.point_holds k))

  assigned_ok : (at : ℕ) (s : State) (v : ℕ) (add : Bool) (x : Addend) (k : ℕ) (q : Option Range) → v < g.n → Fit g.n s →
      ((σ : Store) → Holds g.n s σ → laws.HoldsBounded q (worth σ x)) → Sure (Post g.n (Run (Assign v add x k)) s) (rules.assigned at s v add k q)
  assigned_ok at s v add x k (Some r) lt f h = given (set_ok v (ranges.sum (ranges.sum (rules.old s v add) r) (ranges.point k)) s _ lt f (λ σ τ i d. assigned_held v add x k r s σ τ lt f i (h σ i) d))
  assigned_ok at s v add x k None lt f h = sure_if (states.is_live s) (λ _. refused) (λ d. given (record { fit = f; dead = λ x. x; held = λ σ τ i _. absurd (holds_dead d i) }))

  lessened_held : (v k : ℕ) (s : State) (σ τ : Store) → v < g.n → Fit g.n s → Holds g.n s σ → Run (Decrement v k) σ τ → Holds g.n (states.put s v (ranges.less (states.get s v) k)) τ
  lessened_held v k s σ τ lt f h decremented = put_stored g.n small s v (ranges.less (states.get s v) k) σ (σ v - k) lt f h (laws.less_holds (states.get s v) k (σ v) (h.each v lt))

  branch_held : (e : Event) (t f : Statements) (s : State) (u : Sides) (a b : State) (σ τ : Store) → Split g.n e s u → Post g.n (Runs t) u.yes a → Post g.n (Runs f) u.no b →
      Holds g.n s σ → Run (IfThenElse e t f) σ τ → Holds g.n (states.join g.n a b) τ
  branch_held e t f s u a b σ τ U A B h (went_then c d) = join_left g.n small a b τ A.fit B.fit (A.held σ τ (U.yes.held σ h c) d)
  branch_held e t f s u a b σ τ U A B h (went_else c d) = join_right g.n small a b τ A.fit B.fit (B.held σ τ (U.no.held σ h c) d)

  branch_ok : (e : Event) (t f : Statements) (s : State) (u : Sides) (a b : State) → Split g.n e s u → Post g.n (Runs t) u.yes a → Post g.n (Runs f) u.no b →
      Post g.n (Run (IfThenElse e t f)) s (states.join g.n a b)
  branch_ok e t f s u a b U A B = record {
    fit = fit_join g.n small a b A.fit B.fit;
    dead = λ d. join_dead g.n a b (A.dead (U.yes.dead d)) (B.dead (U.no.dead d));
    held = λ σ τ h r. branch_held e t f s u a b σ τ U A B h r;
  }

  left_held : (m : Unroll) (e : Event) (b : Statements) (s x : State) (σ τ : Store) → ((k : ℕ) (σ τ : Store) → Holds g.n s σ → Turned e b k σ τ → False e τ → Holds g.n x τ) →
      Holds g.n s σ → Run (While m e b) σ τ → Holds g.n x τ
  left_held m e b s x σ τ covers h (left {k = k} r o) = covers k σ τ h r o

  no_run : (σ τ : Store) → Run Fail σ τ → ⊥
  no_run σ τ = elim [ ]

  body_run : {vs : List ℕ} {b : Statements} (σ τ : Store) → Run (Normalize vs b) σ τ → Runs b σ τ
  body_run σ τ (normalized r) = r

  none_held : (s : State) (σ τ : Store) → Holds g.n s σ → Runs done σ τ → Holds g.n s τ
  none_held s σ τ h ended = h

  on_held : (c : Statement) (cs : Statements) (s t u : State) (σ τ : Store) → Post g.n (Run c) s t → Post g.n (Runs cs) t u → Holds g.n s σ → Runs (c then cs) σ τ → Holds g.n u τ
  on_held c cs s t u σ τ T U h (went_on {ρ = ρ} r d) = U.held ρ τ (T.held σ ρ h r) d

  mutual
    unfolding rules.statement rules.list

    pub statement_ok : (c : Statement) (at : ℕ) (s : State) → StatementBelow g.n c → Fit g.n s → Sure (Post g.n (Run c) s) (rules.statement g at c s)
    statement_ok (Sample v add d) at s lt f = given (set_ok v (ranges.sum (rules.old s v add) (rules.drawn d)) s _ lt.0 f (λ σ τ h r. sampled_held v add d s σ τ lt.0 f h r))
    statement_ok (Assign v add x k) at s lt f = assigned_ok at s v add x k (rules.scaled s x) lt.0 f (λ σ h. scaled_held x s σ lt.1 h)
    statement_ok (Decrement v k) at s lt f = given (set_ok v (ranges.less (states.get s v) k) s _ lt f (λ σ τ h r. lessened_held v k s σ τ lt f h r))
    statement_ok (IfThenElse e t o) at s lt f =
        sure_then (event_ok g small e (at + 1) s lt.0 f) (λ u U.
        sure_then (list_ok t (code.then_at at e + 1) u.yes lt.1 U.yes.fit) (λ a A.
        sure_then (list_ok o (code.else_at at e t + 1) u.no lt.2 U.no.fit) (λ b B.
        given (branch_ok e t o s u a b U A B))))
    statement_ok (While m e b) at s lt f =
        sure_then (looping_ok g.n small e b (λ h. rules.event g (at + 3) e h) (λ h. rules.list g (code.body_at at e + 1) b h)
        (λ s f. event_ok g small e (at + 3) s lt.0 f) (λ s f. list_ok b (code.body_at at e + 1) s lt.1 f) (rules.turns g m) s f) (λ l L.
        given (record { fit = L.holds.exits_fit; dead = L.dead; held = λ σ τ h r. left_held m e b s l.exits σ τ L.holds.covers h r }))
    statement_ok Fail at s lt f = given (record { fit = fit_empty g.n; dead = λ _. refl; held = λ σ τ h r. absurd (no_run σ τ r) })
    statement_ok (Normalize vs b) at s lt f =
        sure_map (normalized_ok g.n small (λ h. rules.list g (code.normalized_at at vs + 1) b h) (Runs b) (λ s f. list_ok b (code.normalized_at at vs + 1) s lt.1 f) vs (at + 2) s lt.0 f) (λ t T.
        record { fit = T.fit; dead = T.dead; held = λ σ τ h r. T.held σ τ h (body_run σ τ r) })

    pub list_ok : (p : Statements) (at : ℕ) (s : State) → StatementsBelow g.n p → Fit g.n s → Sure (Post g.n (Runs p) s) (rules.list g at p s)
    list_ok done at s lt f = given (record { fit = f; dead = λ d. d; held = λ σ τ h r. none_held s σ τ h r })
    list_ok (c then cs) at s lt f =
        sure_then (statement_ok c at s lt.0 f) (λ t T.
        sure_map (list_ok cs (at + length (code.statement c)) t lt.1 T.fit) (λ u U.
        record { fit = U.fit; dead = λ d. U.dead (T.dead d); held = λ σ τ h r. on_held c cs s t u σ τ T U h r }))
