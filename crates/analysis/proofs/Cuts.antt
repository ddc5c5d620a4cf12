-- The words of an if, a loop and a normalize, cut into their parts where the code cuts them.
use mathlib.Core.Path.{◌≡◌, sym, ap, ◌∙◌, subst}
use mathlib.Core.List.{List}
use Prim.Native.Nat.{ℕ, ◌+◌, ◌-◌, ◌<◌, ◌≤◌}
use native.Mathlib.Omega.{arith}
use lib.ListN.{length, get_or, take, drop, length-drop}
use lib.Seq.{take-length}
use Rattle.paper.specs.Tree.{Unroll, Default, Turns, Event, Statement, IfThenElse, While, Normalize, Statements}
use Rattle.paper.specs.Code as code
use Rattle.words.specs.Parts.{Begins, EventAt, ListAt, StatementIs}
use Rattle.words.proofs.Parts.{begins_whole, begins_at, part_is}
use Rattle.words.proofs.Nodes.{unroll_of, BranchAt, WhileAt, NormalizeAt, branch_here, while_here, normalize_here, event_some}
use Rattle.words.proofs.Bounds.{while_bounds}
use Rattle.analysis.specs.Parts.{LoopIs}

-- words that begin with l at p, and end with it
rest_is : {ws : List ℕ} {p : ℕ} {l : List ℕ} → Begins ws p l → length ws ≡ p + length l → drop p ws ≡ l
rest_is {ws} {p} h e =
    sym (take-length (drop p ws)) ∙ ap (λ (k : ℕ). take k (drop p ws)) (simp length-drop (omega arith)) ∙ h.taken

-- an if whose then-list's count stands at p and whose else-list's count stands at q
pub record BranchCut (ws : List ℕ) (p q : ℕ) (c : Statement) : Type 0 where
  pub event : Event
  pub then_list : Statements
  pub else_list : Statements
  pub same : c ≡ IfThenElse event then_list else_list
  pub p_is : p ≡ 1 + length (code.event event)
  pub some : 1 < p
  pub q_is : q ≡ p + length (code.program then_list)
  pub whole : length ws ≡ q + length (code.program else_list)
  pub event_part : take (p - 1) (drop 1 ws) ≡ code.event event
  pub then_part : take (q - p) (drop p ws) ≡ code.program then_list
  pub else_part : drop q ws ≡ code.program else_list

module _ (ws : List ℕ) (c : Statement) (is : ws ≡ code.statement c) (kind : get_or ws 0 0 ≡ 4) where
  abbrev branch_shape : BranchAt ws 0 c
  branch_shape = branch_here c (begins_whole is) kind

  pub branch_event : EventAt ws 1
  branch_event = record { tree = branch_shape.event; is = branch_shape.event_is }

  module _ (p : ℕ) (ends : (x : Event) → Begins ws 1 (code.event x) → p ≡ 1 + length (code.event x)) where
    pub branch_then : ListAt ws p
    branch_then = record { tree = branch_shape.then_list; is = begins_at (sym (ends branch_shape.event branch_shape.event_is)) branch_shape.then_is }

    pub branch_cut : (q : ℕ) → ((x : Statements) → Begins ws p (code.program x) → q ≡ p + length (code.program x)) → BranchCut ws p q c
    unfolding branch_then
    branch_cut q list_ends =
        let x = branch_shape in
        let pe : p ≡ 1 + length (code.event x.event) = ends x.event x.event_is in
        let qe : q ≡ p + length (code.program x.then_list) = list_ends x.then_list branch_then.is in
        let all : length ws ≡ length (code.statement c) = ap length is in
        let whole : length ws ≡ q + length (code.program x.else_list) = omega (arith, x.size) in
        record {
          event = x.event;
          then_list = x.then_list;
          else_list = x.else_list;
          same = x.same;
          p_is = pe;
          some = omega (arith, event_some x.event);
          q_is = qe;
          whole = whole;
          event_part = part_is (p - 1) x.event_is (omega arith);
          then_part = part_is (q - p) branch_then.is (omega arith);
          else_part = rest_is (begins_at (let e : code.else_at 0 x.event x.then_list ≡ q = omega arith in e) x.else_is) whole;
        }

-- a loop whose body's count stands at p
pub record LoopCut (ws : List ℕ) (p : ℕ) (e : Event) (b : Statements) : Type 0 where
  pub p_is : p ≡ 3 + length (code.event e)
  pub some : 3 < p
  pub whole : length ws ≡ p + length (code.program b)
  pub event_part : take (p - 3) (drop 3 ws) ≡ code.event e
  pub body_part : drop p ws ≡ code.program b

module _ (ws : List ℕ) (u : Unroll) (e : Event) (b : Statements) (is : ws ≡ code.statement (While u e b)) where
  loop_kind : get_or ws 0 0 ≡ 5
  unfolding code.statement
  loop_kind = rw is

  abbrev loop_shape : WhileAt ws 0 (While u e b)
  loop_shape = while_here (While u e b) (begins_whole is) loop_kind

  event_same : loop_shape.event ≡ e
  event_same = let s = loop_shape.same in cc

  body_same : loop_shape.body ≡ b
  body_same = let s = loop_shape.same in cc

  event_here : Begins ws 3 (code.event e)
  event_here = subst (λ (x : Event). Begins ws 3 (code.event x)) event_same loop_shape.event_is

  body_here : Begins ws (3 + length (code.event e)) (code.program b)
  body_here = subst (λ (x : Event). Begins ws (3 + length (code.event x)) (code.program b)) event_same (subst (λ (y : Statements). Begins ws (3 + length (code.event loop_shape.event)) (code.program y)) body_same loop_shape.body_is)

  loop_size : length ws ≡ 3 + length (code.event e) + length (code.program b)
  loop_size = ap length is ∙ subst (λ (x : Event). length (code.statement (While u e b)) ≡ 3 + length (code.event x) + length (code.program b)) event_same (subst (λ (y : Statements). length (code.statement (While u e b)) ≡ 3 + length (code.event loop_shape.event) + length (code.program y)) body_same loop_shape.size)

  pub loop_event : EventAt ws 3
  loop_event = record { tree = e; is = event_here }

  pub loop_cut : (p : ℕ) → ((x : Event) → Begins ws 3 (code.event x) → p ≡ 3 + length (code.event x)) → LoopCut ws p e b
  loop_cut p ends =
      let pe : p ≡ 3 + length (code.event e) = ends e event_here in
      record {
        p_is = pe;
        some = omega (arith, event_some e);
        whole = omega (arith, loop_size);
        event_part = part_is (p - 3) event_here (omega arith);
        body_part = rest_is (begins_at (sym pe) body_here) (omega (arith, loop_size));
      }

  pub loop_long : 3 ≤ length ws
  loop_long = omega (arith, loop_size)

  -- its own number of turns, or the caller's
  pub own_turns : get_or ws 1 0 ≡ 1 → u ≡ Turns (get_or ws 2 0)
  own_turns h = let s = loop_shape.same in let k : loop_shape.unroll ≡ u = cc in sym k ∙ loop_shape.unroll_is ∙ ap (λ (i : ℕ). unroll_of i (get_or ws 2 0)) h

  pub no_turns : (get_or ws 1 0 ≡ 1 → ⊥) → u ≡ Default
  no_turns h =
      let s = loop_shape.same in
      let k : loop_shape.unroll ≡ u = cc in
      let z : get_or ws 1 0 ≡ 0 = omega (arith, loop_shape.has_most) in
      sym k ∙ loop_shape.unroll_is ∙ ap (λ (i : ℕ). unroll_of i (get_or ws 2 0)) z

-- the words of a statement of kind 5 are a loop
module _ {n : ℕ} (ws : List ℕ) (h : StatementIs n ws) (kind : get_or ws 0 0 ≡ 5) where
  pub loop_is : LoopIs n ws
  loop_is =
      let x = while_here h.tree (begins_whole h.is) kind in
      let w = while_bounds x.same h.within in
      record { unroll = x.unroll; event = x.event; body = x.body; is = h.is ∙ ap code.statement x.same; few = w.0; event_within = w.1; body_within = w.2 }

-- a normalize whose body's count stands at p
pub record NormalizeCut (ws : List ℕ) (p : ℕ) (c : Statement) : Type 0 where
  pub given : List ℕ
  pub body : Statements
  pub same : c ≡ Normalize given body
  pub p_is : p ≡ 2 + length given
  pub whole : length ws ≡ p + length (code.program body)
  pub given_part : take (p - 2) (drop 2 ws) ≡ given
  pub body_part : drop p ws ≡ code.program body

module _ (ws : List ℕ) (c : Statement) (is : ws ≡ code.statement c) (kind : get_or ws 0 0 ≡ 7) where
  abbrev normalize_shape : NormalizeAt ws 0 c
  normalize_shape = normalize_here c (begins_whole is) kind

  pub normalize_long : 2 ≤ length ws
  normalize_long = omega (arith, ap length is, normalize_shape.size)

  pub normalize_cut : (p : ℕ) → p ≡ get_or ws 1 0 + 2 → NormalizeCut ws p c
  normalize_cut p e =
      let x = normalize_shape in
      let pe : p ≡ 2 + length x.given = omega (arith, x.count_is) in
      let whole : length ws ≡ p + length (code.program x.body) = omega (arith, ap length is, x.size) in
      record {
        given = x.given;
        body = x.body;
        same = x.same;
        p_is = pe;
        whole = whole;
        given_part = part_is (p - 2) x.given_are (omega arith);
        body_part = rest_is (begins_at (let q : code.normalized_at 0 x.given ≡ p = omega arith in q) x.body_is) whole;
      }
