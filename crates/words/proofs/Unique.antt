-- What stands at a place is one tree: so the code is injective, whatever the limits.
use mathlib.Core.Path.{◌≡◌, refl, sym, ◌∙◌}
use mathlib.Core.List.{List, ◌∷◌, ◌++◌}
use Prim.Native.Nat.{ℕ, ◌+◌}
use native.Mathlib.Omega.{arith}
use lib.ListN.{length}
use Rattle.paper.specs.Code as code
use Rattle.paper.specs.Tree.{Draw, Event, InSet, VarComparison, DataFromDist, Complement, Intersection, Events, none, ◌also◌}
use Rattle.paper.specs.Tree.{Statement, Sample, Assign, Decrement, IfThenElse, While, Fail, Normalize, Statements, done, ◌then◌}
use Rattle.words.specs.Parts.{Begins}
use Rattle.words.proofs.Parts.{begins_whole, begins_at, begins_head, begins_tail, begins_left, begins_right, part_is}
use Rattle.words.proofs.Nodes.{begins_second, begins_third, begins_after_two, begins_after_three, unroll_after, draw_here}
use Rattle.words.proofs.Nodes.{set_here, comparison_here, datum_here, complement_here, intersection_here, next_event_here, no_event_here}
use Rattle.words.proofs.Nodes.{sample_here, assign_here, decrement_here, branch_here, while_here, fail_here, normalize_here, next_here, done_here}

module _ {ws : List ℕ} where
  same_list : {at : ℕ} (l m : List ℕ) → Begins ws at l → Begins ws at m → length l ≡ length m → l ≡ m
  same_list l m h g e = sym h.taken ∙ part_is (length l) g e

  same_count : {at x y : ℕ} {l m : List ℕ} → Begins ws at (x ∷ l) → Begins ws at (y ∷ m) → x ≡ y
  same_count h g = sym (begins_head h) ∙ begins_head g

  same_draw : {at : ℕ} (d e : Draw) → Begins ws at (code.draw d) → Begins ws at (code.draw e) → d ≡ e
  same_draw d e h g = (draw_here d h).same ∙ sym (draw_here e g).same

  mutual
    unfolding code.event

    same_event : {at : ℕ} (e f : Event) → Begins ws at (code.event e) → Begins ws at (code.event f) → e ≡ f
    same_event (InSet v xs) f h g =
        let x = set_here f g (begins_head h) in
        let size : length xs ≡ length x.values = sym (begins_third h) ∙ x.count_is in
        let all = same_list xs x.values (begins_after_three h) x.values_are size in
        cc (begins_second h)
    same_event (VarComparison v w) f h g =
        let x = comparison_here f g (begins_head h) in
        cc (begins_second h, begins_third h)
    same_event (DataFromDist v d) f h g =
        let x = datum_here f g (begins_head h) in
        let drawn = same_draw d x.draw (begins_after_two h) x.draw_is in
        cc (begins_second h)
    same_event (Complement e) f h g =
        let x = complement_here f g (begins_head h) in
        let inner = same_event e x.event (begins_tail h) x.event_is in
        cc
    same_event (Intersection es) f h g =
        let x = intersection_here f g (begins_head h) in
        let size = sym (begins_second h) ∙ begins_head x.events_are in
        let inner = same_events es x.events size (begins_tail (begins_tail h)) (begins_tail x.events_are) in
        cc

    same_events : {at : ℕ} (es fs : Events) → code.count_events es ≡ code.count_events fs → Begins ws at (code.events es) → Begins ws at (code.events fs) → es ≡ fs
    same_events none fs n h g = sym (no_event_here fs (sym n)).same
    same_events {at} (e also es) fs n h g =
        let x = next_event_here fs g (omega arith) in
        let first : e ≡ x.head = same_event e x.head (begins_left (code.event e) (code.events es) h) x.head_is in
        let rest : Begins ws (at + length (code.event e)) (code.events x.tail) = rw (← first) at x.tail_is in
        let others = same_events es x.tail (omega (arith, x.counts)) (begins_right (code.event e) (code.events es) h) rest in
        cc

  mutual
    unfolding code.statement

    same_statement : {at : ℕ} (c d : Statement) → Begins ws at (code.statement c) → Begins ws at (code.statement d) → c ≡ d
    same_statement (Sample v add d) f h g =
        let x = sample_here f g (begins_head h) in
        let y = sample_here (Sample v add d) h (begins_head h) in
        let drawn = same_draw y.draw x.draw y.draw_is x.draw_is in
        cc
    same_statement (Assign v add a k) f h g =
        let x = assign_here f g (begins_head h) in
        let y = assign_here (Assign v add a k) h (begins_head h) in
        cc
    same_statement (Decrement v k) f h g =
        let x = decrement_here f g (begins_head h) in
        cc (begins_second h, begins_third h)
    same_statement {at} (IfThenElse e t f) d h g =
        let x = branch_here d g (begins_head h) in
        let lists = begins_right (code.event e) (code.program t ++ code.program f) (begins_tail h) in
        let test : e ≡ x.event = same_event e x.event (begins_left (code.event e) (code.program t ++ code.program f) (begins_tail h)) x.event_is in
        let then_is : Begins ws (at + 1 + length (code.event e)) (code.program x.then_list) = rw (← test) at x.then_is in
        let then_here = begins_left (code.program t) (code.program f) lists in
        let then_list = same_statements t x.then_list (same_count then_here then_is) (begins_tail then_here) (begins_tail then_is) in
        let else_is : Begins ws (at + 1 + length (code.event e) + length (code.program t)) (code.program x.else_list) = begins_at (rw (← test, ← then_list) (omega arith)) x.else_is in
        let else_here = begins_right (code.program t) (code.program f) lists in
        let else_list = same_statements f x.else_list (same_count else_here else_is) (begins_tail else_here) (begins_tail else_is) in
        cc
    same_statement {at} (While u e b) d h g =
        let x = while_here d g (begins_head h) in
        let y = while_here (While u e b) h (begins_head h) in
        let rest = unroll_after u h in
        let test : e ≡ x.event = same_event e x.event (begins_left (code.event e) (code.program b) rest) x.event_is in
        let body_is : Begins ws (at + 3 + length (code.event e)) (code.program x.body) = rw (← test) at x.body_is in
        let body_here = begins_right (code.event e) (code.program b) rest in
        let body = same_statements b x.body (same_count body_here body_is) (begins_tail body_here) (begins_tail body_is) in
        cc
    same_statement Fail d h g = sym (fail_here d g (begins_head h)).same
    same_statement {at} (Normalize vs b) d h g =
        let x = normalize_here d g (begins_head h) in
        let size : length vs ≡ length x.given = sym (begins_second h) ∙ x.count_is in
        let given = same_list vs x.given (begins_left vs (code.program b) (begins_after_two h)) x.given_are size in
        let body_is : Begins ws (at + 2 + length vs) (code.program x.body) = rw (← given) at x.body_is in
        let body_here = begins_right vs (code.program b) (begins_after_two h) in
        let body = same_statements b x.body (same_count body_here body_is) (begins_tail body_here) (begins_tail body_is) in
        cc

    same_statements : {at : ℕ} (cs ds : Statements) → code.count cs ≡ code.count ds → Begins ws at (code.list cs) → Begins ws at (code.list ds) → cs ≡ ds
    same_statements done ds n h g = sym (done_here ds (sym n)).same
    same_statements {at} (c then cs) ds n h g =
        let x = next_here ds g (omega arith) in
        let first : c ≡ x.head = same_statement c x.head (begins_left (code.statement c) (code.list cs) h) x.head_is in
        let rest : Begins ws (at + length (code.statement c)) (code.list x.tail) = rw (← first) at x.tail_is in
        let others = same_statements cs x.tail (omega (arith, x.counts)) (begins_right (code.statement c) (code.list cs) h) rest in
        cc

-- two programs with one code are one
pub code_injective : (p q : Statements) → code.program p ≡ code.program q → p ≡ q
code_injective p q e =
    let here : Begins (code.program p) 0 (code.program p) = begins_whole refl in
    let there : Begins (code.program p) 0 (code.program q) = begins_whole e in
    same_statements p q (same_count here there) (begins_tail here) (begins_tail there)
