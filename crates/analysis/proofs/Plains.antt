-- What the rules make of a plain statement, by its words.
use mathlib.Core.Path.{◌≡◌, refl, sym, ap, ◌∙◌, subst}
use mathlib.Core.Bool.{true, false, false≢true, cond}
use mathlib.Core.List.{List, ◌∷◌}
use Prim.Native.Nat.{ℕ, ◌+◌, ◌<◌, ◌≤◌}
use native.Mathlib.Omega.{arith}
use lib.Dec.{eqb}
use lib.ListN.{length, get_or, drop}
use Rattle.std.specs.Prelude.{Option, Some, None}
use Rattle.ranges.specs.declared.Range.{Range}
use Rattle.ranges.specs.Ranges as ranges
use Rattle.states.specs.declared.State.{State}
use Rattle.states.specs.declared.State.TheVariants as state
use Rattle.states.specs.Answers.{Answer, Gives, Refuses}
use Rattle.states.specs.States as states
use Rattle.paper.specs.Tree.{Draw, Bernoulli, Nought, Times, Statement, Sample, Assign, Decrement, IfThenElse, While, Fail, Normalize}
use Rattle.paper.specs.Code as code
use Rattle.paper.specs.Rules as rules
use Rattle.paper.specs.Rules.{Setting}
use Rattle.paper.specs.Limits.{DrawIn, AddendIn}
use Rattle.words.specs.Parts.{Begins, StatementIs, StatementWithin, DrawIs}
use Rattle.words.proofs.Nodes.{begins_second, assign_here, decrement_here}
use Rattle.words.proofs.Parts.{begins_whole, begins_head}
use Rattle.words.proofs.Bounds.{sample_bounds, assign_bounds, decrement_bounds}

-- the word of a statement at an index
abbrev pub word : Statement → ℕ → ℕ
word c i = get_or (code.statement c) i 0

-- it begins with its kind word
kind_first : (c : Statement) → code.statement c ≡ (word c 0 ∷ drop 1 (code.statement c))
unfolding code.statement
kind_first (Sample v add d) = refl
kind_first (Assign v add Nought k) = refl
kind_first (Assign v add (Times f w) k) = refl
kind_first (Decrement v k) = refl
kind_first (IfThenElse e t f) = refl
kind_first (While u e b) = refl
kind_first Fail = refl
kind_first (Normalize vs b) = refl

pub begins_kind : {ws : List ℕ} {at : ℕ} (c : Statement) → Begins ws at (code.statement c) → get_or ws at 0 ≡ word c 0
begins_kind {ws} {at} c h = begins_head (subst (λ (l : List ℕ). Begins ws at l) (kind_first c) h)

-- and a plain one's second word is the variable that it changes
pub begins_target : {ws : List ℕ} {at : ℕ} (c : Statement) → Begins ws at (code.statement c) → word c 0 < 4 → get_or ws (at + 1) 0 ≡ word c 1
unfolding code.statement
begins_target (Sample v add d) h k = begins_second h
begins_target (Assign v add Nought offset) h k = begins_second h
begins_target (Assign v add (Times factor w) offset) h k = begins_second h
begins_target (Decrement v offset) h k = begins_second h
begins_target (IfThenElse e t f) h k = absurd (omega arith)
begins_target (While u e b) h k = absurd (omega arith)
begins_target Fail h k = absurd (omega arith)
begins_target (Normalize vs b) h k = absurd (omega arith)

-- a plain one has three words at least
plain_size : (c : Statement) → word c 0 < 4 → 3 ≤ length (code.statement c)
unfolding code.statement
plain_size (Sample v add d) k = omega arith
plain_size (Assign v add Nought offset) k = omega arith
plain_size (Assign v add (Times factor w) offset) k = omega arith
plain_size (Decrement v offset) k = omega arith
plain_size (IfThenElse e t f) k = absurd (omega arith)
plain_size (While u e b) k = absurd (omega arith)
plain_size Fail k = absurd (omega arith)
plain_size (Normalize vs b) k = absurd (omega arith)

pub plain_long : (ws : List ℕ) (c : Statement) → ws ≡ code.statement c → get_or ws 0 0 < 4 → 3 ≤ length ws
plain_long ws c e k = rw e (plain_size c (rw e at k))

-- the draw of a sample; another where there is none
abbrev pub draw : Statement → Draw
draw (Sample v add d) = d
draw (Assign v add x offset) = Bernoulli
draw (Decrement v offset) = Bernoulli
draw (IfThenElse e t f) = Bernoulli
draw (While u e b) = Bernoulli
draw Fail = Bernoulli
draw (Normalize vs b) = Bernoulli

pub draw_words : (c : Statement) → word c 0 ≡ 1 → drop 3 (code.statement c) ≡ code.draw (draw c)
unfolding code.statement
draw_words (Sample v add d) k = refl
draw_words (Assign v add x offset) k = absurd (omega arith)
draw_words (Decrement v offset) k = absurd (omega arith)
draw_words (IfThenElse e t f) k = absurd (omega arith)
draw_words (While u e b) k = absurd (omega arith)
draw_words Fail k = absurd (omega arith)
draw_words (Normalize vs b) k = absurd (omega arith)

draw_within : {n : ℕ} (c : Statement) → StatementWithin n c → word c 0 ≡ 1 → DrawIn n (draw c)
unfolding code.statement
draw_within (Sample v add d) w k = (sample_bounds refl w).1
draw_within (Assign v add x offset) w k = absurd (omega arith)
draw_within (Decrement v offset) w k = absurd (omega arith)
draw_within (IfThenElse e t f) w k = absurd (omega arith)
draw_within (While u e b) w k = absurd (omega arith)
draw_within Fail w k = absurd (omega arith)
draw_within (Normalize vs b) w k = absurd (omega arith)

-- the draw of a sample is a part of its words
pub draw_part : {n : ℕ} {ws : List ℕ} → StatementIs n ws → get_or ws 0 0 ≡ 1 → DrawIs n (drop 3 ws)
draw_part {n} {ws} h k = record { tree = draw h.tree; is = ap (drop 3) h.is ∙ draw_words h.tree first; within = draw_within h.tree h.within first }
  where
    first : word h.tree 0 ≡ 1
    first = sym (ap (λ (l : List ℕ). get_or l 0 0) h.is) ∙ k

-- the words that the code casts to 32 bits
pub decrement_small : {n : ℕ} {ws : List ℕ} → StatementIs n ws → get_or ws 0 0 ≡ 3 → get_or ws 2 0 ≤ ranges.top
decrement_small h k = let x = decrement_here h.tree (begins_whole h.is) k in omega (arith, x.offset_is, (decrement_bounds x.same h.within).1)

pub offset_small : {n : ℕ} {ws : List ℕ} → StatementIs n ws → get_or ws 0 0 ≡ 2 → get_or ws 6 0 ≤ ranges.top
offset_small h k = let x = assign_here h.tree (begins_whole h.is) k in omega (arith, x.offset_is, (assign_bounds x.same h.within).2)

-- the factor of an assign; with no addend its word is 0
factor_within : {n : ℕ} (c : Statement) → StatementWithin n c → word c 0 ≡ 2 → word c 4 ≤ ranges.top
unfolding code.statement AddendIn
factor_within (Assign v add Nought offset) w k = omega arith
factor_within (Assign v add (Times factor x) offset) w k = (assign_bounds refl w).1.0
factor_within (Sample v add d) w k = absurd (omega arith)
factor_within (Decrement v offset) w k = absurd (omega arith)
factor_within (IfThenElse e t f) w k = absurd (omega arith)
factor_within (While u e b) w k = absurd (omega arith)
factor_within Fail w k = absurd (omega arith)
factor_within (Normalize vs b) w k = absurd (omega arith)

pub factor_small : {n : ℕ} {ws : List ℕ} → StatementIs n ws → get_or ws 0 0 ≡ 2 → get_or ws 4 0 ≤ ranges.top
factor_small h k =
    rw h.is (factor_within h.tree h.within (sym (ap (λ (l : List ℕ). get_or l 0 0) h.is) ∙ k))

module _ (g : Setting) (at : ℕ) (s : State) where
  -- an empty state stays as it is
  put_dead : (v : ℕ) (r : Range) → states.is_live s ≡ false → states.put s v r ≡ s
  put_dead v r e = go s e
    where
      go : (t : State) → states.is_live t ≡ false → states.put t v r ≡ t
      go state.Empty e = refl
      go (state.Live cs) e = absurd (false≢true (sym e))

  pub dead_rule : (c : Statement) → word c 0 < 4 → states.is_live s ≡ false → rules.statement g at c s ≡ Gives s
  unfolding code.statement rules.statement
  dead_rule (Sample v add d) k e = ap Gives (put_dead v _ e)
  dead_rule (Assign v add x offset) k e = by (rules.scaled s x)
    where
      by : (b : Option Range) → rules.assigned at s v add offset b ≡ Gives s
      by (Some r) = ap Gives (put_dead v _ e)
      by None = rw e
  dead_rule (Decrement v offset) k e = ap Gives (put_dead v _ e)
  dead_rule (IfThenElse e t f) k d = absurd (omega arith)
  dead_rule (While u e b) k d = absurd (omega arith)
  dead_rule Fail k d = absurd (omega arith)
  dead_rule (Normalize vs b) k d = absurd (omega arith)

  -- what a draw or an assign begins with, by its words
  abbrev pub begun : Statement → Range
  begun c = cond (eqb (word c 2) 1) (states.get s (word c 1)) (ranges.point 0)

  pub sample_rule : (c : Statement) → word c 0 ≡ 1 → rules.statement g at c s ≡ Gives (states.put s (word c 1) (ranges.sum (begun c) (rules.drawn (draw c))))
  unfolding code.statement rules.statement
  sample_rule (Sample v true d) k = refl
  sample_rule (Sample v false d) k = refl
  sample_rule (Assign v add x offset) k = absurd (omega arith)
  sample_rule (Decrement v offset) k = absurd (omega arith)
  sample_rule (IfThenElse e t f) k = absurd (omega arith)
  sample_rule (While u e b) k = absurd (omega arith)
  sample_rule Fail k = absurd (omega arith)
  sample_rule (Normalize vs b) k = absurd (omega arith)

  -- the factor times the range of w, by its words
  abbrev pub scaled : Statement → Option Range
  scaled c = cond (eqb (word c 3) 0) (Some (ranges.point 0)) (ranges.times (states.get s (word c 5)) (word c 4))

  assigned_by : Statement → Option Range → Answer State
  assigned_by c (Some product) = Gives (states.put s (word c 1) (ranges.sum (ranges.sum (begun c) product) (ranges.point (word c 6))))
  assigned_by c None = cond (states.is_live s) (Refuses 8 at) (Gives s)

  assign_rule : (c : Statement) → word c 0 ≡ 2 → rules.statement g at c s ≡ assigned_by c (scaled c)
  unfolding code.statement rules.statement assigned_by
  assign_rule (Assign v true Nought offset) k = refl
  assign_rule (Assign v false Nought offset) k = refl
  assign_rule (Assign v true (Times factor w) offset) k = by (ranges.times (states.get s w) factor)
    where
      by : (b : Option Range) → rules.assigned at s v true offset b ≡ assigned_by (Assign v true (Times factor w) offset) b
      by (Some r) = refl
      by None = refl
  assign_rule (Assign v false (Times factor w) offset) k = by (ranges.times (states.get s w) factor)
    where
      by : (b : Option Range) → rules.assigned at s v false offset b ≡ assigned_by (Assign v false (Times factor w) offset) b
      by (Some r) = refl
      by None = refl
  assign_rule (Sample v add d) k = absurd (omega arith)
  assign_rule (Decrement v offset) k = absurd (omega arith)
  assign_rule (IfThenElse e t f) k = absurd (omega arith)
  assign_rule (While u e b) k = absurd (omega arith)
  assign_rule Fail k = absurd (omega arith)
  assign_rule (Normalize vs b) k = absurd (omega arith)

  pub assign_on : {product : Range} (c : Statement) → word c 0 ≡ 2 → scaled c ≡ Some product → rules.statement g at c s ≡ Gives (states.put s (word c 1) (ranges.sum (ranges.sum (begun c) product) (ranges.point (word c 6))))
  unfolding assigned_by
  assign_on c k e = assign_rule c k ∙ ap (assigned_by c) e

  pub assign_over : (c : Statement) → word c 0 ≡ 2 → scaled c ≡ None → states.is_live s ≡ true → rules.statement g at c s ≡ Refuses 8 at
  unfolding assigned_by
  assign_over c k e live = assign_rule c k ∙ ap (assigned_by c) e ∙ over
    where
      over : assigned_by c None ≡ Refuses 8 at
      over = rw live

  pub decrement_rule : (c : Statement) → word c 0 < 4 → (word c 0 ≡ 1 → ⊥) → (word c 0 ≡ 2 → ⊥) → rules.statement g at c s ≡ Gives (states.put s (word c 1) (ranges.less (states.get s (word c 1)) (word c 2)))
  unfolding code.statement rules.statement
  decrement_rule (Decrement v offset) k a b = refl
  decrement_rule (Sample v add d) k a b = absurd (a refl)
  decrement_rule (Assign v add Nought offset) k a b = absurd (b refl)
  decrement_rule (Assign v add (Times factor w) offset) k a b = absurd (b refl)
  decrement_rule (IfThenElse e t f) k a b = absurd (omega arith)
  decrement_rule (While u e w) k a b = absurd (omega arith)
  decrement_rule Fail k a b = absurd (omega arith)
  decrement_rule (Normalize vs w) k a b = absurd (omega arith)
