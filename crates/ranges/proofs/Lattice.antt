-- Join, within, the same and widening: the order of ranges and what is above both of two.
use Rattle.std.specs.Prelude.{Option, Some, None}
use mathlib.Core.Path.{◌≡◌, refl, sym, ap, ap₂, ◌∙◌}
use mathlib.Core.Bool.{Bool, true, false, cond, ◌&&◌, false≢true}
use mathlib.Core.Logic.{◌↔◌}
use Prim.Native.Nat.{ℕ, ◌+◌, min, max, ◌≤◌, ◌<◌}
use native.Mathlib.Omega.{arith}
use lib.Dec.{leb, eqb}
use borrow.Author.Tests.{leb-true, leb-false, eqb-true, le-leb, eq-eqb}
use Rattle.ranges.specs.declared.Range.{Range}
use Rattle.ranges.specs.declared.Range.TheVariants.{Empty, Span}
use Rattle.ranges.specs.Ranges as ranges

-- two tests are true, and each of them is

pub both : {a b : Bool} → a ≡ true → b ≡ true → (a && b) ≡ true
both {a} {b} p q = rw (p, q) refl

pub left_of : (a b : Bool) → (a && b) ≡ true → a ≡ true
left_of true b h = refl
left_of false b h = h

pub right_of : (a b : Bool) → (a && b) ≡ true → b ≡ true
right_of true b h = h
right_of false b h = absurd (false≢true h)

-- what `within` says of two ranges that are not Empty, part by part

within_parts : (s : ℕ) (e : Option ℕ) (t : ℕ) (f : Option ℕ) → ranges.within (Span s e) (Span t f) ≡ true → (t ≤ s) × (ranges.within_ends e f ≡ true)
within_parts s e t f h = (leb-true t s (left_of (leb t s) (ranges.within_ends e f) h), right_of (leb t s) (ranges.within_ends e f) h)

-- ---- within is an order

within_ends_self : (e : Option ℕ) → ranges.within_ends e e ≡ true
within_ends_self (Some x) = le-leb x x (omega arith)
within_ends_self None = refl

pub within_self : (a : Range) → ranges.within a a ≡ true
within_self Empty = refl
within_self (Span s e) = both (le-leb s s (omega arith)) (within_ends_self e)

within_ends_trans : (e f g : Option ℕ) → ranges.within_ends e f ≡ true → ranges.within_ends f g ≡ true → ranges.within_ends e g ≡ true
within_ends_trans e f None h k = refl
within_ends_trans (Some x) (Some y) (Some z) h k = le-leb x z (omega (arith, leb-true x y h, leb-true y z k))
within_ends_trans None (Some y) (Some z) h k = h
within_ends_trans e None (Some z) h k = absurd (false≢true k)

pub within_trans : (a b c : Range) → ranges.within a b ≡ true → ranges.within b c ≡ true → ranges.within a c ≡ true
within_trans Empty b c h k = refl
within_trans (Span s e) Empty c h k = absurd (false≢true h)
within_trans (Span s e) (Span t f) Empty h k = absurd (false≢true k)
within_trans (Span s e) (Span t f) (Span u g) h k =
    let p = within_parts s e t f h in
    let q = within_parts t f u g k in
    both (le-leb u s (omega (arith, p.0, q.0))) (within_ends_trans e f g p.1 q.1)

within_ends_antisym : (e f : Option ℕ) → ranges.within_ends e f ≡ true → ranges.within_ends f e ≡ true → e ≡ f
within_ends_antisym (Some x) (Some y) h k = let q : x ≡ y = omega (arith, leb-true x y h, leb-true y x k) in ap Some q
within_ends_antisym (Some x) None h k = absurd (false≢true k)
within_ends_antisym None (Some y) h k = absurd (false≢true h)
within_ends_antisym None None h k = refl

pub within_antisym : (a b : Range) → ranges.within a b ≡ true → ranges.within b a ≡ true → a ≡ b
within_antisym Empty Empty h k = refl
within_antisym Empty (Span t f) h k = absurd (false≢true k)
within_antisym (Span s e) Empty h k = absurd (false≢true h)
within_antisym (Span s e) (Span t f) h k =
    let p = within_parts s e t f h in
    let q = within_parts t f s e k in
    let r : s ≡ t = omega (arith, p.0, q.0) in ap₂ Span r (within_ends_antisym e f p.1 q.1)

-- ---- the same is equality

same_ends_eq : (e f : Option ℕ) → ranges.same_ends e f ≡ true → e ≡ f
same_ends_eq (Some x) (Some y) h = ap Some (eqb-true x y h)
same_ends_eq (Some x) None h = absurd (false≢true h)
same_ends_eq None (Some y) h = absurd (false≢true h)
same_ends_eq None None h = refl

pub same_eq : (a b : Range) → ranges.same a b ≡ true → a ≡ b
same_eq Empty Empty h = refl
same_eq Empty (Span t f) h = absurd (false≢true h)
same_eq (Span s e) Empty h = absurd (false≢true h)
same_eq (Span s e) (Span t f) h =
    ap₂ Span (eqb-true s t (left_of (eqb s t) (ranges.same_ends e f) h)) (same_ends_eq e f (right_of (eqb s t) (ranges.same_ends e f) h))

same_ends_self : (e : Option ℕ) → ranges.same_ends e e ≡ true
same_ends_self (Some x) = eq-eqb x x refl
same_ends_self None = refl

pub same_self : (a : Range) → ranges.same a a ≡ true
same_self Empty = refl
same_self (Span s e) = both (eq-eqb s s refl) (same_ends_self e)

pub same_says : (a b : Range) → (ranges.same a b ≡ true) ↔ (a ≡ b)
same_says a b = (λ h. same_eq a b h, λ h. rw h (same_self b))

-- ---- join is the least above both

join_ends_comm : (e f : Option ℕ) → ranges.join_ends e f ≡ ranges.join_ends f e
join_ends_comm (Some x) (Some y) = ap Some (omega arith)
join_ends_comm (Some x) None = refl
join_ends_comm None (Some y) = refl
join_ends_comm None None = refl

pub join_comm : (a b : Range) → ranges.join a b ≡ ranges.join b a
join_comm Empty Empty = refl
join_comm Empty (Span t f) = refl
join_comm (Span s e) Empty = refl
join_comm (Span s e) (Span t f) = ap₂ Span (omega arith) (join_ends_comm e f)

join_ends_assoc : (e f g : Option ℕ) → ranges.join_ends (ranges.join_ends e f) g ≡ ranges.join_ends e (ranges.join_ends f g)
join_ends_assoc (Some x) (Some y) (Some z) = ap Some (omega arith)
join_ends_assoc (Some x) (Some y) None = refl
join_ends_assoc (Some x) None g = refl
join_ends_assoc None f g = refl

pub join_assoc : (a b c : Range) → ranges.join (ranges.join a b) c ≡ ranges.join a (ranges.join b c)
join_assoc Empty b c = refl
join_assoc (Span s e) Empty c = refl
join_assoc (Span s e) (Span t f) Empty = refl
join_assoc (Span s e) (Span t f) (Span u g) = ap₂ Span (omega arith) (join_ends_assoc e f g)

join_ends_idem : (e : Option ℕ) → ranges.join_ends e e ≡ e
join_ends_idem (Some x) = ap Some (omega arith)
join_ends_idem None = refl

pub join_idem : (a : Range) → ranges.join a a ≡ a
join_idem Empty = refl
join_idem (Span s e) = ap₂ Span (omega arith) (join_ends_idem e)

-- Empty with x gives x, also on the right
pub join_empty : (a : Range) → ranges.join a Empty ≡ a
join_empty Empty = refl
join_empty (Span s e) = refl

join_ends_above : (e f : Option ℕ) → ranges.within_ends e (ranges.join_ends e f) ≡ true
join_ends_above (Some x) (Some y) = le-leb x (max x y) (omega arith)
join_ends_above (Some x) None = refl
join_ends_above None f = refl

pub join_above_left : (a b : Range) → ranges.within a (ranges.join a b) ≡ true
join_above_left Empty b = refl
join_above_left (Span s e) Empty = within_self (Span s e)
join_above_left (Span s e) (Span t f) = both (le-leb (min s t) s (omega arith)) (join_ends_above e f)

pub join_above_right : (a b : Range) → ranges.within b (ranges.join a b) ≡ true
join_above_right a b = rw (join_comm a b) (join_above_left b a)

join_ends_least : (e f g : Option ℕ) → ranges.within_ends e g ≡ true → ranges.within_ends f g ≡ true → ranges.within_ends (ranges.join_ends e f) g ≡ true
join_ends_least e f None h k = refl
join_ends_least (Some x) (Some y) (Some z) h k = le-leb (max x y) z (omega (arith, leb-true x z h, leb-true y z k))
join_ends_least (Some x) None (Some z) h k = k
join_ends_least None f (Some z) h k = h

pub join_least : (a b c : Range) → ranges.within a c ≡ true → ranges.within b c ≡ true → ranges.within (ranges.join a b) c ≡ true
join_least Empty b c h k = k
join_least (Span s e) Empty c h k = h
join_least (Span s e) (Span t f) Empty h k = h
join_least (Span s e) (Span t f) (Span u g) h k =
    let p = within_parts s e u g h in
    let q = within_parts t f u g k in
    both (le-leb u (min s t) (omega (arith, p.0, q.0))) (join_ends_least e f g p.1 q.1)

pub join_filled : (a b : Range) → ranges.is_empty a ≡ false → ranges.is_empty (ranges.join a b) ≡ false
join_filled Empty b h = absurd (false≢true (sym h))
join_filled (Span s e) Empty h = refl
join_filled (Span s e) (Span t f) h = refl

-- ---- widening is above both, and gives up a bound

widen_ends_new : (e f : Option ℕ) → ranges.within_ends f (ranges.widen_ends e f) ≡ true
widen_ends_new e f = go (ranges.within_ends f e) refl
  where
    go : (b : Bool) → ranges.within_ends f e ≡ b → ranges.within_ends f (cond b e None) ≡ true
    go true q = q
    go false q = refl

widen_ends_old : (e f : Option ℕ) → ranges.within_ends e (ranges.widen_ends e f) ≡ true
widen_ends_old e f = go (ranges.within_ends f e)
  where
    go : (b : Bool) → ranges.within_ends e (cond b e None) ≡ true
    go true = within_ends_self e
    go false = refl

-- a start that is kept or becomes 0
pub kept_le : (b : Bool) (s t : ℕ) → (b ≡ true → s ≤ t) → cond b s 0 ≤ t
kept_le true s t h = h refl
kept_le false s t h = omega arith

pub widen_above_old : (a b : Range) → ranges.within a (ranges.widen a b) ≡ true
widen_above_old Empty b = refl
widen_above_old (Span s e) Empty = within_self (Span s e)
widen_above_old (Span s e) (Span t f) = both (le-leb _ _ (kept_le (leb s t) s s (λ q. omega arith))) (widen_ends_old e f)

pub widen_above_new : (a b : Range) → ranges.within b (ranges.widen a b) ≡ true
widen_above_new Empty b = within_self b
widen_above_new (Span s e) Empty = refl
widen_above_new (Span s e) (Span t f) = both (le-leb _ _ (kept_le (leb s t) s t (λ q. leb-true s t q))) (widen_ends_new e f)

pub widen_filled : (a b : Range) → ranges.is_empty a ≡ false → ranges.is_empty (ranges.widen a b) ≡ false
widen_filled Empty b h = absurd (false≢true (sym h))
widen_filled (Span s e) Empty h = refl
widen_filled (Span s e) (Span t f) h = refl

-- how many of a range's two bounds a widening may still give up
abbrev pub weight_start : ℕ → ℕ
weight_start s = cond (eqb s 0) 0 1

abbrev pub weight_end : Option ℕ → ℕ
weight_end (Some x) = 1
weight_end None = 0

abbrev pub weight : Range → ℕ
weight Empty = 2
weight (Span s e) = weight_start s + weight_end e

weight_start_le : (s : ℕ) → weight_start s ≤ 1
weight_start_le s = go (eqb s 0)
  where
    go : (b : Bool) → cond b 0 1 ≤ 1
    go true = omega arith
    go false = omega arith

pub weight_le : (r : Range) → weight r ≤ 2
weight_le Empty = omega arith
weight_le (Span s (Some x)) = omega (arith, weight_start_le s)
weight_le (Span s None) = omega (arith, weight_start_le s)

start_le : (s t : ℕ) → weight_start (cond (leb s t) s 0) ≤ weight_start s
start_le s t = go (leb s t)
  where
    go : (b : Bool) → weight_start (cond b s 0) ≤ weight_start s
    go true = omega arith
    go false = omega arith

start_lt : (s t : ℕ) → leb s t ≡ false → weight_start (cond (leb s t) s 0) < weight_start s
start_lt s t h = rw h (go (eqb s 0) refl)
  where
    go : (b : Bool) → eqb s 0 ≡ b → 0 < cond (eqb s 0) 0 1
    go true q = omega (arith, eqb-true s 0 q, leb-false s t h)
    go false q = rw q (omega arith)

end_le : (e f : Option ℕ) → weight_end (ranges.widen_ends e f) ≤ weight_end e
end_le e f = go (ranges.within_ends f e)
  where
    go : (b : Bool) → weight_end (cond b e None) ≤ weight_end e
    go true = omega arith
    go false = omega arith

end_lt : (e f : Option ℕ) → ranges.within_ends f e ≡ false → weight_end (ranges.widen_ends e f) < weight_end e
end_lt (Some x) f h = rw h (omega arith)
end_lt None f h = absurd (false≢true (sym h))

pub widen_le : (a b : Range) → weight (ranges.widen a b) ≤ weight a
widen_le Empty b = weight_le b
widen_le (Span s e) Empty = omega arith
widen_le (Span s e) (Span t f) = omega (arith, start_le s t, end_le e f)

pub widen_lt : (a b : Range) → ranges.is_empty a ≡ false → ranges.within b a ≡ false → weight (ranges.widen a b) < weight a
widen_lt Empty b h k = absurd (false≢true (sym h))
widen_lt (Span s e) Empty h k = absurd (false≢true (sym k))
widen_lt (Span s e) (Span t f) h k = go (leb s t) refl
  where
    go : (b : Bool) → leb s t ≡ b → weight (ranges.widen (Span s e) (Span t f)) < weight (Span s e)
    go true q = omega (arith, start_le s t, end_lt e f (sym (ap (λ (b : Bool). b && ranges.within_ends f e) q) ∙ k))
    go false q = omega (arith, start_lt s t q, end_le e f)
