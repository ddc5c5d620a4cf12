-- Which values the operations' answers hold, for values of any size: first as facts of numbers, then of the test `holds`.
use Rattle.std.specs.Prelude.{Option, Some, None}
use mathlib.Core.Path.{◌≡◌, refl, sym}
use mathlib.Core.Bool.{Bool, true, false, cond, false≢true}
use mathlib.Core.Logic.{◌↔◌}
use mathlib.Core.List.{List, [], ◌∷◌}
use Prim.Native.Nat.{ℕ, suc, ◌+◌, ◌-◌, ◌*◌, max, ◌≤◌}
use native.Mathlib.Nat.{mul-le-mul_right}
use native.Mathlib.Omega.{arith}
use lib.Dec.{leb, eqb}
use borrow.Author.Tests.{leb-true, leb-false, ltb-false, eqb-true, le-leb}
use Rattle.ranges.specs.declared.Range.{Range}
use Rattle.ranges.specs.declared.Range.TheVariants.{Empty, Span}
use Rattle.ranges.specs.Ranges as ranges
use Rattle.ranges.proofs.Lattice.{both, left_of, right_of, join_above_left, join_above_right, widen_above_old, widen_above_new}
use Rattle.ranges.proofs.Kept.{kept, retain_first}

-- ---- a value in a range, as a fact

abbrev pub InEnd : Option ℕ → ℕ → Type 0
InEnd (Some y) x = x ≤ y
InEnd None x = Unit {0}

abbrev pub In : Range → ℕ → Type 0
In Empty x = ⊥
In (Span s e) x = (s ≤ x) × InEnd e x

in_of_end : (e : Option ℕ) (x : ℕ) → ranges.holds_end e x ≡ true → InEnd e x
in_of_end (Some y) x h = leb-true x y h
in_of_end None x h = tt

of_in_end : (e : Option ℕ) (x : ℕ) → InEnd e x → ranges.holds_end e x ≡ true
of_in_end (Some y) x h = le-leb x y h
of_in_end None x h = refl

pub in_of : (r : Range) (x : ℕ) → ranges.holds r x ≡ true → In r x
in_of Empty x h = absurd (false≢true h)
in_of (Span s e) x h = (leb-true s x (left_of (leb s x) (ranges.holds_end e x) h), in_of_end e x (right_of (leb s x) (ranges.holds_end e x) h))

pub of_in : (r : Range) (x : ℕ) → In r x → ranges.holds r x ≡ true
of_in Empty x h = absurd h
of_in (Span s e) x h = both (le-leb s x h.0) (of_in_end e x h.1)

-- an answer that may be None, and has x where it is not
abbrev pub InBounded : Option Range → ℕ → Type 0
InBounded (Some r) x = In r x
InBounded None x = Unit {0}

-- holds of an answer that may be None
abbrev pub HoldsBounded : Option Range → ℕ → Type 0
HoldsBounded (Some r) x = ranges.holds r x ≡ true
HoldsBounded None x = Unit {0}

of_in_bounded : (q : Option Range) (x : ℕ) → InBounded q x → HoldsBounded q x
of_in_bounded (Some r) x h = of_in r x h
of_in_bounded None x h = tt

-- ---- within is inclusion

within_ends_in : (e f : Option ℕ) (x : ℕ) → ranges.within_ends e f ≡ true → InEnd e x → InEnd f x
within_ends_in e None x h k = tt
within_ends_in (Some u) (Some w) x h k = omega (arith, leb-true u w h)
within_ends_in None (Some w) x h k = absurd (false≢true h)

within_in : (a b : Range) (x : ℕ) → ranges.within a b ≡ true → In a x → In b x
within_in Empty b x h k = absurd k
within_in (Span s e) Empty x h k = absurd (false≢true h)
within_in (Span s e) (Span t f) x h k =
    (omega (arith, leb-true t s (left_of (leb t s) (ranges.within_ends e f) h)), within_ends_in e f x (right_of (leb t s) (ranges.within_ends e f) h) k.1)

within_back : (a b : Range) → ranges.crossed a ≡ false → ((x : ℕ) → In a x → In b x) → ranges.within a b ≡ true
within_back Empty b p h = refl
within_back (Span s (Some u)) Empty p h = absurd (h s (omega arith, ltb-false u s p))
within_back (Span s None) Empty p h = absurd (h s (omega arith, tt))
within_back (Span s (Some u)) (Span t (Some w)) p h = both (le-leb t s (h s (omega arith, ltb-false u s p)).0) (le-leb u w (h u (ltb-false u s p, omega arith)).1)
within_back (Span s (Some u)) (Span t None) p h = both (le-leb t s (h s (omega arith, ltb-false u s p)).0) refl
within_back (Span s None) (Span t (Some w)) p h = absurd (let k : max s (suc w) ≤ w = (h (max s (suc w)) (omega arith, tt)).1 in omega arith)
within_back (Span s None) (Span t None) p h = both (le-leb t s (h s (omega arith, tt)).0) refl

pub within_holds : (a b : Range) (x : ℕ) → ranges.within a b ≡ true → ranges.holds a x ≡ true → ranges.holds b x ≡ true
within_holds a b x h k = of_in b x (within_in a b x h (in_of a x k))

-- `within` is what it says, of a range that is not crossed
pub within_says : (a b : Range) → ranges.crossed a ≡ false → (ranges.within a b ≡ true) ↔ ((x : ℕ) → ranges.holds a x ≡ true → ranges.holds b x ≡ true)
within_says a b p = (λ h x k. within_holds a b x h k, λ h. within_back a b p (λ x i. in_of b x (h x (of_in a x i))))

-- ---- what the operations hold

pub holds_filled : (r : Range) (x : ℕ) → ranges.holds r x ≡ true → ranges.is_empty r ≡ false
holds_filled Empty x h = sym h
holds_filled (Span s e) x h = refl

pub point_holds : (x : ℕ) → ranges.holds (ranges.point x) x ≡ true
point_holds x = of_in (ranges.point x) x (omega arith, omega arith)

pub join_holds_left : (a b : Range) (x : ℕ) → ranges.holds a x ≡ true → ranges.holds (ranges.join a b) x ≡ true
join_holds_left a b x h = within_holds a (ranges.join a b) x (join_above_left a b) h

pub join_holds_right : (a b : Range) (x : ℕ) → ranges.holds b x ≡ true → ranges.holds (ranges.join a b) x ≡ true
join_holds_right a b x h = within_holds b (ranges.join a b) x (join_above_right a b) h

pub widen_holds : (a b : Range) (x : ℕ) → ranges.holds a x ≡ true → ranges.holds (ranges.widen a b) x ≡ true
widen_holds a b x h = within_holds a (ranges.widen a b) x (widen_above_old a b) h

pub widen_holds_new : (a b : Range) (x : ℕ) → ranges.holds b x ≡ true → ranges.holds (ranges.widen a b) x ≡ true
widen_holds_new a b x h = within_holds b (ranges.widen a b) x (widen_above_new a b) h

-- an end that is kept or given up
freed : (b : Bool) (e : Option ℕ) (x : ℕ) → InEnd e x → InEnd (cond b e None) x
freed true e x h = h
freed false e x h = tt

sum_ends_in : (e f : Option ℕ) (x y : ℕ) → InEnd e x → InEnd f y → InEnd (ranges.sum_ends e f) (x + y)
sum_ends_in (Some u) (Some w) x y h k = freed (leb (u + w) ranges.top) (Some (u + w)) (x + y) (omega arith)
sum_ends_in (Some u) None x y h k = tt
sum_ends_in None f x y h k = tt

sum_in : (a b : Range) (x y : ℕ) → In a x → In b y → In (ranges.sum a b) (x + y)
sum_in Empty b x y h k = absurd h
sum_in (Span s e) Empty x y h k = absurd k
sum_in (Span s e) (Span t f) x y h k = (omega arith, sum_ends_in e f x y h.1 k.1)

pub sum_holds : (a b : Range) (x y : ℕ) → ranges.holds a x ≡ true → ranges.holds b y ≡ true → ranges.holds (ranges.sum a b) (x + y) ≡ true
sum_holds a b x y h k = of_in (ranges.sum a b) (x + y) (sum_in a b x y (in_of a x h) (in_of b y k))

-- an answer that is kept or None
limited : (b : Bool) (q : Option Range) (x : ℕ) → InBounded q x → InBounded (cond b q None) x
limited true q x h = h
limited false q x h = tt

times_end_in : (s : ℕ) (e : Option ℕ) (c x : ℕ) → s ≤ x * c → InEnd e x → InBounded (ranges.times_end s e c) (x * c)
times_end_in s (Some u) c x h k = limited (leb (u * c) ranges.top) (Some (Span s (Some (u * c)))) (x * c) (h, mul-le-mul_right c k)
times_end_in s None c x h k = (h, tt)

times_in : (a : Range) (c x : ℕ) → In a x → InBounded (ranges.times a c) (x * c)
times_in Empty c x h = absurd h
times_in (Span s e) c x h = limited (leb (s * c) ranges.top) (ranges.times_end (s * c) e c) (x * c) (times_end_in (s * c) e c x (mul-le-mul_right c h.0) h.1)

pub times_holds : (a : Range) (c x : ℕ) → ranges.holds a x ≡ true → HoldsBounded (ranges.times a c) (x * c)
times_holds a c x h = of_in_bounded (ranges.times a c) (x * c) (times_in a c x (in_of a x h))

less_in : (a : Range) (c x : ℕ) → In a x → In (ranges.less a c) (x - c)
less_in Empty c x h = absurd h
less_in (Span s (Some u)) c x h = (omega arith, omega arith)
less_in (Span s None) c x h = (omega arith, tt)

pub less_holds : (a : Range) (c x : ℕ) → ranges.holds a x ≡ true → ranges.holds (ranges.less a c) (x - c) ≡ true
less_holds a c x h = of_in (ranges.less a c) (x - c) (less_in a c x (in_of a x h))

-- ---- retain

pub around_holds : (x : ℕ) → ranges.holds (ranges.around x) x ≡ true
around_holds x = go (leb x ranges.top) refl
  where
    go : (b : Bool) → leb x ranges.top ≡ b → ranges.holds (cond b (ranges.point x) (Span ranges.top None)) x ≡ true
    go true q = point_holds x
    go false q = of_in (Span ranges.top None) x (omega (arith, leb-false x ranges.top q), tt)

-- a value that is inside the range is kept
kept_holds : (r : Range) (x y : ℕ) → x ≡ y → ranges.holds r x ≡ true → ranges.holds (kept r y) x ≡ true
kept_holds r x y e h = rw (← e, h) (around_holds x)

pub retain_holds : (r : Range) (set : List ℕ) (x : ℕ) → ranges.holds r x ≡ true → ranges.has set x ≡ true → ranges.holds (ranges.retain r set) x ≡ true
unfolding ranges.has
retain_holds r [] x h k = absurd (false≢true k)
retain_holds r (y ∷ set) x h k = rw (retain_first r y set) (go (eqb x y) refl (retain_holds r set x h))
  where
    go : (b : Bool) → eqb x y ≡ b → (ranges.has set x ≡ true → ranges.holds (ranges.retain r set) x ≡ true) → ranges.holds (ranges.join (kept r y) (ranges.retain r set)) x ≡ true
    go true q more = join_holds_left (kept r y) (ranges.retain r set) x (kept_holds r x y (eqb-true x y q) h)
    go false q more = join_holds_right (kept r y) (ranges.retain r set) x (more (rw q at k))
