-- Every answer's start is at most its end, as document 01 has a range, where those of the ranges that it is made from are.
use Rattle.std.specs.Prelude.{Option, Some, None}
use mathlib.Core.Path.{◌≡◌, refl}
use mathlib.Core.Bool.{Bool, true, false, cond}
use mathlib.Core.List.{List, [], ◌∷◌}
use Prim.Native.Nat.{ℕ, ◌+◌, ◌-◌, ◌*◌, min, max, ◌≤◌}
use native.Mathlib.Nat.{mul-le-mul_right}
use native.Mathlib.Omega.{arith}
use lib.Dec.{leb}
use borrow.Author.Tests.{ltb-false, le-ltb}
use Rattle.ranges.specs.declared.Range.{Range}
use Rattle.ranges.specs.declared.Range.TheVariants.{Empty, Span}
use Rattle.ranges.specs.Ranges as ranges
use Rattle.ranges.specs.Removal.{Removed, nothing, over, gone, cut, endless}
use Rattle.ranges.proofs.Kept.{kept as inside, retain_first}
use Rattle.ranges.proofs.Removed.{removed}

-- a range whose start is at most its end, where it has one
abbrev pub Proper : Range → Type 0
Proper r = ranges.crossed r ≡ false

-- an answer that is None, or such a range
abbrev pub ProperBounded : Option Range → Type 0
ProperBounded (Some r) = Proper r
ProperBounded None = Unit {0}

-- a start with an end that is kept or given up
kept : (b : Bool) (s x : ℕ) → s ≤ x → Proper (Span s (cond b (Some x) None))
kept true s x h = le-ltb x s h
kept false s x h = refl

pub join_proper : (a b : Range) → Proper a → Proper b → Proper (ranges.join a b)
join_proper Empty b p q = q
join_proper (Span s e) Empty p q = p
join_proper (Span s (Some x)) (Span t (Some y)) p q = le-ltb (max x y) (min s t) (omega (arith, ltb-false x s p, ltb-false y t q))
join_proper (Span s (Some x)) (Span t None) p q = refl
join_proper (Span s None) (Span t f) p q = refl

pub sum_proper : (a b : Range) → Proper a → Proper b → Proper (ranges.sum a b)
sum_proper Empty b p q = q
sum_proper (Span s e) Empty p q = p
sum_proper (Span s (Some x)) (Span t (Some y)) p q = kept (leb (x + y) ranges.top) (min (s + t) ranges.top) (x + y) (omega (arith, ltb-false x s p, ltb-false y t q))
sum_proper (Span s (Some x)) (Span t None) p q = refl
sum_proper (Span s None) (Span t f) p q = refl

-- an answer that is kept or None
limited : (b : Bool) (q : Option Range) → ProperBounded q → ProperBounded (cond b q None)
limited true q h = h
limited false q h = tt

pub times_proper : (a : Range) (c : ℕ) → Proper a → ProperBounded (ranges.times a c)
times_proper Empty c p = refl
times_proper (Span s (Some x)) c p =
    limited (leb (s * c) ranges.top) (ranges.times_end (s * c) (Some x) c)
    (limited (leb (x * c) ranges.top) (Some (Span (s * c) (Some (x * c)))) (le-ltb (x * c) (s * c) (mul-le-mul_right c (ltb-false x s p))))
times_proper (Span s None) c p = limited (leb (s * c) ranges.top) (Some (Span (s * c) None)) refl

pub less_proper : (a : Range) (c : ℕ) → Proper a → Proper (ranges.less a c)
less_proper Empty c p = refl
less_proper (Span s (Some x)) c p = le-ltb (x - c) (s - c) (omega (arith, ltb-false x s p))
less_proper (Span s None) c p = refl

around_proper : (x : ℕ) → Proper (ranges.around x)
around_proper x = go (leb x ranges.top)
  where
    go : (b : Bool) → Proper (cond b (ranges.point x) (Span ranges.top None))
    go true = le-ltb x x (omega arith)
    go false = refl

pub retain_proper : (r : Range) (set : List ℕ) → Proper (ranges.retain r set)
unfolding ranges.retain
retain_proper r [] = refl
retain_proper r (x ∷ set) = rw (retain_first r x set) (join_proper (inside r x) (ranges.retain r set) (go (ranges.holds r x)) (retain_proper r set))
  where
    go : (b : Bool) → Proper (cond b (ranges.around x) Empty)
    go true = around_proper x
    go false = refl

pub remove_proper : (r : Range) (set : List ℕ) → ProperBounded (ranges.remove r set)
remove_proper r set = go r (ranges.remove r set) (removed set r)
  where
    go : (r : Range) (answer : Option Range) → Removed set r answer → ProperBounded answer
    go r answer nothing = refl
    go r answer (over h) = tt
    go r answer (gone p t h) = refl
    go r answer (cut {first} {last} p t g n) = le-ltb last first n
    go r answer (endless p t) = refl

pub widen_proper : (a b : Range) → Proper a → Proper b → Proper (ranges.widen a b)
widen_proper Empty b p q = q
widen_proper (Span s e) Empty p q = p
widen_proper (Span s (Some x)) (Span t f) p q = go (ranges.within_ends f (Some x)) (leb s t)
  where
    go : (b c : Bool) → Proper (Span (cond c s 0) (cond b (Some x) None))
    go true true = p
    go true false = le-ltb x 0 (omega arith)
    go false c = refl
widen_proper (Span s None) (Span t f) p q = go (ranges.within_ends f None) (leb s t)
  where
    go : (b c : Bool) → Proper (Span (cond c s 0) (cond b None None))
    go true c = refl
    go false c = refl
