-- Ranges of whole numbers and the operations of document 01 on them.
use Rattle.std.specs.Prelude.{Option, Some, None, Bool, true, false, cond, ◌&&◌, List, [], ◌∷◌, ℕ, zero, suc, ◌+◌, ◌-◌, ◌*◌, min, max, leb, ltb, eqb, length, fold, map, filter}
use Rattle.ranges.specs.declared.Range.{Range}
use Rattle.ranges.specs.declared.Range.TheVariants.{Empty, Span}

-- the largest u32
abbrev pub top : ℕ
top = 4294967295

-- [x,x]
abbrev pub point : ℕ → Range
point x = Span x (Some x)

-- [0,–)
abbrev pub naturals : Range
naturals = Span 0 None

-- the range is Empty
abbrev pub is_empty : Range → Bool
is_empty Empty = true
is_empty (Span start end) = false

-- the start is over the end: what refusal 7 is about
abbrev pub crossed : Range → Bool
crossed Empty = false
crossed (Span start (Some end)) = ltb end start
crossed (Span start None) = false

-- sum: ends add, and give none when over or when either is none
abbrev pub sum_ends : Option ℕ → Option ℕ → Option ℕ
sum_ends (Some x) (Some y) = cond (leb (x + y) top) (Some (x + y)) None
sum_ends (Some x) None = None
sum_ends None end = None

-- sum: Empty with x gives x; starts add and stay at 4294967295 when over
abbrev pub sum : Range → Range → Range
sum Empty range = range
sum (Span start end) Empty = Span start end
sum (Span start₁ end₁) (Span start₂ end₂) = Span (min (start₁ + start₂) top) (sum_ends end₁ end₂)

-- product by c: the end times c, which may be over; none stays none, also for c = 0
abbrev pub times_end : ℕ → Option ℕ → ℕ → Option Range
times_end start (Some x) c = cond (leb (x * c) top) (Some (Span start (Some (x * c)))) None
times_end start None c = Some (Span start None)

-- product by c: the start times c, which may be over, and the end
abbrev pub times : Range → ℕ → Option Range
times Empty c = Some Empty
times (Span start end) c = cond (leb (start * c) top) (times_end (start * c) end c) None

-- join: the higher end, none if either is none
abbrev pub join_ends : Option ℕ → Option ℕ → Option ℕ
join_ends (Some x) (Some y) = Some (max x y)
join_ends (Some x) None = None
join_ends None end = None

-- join: the lower start and the higher end; Empty with x gives x
abbrev pub join : Range → Range → Range
join Empty range = range
join (Span start end) Empty = Span start end
join (Span start₁ end₁) (Span start₂ end₂) = Span (min start₁ start₂) (join_ends end₁ end₂)

-- decrement: the end less c, never below 0
abbrev pub less_end : Option ℕ → ℕ → Option ℕ
less_end (Some x) c = Some (x - c)
less_end None c = None

-- decrement: both less c, never below 0
abbrev pub less : Range → ℕ → Range
less Empty c = Empty
less (Span start end) c = Span (start - c) (less_end end c)

-- x does not pass the end
abbrev pub holds_end : Option ℕ → ℕ → Bool
holds_end (Some y) x = leb x y
holds_end None x = true

-- x is one of the range's values
abbrev pub holds : Range → ℕ → Bool
holds Empty x = false
holds (Span start end) x = leb start x && holds_end end x

-- the smallest range that has x: [x,x] for a u32, and [4294967295,–) for a number over it, which no checked set has
abbrev pub around : ℕ → Range
around x = cond (leb x top) (point x) (Span top None)

-- retain a set: the smallest and largest of its values inside the range, or Empty
unfoldable pub retain : Range → List ℕ → Range
retain range set = fold join Empty (map around (filter (holds range) set))

-- x is in the set
unfoldable pub has : List ℕ → ℕ → Bool
has [] x = false
has (y ∷ set) x = cond (eqb x y) true (has set x)

-- the start cut up until it is not in the set, by at most k steps
unfoldable pub first_out : ℕ → List ℕ → ℕ → ℕ
first_out zero set start = start
first_out (suc k) set start = let next = first_out k set (start + 1) in cond (has set start) next start

-- the end cut down until it is not in the set, by at most k steps
unfoldable pub cut_end : ℕ → List ℕ → ℕ → ℕ
cut_end zero set end = end
cut_end (suc k) set end = let next = cut_end k set (end - 1) in cond (has set end) next end

-- remove a set: the end cut down to the start that is left, or Empty; none stays none
unfoldable pub remove_end : ℕ → Option ℕ → List ℕ → Range
remove_end start (Some end) set = cond (ltb end start) Empty (Span start (Some (cut_end (length set) set end)))
remove_end start None set = Span start None

-- remove a set: the range cut at both ends until neither is in the set, or None if no number from the start through 4294967295 is left
unfoldable pub remove : Range → List ℕ → Option Range
remove Empty set = Some Empty
remove (Span start end) set = let first = first_out (length set) set start in cond (leb first top) (Some (remove_end first end set)) None

-- within: the end lies within the other; within none every end does
abbrev pub within_ends : Option ℕ → Option ℕ → Bool
within_ends end None = true
within_ends (Some x) (Some y) = leb x y
within_ends None (Some y) = false

-- within: every value of the first is one of the second
abbrev pub within : Range → Range → Bool
within Empty range = true
within (Span start end) Empty = false
within (Span start₁ end₁) (Span start₂ end₂) = leb start₂ start₁ && within_ends end₁ end₂

-- the same: both none, or the same number
abbrev pub same_ends : Option ℕ → Option ℕ → Bool
same_ends (Some x) (Some y) = eqb x y
same_ends (Some x) None = false
same_ends None (Some y) = false
same_ends None None = true

-- the same: both Empty, or the same start and end
abbrev pub same : Range → Range → Bool
same Empty Empty = true
same Empty (Span start end) = false
same (Span start end) Empty = false
same (Span start₁ end₁) (Span start₂ end₂) = eqb start₁ start₂ && same_ends end₁ end₂

-- widening: an end that does not hold the new end becomes none
abbrev pub widen_ends : Option ℕ → Option ℕ → Option ℕ
widen_ends old new = cond (within_ends new old) old None

-- widening: a start above the new start becomes 0; Empty, which no state has, with x gives x
abbrev pub widen : Range → Range → Range
widen Empty new = new
widen (Span start end) Empty = Span start end
widen (Span start₁ end₁) (Span start₂ end₂) = Span (cond (leb start₁ start₂) start₁ 0) (widen_ends end₁ end₂)
