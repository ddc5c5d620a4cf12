-- `remove` is what specs/Removal says, for every range and every list of numbers, and that has one answer only.
use Rattle.std.specs.Prelude.{Option, Some, None}
use mathlib.Core.Path.{◌≡◌, refl, sym, ◌∙◌}
use mathlib.Core.Bool.{Bool, true, false, cond, false≢true}
use mathlib.Core.Logic.{◌↔◌}
use mathlib.Core.List.{List, [], ◌∷◌}
use Prim.Native.Nat.{ℕ, zero, suc, ◌+◌, ◌-◌, ◌≤◌, ◌<◌}
use native.Mathlib.Omega.{arith}
use lib.Dec.{leb, ltb, eqb}
use lib.ListN.{length}
use borrow.Author.Tests.{leb-true, leb-false, ltb-true, ltb-false, eqb-true, eqb-false, le-leb, lt-leb, lt-ltb, le-ltb}
use Rattle.ranges.specs.declared.Range.{Range}
use Rattle.ranges.specs.declared.Range.TheVariants.{Empty, Span}
use Rattle.ranges.specs.Ranges as ranges
use Rattle.ranges.specs.Removal.{Filled, Least, Greatest, Removed, nothing, over, gone, cut, endless}
use Rattle.ranges.proofs.Holding.{In, in_of, of_in, HoldsBounded}

-- ---- a set has no more numbers than values

abbrev bit : Bool → ℕ
bit b = cond b 1 0

bit_le : (a b : Bool) → (a ≡ true → b ≡ true) → bit a ≤ bit b
bit_le true b h = rw (h refl) (omega arith)
bit_le false b h = omega arith

bit_most : (a : Bool) → bit a ≤ 1
bit_most a = bit_le a true (λ q. refl)

-- how many of the set's values pass a test
unfoldable count : (ℕ → Bool) → List ℕ → ℕ
count test [] = 0
count test (y ∷ set) = bit (test y) + count test set

count_le : (test : ℕ → Bool) (set : List ℕ) → count test set ≤ length set
unfolding count
count_le test [] = omega arith
count_le test (y ∷ set) = omega (arith, bit_most (test y), count_le test set)

-- a number that passes a test that no value of the set passes is not in the set
count_none : (test : ℕ → Bool) (set : List ℕ) (x : ℕ) → count test set ≤ 0 → test x ≡ true → ranges.has set x ≡ false
unfolding count ranges.has
count_none test [] x h t = refl
count_none test (y ∷ set) x h t = go (eqb x y) refl (count_none test set x (omega arith) t)
  where
    go : (b : Bool) → eqb x y ≡ b → ranges.has set x ≡ false → cond b true (ranges.has set x) ≡ false
    go true q more = let z : bit (test y) ≡ 1 = rw (← eqb-true x y q, t) refl in absurd (omega arith)
    go false q more = more

-- fewer values pass a harder test, and fewer by one where a value of the set passes the first test alone
module _ (test harder : ℕ → Bool) (hard : (x : ℕ) → harder x ≡ true → test x ≡ true) where
  count_fewer : (set : List ℕ) → count harder set ≤ count test set
  unfolding count
  count_fewer [] = omega arith
  count_fewer (y ∷ set) = omega (arith, bit_le (harder y) (test y) (hard y), count_fewer set)

  count_less : (set : List ℕ) (x : ℕ) → test x ≡ true → harder x ≡ false → ranges.has set x ≡ true → count harder set < count test set
  unfolding count ranges.has
  count_less [] x t u h = absurd (false≢true h)
  count_less (y ∷ set) x t u h = go (eqb x y) refl (count_less set x t u)
    where
      go : (b : Bool) → eqb x y ≡ b → (ranges.has set x ≡ true → count harder set < count test set) → bit (harder y) + count harder set < bit (test y) + count test set
      go true q more = rw (← eqb-true x y q, t, u) (omega (arith, count_fewer set))
      go false q more = omega (arith, bit_le (harder y) (test y) (hard y), more (rw q at h))

-- what a test decides on
by_test : {A : Type 0} (P : A → Type 0) (b : Bool) (x y : A) → (b ≡ true → P x) → (b ≡ false → P y) → P (cond b x y)
by_test P true x y h k = h refl
by_test P false x y h k = k refl

-- no number is both in the set and not
clash : (set : List ℕ) (x : ℕ) → ranges.has set x ≡ true → ranges.has set x ≡ false → ⊥
clash set x h k = false≢true (sym k ∙ h)

-- ---- the start cut up

-- one more number in front
pub filled_front : (set : List ℕ) (low high : ℕ) → ranges.has set low ≡ true → Filled set (low + 1) high → Filled set low high
filled_front set low high h more x l u = go (eqb x low) refl
  where
    go : (b : Bool) → eqb x low ≡ b → ranges.has set x ≡ true
    go true q = rw (eqb-true x low q) h
    go false q = let d = eqb-false x low q in more x (omega arith) u

-- a stretch and the one that follows it
pub filled_join : (set : List ℕ) (low middle high : ℕ) → Filled set low middle → Filled set middle high → Filled set low high
filled_join set low middle high h k x l u = go (ltb x middle) refl
  where
    go : (b : Bool) → ltb x middle ≡ b → ranges.has set x ≡ true
    go true q = h x l (ltb-true x middle q)
    go false q = k x (ltb-false x middle q) u

least_here : (set : List ℕ) (start : ℕ) → ranges.has set start ≡ false → Least set start start
least_here set start h = record { above = omega arith; out = h; passed = λ x l u. absurd (omega arith) }

least_next : (set : List ℕ) (start first : ℕ) → ranges.has set start ≡ true → Least set (start + 1) first → Least set start first
least_next set start first h more = record { above = omega arith; out = more.out; passed = filled_front set start first h more.passed }

-- a start that is in the set leaves fewer values from the next number on
fewer_up : (set : List ℕ) (start : ℕ) → ranges.has set start ≡ true → count (leb (start + 1)) set < count (leb start) set
fewer_up set start q =
    count_less (leb start) (leb (start + 1)) (λ x t. le-leb start x (omega (arith, leb-true (start + 1) x t))) set start
    (le-leb start start (omega arith)) (lt-leb (start + 1) start (omega arith)) q

first_out_least : (k : ℕ) (set : List ℕ) (start : ℕ) → count (leb start) set ≤ k → Least set start (ranges.first_out k set start)
unfolding ranges.first_out
first_out_least zero set start h = least_here set start (count_none (leb start) set start h (le-leb start start (omega arith)))
first_out_least (suc k) set start h =
    by_test (Least set start) (ranges.has set start) (ranges.first_out k set (start + 1)) start
    (λ q. least_next set start (ranges.first_out k set (start + 1)) q (first_out_least k set (start + 1) (omega (arith, fewer_up set start q))))
    (λ q. least_here set start q)

-- the start that `remove` cuts up is the least number from it on that is not in the set
pub first_out_is : (set : List ℕ) (start : ℕ) → Least set start (ranges.first_out (length set) set start)
first_out_is set start = first_out_least (length set) set start (count_le (leb start) set)

-- it is at most as many steps up as the set has values
pub first_out_near : (k : ℕ) (set : List ℕ) (start : ℕ) → ranges.first_out k set start ≤ start + k
unfolding ranges.first_out
first_out_near zero set start = omega arith
first_out_near (suc k) set start =
    by_test (λ x. x ≤ start + suc k) (ranges.has set start) (ranges.first_out k set (start + 1)) start (λ q. omega (arith, first_out_near k set (start + 1))) (λ q. omega arith)

-- a number from the start on that is not in the set is at least the least
pub least_le : (set : List ℕ) (start first x : ℕ) → Least set start first → start ≤ x → ranges.has set x ≡ false → first ≤ x
least_le set start first x p l h = go (leb first x) refl
  where
    go : (b : Bool) → leb first x ≡ b → first ≤ x
    go true q = leb-true first x q
    go false q = absurd (clash set x (p.passed x l (leb-false first x q)) h)

-- what the set fills from the start on ends at the least that is not in it, or before
filled_le : (set : List ℕ) (start first high : ℕ) → Least set start first → Filled set start high → high ≤ first
filled_le set start first high p h = go (leb high first) refl
  where
    go : (b : Bool) → leb high first ≡ b → high ≤ first
    go true q = leb-true high first q
    go false q = absurd (clash set first (h first p.above (leb-false high first q)) p.out)

-- so it is no longer than the set has values
pub filled_near : (set : List ℕ) (start high : ℕ) → Filled set start high → high ≤ start + length set
filled_near set start high h =
    omega (arith, filled_le set start (ranges.first_out (length set) set start) high (first_out_is set start) h, first_out_near (length set) set start)

-- there is one least number only
pub least_only : (set : List ℕ) (start m n : ℕ) → Least set start m → Least set start n → m ≡ n
least_only set start m n p q = omega (arith, least_le set start m n p q.above q.out, least_le set start n m q p.above p.out)

-- ---- the end cut down

-- where the cutting of an end stops: at a number that is not in the set, or at 0
pub record Stops (set : List ℕ) (end last : ℕ) : Type 0 where
  pub below : last ≤ end
  pub stop : ranges.has set last ≡ true → last ≡ 0
  pub passed : Filled set (last + 1) (end + 1)

-- one more number behind
pub filled_back : (set : List ℕ) (low high : ℕ) → ranges.has set high ≡ true → Filled set low high → Filled set low (high + 1)
filled_back set low high h more x l u = go (eqb x high) refl
  where
    go : (b : Bool) → eqb x high ≡ b → ranges.has set x ≡ true
    go true q = rw (eqb-true x high q) h
    go false q = let d = eqb-false x high q in more x l (omega arith)

stops_here : (set : List ℕ) (end : ℕ) → (ranges.has set end ≡ true → end ≡ 0) → Stops set end end
stops_here set end h = record { below = omega arith; stop = h; passed = λ x l u. absurd (omega arith) }

stops_next : (set : List ℕ) (end last : ℕ) → ranges.has set end ≡ true → 0 < end → Stops set (end - 1) last → Stops set end last
stops_next set end last h z more =
    let e : end - 1 + 1 ≡ end = omega arith in
    record { below = omega arith; stop = more.stop; passed = filled_back set (last + 1) end h (rw e at more.passed) }

cut_end_zero : (k : ℕ) (set : List ℕ) → ranges.cut_end k set 0 ≡ 0
unfolding ranges.cut_end
cut_end_zero zero set = refl
cut_end_zero (suc k) set = by_test (λ x. x ≡ 0) (ranges.has set 0) (ranges.cut_end k set 0) 0 (λ q. cut_end_zero k set) (λ q. refl)

-- the test of the numbers up to the end
abbrev upto : ℕ → ℕ → Bool
upto end x = leb x end

-- an end that is in the set leaves fewer values up to the number before it
fewer_down : (set : List ℕ) (end : ℕ) → ranges.has set end ≡ true → 0 < end → count (upto (end - 1)) set < count (upto end) set
fewer_down set end q z =
    count_less (upto end) (upto (end - 1)) (λ x t. le-leb x end (omega (arith, leb-true x (end - 1) t))) set end
    (le-leb end end (omega arith)) (lt-leb end (end - 1) (omega arith)) q

cut_end_stops : (k : ℕ) (set : List ℕ) (end : ℕ) → count (upto end) set ≤ k → Stops set end (ranges.cut_end k set end)
unfolding ranges.cut_end
cut_end_stops zero set end h = stops_here set end (λ q. absurd (clash set end q (count_none (upto end) set end h (le-leb end end (omega arith)))))
cut_end_stops (suc k) set end h =
    by_test (Stops set end) (ranges.has set end) (ranges.cut_end k set (end - 1)) end
    (λ q. go q (eqb end 0) refl (λ z. cut_end_stops k set (end - 1) (omega (arith, fewer_down set end q z))))
    (λ q. stops_here set end (λ r. absurd (clash set end r q)))
  where
    go : ranges.has set end ≡ true → (b : Bool) → eqb end 0 ≡ b → (0 < end → Stops set (end - 1) (ranges.cut_end k set (end - 1))) → Stops set end (ranges.cut_end k set (end - 1))
    go q true z more = rw (eqb-true end 0 z, cut_end_zero k set) (stops_here set 0 (λ r. refl))
    go q false z more = let d = eqb-false end 0 z in stops_next set end (ranges.cut_end k set (end - 1)) q (omega arith) (more (omega arith))

pub cut_end_is : (set : List ℕ) (end : ℕ) → Stops set end (ranges.cut_end (length set) set end)
cut_end_is set end = cut_end_stops (length set) set end (count_le (upto end) set)

-- a number up to the end that is not in the set is at most where the cutting stops
pub stops_ge : (set : List ℕ) (end last x : ℕ) → Stops set end last → x ≤ end → (ranges.has set x ≡ true → x ≡ 0) → x ≤ last
stops_ge set end last x p l h = go (leb x last) refl
  where
    go : (b : Bool) → leb x last ≡ b → x ≤ last
    go true q = leb-true x last q
    go false q = let d = leb-false x last q in let z = h (p.passed x (omega arith) (omega arith)) in omega arith

pub stops_only : (set : List ℕ) (end m n : ℕ) → Stops set end m → Stops set end n → m ≡ n
stops_only set end m n p q = omega (arith, stops_ge set end m n p q.below q.stop, stops_ge set end n m q p.below p.stop)

-- where a number from the start to the end is not in the set, the cutting stops at the greatest such
greatest : (set : List ℕ) (end last first : ℕ) → Stops set end last → first ≤ end → ranges.has set first ≡ false → Greatest set end last × (first ≤ last)
greatest set end last first p l h =
    let n : first ≤ last = stops_ge set end last first p l (λ q. absurd (clash set first q h)) in
    (record { below = p.below; out = go (ranges.has set last) refl n; passed = p.passed }, n)
  where
    go : (b : Bool) → ranges.has set last ≡ b → first ≤ last → b ≡ false
    go true q n = let z = p.stop q in let e : last ≡ first = omega arith in absurd (clash set first (rw e at q) h)
    go false q n = refl

stops_of : (set : List ℕ) (end last : ℕ) → Greatest set end last → Stops set end last
stops_of set end last g = record { below = g.below; stop = λ q. absurd (clash set last q g.out); passed = g.passed }

-- ---- the whole removal

-- the end, once the start is cut up
ended : (set : List ℕ) (start first : ℕ) (e : Option ℕ) → Least set start first → first ≤ ranges.top → Removed set (Span start e) (Some (ranges.remove_end first e set))
unfolding ranges.remove_end
ended set start first (Some end) p t =
    by_test (λ r. Removed set (Span start (Some end)) (Some r)) (ltb end first) Empty (Span first (Some (ranges.cut_end (length set) set end)))
    (λ q. let l = ltb-true end first q in gone p t (λ x h u. p.passed x h (omega arith)))
    (λ q. let g = greatest set end (ranges.cut_end (length set) set end) first (cut_end_is set end) (ltb-false end first q) p.out in cut p t g.0 g.1)
ended set start first None p t = endless p t

-- what `remove` answers is what removal is to answer
pub removed : (set : List ℕ) (r : Range) → Removed set r (ranges.remove r set)
unfolding ranges.remove
removed set Empty = nothing
removed set (Span start e) =
    let p = first_out_is set start in
    let first = ranges.first_out (length set) set start in
    by_test (Removed set (Span start e)) (leb first ranges.top) (Some (ranges.remove_end first e set)) None
    (λ q. ended set start first e p (leb-true first ranges.top q))
    (λ q. let d = leb-false first ranges.top q in over (λ x h u. p.passed x h (omega arith)))

-- and there is no other answer
pub removed_only : (set : List ℕ) (r : Range) (answer : Option Range) → Removed set r answer → answer ≡ ranges.remove r set
unfolding ranges.remove ranges.remove_end
removed_only set r answer nothing = refl
removed_only set r answer (over {start} {end} h) =
    let p = first_out_is set start in
    let first = ranges.first_out (length set) set start in
    let l : ranges.top < first = go first p (leb first ranges.top) refl in
    rw (lt-leb first ranges.top l)
  where
    go : (first : ℕ) → Least set start first → (b : Bool) → leb first ranges.top ≡ b → ranges.top < first
    go first p true q = absurd (clash set first (h first p.above (omega (arith, leb-true first ranges.top q))) p.out)
    go first p false q = leb-false first ranges.top q
removed_only set r answer (gone {start} {end} {first} p t h) =
    rw (least_only set start (ranges.first_out (length set) set start) first (first_out_is set start) p, le-leb first ranges.top t, lt-ltb end first (go (ltb end first) refl))
  where
    go : (b : Bool) → ltb end first ≡ b → end < first
    go true q = ltb-true end first q
    go false q = absurd (clash set first (h first p.above (omega (arith, ltb-false end first q))) p.out)
removed_only set r answer (cut {start} {end} {first} {last} p t g n) =
    rw (
      least_only set start (ranges.first_out (length set) set start) first (first_out_is set start) p,
      le-leb first ranges.top t,
      le-ltb end first (omega (arith, g.below)),
      stops_only set end (ranges.cut_end (length set) set end) last (cut_end_is set end)
          (stops_of set end last g),
    )
removed_only set r answer (endless {start} {first} p t) =
    rw (least_only set start (ranges.first_out (length set) set start) first (first_out_is set start) p, le-leb first ranges.top t)

-- over exactly when the set has every number from the start through 4294967295
pub remove_over : (set : List ℕ) (start : ℕ) (end : Option ℕ) → (ranges.remove (Span start end) set ≡ None) ↔ Filled set start (ranges.top + 1)
remove_over set start end = (λ h. go start end (ranges.remove (Span start end) set) (removed set (Span start end)) h, λ h. sym (removed_only set (Span start end) None (over h)))
  where
    go : (start : ℕ) (end : Option ℕ) (answer : Option Range) → Removed set (Span start end) answer → answer ≡ None → Filled set start (ranges.top + 1)
    go start end answer (over h) q = h
    go start end answer (gone p t h) q = let z : ◌≡◌ {A = ℕ} 0 1 = cc in absurd (omega arith)
    go start end answer (cut p t g n) q = let z : ◌≡◌ {A = ℕ} 0 1 = cc in absurd (omega arith)
    go start end answer (endless p t) q = let z : ◌≡◌ {A = ℕ} 0 1 = cc in absurd (omega arith)

-- a value of the range that is not in the set is held afterwards
pub remove_holds : (r : Range) (set : List ℕ) (x : ℕ) → ranges.holds r x ≡ true → ranges.has set x ≡ false → HoldsBounded (ranges.remove r set) x
remove_holds r set x h out = go r (ranges.remove r set) (removed set r) (in_of r x h)
  where
    go : (r : Range) (answer : Option Range) → Removed set r answer → In r x → HoldsBounded answer x
    go r answer nothing i = absurd i
    go r answer (over p) i = tt
    go r answer (gone p t f) i = absurd (clash set x (f x i.0 (omega (arith, i.1))) out)
    go r answer (cut {start} {end} {first} {last} p t g n) i =
        of_in (Span first (Some last)) x (least_le set start first x p i.0 out, stops_ge set end last x (stops_of set end last g) i.1 (λ q. absurd (clash set x q out)))
    go r answer (endless {start} {first} p t) i = of_in (Span first None) x (least_le set start first x p i.0 out, tt)
