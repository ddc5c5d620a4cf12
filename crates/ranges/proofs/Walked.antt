-- One walk over a set, up or down, as a step of cutting a range's end: it never passes where the cutting stops, and changes nothing only there.
use Rattle.std.specs.Prelude.{reverse}
use mathlib.Core.Path.{◌≡◌, refl, sym, ◌∙◌}
use mathlib.Core.Bool.{Bool, true, false, cond, false≢true}
use mathlib.Core.List.{List, [], ◌∷◌}
use Prim.Native.Nat.{ℕ, suc, ◌+◌, ◌-◌, ◌≤◌, ◌<◌}
use native.Mathlib.Omega.{arith}
use native.Mathlib.Numerals.{add-one}
use lib.Dec.{eqb}
use lib.Seq.{drop-cons}
use lib.ListN.{length, get_or, drop, drop_of_length-le}
use Rattle.std.proofs.lemmas.Grind.{reverse_onto}
use Rattle.std.proofs.lemmas.List.Sums.{fold_push}
use Rattle.std.proofs.lemmas.Bool.Decides.{nat_tests}
use Rattle.ranges.specs.Ranges as ranges
use Rattle.ranges.specs.Removal.{Filled}
use Rattle.ranges.specs.Walks.{step_down, raised, lowered}
use Rattle.ranges.proofs.Removed.{filled_join, first_out_is, first_out_near, least_le, least_only, cut_end_is, stops_ge, stops_only}

-- ---- a walk up

pub raised_above : (set : List ℕ) (x : ℕ) → x ≤ raised set x
raised_above [] x = omega arith
raised_above (y ∷ set) x = grind (arith, nat_tests, raised_above set (x + 1), raised_above set x)

-- it passes no number that is not in the set
raised_within : (set : List ℕ) (x out : ℕ) → ranges.has set out ≡ false → x ≤ out → raised set x ≤ out
unfolding ranges.has
raised_within [] x out h l = l
raised_within (y ∷ set) x out h l = grind (arith, nat_tests, raised_within set (x + 1) out, raised_within set x out)

-- a number that it leaves as it was is not in the set
raised_still : (set : List ℕ) (x : ℕ) → raised set x ≡ x → ranges.has set x ≡ false
unfolding ranges.has
raised_still [] x h = refl
raised_still (y ∷ set) x h = grind (arith, nat_tests, raised_above set (x + 1), raised_still set x)

raised_passed : (set : List ℕ) (x : ℕ) → Filled set x (raised set x)
raised_passed set x z l u = go (ranges.has set z) refl
  where
    go : (b : Bool) → ranges.has set z ≡ b → ranges.has set z ≡ true
    go true q = q
    go false q = absurd (omega (arith, raised_within set x z q l))

-- what is passed before a walk up and in it is passed
pub raised_fills : (set : List ℕ) (start first : ℕ) → Filled set start first → Filled set start (raised set first)
raised_fills set start first h = filled_join set start first (raised set first) h (raised_passed set first)

-- a start that a walk leaves as it was is the one that `remove` cuts up to
pub raised_done : (set : List ℕ) (start first : ℕ) → start ≤ first → Filled set start first → raised set first ≡ first → first ≡ ranges.first_out (length set) set start
raised_done set start first l h e =
    least_only set start first (ranges.first_out (length set) set start) (record { above = l; out = raised_still set first e; passed = h }) (first_out_is set start)

pub first_above : (set : List ℕ) (start : ℕ) → start ≤ ranges.first_out (length set) set start
first_above set start = (first_out_is set start).above

pub raised_not_past : (set : List ℕ) (start first : ℕ) → first ≤ ranges.first_out (length set) set start → raised set first ≤ ranges.first_out (length set) set start
raised_not_past set start first l = raised_within set first _ (first_out_is set start).out l

pub raised_reached : (set : List ℕ) (start first : ℕ) → start ≤ first → raised set first ≡ first → ranges.first_out (length set) set start ≤ first
raised_reached set start first l e = least_le set start _ first (first_out_is set start) l (raised_still set first e)

-- the start cut up by such walks
pub ruleset up = (first_above, first_out_near, raised_above, raised_not_past, raised_reached)

-- ---- a walk down

lowered_first : (y : ℕ) (set : List ℕ) (x : ℕ) → lowered (y ∷ set) x ≡ step_down (lowered set x) y
lowered_first y set x = rw (reverse_onto set y []) (fold_push step_down x (reverse set) y)

pub lowered_below : (set : List ℕ) (x : ℕ) → lowered set x ≤ x
lowered_below [] x = omega arith
lowered_below (y ∷ set) x = rw (lowered_first y set x) (grind (arith, nat_tests, lowered_below set x))

-- it passes no number that is not in the set, nor 0
lowered_within : (set : List ℕ) (x out : ℕ) → (ranges.has set out ≡ true → out ≡ 0) → out ≤ x → out ≤ lowered set x
unfolding ranges.has
lowered_within [] x out h l = l
lowered_within (y ∷ set) x out h l = rw (lowered_first y set x) (grind (arith, nat_tests, lowered_within set x out))

-- a number that it leaves as it was is not in the set, or is 0
lowered_still : (set : List ℕ) (x : ℕ) → lowered set x ≡ x → ranges.has set x ≡ true → x ≡ 0
unfolding ranges.has
lowered_still [] x h k = absurd (false≢true k)
lowered_still (y ∷ set) x h k = let e = rw (lowered_first y set x) at h in grind (arith, nat_tests, lowered_below set x, lowered_still set x)

lowered_passed : (set : List ℕ) (x : ℕ) → Filled set (lowered set x + 1) (x + 1)
lowered_passed set x z l u = go (ranges.has set z) refl
  where
    go : (b : Bool) → ranges.has set z ≡ b → ranges.has set z ≡ true
    go true q = q
    go false q = absurd (omega (arith, lowered_within set x z (λ h. absurd (false≢true (sym q ∙ h))) (omega arith)))

-- what is passed before a walk down and in it is passed
pub lowered_fills : (set : List ℕ) (end last : ℕ) → Filled set (last + 1) (end + 1) → Filled set (lowered set last + 1) (end + 1)
lowered_fills set end last h = filled_join set (lowered set last + 1) (last + 1) (end + 1) (lowered_passed set last) h

-- an end that a walk leaves as it was is the one that `remove` cuts down to
pub lowered_done : (set : List ℕ) (end last : ℕ) → last ≤ end → Filled set (last + 1) (end + 1) → lowered set last ≡ last → last ≡ ranges.cut_end (length set) set end
lowered_done set end last l h e =
    stops_only set end last (ranges.cut_end (length set) set end) (record { below = l; stop = lowered_still set last e; passed = h }) (cut_end_is set end)

pub cut_below : (set : List ℕ) (end : ℕ) → ranges.cut_end (length set) set end ≤ end
cut_below set end = (cut_end_is set end).below

pub lowered_not_past : (set : List ℕ) (end last : ℕ) → ranges.cut_end (length set) set end ≤ last → ranges.cut_end (length set) set end ≤ lowered set last
lowered_not_past set end last l = lowered_within set last _ (cut_end_is set end).stop l

pub lowered_reached : (set : List ℕ) (end last : ℕ) → last ≤ end → lowered set last ≡ last → last ≤ ranges.cut_end (length set) set end
lowered_reached set end last l e = stops_ge set end _ last (cut_end_is set end) l (lowered_still set last e)

-- the end cut down by such walks
pub ruleset down = (cut_below, lowered_below, lowered_not_past, lowered_reached)

-- ---- one value of a walk

-- a walk over the values from the index on passes the value there first
pub raised_next :
    (values : List ℕ) (i x up next : ℕ) → i < length values → next ≡ cond (eqb up (get_or values i 0)) (up + 1) up →
    raised values x ≡ raised (drop i values) up → raised values x ≡ raised (drop (i + 1) values) next
raised_next values i x up next l n e = let p : raised (drop i values) up ≡ raised (drop (i + 1) values) next = rw (drop-cons values i 0 l, add-one i, n) in e ∙ p

-- a walk over the values from the end on is over
pub raised_end : (values : List ℕ) (i x up : ℕ) → length values ≤ i → raised values x ≡ raised (drop i values) up → up ≡ raised values x
raised_end values i x up l e = sym (e ∙ rw (drop_of_length-le values {i = i} l))

-- a walk back over the values from the end on has passed none
pub lowered_end : (values : List ℕ) (x : ℕ) → x ≡ lowered (drop (length values) values) x
lowered_end values x = rw (drop_of_length-le values {i = length values} (omega arith))

-- a walk back passes the value before the index next
pub lowered_next :
    (values : List ℕ) (i x down next : ℕ) → 0 < i → i ≤ length values → down ≡ lowered (drop i values) x →
    next ≡ cond (eqb down (get_or values (i - 1) 0)) (down - 1) down → next ≡ lowered (drop (i - 1) values) x
lowered_next values i x down next l h e n =
    let s : suc (i - 1) ≡ i = omega arith in
    let b : i - 1 < length values = omega arith in
    rw (drop-cons values (i - 1) 0 b) (passed (get_or values (i - 1) 0) (drop (suc (i - 1)) values) (rw s e) n)
  where
    passed : (y : ℕ) (set : List ℕ) → down ≡ lowered set x → next ≡ cond (eqb down y) (down - 1) down → next ≡ lowered (y ∷ set) x
    passed y set e n = rw (lowered_first y set x) (rw e at n)
