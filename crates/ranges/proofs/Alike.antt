-- Retaining gives the smallest range around the set's values inside the range; the set's order and repeats do not matter.
use Rattle.std.specs.Prelude.{Option}
use mathlib.Core.Path.{◌≡◌, refl, sym, ◌∙◌}
use mathlib.Core.Bool.{Bool, true, false, cond, false≢true}
use mathlib.Core.List.{List, [], ◌∷◌}
use Prim.Native.Nat.{ℕ}
use lib.Dec.{eqb}
use borrow.Author.Tests.{eqb-true, eq-eqb}
use Rattle.ranges.specs.declared.Range.{Range}
use Rattle.ranges.specs.Ranges as ranges
use Rattle.ranges.specs.Removal.{Filled, Least, Greatest, Removed, nothing, over, gone, cut, endless}
use Rattle.ranges.proofs.Lattice.{within_trans, within_antisym, join_above_left, join_above_right, join_least}
use Rattle.ranges.proofs.Kept.{kept, retain_first}
use Rattle.ranges.proofs.Removed.{removed, removed_only}

-- ---- retain

-- the range of each value inside lies within what is retained
pub retain_above : (r : Range) (set : List ℕ) (x : ℕ) → ranges.has set x ≡ true → ranges.within (kept r x) (ranges.retain r set) ≡ true
unfolding ranges.has
retain_above r [] x h = absurd (false≢true h)
retain_above r (y ∷ set) x h = rw (retain_first r y set) (go (eqb x y) refl (retain_above r set x))
  where
    go :
        (b : Bool) → eqb x y ≡ b → (ranges.has set x ≡ true → ranges.within (kept r x) (ranges.retain r set) ≡ true) →
        ranges.within (kept r x) (ranges.join (kept r y) (ranges.retain r set)) ≡ true
    go true q more = rw (eqb-true x y q) (join_above_left (kept r y) (ranges.retain r set))
    go false q more = within_trans (kept r x) (ranges.retain r set) (ranges.join (kept r y) (ranges.retain r set)) (more (rw q at h)) (join_above_right (kept r y) (ranges.retain r set))

-- and what is retained lies within any range of which that is so
pub retain_least : (r : Range) (set : List ℕ) (c : Range) → ((x : ℕ) → ranges.has set x ≡ true → ranges.within (kept r x) c ≡ true) → ranges.within (ranges.retain r set) c ≡ true
unfolding ranges.has ranges.retain
retain_least r [] c h = refl
retain_least r (y ∷ set) c h =
    rw (retain_first r y set) (join_least (kept r y) (ranges.retain r set) c (h y (rw (eq-eqb y y refl))) (retain_least r set c (λ x k. h x (go (eqb x y) x k))))
  where
    go : (b : Bool) (x : ℕ) → ranges.has set x ≡ true → cond b true (ranges.has set x) ≡ true
    go true x k = refl
    go false x k = k

-- ---- order and repeats do not matter

-- two lists with the same numbers in them
abbrev pub Alike : List ℕ → List ℕ → Type 0
Alike set other = (x : ℕ) → ranges.has set x ≡ ranges.has other x

pub retain_alike : (r : Range) (set other : List ℕ) → Alike set other → ranges.retain r set ≡ ranges.retain r other
retain_alike r set other same =
    within_antisym (ranges.retain r set) (ranges.retain r other)
    (retain_least r set (ranges.retain r other) (λ x h. retain_above r other x (sym (same x) ∙ h)))
    (retain_least r other (ranges.retain r set) (λ x h. retain_above r set x (same x ∙ h)))

module _ (set other : List ℕ) (same : Alike set other) where
  filled_alike : (low high : ℕ) → Filled set low high → Filled other low high
  filled_alike low high h x l u = sym (same x) ∙ h x l u

  least_alike : (start first : ℕ) → Least set start first → Least other start first
  least_alike start first p = record { above = p.above; out = sym (same first) ∙ p.out; passed = filled_alike start first p.passed }

  greatest_alike : (end last : ℕ) → Greatest set end last → Greatest other end last
  greatest_alike end last p = record { below = p.below; out = sym (same last) ∙ p.out; passed = filled_alike _ _ p.passed }

  removed_alike : (r : Range) (answer : Option Range) → Removed set r answer → Removed other r answer
  removed_alike r answer nothing = nothing
  removed_alike r answer (over h) = over (filled_alike _ _ h)
  removed_alike r answer (gone p t h) = gone (least_alike _ _ p) t (filled_alike _ _ h)
  removed_alike r answer (cut p t g n) = cut (least_alike _ _ p) t (greatest_alike _ _ g) n
  removed_alike r answer (endless p t) = endless (least_alike _ _ p) t

pub remove_alike : (r : Range) (set other : List ℕ) → Alike set other → ranges.remove r set ≡ ranges.remove r other
remove_alike r set other same = removed_only other r (ranges.remove r set) (removed_alike set other same r (ranges.remove r set) (removed set r))
