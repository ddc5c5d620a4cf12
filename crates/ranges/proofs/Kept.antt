-- Retaining value by value: what one value gives, joined with what the values after it give.
use Rattle.std.specs.Prelude.{fold, map, filter}
use mathlib.Core.Path.{◌≡◌, refl, sym, ap, ◌∙◌}
use mathlib.Core.Bool.{Bool, true, false, cond}
use mathlib.Core.List.{List, [], ◌∷◌}
use Prim.Native.Nat.{ℕ, suc, ◌+◌, ◌≤◌, ◌<◌}
use native.Mathlib.Numerals.{add-one}
use lib.Seq.{drop-cons}
use lib.ListN.{length, get_or, drop, drop_of_length-le}
use Rattle.ranges.specs.declared.Range.{Range}
use Rattle.ranges.specs.declared.Range.TheVariants.{Empty}
use Rattle.ranges.specs.Ranges as ranges
use Rattle.ranges.proofs.Lattice.{join_assoc, join_empty}

-- what one value gives: its range where it is inside, else nothing
abbrev pub kept : Range → ℕ → Range
kept r x = cond (ranges.holds r x) (ranges.around x) Empty

join_all : (a : Range) (all : List Range) → fold ranges.join a all ≡ ranges.join a (fold ranges.join Empty all)
join_all a [] = sym (join_empty a)
join_all a (b ∷ all) = join_all (ranges.join a b) all ∙ join_assoc a b (fold ranges.join Empty all) ∙ ap (ranges.join a) (sym (join_all b all))

pub retain_first : (r : Range) (x : ℕ) (set : List ℕ) → ranges.retain r (x ∷ set) ≡ ranges.join (kept r x) (ranges.retain r set)
unfolding ranges.retain
retain_first r x set = go (ranges.holds r x)
  where
    inside : List ℕ
    inside = filter (ranges.holds r) set

    go : (b : Bool) → fold ranges.join Empty (map ranges.around (cond b (x ∷ inside) inside)) ≡ ranges.join (cond b (ranges.around x) Empty) (fold ranges.join Empty (map ranges.around inside))
    go true = join_all (ranges.around x) (map ranges.around inside)
    go false = refl

-- what is kept so far, joined with what the values ahead give: one value further
pub retain_next :
    (range : Range) (values : List ℕ) (i : ℕ) (so_far next : Range) → i < length values →
    next ≡ ranges.join so_far (cond (ranges.holds range (get_or values i 0)) (ranges.around (get_or values i 0)) Empty) →
    ranges.retain range values ≡ ranges.join so_far (ranges.retain range (drop i values)) →
    ranges.retain range values ≡ ranges.join next (ranges.retain range (drop (i + 1) values))
retain_next range values i so_far next l n e =
    let x = get_or values i 0 in
    let p : ranges.join so_far (ranges.retain range (drop i values)) ≡ ranges.join next (ranges.retain range (drop (i + 1) values)) =
    rw (drop-cons values i 0 l, add-one i, retain_first range x (drop (suc i) values), n) (sym (join_assoc so_far (kept range x) (ranges.retain range (drop (suc i) values)))) in
    e ∙ p

-- where no value is ahead, what is kept is the answer
pub retain_end :
    (range : Range) (values : List ℕ) (i : ℕ) (so_far : Range) → length values ≤ i →
    ranges.retain range values ≡ ranges.join so_far (ranges.retain range (drop i values)) → so_far ≡ ranges.retain range values
unfolding ranges.retain
retain_end range values i so_far l e = sym (e ∙ rw (drop_of_length-le values {i = i} l) (join_empty so_far))
