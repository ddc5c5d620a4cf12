-- Removal in document 01's words: the least number from the start on that is not in the set, and the greatest from the end down.
use Rattle.std.specs.Prelude.{Option, Some, None, ◌≡◌, true, false, List, ℕ, ◌+◌, ◌≤◌, ◌<◌}
use Rattle.ranges.specs.declared.Range.{Range}
use Rattle.ranges.specs.declared.Range.TheVariants.{Empty, Span}
use Rattle.ranges.specs.Ranges.{top, has}

-- the set has every number from `low` up to `high`, which is left out
abbrev pub Filled : List ℕ → ℕ → ℕ → Type 0
Filled set low high = (x : ℕ) → low ≤ x → x < high → has set x ≡ true

-- the least number from the start on that is not in the set
pub record Least (set : List ℕ) (start first : ℕ) : Type 0 where
  pub above : start ≤ first
  pub out : has set first ≡ false
  pub passed : Filled set start first

-- the greatest number from the end down that is not in the set
pub record Greatest (set : List ℕ) (end last : ℕ) : Type 0 where
  pub below : last ≤ end
  pub out : has set last ≡ false
  pub passed : Filled set (last + 1) (end + 1)

-- what removing a set from a range answers
pub data Removed (set : List ℕ) : Range → Option Range → Type 0 where
  -- nothing is removed from Empty
  nothing : Removed set Empty (Some Empty)
  -- the set has every number from the start through 4294967295, wherever the range ends
  over : {start : ℕ} {end : Option ℕ} → Filled set start (top + 1) → Removed set (Span start end) None
  -- the set has every number of the range, but not every one through 4294967295
  gone : {start end first : ℕ} → Least set start first → first ≤ top → Filled set start (end + 1) → Removed set (Span start (Some end)) (Some Empty)
  -- both ends are cut
  cut :
      {start end first last : ℕ} → Least set start first → first ≤ top → Greatest set end last → first ≤ last →
      Removed set (Span start (Some end)) (Some (Span first (Some last)))
  -- where there is no end, the start is cut
  endless : {start first : ℕ} → Least set start first → first ≤ top → Removed set (Span start None) (Some (Span first None))
