-- States, as document 01 has them: empty, or one non-empty range for each of n variables.
use Rattle.std.specs.Prelude.{◌≡◌, Bool, true, false, not, ◌&&◌, List, [], ◌∷◌, ℕ, zero, suc, ◌≤◌, ◌<◌, length, get_or, set, replicate}
use Rattle.ranges.specs.declared.Range.{Range}
use Rattle.ranges.specs.declared.Range.TheVariants.{Empty, Span}
use Rattle.ranges.specs.Ranges as ranges
use Rattle.states.specs.declared.State.{State}
use Rattle.states.specs.declared.State.TheVariants as state
use Rattle.states.specs.declared.Cell.{Cell}

-- what is known of a variable that has this range
abbrev pub cell : Range → Cell
cell r = record { range = r }

-- [0,0], which stands where a state has no variable
abbrev pub blank : Cell
blank = cell (ranges.point 0)

abbrev pub zeros : List Cell
zeros = replicate 64 blank

-- the empty state
abbrev pub empty : State
empty = state.Empty

-- a state that is not empty, of these cells
abbrev pub live : List Cell → State
live cs = state.Live cs

-- whether a state is not empty
abbrev pub is_live : State → Bool
is_live state.Empty = false
is_live (state.Live cs) = true

-- its cells; of an empty state each is [0,0]
abbrev pub cells : State → List Cell
cells state.Empty = zeros
cells (state.Live cs) = cs

-- the range of a variable; [0,0] of one that no state has
abbrev pub get : State → ℕ → Range
get s v = (get_or (cells s) v blank).range

-- a state is empty, or one non-empty range for each of n variables; what else it holds is [0,0], so that equal states are equal values
pub record Fit (n : ℕ) (s : State) : Type 0 where
  pub long : length (cells s) ≡ 64
  pub full : is_live s ≡ true → (v : ℕ) → v < n → ranges.is_empty (get s v) ≡ false
  pub rest : (v : ℕ) → n ≤ v → get s v ≡ ranges.point 0

-- setting any variable Empty makes the state empty
abbrev pub put_into : List Cell → ℕ → Range → State
put_into cs v Empty = empty
put_into cs v (Span a e) = live (set cs v (cell (Span a e)))

-- changing a variable of an empty state changes nothing
abbrev pub put : State → ℕ → Range → State
put state.Empty v r = empty
put (state.Live cs) v r = put_into cs v r

-- join, subset, equality and widening of what is known of one variable: those of its range
abbrev pub join_cells : Cell → Cell → Cell
join_cells c d = cell (ranges.join c.range d.range)

abbrev pub within_cells : Cell → Cell → Bool
within_cells c d = ranges.within c.range d.range

abbrev pub same_cells : Cell → Cell → Bool
same_cells c d = ranges.same c.range d.range

abbrev pub widen_cells : Cell → Cell → Cell
widen_cells c d = cell (ranges.widen c.range d.range)

-- variable by variable, for the first n; the cells after them stay
unfoldable pub each : (Cell → Cell → Cell) → ℕ → List Cell → List Cell → List Cell
each f zero cs ds = cs
each f (suc n) [] ds = []
each f (suc n) (c ∷ cs) [] = c ∷ cs
each f (suc n) (c ∷ cs) (d ∷ ds) = f c d ∷ each f n cs ds

-- a test of the first n, variable by variable
unfoldable pub every : (Cell → Cell → Bool) → ℕ → List Cell → List Cell → Bool
every f zero cs ds = true
every f (suc n) [] ds = true
every f (suc n) (c ∷ cs) [] = true
every f (suc n) (c ∷ cs) (d ∷ ds) = f c d && every f n cs ds

-- a function of two cells that is passed gives, at each call, what f does
abbrev pub Computes : {A : Type 0} → (Cell → Cell → A → Type 0) → (Cell → Cell → A) → Type 0
Computes {A} post f = (c d : Cell) (r : A) → post c d r → r ≡ f c d

-- two states made one: an empty one with the other gives the other
abbrev pub together : (Cell → Cell → Cell) → ℕ → State → State → State
together f n state.Empty t = t
together f n (state.Live cs) state.Empty = live cs
together f n (state.Live cs) (state.Live ds) = live (each f n cs ds)

-- join goes variable by variable
abbrev pub join : ℕ → State → State → State
join = together join_cells

-- widening of s by t goes variable by variable
abbrev pub widen : ℕ → State → State → State
widen = together widen_cells

-- s lies within t: an empty state within any, and no other within an empty one
abbrev pub within : ℕ → State → State → Bool
within n state.Empty t = true
within n (state.Live cs) state.Empty = false
within n (state.Live cs) (state.Live ds) = every within_cells n cs ds

-- s equals t
abbrev pub same : ℕ → State → State → Bool
same n state.Empty t = not (is_live t)
same n (state.Live cs) state.Empty = false
same n (state.Live cs) (state.Live ds) = every same_cells n cs ds
