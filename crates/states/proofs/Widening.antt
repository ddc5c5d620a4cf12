-- Widening gives up a start or an end at each pass that does not stop, and a state of n variables has 2n of them.
use mathlib.Core.Path.{◌≡◌, refl, sym, ap, ◌∙◌}
use mathlib.Core.Bool.{Bool, true, false, ◌&&◌, false≢true}
use mathlib.Core.List.{List, [], ◌∷◌}
use Prim.Native.Nat.{ℕ, zero, suc, ◌+◌, ◌≤◌, ◌<◌}
use native.Mathlib.Omega.{arith}
use lib.ListN.{length}
use Rattle.ranges.specs.Ranges as ranges
use Rattle.ranges.proofs.Laws as laws
use Rattle.states.specs.declared.State.{State}
use Rattle.states.specs.declared.State.TheVariants as state
use Rattle.states.specs.declared.Cell.{Cell}
use Rattle.states.specs.States as states
use Rattle.states.specs.States.{Fit}
use Rattle.states.proofs.Cells.{at}

-- how many starts and ends the first n cells have left to give up
unfoldable left : ℕ → List Cell → ℕ
left zero cs = 0
left (suc n) [] = 0
left (suc n) (c ∷ cs) = laws.weight c.range + left n cs

left_le : (n : ℕ) (cs : List Cell) → left n cs ≤ n + n
unfolding left
left_le zero cs = omega arith
left_le (suc n) [] = omega arith
left_le (suc n) (c ∷ cs) = omega (arith, laws.weight_le c.range, left_le n cs)

widen_left_le : (n : ℕ) (cs ds : List Cell) → left n (states.each states.widen_cells n cs ds) ≤ left n cs
unfolding left states.each
widen_left_le zero cs ds = omega arith
widen_left_le (suc n) [] ds = omega arith
widen_left_le (suc n) (c ∷ cs) [] = omega arith
widen_left_le (suc n) (c ∷ cs) (d ∷ ds) = omega (arith, laws.widen_le c.range d.range, widen_left_le n cs ds)

widen_left_lt : (n : ℕ) (cs ds : List Cell) → n ≤ length cs → ((v : ℕ) → v < n → ranges.is_empty (at cs v) ≡ false) → states.every states.within_cells n ds cs ≡ false → left n (states.each states.widen_cells n cs ds) < left n cs
unfolding left states.each states.every
widen_left_lt zero cs ds a full h = absurd (false≢true (sym h))
widen_left_lt (suc n) [] ds a full h = absurd (omega arith)
widen_left_lt (suc n) (c ∷ cs) [] a full h = absurd (false≢true (sym h))
widen_left_lt (suc n) (c ∷ cs) (d ∷ ds) a full h = go (ranges.within d.range c.range) refl (widen_left_lt n cs ds (omega arith) (λ v k. full (suc v) (omega arith)))
  where
    go : (b : Bool) → ranges.within d.range c.range ≡ b → (states.every states.within_cells n ds cs ≡ false → left n (states.each states.widen_cells n cs ds) < left n cs) →
        left (suc n) (states.each states.widen_cells (suc n) (c ∷ cs) (d ∷ ds)) < left (suc n) (c ∷ cs)
    go true q more = omega (arith, laws.widen_le c.range d.range, more (sym (ap (λ (b : Bool). b && states.every states.within_cells n ds cs) q) ∙ h))
    go false q more = omega (arith, laws.widen_lt c.range d.range (full 0 (omega arith)) q, widen_left_le n cs ds)

module _ (n : ℕ) (small : n ≤ 64) where
  -- of a state
  pub left_of : State → ℕ
  left_of s = left n (states.cells s)

  pub left_bound : (s : State) → left_of s ≤ n + n
  unfolding left_of
  left_bound s = left_le n (states.cells s)

  -- a pass that does not stop leaves less
  pub widen_falls : (s t : State) → Fit n s → states.is_live s ≡ true → states.within n t s ≡ false → left_of (states.widen n s t) < left_of s
  unfolding left_of
  widen_falls state.Empty t f l h = absurd (false≢true l)
  widen_falls (state.Live cs) state.Empty f l h = absurd (false≢true (sym h))
  widen_falls (state.Live cs) (state.Live ds) f l h = widen_left_lt n cs ds (omega (arith, f.long)) (f.full refl) h
