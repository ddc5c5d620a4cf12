-- A state's ranges have their starts at most at their ends: the operations keep it so.
use mathlib.Core.Path.{sym, subst}
use Prim.Native.Nat.{ℕ, ◌≤◌, ◌<◌}
use native.Mathlib.Omega.{arith}
use Rattle.ranges.specs.declared.Range.{Range}
use Rattle.ranges.specs.declared.Range.TheVariants.{Empty, Span}
use Rattle.ranges.proofs.Laws as laws
use Rattle.states.specs.declared.State.{State}
use Rattle.states.specs.declared.State.TheVariants as state
use Rattle.states.specs.declared.Cell.{Cell}
use Rattle.states.specs.States as states
use Rattle.states.specs.States.{Fit}
use Rattle.states.proofs.Cells.{cell_at, each_at, set_at}
use Rattle.states.proofs.Fits.{blank_at}

abbrev pub Proper : ℕ → State → Type 0
Proper n s = (v : ℕ) → v < n → laws.Proper (states.get s v)

pub empty_proper : (n : ℕ) → Proper n states.empty
empty_proper n v h = rw (blank_at 64 v)

module _ (n : ℕ) (small : n ≤ 64) where
  pub put_proper : (s : State) (v : ℕ) (r : Range) → v < n → Fit n s → Proper n s → laws.Proper r → Proper n (states.put s v r)
  put_proper state.Empty v r h f p q = p
  put_proper (state.Live cs) v Empty h f p q = empty_proper n
  put_proper (state.Live cs) v (Span a e) h f p q = λ w k. set_at laws.Proper cs v w (Span a e) (omega (arith, f.long)) (λ _. q) (λ _. p w k)

  together_proper : (g : Cell → Cell → Cell) → ((a b : Cell) → laws.Proper a.range → laws.Proper b.range → laws.Proper (g a b).range) →
      (s t : State) → Fit n s → Fit n t → Proper n s → Proper n t → Proper n (states.together g n s t)
  together_proper g keeps state.Empty t f h p q = q
  together_proper g keeps (state.Live cs) state.Empty f h p q = p
  together_proper g keeps (state.Live cs) (state.Live ds) f h p q = λ v k.
      subst (λ (c : Cell). laws.Proper c.range) (sym (each_at g n v cs ds k (omega (arith, f.long)) (omega (arith, h.long)))) (keeps (cell_at cs v) (cell_at ds v) (p v k) (q v k))

  pub join_proper : (s t : State) → Fit n s → Fit n t → Proper n s → Proper n t → Proper n (states.join n s t)
  join_proper = together_proper states.join_cells (λ a b. laws.join_proper a.range b.range)

  pub widen_proper : (s t : State) → Fit n s → Fit n t → Proper n s → Proper n t → Proper n (states.widen n s t)
  widen_proper = together_proper states.widen_cells (λ a b. laws.widen_proper a.range b.range)
