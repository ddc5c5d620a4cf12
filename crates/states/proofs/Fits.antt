-- States of n variables: that the operations keep them so, and that they are equal where their ranges are.
use mathlib.Core.Path.{◌≡◌, refl, sym, ap, ◌∙◌, subst}
use mathlib.Core.Bool.{Bool, true, false, false≢true}
use Prim.Native.Nat.{ℕ, zero, suc, ◌≤◌, ◌<◌}
use native.Mathlib.Omega.{arith}
use lib.Dec.{ltb}
use borrow.Author.Tests.{ltb-true, ltb-false}
use lib.ListN.{replicate, length-set}
use Rattle.ranges.specs.declared.Range.{Range}
use Rattle.ranges.specs.declared.Range.TheVariants.{Empty, Span}
use Rattle.ranges.specs.Ranges as ranges
use Rattle.ranges.proofs.Laws as laws
use Rattle.states.specs.declared.State.{State}
use Rattle.states.specs.declared.State.TheVariants as state
use Rattle.states.specs.declared.Cell.{Cell}
use Rattle.states.specs.States as states
use Rattle.states.specs.States.{Fit}
use Rattle.states.proofs.Cells.{cell_at, at, each_at, each_rest, each_length, set_at, cells_eq}

-- cells that no variable has are [0,0]
pub blank_at : (m v : ℕ) → at (replicate m states.blank) v ≡ ranges.point 0
blank_at zero v = refl
blank_at (suc m) zero = refl
blank_at (suc m) (suc v) = blank_at m v

-- a state that is not live is the empty one
pub bare : (s : State) → states.is_live s ≡ false → s ≡ states.empty
bare state.Empty h = refl
bare (state.Live cs) h = absurd (false≢true (sym h))

pub fit_empty : (n : ℕ) → Fit n states.empty
fit_empty n = record { long = refl; full = λ l. absurd (false≢true l); rest = λ v _. blank_at 64 v }

module _ (n : ℕ) where
  -- states with the same ranges are equal
  pub alike : (s t : State) → Fit n s → Fit n t → states.is_live s ≡ states.is_live t → (states.is_live s ≡ true → (v : ℕ) → v < n → states.get s v ≡ states.get t v) → s ≡ t
  alike state.Empty state.Empty f g l e = refl
  alike state.Empty (state.Live ds) f g l e = absurd (false≢true l)
  alike (state.Live cs) state.Empty f g l e = absurd (false≢true (sym l))
  alike (state.Live cs) (state.Live ds) f g l e = ap states.live (cells_eq cs ds (f.long ∙ sym g.long) (λ v. here (ltb v n) v refl))
    where
      here : (b : Bool) (v : ℕ) → ltb v n ≡ b → at cs v ≡ at ds v
      here true v q = e refl v (ltb-true v n q)
      here false v q = f.rest v (ltb-false v n q) ∙ sym (g.rest v (ltb-false v n q))

-- ---- the operations give states of n variables

module _ (n : ℕ) (small : n ≤ 64) where
  pub fit_put : (s : State) (v : ℕ) (r : Range) → v < n → Fit n s → Fit n (states.put s v r)
  fit_put state.Empty v r h f = f
  fit_put (state.Live cs) v Empty h f = fit_empty n
  fit_put (state.Live cs) v (Span a e) h f = record {
    long = length-set cs v (states.cell (Span a e)) ∙ f.long;
    full = λ l w k. set_at (λ (q : Range). ranges.is_empty q ≡ false) cs v w (Span a e) (omega (arith, f.long)) (λ _. refl) (λ _. f.full refl w k);
    rest = λ w k. set_at (λ (q : Range). q ≡ ranges.point 0) cs v w (Span a e) (omega (arith, f.long)) (λ q. absurd (omega arith)) (λ _. f.rest w k);
  }

  fit_together : (g : Cell → Cell → Cell) → ((a b : Cell) → ranges.is_empty a.range ≡ false → ranges.is_empty (g a b).range ≡ false) →
      (s t : State) → Fit n s → Fit n t → Fit n (states.together g n s t)
  fit_together g keeps state.Empty t f h = h
  fit_together g keeps (state.Live cs) state.Empty f h = f
  fit_together g keeps (state.Live cs) (state.Live ds) f h = record {
    long = each_length g n cs ds ∙ f.long;
    full = λ l v k. subst (λ (c : Cell). ranges.is_empty c.range ≡ false) (sym (each_at g n v cs ds k (omega (arith, f.long)) (omega (arith, h.long)))) (keeps (cell_at cs v) (cell_at ds v) (f.full refl v k));
    rest = λ v k. ap (λ (c : Cell). c.range) (each_rest g n v cs ds k) ∙ f.rest v k;
  }

  pub fit_join : (s t : State) → Fit n s → Fit n t → Fit n (states.join n s t)
  fit_join = fit_together states.join_cells (λ a b. laws.join_filled a.range b.range)

  pub fit_widen : (s t : State) → Fit n s → Fit n t → Fit n (states.widen n s t)
  fit_widen = fit_together states.widen_cells (λ a b. laws.widen_filled a.range b.range)

-- ---- an empty state stays empty

pub put_dead : (s : State) (v : ℕ) (r : Range) → states.is_live s ≡ false → states.is_live (states.put s v r) ≡ false
put_dead state.Empty v r h = refl
put_dead (state.Live cs) v r h = absurd (false≢true (sym h))

together_dead : (f : Cell → Cell → Cell) (n : ℕ) (s t : State) → states.is_live s ≡ false → states.is_live t ≡ false → states.is_live (states.together f n s t) ≡ false
together_dead f n state.Empty t h k = k
together_dead f n (state.Live cs) t h k = absurd (false≢true (sym h))

pub join_dead : (n : ℕ) (s t : State) → states.is_live s ≡ false → states.is_live t ≡ false → states.is_live (states.join n s t) ≡ false
join_dead = together_dead states.join_cells

pub widen_dead : (n : ℕ) (s t : State) → states.is_live s ≡ false → states.is_live t ≡ false → states.is_live (states.widen n s t) ≡ false
widen_dead = together_dead states.widen_cells
