-- Which stores a state holds once a variable is set, or another state is joined.
use mathlib.Core.Path.{◌≡◌, refl, sym, ◌∙◌, subst}
use mathlib.Core.Bool.{Bool, true, false, false≢true}
use mathlib.Core.List.{List}
use Prim.Native.Nat.{ℕ, ◌≤◌, ◌<◌}
use native.Mathlib.Omega.{arith}
use borrow.Author.Tests.{eq-eqb, ne_eqb}
use Rattle.ranges.specs.declared.Range.{Range}
use Rattle.ranges.specs.declared.Range.TheVariants.{Empty, Span}
use Rattle.ranges.proofs.Laws as laws
use Rattle.states.specs.declared.State.{State}
use Rattle.states.specs.declared.State.TheVariants as state
use Rattle.states.specs.declared.Cell.{Cell}
use Rattle.states.specs.States as states
use Rattle.states.specs.States.{Fit}
use Rattle.states.proofs.Cells.{at, set_at}
use Rattle.states.proofs.Fits.{fit_join}
use Rattle.states.proofs.Order.{within_says, join_above_left, join_above_right}
use Rattle.paper.specs.Runs.{Store, stored, ◌∈◌, Holds}

-- an empty state holds nothing
pub holds_dead : {n : ℕ} {s : State} {σ : Store} → states.is_live s ≡ false → Holds n s σ → ⊥
holds_dead d h = false≢true (sym d ∙ h.live)

module _ (n : ℕ) (small : n ≤ 64) where
  -- a variable is given a range that holds its new value, and the others stay
  pub put_to : (s : State) (v : ℕ) (r : Range) (σ τ : Store) → v < n → Fit n s → Holds n s σ → τ v ∈ r → ((w : ℕ) → (w ≡ v → ⊥) → τ w ≡ σ w) → Holds n (states.put s v r) τ
  put_to state.Empty v r σ τ lt f h new old = absurd (false≢true h.live)
  put_to (state.Live cs) v Empty σ τ lt f h new old = absurd (false≢true new)
  put_to (state.Live cs) v (Span a e) σ τ lt f h new old = record {
    live = refl;
    each = λ w k. set_at (λ (q : Range). τ w ∈ q) cs v w (Span a e) (omega (arith, f.long))
        (λ q. subst (λ (u : ℕ). τ u ∈ Span a e) (sym q) new)
        (λ ne. subst (λ (x : ℕ). x ∈ at cs w) (sym (old w ne)) (h.each w k));
  }

  stored_at : (σ : Store) (v x : ℕ) → stored σ v x v ≡ x
  stored_at σ v x = rw (eq-eqb v v refl) refl

  stored_off : (σ : Store) (v x w : ℕ) → (w ≡ v → ⊥) → stored σ v x w ≡ σ w
  stored_off σ v x w h = rw (ne_eqb w v h) refl

  pub put_stored : (s : State) (v : ℕ) (r : Range) (σ : Store) (x : ℕ) → v < n → Fit n s → Holds n s σ → x ∈ r → Holds n (states.put s v r) (stored σ v x)
  put_stored s v r σ x lt f h new = put_to s v r σ (stored σ v x) lt f h (subst (λ (y : ℕ). y ∈ r) (sym (stored_at σ v x)) new) (stored_off σ v x)

  -- a range that still holds the variable's value
  pub put_kept : (s : State) (v : ℕ) (r : Range) (σ : Store) → v < n → Fit n s → Holds n s σ → σ v ∈ r → Holds n (states.put s v r) σ
  put_kept s v r σ lt f h new = put_to s v r σ σ lt f h new (λ w _. refl)

  -- what lies within holds no more
  pub within_held : (s t : State) (σ : Store) → Fit n s → Fit n t → states.within n s t ≡ true → Holds n s σ → Holds n t σ
  within_held s t σ f g w h =
      let inside = (within_says n small s t f g).0 w h.live in
      record { live = inside.0; each = λ v k. laws.within_holds (states.get s v) (states.get t v) (σ v) (inside.1 v k) (h.each v k) }

  pub join_left : (s t : State) (σ : Store) → Fit n s → Fit n t → Holds n s σ → Holds n (states.join n s t) σ
  join_left s t σ f g = within_held s (states.join n s t) σ f (fit_join n small s t f g) (join_above_left n small s t f g)

  pub join_right : (s t : State) (σ : Store) → Fit n s → Fit n t → Holds n t σ → Holds n (states.join n s t) σ
  join_right s t σ f g = within_held t (states.join n s t) σ g (fit_join n small s t f g) (join_above_right n small s t f g)
