-- Normalize: a store's value of the given variable is one of the values enumerated.
use Rattle.std.specs.Prelude.{Some, None}
use mathlib.Core.Path.{◌≡◌, refl, sym, ◌∙◌, subst}
use mathlib.Core.Bool.{Bool, true, false, false≢true}
use mathlib.Core.List.{List, [], ◌∷◌}
use Prim.Native.Nat.{ℕ, zero, suc, ◌+◌, ◌-◌, ◌≤◌, ◌<◌}
use native.Mathlib.Omega.{arith}
use lib.Dec.{eqb, ltb}
use borrow.Author.Tests.{eqb-true, eqb-false}
use Rattle.ranges.specs.declared.Range.{Range}
use Rattle.ranges.specs.declared.Range.TheVariants.{Empty, Span}
use Rattle.ranges.specs.Ranges as ranges
use Rattle.ranges.proofs.Laws as laws
use Rattle.states.specs.declared.State.{State}
use Rattle.states.specs.States as states
use Rattle.states.specs.States.{Fit}
use Rattle.states.proofs.Fits.{fit_empty, fit_put, fit_join}
use Rattle.paper.specs.Rules as rules
use Rattle.states.specs.Answers.{Answer}
use Rattle.paper.specs.Runs.{Store, Holds, ◌∈◌}
use Rattle.paper.proofs.Below.{EachBelow}
use Rattle.states.proofs.Sure.{Sure, given, refused, sure_then, sure_elim, sure_map}
use Rattle.paper.proofs.Held.{put_kept, join_left, join_right}
use Rattle.paper.proofs.Loops.{Post}

module _ (n : ℕ) (small : n ≤ 64) (body : State → Answer State) (Does : Store → Store → Type 0) (body_ok : (s : State) → Fit n s → Sure (Post n Does s) (body s)) where
  -- the values from x on, k of them
  record Enumerated (v : ℕ) (s : State) (k x : ℕ) (acc t : State) : Type 0 where
    fit : Fit n t
    kept : (τ : Store) → Holds n acc τ → Holds n t τ
    held : (σ τ : Store) → Holds n s σ → x ≤ σ v → σ v < x + k → Does σ τ → Holds n t τ

  enumerated_ok : (rest : State → Answer State) → ((s : State) → Fit n s → Sure (Post n Does s) (rest s)) →
      (v : ℕ) (s : State) → v < n → Fit n s → (k x : ℕ) (acc : State) → Fit n acc → Sure (Enumerated v s k x acc) (rules.enumerated n body rest v s k x acc)
  unfolding rules.enumerated
  enumerated_ok rest rest_ok v s lt f zero x acc a = given (record { fit = a; kept = λ τ h. h; held = λ σ τ h i j. absurd (omega arith) })
  enumerated_ok rest rest_ok v s lt f (suc k) x acc a =
      sure_then (rest_ok (states.put s v (ranges.point x)) (fit_put n small s v (ranges.point x) lt f)) (λ t T.
      sure_map (enumerated_ok rest rest_ok v s lt f k (x + 1) (states.join n acc t) (fit_join n small acc t a T.fit)) (λ u U. record {
        fit = U.fit;
        kept = λ τ h. U.kept τ (join_left n small acc t τ a T.fit h);
        held = λ σ τ h i j d. here (eqb (σ v) x) σ τ refl h d t T (U.kept τ) (λ ne. U.held σ τ h (omega arith) (omega arith) d);
      }))
    where
      here : (b : Bool) (σ τ : Store) → eqb (σ v) x ≡ b → Holds n s σ → Does σ τ → (t : State) → Post n Does (states.put s v (ranges.point x)) t →
          {u : State} → (Holds n (states.join n acc t) τ → Holds n u τ) → ((σ v ≡ x → ⊥) → Holds n u τ) → Holds n u τ
      here true σ τ q h d t T k l = k (join_right n small acc t τ a T.fit (T.held σ τ
          (put_kept n small s v (ranges.point x) σ lt f h (subst (λ (y : ℕ). σ v ∈ ranges.point y) (eqb-true (σ v) x q) (laws.point_holds (σ v)))) d))
      here false σ τ q h d t T k l = l (eqb-false (σ v) x q)

  values_ok : (rest : State → Answer State) → ((s : State) → Fit n s → Sure (Post n Does s) (rest s)) →
      (at v : ℕ) (s : State) → v < n → Fit n s → states.is_live s ≡ true → (r : Range) → ((σ : Store) → Holds n s σ → laws.In r (σ v)) → Sure (Post n Does s) (rules.values n body rest at v s r)
  values_ok rest rest_ok at v s lt f l Empty h = refused
  values_ok rest rest_ok at v s lt f l (Span a None) h = refused
  values_ok rest rest_ok at v s lt f l (Span a (Some b)) h = sure_elim (ltb 4096 (b - a + 1)) (λ _. refused) (λ _.
      sure_map (enumerated_ok rest rest_ok v s lt f (b - a + 1) a states.empty (fit_empty n)) (λ t T. record {
        fit = T.fit;
        dead = λ d. absurd (false≢true (sym d ∙ l));
        held = λ σ τ k d. let i = h σ k in T.held σ τ k i.0 (omega arith) d;
      }))

  pub normalized_ok : (vs : List ℕ) (at : ℕ) (s : State) → EachBelow n vs → Fit n s → Sure (Post n Does s) (rules.normalized n body at vs s)
  unfolding rules.normalized
  normalized_ok [] at s lt f = body_ok s f
  normalized_ok (v ∷ vs) at s lt f = sure_elim (states.is_live s)
      (λ l. values_ok (rules.normalized n body (at + 1) vs) (λ t. normalized_ok vs (at + 1) t lt.1) at v s lt.0 f l (states.get s v) (λ σ h. laws.in_of (states.get s v) (σ v) (h.each v lt.0)))
      (λ _. refused)
