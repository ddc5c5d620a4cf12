-- Both sides of an event hold the stores that go there.
use Rattle.std.specs.Prelude.{Option, Some, None}
use mathlib.Core.Path.{◌≡◌, refl}
use mathlib.Core.Bool.{Bool, true, false}
use mathlib.Core.List.{List}
use mathlib.Core.Logic.{◌⊎◌, inl, inr}
use Prim.Native.Nat.{ℕ, ◌+◌, ◌≤◌, ◌<◌}
use lib.ListN.{length}
use Rattle.ranges.specs.declared.Range.{Range}
use Rattle.ranges.specs.Ranges as ranges
use Rattle.ranges.proofs.Laws as laws
use Rattle.states.specs.declared.State.{State}
use Rattle.states.specs.States as states
use Rattle.states.specs.States.{Fit}
use Rattle.states.proofs.Fits.{fit_empty, fit_put, fit_join, put_dead, join_dead}
use Rattle.paper.specs.Tree.{Event, InSet, VarComparison, DataFromDist, Complement, Intersection, Events, none, ◌also◌}
use Rattle.paper.specs.Code as code
use Rattle.paper.specs.Rules as rules
use Rattle.paper.specs.Rules.{Setting, Sides, cut}
use Rattle.paper.specs.Runs.{Store, Holds, True, False, AllTrue, OneFalse}
use Rattle.paper.proofs.Below.{EventBelow, EventsBelow}
use Rattle.states.proofs.Sure.{Sure, given, refused, sure_then, sure_if, sure_map}
use Rattle.paper.proofs.Held.{put_kept, join_left, join_right}

-- an event goes one way or the other
mutual
  unfolding True False AllTrue OneFalse

  pub decide : (e : Event) (σ : Store) → True e σ ⊎ False e σ
  decide (InSet v xs) σ = has_or (ranges.has xs (σ v))
    where
      has_or : (b : Bool) → (b ≡ true) ⊎ (b ≡ false)
      has_or true = inl refl
      has_or false = inr refl
  decide (VarComparison v w) σ = inl tt
  decide (DataFromDist x d) σ = inl tt
  decide (Complement e) σ = elim (decide e σ) [ inl t ↦ inr t | inr f ↦ inl f ]
  decide (Intersection es) σ = decides es σ

  pub decides : (es : Events) (σ : Store) → AllTrue es σ ⊎ OneFalse es σ
  decides none σ = inl tt
  decides (e also es) σ = elim (decide e σ) [ inr f ↦ inr (inl f) | inl t ↦ elim (decides es σ) [ inl ts ↦ inl (t, ts) | inr fs ↦ inr (inr fs) ] ]

-- the state t holds every store of s that has the property; it is well formed, and empty where s is
pub record Kept (n : ℕ) (P : Store → Type 0) (s t : State) : Type 0 where
  pub fit : Fit n t
  pub dead : states.is_live s ≡ false → states.is_live t ≡ false
  pub held : (σ : Store) → Holds n s σ → P σ → Holds n t σ

pub record Split (n : ℕ) (e : Event) (s : State) (u : Sides) : Type 0 where
  pub yes : Kept n (True e) s u.yes
  pub no : Kept n (False e) s u.no

-- the sides u after some more events, from the sides t
pub record Splits (n : ℕ) (es : Events) (t u : Sides) : Type 0 where
  pub yes : Kept n (AllTrue es) t.yes u.yes
  pub no_fit : Fit n u.no
  pub no_dead : states.is_live t.yes ≡ false → states.is_live t.no ≡ false → states.is_live u.no ≡ false
  pub no_kept : (σ : Store) → Holds n t.no σ → Holds n u.no σ
  pub no_held : (σ : Store) → Holds n t.yes σ → OneFalse es σ → Holds n u.no σ

-- one of the events is false: the first that is counts
first_false : {Z : Type 0} (e : Event) (es : Events) (σ : Store) → False e σ ⊎ OneFalse es σ → (False e σ → Z) → (True e σ → OneFalse es σ → Z) → Z
first_false e es σ (inl f) here on = here f
first_false e es σ (inr o) here on = elim (decide e σ) [ inl t ↦ on t o | inr f ↦ here f ]

kept_same : {n : ℕ} {P : Store → Type 0} (s : State) → Fit n s → Kept n P s s
kept_same s f = record { fit = f; dead = λ d. d; held = λ σ h _. h }

module _ (g : Setting) (small : g.n ≤ 64) where
  cut_ok : (at : ℕ) (s : State) (v : ℕ) (xs : List ℕ) (q : Option Range) → v < g.n → Fit g.n s →
      ((σ : Store) → Holds g.n s σ → ranges.has xs (σ v) ≡ false → laws.HoldsBounded q (σ v)) → Sure (Split g.n (InSet v xs) s) (cut at s v xs q)
  unfolding True False
  cut_ok at s v xs (Some r) lt f out = given (record {
    yes = record {
      fit = fit_put g.n small s v (ranges.retain (states.get s v) xs) lt f;
      dead = put_dead s v (ranges.retain (states.get s v) xs);
      held = λ σ h t. put_kept g.n small s v (ranges.retain (states.get s v) xs) σ lt f h (laws.retain_holds (states.get s v) xs (σ v) (h.each v lt) t);
    };
    no = record {
      fit = fit_put g.n small s v r lt f;
      dead = put_dead s v r;
      held = λ σ h t. put_kept g.n small s v r σ lt f h (out σ h t);
    };
  })
  cut_ok at s v xs None lt f out = sure_if (states.is_live s) (λ _. refused) (λ d. given (record { yes = kept_same s f; no = kept_same s f }))

  mutual
    unfolding rules.event rules.events True False AllTrue OneFalse

    pub event_ok : (e : Event) (at : ℕ) (s : State) → EventBelow g.n e → Fit g.n s → Sure (Split g.n e s) (rules.event g at e s)
    event_ok (InSet v xs) at s lt f = cut_ok at s v xs (ranges.remove (states.get s v) xs) lt f (λ σ h t. laws.remove_holds (states.get s v) xs (σ v) (h.each v lt) t)
    event_ok (VarComparison v w) at s lt f = given (record { yes = kept_same s f; no = kept_same s f })
    event_ok (DataFromDist x d) at s lt f = given (record { yes = kept_same s f; no = kept_same s f })
    event_ok (Complement e) at s lt f = sure_then (event_ok e (at + 1) s lt f) (λ u U. given (record {
      yes = record { fit = U.no.fit; dead = U.no.dead; held = U.no.held };
      no = record { fit = U.yes.fit; dead = U.yes.dead; held = U.yes.held };
    }))
    event_ok (Intersection es) at s lt f = sure_map (events_ok es (at + 2) (record { yes = s; no = states.empty }) lt f (fit_empty g.n)) (λ u U. record {
      yes = record { fit = U.yes.fit; dead = U.yes.dead; held = U.yes.held };
      no = record { fit = U.no_fit; dead = λ d. U.no_dead d refl; held = λ σ h t. U.no_held σ h t };
    })

    pub events_ok : (es : Events) (at : ℕ) (t : Sides) → EventsBelow g.n es → Fit g.n t.yes → Fit g.n t.no → Sure (Splits g.n es t) (rules.events g at es t)
    events_ok none at t lt f k = given (record { yes = kept_same t.yes f; no_fit = k; no_dead = λ _ d. d; no_kept = λ σ h. h; no_held = λ σ h x. absurd x })
    events_ok (e also es) at t lt f k = sure_then (event_ok e at t.yes lt.0 f) (λ u U.
        sure_map (events_ok es (at + length (code.event e)) (record { yes = u.yes; no = states.join g.n t.no u.no }) lt.1 U.yes.fit (fit_join g.n small t.no u.no k U.no.fit)) (λ w W. record {
          yes = record { fit = W.yes.fit; dead = λ d. W.yes.dead (U.yes.dead d); held = λ σ h a. W.yes.held σ (U.yes.held σ h a.0) a.1 };
          no_fit = W.no_fit;
          no_dead = λ d e. W.no_dead (U.yes.dead d) (join_dead g.n t.no u.no e (U.no.dead d));
          no_kept = λ σ h. W.no_kept σ (join_left g.n small t.no u.no σ k U.no.fit h);
          no_held = λ σ h o. first_false e es σ o
              (λ a. W.no_kept σ (join_right g.n small t.no u.no σ k U.no.fit (U.no.held σ h a)))
              (λ a more. W.no_held σ (U.yes.held σ h a) more);
        }))
