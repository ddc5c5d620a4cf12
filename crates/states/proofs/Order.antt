-- Join, within, equality and widening on states of n variables: `same` is equality, `within` an order, join the least state above both, widening above both.
use mathlib.Core.Path.{◌≡◌, refl, sym, ap, subst}
use mathlib.Core.Bool.{Bool, true, false, false≢true}
use mathlib.Core.Logic.{◌↔◌}
use mathlib.Core.List.{List, [], ◌∷◌}
use Prim.Native.Nat.{ℕ, zero, suc, ◌≤◌, ◌<◌}
use native.Mathlib.Omega.{arith}
use lib.ListN.{length}
use Rattle.ranges.specs.declared.Range.{Range}
use Rattle.ranges.specs.Ranges as ranges
use Rattle.ranges.proofs.Laws as laws
use Rattle.states.specs.declared.State.{State}
use Rattle.states.specs.declared.State.TheVariants as state
use Rattle.states.specs.declared.Cell.{Cell}
use Rattle.states.specs.States as states
use Rattle.states.specs.States.{Fit}
use Rattle.states.proofs.Cells.{cell_at, at, each_at, every_at, every_make}
use Rattle.states.proofs.Fits.{alike, fit_join}
use Rattle.states.proofs.Proper.{Proper}

-- a state that equals another has it within
cell_turned : (c d : Cell) → states.same_cells c d ≡ true → states.within_cells d c ≡ true
cell_turned c d h = rw (laws.same_eq c.range d.range h) (laws.within_self d.range)

every_turned : (k : ℕ) (cs ds : List Cell) → states.every states.same_cells k cs ds ≡ true → states.every states.within_cells k ds cs ≡ true
unfolding states.every
every_turned zero cs ds h = refl
every_turned (suc k) [] [] h = refl
every_turned (suc k) [] (d ∷ ds) h = refl
every_turned (suc k) (c ∷ cs) [] h = refl
every_turned (suc k) (c ∷ cs) (d ∷ ds) h = laws.both
    (cell_turned c d (laws.left_of (states.same_cells c d) (states.every states.same_cells k cs ds) h))
    (every_turned k cs ds (laws.right_of (states.same_cells c d) (states.every states.same_cells k cs ds) h))

pub same_within : (n : ℕ) (s t : State) → states.same n s t ≡ true → states.within n t s ≡ true
same_within n state.Empty state.Empty h = refl
same_within n state.Empty (state.Live ds) h = absurd (false≢true h)
same_within n (state.Live cs) state.Empty h = absurd (false≢true h)
same_within n (state.Live cs) (state.Live ds) h = every_turned n cs ds h

module _ (n : ℕ) (small : n ≤ 64) where
  -- ---- same is equality

  pub same_self : (s : State) → states.same n s s ≡ true
  same_self state.Empty = refl
  same_self (state.Live cs) = every_make states.same_cells n cs cs (λ v h. laws.same_self (at cs v))

  pub same_eq : (s t : State) → Fit n s → Fit n t → states.same n s t ≡ true → s ≡ t
  same_eq state.Empty state.Empty f g h = refl
  same_eq state.Empty (state.Live ds) f g h = absurd (false≢true h)
  same_eq (state.Live cs) state.Empty f g h = absurd (false≢true h)
  same_eq (state.Live cs) (state.Live ds) f g h = alike n (states.live cs) (states.live ds) f g refl
      (λ l v k. laws.same_eq (at cs v) (at ds v) (every_at states.same_cells n v cs ds h k (omega (arith, f.long)) (omega (arith, g.long))))

  pub same_says : (s t : State) → Fit n s → Fit n t → (states.same n s t ≡ true) ↔ (s ≡ t)
  same_says s t f g = (same_eq s t f g, λ e. subst (λ (u : State). states.same n s u ≡ true) e (same_self s))

  -- ---- within goes variable by variable

  -- the state s is empty, or neither is and each range of s is within that of t
  abbrev pub Inside : State → State → Type 0
  Inside s t = states.is_live s ≡ true → (states.is_live t ≡ true) × ((v : ℕ) → v < n → ranges.within (states.get s v) (states.get t v) ≡ true)

  pub within_says : (s t : State) → Fit n s → Fit n t → (states.within n s t ≡ true) ↔ Inside s t
  within_says state.Empty t f g = (λ h l. absurd (false≢true l), λ h. refl)
  within_says (state.Live cs) state.Empty f g = (λ h. absurd (false≢true h), λ h. absurd (false≢true (h refl).0))
  within_says (state.Live cs) (state.Live ds) f g = (
    λ h l. (refl, λ v k. every_at states.within_cells n v cs ds h k (omega (arith, f.long)) (omega (arith, g.long))),
    λ h. every_make states.within_cells n cs ds (h refl).1,
  )

  -- the same in values, where each start is at most its end
  pub within_holds : (s t : State) → Fit n s → Fit n t → Proper n s →
      (states.within n s t ≡ true)
      ↔ (states.is_live s ≡ true → (states.is_live t ≡ true) × ((v : ℕ) → v < n → (x : ℕ) → ranges.holds (states.get s v) x ≡ true → ranges.holds (states.get t v) x ≡ true))
  within_holds s t f g proper = (
    λ h l. let p = (within_says s t f g).0 h l in (p.0, λ v k. (laws.within_says (states.get s v) (states.get t v) (proper v k)).0 (p.1 v k)),
    λ h. (within_says s t f g).1 (λ l. let p = h l in (p.0, λ v k. (laws.within_says (states.get s v) (states.get t v) (proper v k)).1 (p.1 v k))),
  )

  pub within_self : (s : State) → states.within n s s ≡ true
  within_self state.Empty = refl
  within_self (state.Live cs) = every_make states.within_cells n cs cs (λ v h. laws.within_self (at cs v))

  pub within_dead : (s t : State) → states.is_live s ≡ false → states.within n s t ≡ true
  within_dead state.Empty t h = refl
  within_dead (state.Live cs) t h = absurd (false≢true (sym h))

  module _ (s t u : State) (f : Fit n s) (g : Fit n t) (h : Fit n u) where
    pub within_trans : states.within n s t ≡ true → states.within n t u ≡ true → states.within n s u ≡ true
    within_trans a b = (within_says s u f h).1 (λ l.
        let p = (within_says s t f g).0 a l in
        let q = (within_says t u g h).0 b p.0 in
        (q.0, λ v k. laws.within_trans (states.get s v) (states.get t v) (states.get u v) (p.1 v k) (q.1 v k)))

  both_ways : (b c : Bool) → (b ≡ true → c ≡ true) → (c ≡ true → b ≡ true) → b ≡ c
  both_ways true c h k = sym (h refl)
  both_ways false true h k = k refl
  both_ways false false h k = refl

  pub within_antisym : (s t : State) → Fit n s → Fit n t → states.within n s t ≡ true → states.within n t s ≡ true → s ≡ t
  within_antisym s t f g a b =
      let p : Inside s t = (within_says s t f g).0 a in
      let q : Inside t s = (within_says t s g f).0 b in
      alike n s t f g (both_ways (states.is_live s) (states.is_live t) (λ l. (p l).0) (λ l. (q l).0))
      (λ l v k. laws.within_antisym (states.get s v) (states.get t v) ((p l).1 v k) ((q (p l).0).1 v k))

  -- ---- join and widening go variable by variable, and are above both

  module _ (f : Cell → Cell → Cell) where
    -- the range of a variable in what is made of two states
    made : (cs ds : List Cell) → length cs ≡ 64 → length ds ≡ 64 → (v : ℕ) → v < n → at (states.each f n cs ds) v ≡ (f (cell_at cs v) (cell_at ds v)).range
    made cs ds p q v k = ap (λ (c : Cell). c.range) (each_at f n v cs ds k (omega arith) (omega arith))

    -- above both, where it is so of one variable
    above_left : ((a b : Cell) → states.within_cells a (f a b) ≡ true) → (s t : State) → Fit n s → Fit n t → states.within n s (states.together f n s t) ≡ true
    above_left up state.Empty t p q = refl
    above_left up (state.Live cs) state.Empty p q = within_self (states.live cs)
    above_left up (state.Live cs) (state.Live ds) p q = every_make states.within_cells n cs (states.each f n cs ds)
        (λ v k. subst (λ (c : Cell). states.within_cells (cell_at cs v) c ≡ true) (sym (each_at f n v cs ds k (omega (arith, p.long)) (omega (arith, q.long)))) (up (cell_at cs v) (cell_at ds v)))

    above_right : ((a b : Cell) → states.within_cells b (f a b) ≡ true) → (s t : State) → Fit n s → Fit n t → states.within n t (states.together f n s t) ≡ true
    above_right up state.Empty t p q = within_self t
    above_right up (state.Live cs) state.Empty p q = refl
    above_right up (state.Live cs) (state.Live ds) p q = every_make states.within_cells n ds (states.each f n cs ds)
        (λ v k. subst (λ (c : Cell). states.within_cells (cell_at ds v) c ≡ true) (sym (each_at f n v cs ds k (omega (arith, p.long)) (omega (arith, q.long)))) (up (cell_at cs v) (cell_at ds v)))

  pub join_above_left : (s t : State) → Fit n s → Fit n t → states.within n s (states.join n s t) ≡ true
  join_above_left = above_left states.join_cells (λ a b. laws.join_above_left a.range b.range)

  pub join_above_right : (s t : State) → Fit n s → Fit n t → states.within n t (states.join n s t) ≡ true
  join_above_right = above_right states.join_cells (λ a b. laws.join_above_right a.range b.range)

  pub widen_above_old : (s t : State) → Fit n s → Fit n t → states.within n s (states.widen n s t) ≡ true
  widen_above_old = above_left states.widen_cells (λ a b. laws.widen_above_old a.range b.range)

  pub widen_above_new : (s t : State) → Fit n s → Fit n t → states.within n t (states.widen n s t) ≡ true
  widen_above_new = above_right states.widen_cells (λ a b. laws.widen_above_new a.range b.range)

  -- ---- join is the least state above both: commutative, associative, idempotent

  pub join_least : (s t u : State) → Fit n s → Fit n t → Fit n u → states.within n s u ≡ true → states.within n t u ≡ true → states.within n (states.join n s t) u ≡ true
  join_least state.Empty t u f g h a b = b
  join_least (state.Live cs) state.Empty u f g h a b = a
  join_least (state.Live cs) (state.Live ds) u f g h a b =
      (within_says (states.join n (states.live cs) (states.live ds)) u (fit_join n small (states.live cs) (states.live ds) f g) h).1 (λ l.
      let p = (within_says (states.live cs) u f h).0 a refl in
      let q = (within_says (states.live ds) u g h).0 b refl in (
        p.0,
        λ v k. subst (λ (r : Range). ranges.within r (states.get u v) ≡ true) (sym (made states.join_cells cs ds f.long g.long v k))
            (laws.join_least (at cs v) (at ds v) (states.get u v) (p.1 v k) (q.1 v k)),
      ))

  pub join_comm : (s t : State) → Fit n s → Fit n t → states.join n s t ≡ states.join n t s
  join_comm s t f g = within_antisym (states.join n s t) (states.join n t s) (fit_join n small s t f g) (fit_join n small t s g f)
      (join_least s t (states.join n t s) f g (fit_join n small t s g f) (join_above_right t s g f) (join_above_left t s g f))
      (join_least t s (states.join n s t) g f (fit_join n small s t f g) (join_above_right s t f g) (join_above_left s t f g))

  pub join_idem : (s : State) → Fit n s → states.join n s s ≡ s
  join_idem s f = within_antisym (states.join n s s) s (fit_join n small s s f f) f
      (join_least s s s f f f (within_self s) (within_self s)) (join_above_left s s f f)

  pub join_assoc : (s t u : State) → Fit n s → Fit n t → Fit n u → states.join n (states.join n s t) u ≡ states.join n s (states.join n t u)
  join_assoc s t u f g h =
      let st : State = states.join n s t in
      let tu : State = states.join n t u in
      let F : Fit n st = fit_join n small s t f g in
      let G : Fit n tu = fit_join n small t u g h in
      let left : State = states.join n st u in
      let right : State = states.join n s tu in
      let L : Fit n left = fit_join n small st u F h in
      let R : Fit n right = fit_join n small s tu f G in
      within_antisym left right L R
      (join_least st u right F h R
      (join_least s t right f g R (join_above_left s tu f G) (within_trans t tu right g G R (join_above_left t u g h) (join_above_right s tu f G)))
      (within_trans u tu right h G R (join_above_right t u g h) (join_above_right s tu f G)))
      (join_least s tu left f G L
      (within_trans s st left f F L (join_above_left s t f g) (join_above_left st u F h))
      (join_least t u left g h L (within_trans t st left g F L (join_above_right s t f g) (join_above_left st u F h)) (join_above_right st u F h)))
