-- The caller's starting ranges: what `started` answers, by the lowest start over its end and whether one range is Empty, and case by case.
use mathlib.Core.Path.{◌≡◌, refl, sym, ap, ◌∙◌, subst}
use mathlib.Core.Bool.{Bool, true, false, cond, ◌||◌, false≢true}
use mathlib.Core.List.{List, [], ◌∷◌, ◌++◌}
use Prim.Native.Nat.{ℕ, zero, suc, ◌+◌, ◌-◌, ◌≤◌, ◌<◌}
use native.Mathlib.Omega.{arith}
use borrow.Author.Tests.{ltb-true, ltb-false, lt-ltb, le-ltb}
use lib.Dec.{ltb}
use lib.ListN.{length, get_or, take, drop, replicate, length-append, length-replicate, get_or-append}
use lib.Seq.{length-take-le, get_or-take, get_or-append-add}
use Rattle.std.specs.Prelude.{Option, Some, None}
use Rattle.std.specs.List.{position, position_or_len, position_from, list_any}
use Rattle.std.proofs.lemmas.List.{drop-replicate}
use Rattle.std.proofs.lemmas.List.Quantifiers.{position-Some}
use Rattle.std.proofs.lemmas.List.Sums.{fails_before_first}
use Rattle.std.proofs.lemmas.List.Folds.{Any-from_list_any, list_any_at}
use Rattle.std.proofs.lemmas.Iterator.Adapters.{position_from-zero}
use Rattle.ranges.specs.declared.Range.{Range}
use Rattle.ranges.specs.Ranges as ranges
use Rattle.states.specs.declared.State.{State}
use Rattle.states.specs.declared.Cell.{Cell}
use Rattle.states.specs.States as states
use Rattle.states.specs.States.{Fit}
use Rattle.states.specs.Answers.{Answer, Gives, Refuses}
use Rattle.states.specs.Starts as starts
use Rattle.states.proofs.Cells.{cell_at, at, there}
use Rattle.states.proofs.Fits.{blank_at, fit_empty}
use Rattle.states.proofs.Proper.{Proper, empty_proper}
use Rattle.states.proofs.Sure.{Sure, given, refused}

-- ---- the answer, by the lowest start over its end and whether one range is Empty

abbrev pub crossed : Cell → Bool
crossed c = ranges.crossed c.range

abbrev pub is_empty : Cell → Bool
is_empty c = ranges.is_empty c.range

abbrev pub answer : Option ℕ → Bool → State → Answer State
answer (Some v) one_is s = Refuses 7 v
answer None one_is s = Gives (cond one_is states.empty s)

answer_more : (o : Option ℕ) (b c : Bool) (s : State) → answer o c (cond b states.empty s) ≡ answer o (b || c) s
answer_more (Some v) b c s = refl
answer_more None true true s = refl
answer_more None true false s = refl
answer_more None false c s = refl

starting_is : (k v : ℕ) (cs : List Cell) (s : State) → starts.starting k v cs s ≡ answer (position_from crossed v (take k cs)) (list_any is_empty (take k cs)) s
unfolding starts.starting
starting_is zero v cs s = refl
starting_is (suc k) v [] s = refl
starting_is (suc k) v (c ∷ cs) s = go (crossed c) (starting_is k (v + 1) cs (cond (is_empty c) states.empty s))
  where
    rest : Answer State
    rest = starts.starting k (v + 1) cs (cond (is_empty c) states.empty s)

    lowest_after : Option ℕ
    lowest_after = position_from crossed (v + 1) (take k cs)

    empty_after : Bool
    empty_after = list_any is_empty (take k cs)

    go : (b : Bool) → rest ≡ answer lowest_after empty_after (cond (is_empty c) states.empty s) →
        elim b [ true ↦ Refuses 7 v | false ↦ rest ] ≡ answer (cond b (Some v) lowest_after) (is_empty c || empty_after) s
    go true more = refl
    go false more = more ∙ answer_more lowest_after (is_empty c) empty_after s

module _ (n : ℕ) (cs : List Cell) where
  pub started_over : 64 < n → starts.started n cs ≡ Refuses 4 0
  unfolding starts.started
  started_over h = rw (starts.started, lt-ltb 64 n h) refl

  pub started_is : n ≤ 64 → starts.started n cs ≡ answer (position crossed (take n cs)) (list_any is_empty (take n cs)) (states.live (starts.first_cells n cs))
  unfolding starts.started
  started_is h = rw (starts.started, le-ltb 64 n h) (starting_is n 0 cs (states.live (starts.first_cells n cs)) ∙
      ap (λ (o : Option ℕ). answer o (list_any is_empty (take n cs)) (states.live (starts.first_cells n cs))) (sym (position_from-zero crossed (take n cs))))

-- the caller's ranges taken over, with [0,0] after them
pub taken_over : (n : ℕ) (cs taken : List Cell) (a : Cell) → taken ≡ take n cs → a ≡ states.blank → taken ++ drop n (replicate 64 a) ≡ starts.first_cells n cs
taken_over n cs taken a e b = rw (e, b, drop-replicate n 64 states.blank)

-- ---- the same case by case

-- what `started` answers: over 64 variables; the lowest start over its end; one Empty; none of these
pub data Said (n : ℕ) (cs : List Cell) : Answer State → Type 0 where
  too_many : 64 < n → Said n cs (Refuses 4 0)
  lowest : (v : ℕ) → n ≤ 64 → v < n → ranges.crossed (at cs v) ≡ true → ((w : ℕ) → w < v → ranges.crossed (at cs w) ≡ false) → Said n cs (Refuses 7 v)
  one_empty : (v : ℕ) → n ≤ 64 → ((w : ℕ) → w < n → ranges.crossed (at cs w) ≡ false) → v < n → ranges.is_empty (at cs v) ≡ true → Said n cs (Gives states.empty)
  as_given : n ≤ 64 → ((w : ℕ) → w < n → ranges.crossed (at cs w) ≡ false) → ((w : ℕ) → w < n → ranges.is_empty (at cs w) ≡ false) → Said n cs (Gives (states.live (starts.first_cells n cs)))

-- where no element passes, none does at an index
none_passes : {X : Type 0} (p : X → Bool) (xs : List X) (d : X) → position p xs ≡ None → (k : ℕ) → k < length xs → p (get_or xs k d) ≡ false
none_passes p xs d q k h = fails_before_first p xs k d (go (ltb (position_or_len p xs) (length xs)) refl)
  where
    go : (b : Bool) → ltb (position_or_len p xs) (length xs) ≡ b → k < position_or_len p xs
    go true e = let some : position p xs ≡ Some (position_or_len p xs) = rw e refl in let never : ⊥ = cc in absurd never
    go false e = let past : length xs ≤ position_or_len p xs = ltb-false (position_or_len p xs) (length xs) e in omega arith

module _ (n : ℕ) (cs : List Cell) (small : n ≤ 64) (enough : n ≤ length cs) where
  front : length (take n cs) ≡ n
  front = length-take-le n cs enough

  seen : (w : ℕ) → w < n → get_or (take n cs) w states.blank ≡ get_or cs w states.blank
  seen w h = get_or-take n cs w states.blank h

  none_crossed : position crossed (take n cs) ≡ None → (w : ℕ) → w < n → ranges.crossed (at cs w) ≡ false
  none_crossed q w h = rw (seen w h) at (none_passes crossed (take n cs) states.blank q w (omega (arith, front)))

  none_empty : list_any is_empty (take n cs) ≡ false → (w : ℕ) → w < n → ranges.is_empty (at cs w) ≡ false
  none_empty e w h = go (ranges.is_empty (at cs w)) refl
    where
      go : (b : Bool) → ranges.is_empty (at cs w) ≡ b → ranges.is_empty (at cs w) ≡ false
      go true q = absurd (false≢true (sym e ∙ list_any_at is_empty (take n cs) w states.blank (omega (arith, front)) (rw (seen w h) q)))
      go false q = q

  said : (o : Option ℕ) (b : Bool) → position crossed (take n cs) ≡ o → list_any is_empty (take n cs) ≡ b → Said n cs (answer o b (states.live (starts.first_cells n cs)))
  said (Some v) b q e =
      let p = position-Some crossed (take n cs) v states.blank q in
      let low : v < n = omega (arith, front, p.0) in
      lowest v small low (rw (seen v low) at p.1) (λ w k. rw (seen w (omega arith)) at (p.2 w k))
  said None true q e =
      let p = Any-from_list_any is_empty (take n cs) e in
      let low : p.0 < n = omega (arith, front, p.2) in
      let here : is_empty (cell_at cs p.0) ≡ true = ap is_empty (sym (there cs p.0 p.1 (omega (arith, low))) ∙ sym (get_or-take n cs p.0 p.1 low) ∙ p.3) ∙ p.4 in
      one_empty p.0 small (none_crossed q) low here
  said None false q e = as_given small (none_crossed q) (none_empty e)

pub started_says : (n : ℕ) (cs : List Cell) → length cs ≡ 64 → Said n cs (starts.started n cs)
started_says n cs long = go (ltb 64 n) refl
  where
    go : (b : Bool) → ltb 64 n ≡ b → Said n cs (starts.started n cs)
    go true q = subst (Said n cs) (sym (started_over n cs (ltb-true 64 n q))) (too_many (ltb-true 64 n q))
    go false q =
        let small : n ≤ 64 = ltb-false 64 n q in
        subst (Said n cs) (sym (started_is n cs small)) (said n cs small (omega arith) (position crossed (take n cs)) (list_any is_empty (take n cs)) refl refl)

-- ---- what it gives is a state of n variables

module _ (n : ℕ) (small : n ≤ 64) (cs : List Cell) (enough : n ≤ length cs) where
  first_long : length (starts.first_cells n cs) ≡ 64
  first_long = rw (length-append, length-replicate, length-take-le n cs enough) (omega arith)

  -- the caller's ranges, and [0,0] after them
  pub first_at : (v : ℕ) → v < n → at (starts.first_cells n cs) v ≡ at cs v
  first_at v h = ap (λ (c : Cell). c.range)
      (get_or-append (take n cs) (replicate (64 - n) states.blank) states.blank v (omega (arith, length-take-le n cs enough)) ∙ get_or-take n cs v states.blank h)

  first_rest : (v : ℕ) → n ≤ v → at (starts.first_cells n cs) v ≡ ranges.point 0
  first_rest v h =
      let past : v ≡ length (take n cs) + (v - n) = omega (arith, length-take-le n cs enough) in
      ap (λ (c : Cell). c.range) (ap (λ (i : ℕ). get_or (starts.first_cells n cs) i states.blank) past ∙ get_or-append-add (take n cs) (replicate (64 - n) states.blank) (v - n) states.blank)
      ∙ blank_at (64 - n) (v - n)

  pub first_fit : ((w : ℕ) → w < n → ranges.is_empty (at cs w) ≡ false) → Fit n (states.live (starts.first_cells n cs))
  first_fit filled = record {
    long = first_long;
    full = λ _ v h. subst (λ (r : Range). ranges.is_empty r ≡ false) (sym (first_at v h)) (filled v h);
    rest = first_rest;
  }

-- what `started` gives is a state of n variables, and each of its ranges has its start at most at its end
pub record Begun (n : ℕ) (s : State) : Type 0 where
  pub fit : Fit n s
  pub proper : Proper n s

said_begun : (n : ℕ) (cs : List Cell) → length cs ≡ 64 → (a : Answer State) → Said n cs a → Sure (Begun n) a
said_begun n cs long a (too_many h) = refused
said_begun n cs long a (lowest v small h q low) = refused
said_begun n cs long a (one_empty v small proper h e) = given (record { fit = fit_empty n; proper = empty_proper n })
said_begun n cs long a (as_given small proper filled) = given (record {
  fit = first_fit n small cs (omega arith) filled;
  proper = λ w k. rw (first_at n small cs (omega arith) w k) (proper w k);
})

pub started_begun : (n : ℕ) (cs : List Cell) → length cs ≡ 64 → Sure (Begun n) (starts.started n cs)
started_begun n cs long = said_begun n cs long (starts.started n cs) (started_says n cs long)
