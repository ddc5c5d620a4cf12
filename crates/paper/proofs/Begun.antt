-- The words before a refused one begin a program: whatever was read so far can be completed.
use mathlib.Core.Path.{◌≡◌, refl, ap, sym, ◌∙◌}
use mathlib.Core.Bool.{Bool, true, false}
use mathlib.Core.List.{List, [], ◌∷◌, ◌++◌, append_assoc, append-nil}
use Prim.Native.Nat.{ℕ, zero, suc, ◌-◌, ◌/◌, ◌<◌, ◌≤◌}
use native.Mathlib.Nat.{div_self, mod_self}
use native.Mathlib.Omega.{arith}
use lib.Dec.{eqb, ltb, leb}
use lib.ListN.{length, take, drop, drop_of_length-le, length-append, length-drop}
use lib.Seq.{take_all, take_at}
use borrow.Author.Tests.{ltb-false, leb-true, leb-false, eqb-false}
use Rattle.ranges.specs.Ranges as ranges
use Rattle.paper.specs.Tree.{Draw, Dirac, Bernoulli, BernoulliVarProb, BinomialVarTrials, Binomial, Categorical, NegBinomialVarSuccesses, NegBinomial, PoissonVarRate, Uniform}
use Rattle.paper.specs.Tree.{Event, InSet, VarComparison, DataFromDist, Complement, Intersection, Events, none, ◌also◌}
use Rattle.paper.specs.Tree.{Nought, Times, Default, Turns}
use Rattle.paper.specs.Tree.{Statement, Sample, Assign, Decrement, IfThenElse, While, Fail, Normalize, Statements, done, ◌then◌}
use Rattle.paper.specs.Code as code
use Rattle.paper.specs.Reader as reader
use Rattle.paper.specs.Reader.{Reading, Read, Bad, and_read, if_read, many, whole}
use Rattle.paper.specs.Limits as limits
use Rattle.paper.specs.Limits.{Small, Each, Whole, DrawIn, AddendIn, UnrollIn, EventIn, EventsIn, StatementIn, StatementsIn}
use Rattle.paper.proofs.Spelled.{All, all_at, Spells, ◌&◌, nothing, Codes, letter, conjunction, counted, Kinds, each_kind, kind_is, none_but_nought, word_is, most_is, unless_is, variable_is, flag_is, many_are, draw_is, events_are, event_is, all_events_are, addend_is, unroll_is, given_is, list_is, block_is, statement_is, whole_true}

-- ---- what holds of a refusal, if there is one

unfoldable StopsBy : {A : Type 0} → (ℕ → ℕ → Type 0) → Reading A → Type 0
StopsBy Q (Read a j) = Unit {0}
StopsBy Q (Bad k q) = Q k q

record Stops {A : Type 0} (Q : ℕ → ℕ → Type 0) (m : Reading A) : Type 0 where
  holds : StopsBy Q m

module _ {A : Type 0} {Q : ℕ → ℕ → Type 0} where
  stops_read : {a : A} {j : ℕ} → Stops Q (Read a j)
  unfolding StopsBy
  stops_read = record { holds = tt }

  stops_bad : {k q : ℕ} → Q k q → Stops {A = A} Q (Bad k q)
  unfolding StopsBy
  stops_bad h = record { holds = h }

  stops_if : (b : Bool) (m o : Reading A) → (b ≡ true → Stops Q m) → (b ≡ false → Stops Q o) → Stops Q (if_read b m o)
  unfolding if_read
  stops_if true m o h k = h refl
  stops_if false m o h k = k refl

  stops_so : {P : ℕ → ℕ → Type 0} (m : Reading A) → Stops P m → ((k q : ℕ) → P k q → Q k q) → Stops Q m
  unfolding StopsBy
  stops_so (Read a j) h f = record { holds = tt }
  stops_so (Bad k q) h f = record { holds = f k q h.holds }

  stops_then : {B : Type 0} {S : B → ℕ → Type 0} {P : ℕ → ℕ → Type 0} (m : Reading B) (f : B → ℕ → Reading A) → All S m → Stops P m → ((k q : ℕ) → P k q → Q k q) → ((b : B) (j : ℕ) → S b j → Stops Q (f b j)) → Stops Q (and_read m f)
  unfolding StopsBy and_read
  stops_then (Read b j) f a h first rest = rest b j (all_at (Read b j) a refl)
  stops_then (Bad k q) f a h first rest = record { holds = first k q h.holds }

-- ---- codes that begin with the words from `at` to q

record Starts (ws : List ℕ) (at q : ℕ) (l : List ℕ) : Type 0 where
  before : List ℕ
  rest : List ℕ
  spells : Spells ws at before q
  is : l ≡ before ++ rest

module _ {ws : List ℕ} where
  -- no word of it was read
  still : {at q : ℕ} {l : List ℕ} → Spells ws at [] q → Starts ws at q l
  still {l = l} s = record { before = []; rest = l; spells = s; is = refl }

  -- its first part was read
  after : {at i q : ℕ} {l m : List ℕ} → Spells ws at l i → Starts ws i q m → Starts ws at q (l ++ m)
  after {l = l} s t = record {
    before = l ++ t.before;
    rest = t.rest;
    spells = s & t.spells;
    is = ap (λ (r : List ℕ). l ++ r) t.is ∙ sym (append_assoc l t.before t.rest);
  }

  -- part of its first part was read
  within : {at q : ℕ} {l : List ℕ} (m : List ℕ) → Starts ws at q l → Starts ws at q (l ++ m)
  within m t = record {
    before = t.before;
    rest = t.rest ++ m;
    spells = t.spells;
    is = ap (λ (r : List ℕ). r ++ m) t.is ∙ append_assoc t.before t.rest m;
  }

-- a tree whose code begins so
record Opens {A : Type 0} (ws : List ℕ) (code : A → List ℕ) (Good : A → Type 0) (at q : ℕ) : Type 0 where
  tree : A
  good : Good tree
  starts : Starts ws at q (code tree)

opens : {A : Type 0} {ws : List ℕ} {code : A → List ℕ} {Good : A → Type 0} {at q : ℕ} (tree : A) → Good tree → Starts ws at q (code tree) → Opens ws code Good at q
opens a g s = record { tree = a; good = g; starts = s }

-- ---- single words

bernoulli_in : (n : ℕ) → DrawIn n Bernoulli
unfolding DrawIn
bernoulli_in n = tt

nought_in : (n : ℕ) → AddendIn n Nought
unfolding AddendIn
nought_in n = tt

small_nought : Small 0
small_nought = omega arith

module _ (ws : List ℕ) where
  short : {at : ℕ} → length ws ≤ at → Spells ws at [] (length ws)
  short {at} h = record {
    is = drop_of_length-le ws {i = at} h ∙ sym (drop_of_length-le ws {i = length ws} (omega arith));
    inside = λ _. omega arith;
  }

  module _ {Q : ℕ → ℕ → Type 0} where
    word_stops : (at : ℕ) → (Spells ws at [] (length ws) → Q 3 (length ws)) → Stops Q (reader.word ws at)
    unfolding reader.word
    word_stops at h = stops_if (ltb at (length ws)) _ _ (λ _. stops_read) (λ e. stops_bad (h (short (ltb-false _ _ e))))

    unless_stops : (ok : ℕ → Bool) (k at : ℕ) → ((j q : ℕ) → Spells ws at [] q → Q j q) → Stops Q (reader.unless ws ok k at)
    unfolding reader.unless
    unless_stops ok k at h =
        stops_then _ _ (word_is ws at) (word_stops at (h 3 (length ws))) (λ _ _ x. x)
        (λ x i s. stops_if (ok x) _ _ (λ _. stops_read) (λ _. stops_bad (h k at nothing)))

    module _ {A : Type 0} (f : ℕ → ℕ → Reading A) where
      on_word : (at : ℕ) → (Spells ws at [] (length ws) → Q 3 (length ws)) → ((x i : ℕ) → Spells ws at (letter x) i → Stops Q (f x i)) → Stops Q (and_read (reader.word ws at) f)
      on_word at h g = stops_then _ f (word_is ws at) (word_stops at h) (λ _ _ x. x) g

      on_most : (limit k at : ℕ) → ((j q : ℕ) → Spells ws at [] q → Q j q) → ((x i : ℕ) → Codes ws letter (λ y. y ≤ limit) at x i → Stops Q (f x i)) → Stops Q (and_read (reader.most ws limit k at) f)
      on_most limit k at h g = stops_then _ f (most_is ws limit k at) (unless_stops _ k at h) (λ _ _ x. x) g

      on_variable : (n at : ℕ) → ((j q : ℕ) → Spells ws at [] q → Q j q) → ((x i : ℕ) → Codes ws letter (λ y. y < n) at x i → Stops Q (f x i)) → Stops Q (and_read (reader.variable ws n at) f)
      on_variable n at h g = stops_then _ f (variable_is ws n at) (unless_stops _ 5 at h) (λ _ _ x. x) g

    on_flag : {A : Type 0} (f : Bool → ℕ → Reading A) (at : ℕ) → ((j q : ℕ) → Spells ws at [] q → Q j q) → ((a : Bool) (i : ℕ) → Spells ws at (letter (code.flag a)) i → Stops Q (f a i)) → Stops Q (and_read (reader.flag ws at) f)
    unfolding reader.flag
    on_flag f at h g = stops_then _ f (flag_is ws at) (on_most _ 1 3 at h (λ _ _ _. stops_read)) (λ _ _ x. x) g

-- ---- as many as a count says

-- a list of so many, filled up
record Filled (ws : List ℕ) (Good : ℕ → Type 0) (count at q : ℕ) : Type 0 where
  tree : List ℕ
  size : length tree ≡ count
  good : Each Good tree
  starts : Starts ws at q tree

module _ (ws : List ℕ) (Good : ℕ → Type 0) (one : ℕ → Reading ℕ) (x : ℕ) (g : Good x) (h : (at : ℕ) → All (Codes ws letter Good at) (one at)) (o : (at : ℕ) → Stops (λ k q. Spells ws at [] q) (one at)) where
  abbrev fill : ℕ → List ℕ
  fill zero = []
  fill (suc k) = x ∷ fill k

  fill_size : (k : ℕ) → length (fill k) ≡ k
  fill_size zero = refl
  fill_size (suc k) = ap suc (fill_size k)

  fill_good : (k : ℕ) → Each Good (fill k)
  unfolding Each
  fill_good zero = tt
  fill_good (suc k) = (g, fill_good k)

  many_stop : (k at : ℕ) → Stops (λ j q. Filled ws Good k at q) (many [] ◌∷◌ one k at)
  unfolding many Each
  many_stop zero at = stops_read
  many_stop (suc k) at =
      stops_then _ _ (h at) (o at) (λ j q s. record { tree = fill (suc k); size = fill_size (suc k); good = fill_good (suc k); starts = still s })
      (λ y i a.
      stops_then _ _ (many_are ws Good one h k i) (many_stop k i)
      (λ j q f. record { tree = y ∷ f.tree; size = ap suc f.size; good = (a.good, f.good); starts = after a.spells f.starts })
      (λ _ _ _. stops_read))

-- ---- draws

abbrev divisor : ℕ → ℕ
divisor zero = 1
divisor (suc p) = suc p

divisor_whole : (p : ℕ) → Whole p (divisor p)
divisor_whole zero = record { divides = omega arith; exact = refl; small = omega arith }
divisor_whole (suc p) =
    let one : suc p / suc p ≡ 1 = div_self (omega arith) in
    record { divides = omega arith; exact = mod_self (suc p); small = omega arith }

module _ (ws : List ℕ) (n : ℕ) (some : 0 < n) where
  abbrev OpensDraw : ℕ → ℕ → ℕ → Type 0
  OpensDraw at k q = Opens ws code.draw (DrawIn n) at q

  of_variable : (make : ℕ → Draw) {at i kind : ℕ} → Spells ws at (letter kind) i → ((v : ℕ) → code.draw (make v) ≡ kind ∷ v ∷ []) → DrawIn n (make 0) → Stops (OpensDraw at) (reader.of_variable ws n make i)
  of_variable make {at} {i} s c g = on_variable ws _ n i (λ k q h. opens (make 0) g (rw (c 0) (after s (still h)))) (λ _ _ _. stops_read)

  of_small : (make : ℕ → Draw) {at i kind : ℕ} → Spells ws at (letter kind) i → ((x : ℕ) → code.draw (make x) ≡ kind ∷ x ∷ []) → DrawIn n (make 0) → Stops (OpensDraw at) (reader.of_small ws n make i)
  of_small make {at} {i} s c g = on_most ws _ ranges.top 3 i (λ k q h. opens (make 0) g (rw (c 0) (after s (still h)))) (λ _ _ _. stops_read)

  no_kind : {at k : ℕ} → Stops {A = Draw} (OpensDraw at) (Bad k at)
  unfolding DrawIn
  no_kind = stops_bad (opens Bernoulli tt (still nothing))

  draw_stops : (at : ℕ) → Stops (OpensDraw at) (reader.draw ws n at)
  unfolding reader.draw reader.ratio reader.interval DrawIn Kinds
  draw_stops at =
      on_word ws _ at (λ h. opens Bernoulli tt (still h))
      (λ kind i s.
      each_kind (Stops (OpensDraw at)) kind _ _ i (
        (λ e.
            let one = kind_is e s in
            on_word ws _ i (λ h. opens (Dirac 0 1) (divisor_whole 0) (after one (still h)))
            (λ p j a.
            stops_then _ _ (unless_is ws (Whole p) (whole p) 6 j (whole_true p))
            (unless_stops ws (whole p) 6 j (λ k q h. opens (Dirac p (divisor p)) (divisor_whole p) (after one (after a (still h)))))
            (λ _ _ x. x)
            (λ _ _ _. stops_read))),
        (
          (λ e. stops_read),
          (
            (λ e. of_variable BernoulliVarProb (kind_is e s) (λ v. refl) some),
            (
              (λ e. of_variable BinomialVarTrials (kind_is e s) (λ v. refl) some),
              (
                (λ e. of_small Binomial (kind_is e s) (λ x. refl) small_nought),
                (
                  (λ e. of_small Categorical (kind_is e s) (λ x. refl) small_nought),
                  (
                    (λ e. of_variable NegBinomialVarSuccesses (kind_is e s) (λ v. refl) some),
                    (
                      (λ e. of_small NegBinomial (kind_is e s) (λ x. refl) small_nought),
                      (
                        (λ e. stops_read),
                        (
                          (λ e. stops_read),
                          (
                            (λ e. of_variable PoissonVarRate (kind_is e s) (λ v. refl) some),
                            (
                              (λ e.
                                  let twelve = kind_is e s in
                                  on_most ws _ ranges.top 3 i (λ k q h. opens (Uniform 0 0) (small_nought, small_nought) (after twelve (still h)))
                                  (λ x j a.
                                  on_most ws _ ranges.top 3 j (λ k q h. opens (Uniform x 0) (a.good, small_nought) (after twelve (after a.spells (still h))))
                                  (λ _ _ _. stops_read))),
                              ((λ e. no_kind), ((λ e. no_kind), ((λ e. no_kind), tt))),
                            ),
                          ),
                        ),
                      ),
                    ),
                  ),
                ),
              ),
            ),
          ),
        ),
      )
      no_kind)

  -- ---- what stands before the lists of a statement

  addend_stops : (at : ℕ) → Stops (λ k q. Opens ws code.addend (AddendIn n) at q) (reader.addend ws n at)
  unfolding reader.addend AddendIn if_read
  addend_stops at = on_flag ws _ at (λ k q h. opens Nought tt (still h)) (λ has i s. go has s)
    where
      go : {i : ℕ} (has : Bool) → Spells ws at (letter (code.flag has)) i → Stops (λ k q. Opens ws code.addend (AddendIn n) at q) (if_read has (and_read (reader.small ws i) λ f j. and_read (reader.variable ws n j) λ w h. Read (Times f w) h) (and_read (reader.nought ws i) λ f j. and_read (reader.nought ws j) λ w h. Read Nought h))
      go {i} true s =
          on_most ws _ ranges.top 3 i (λ k q h. opens (Times 0 0) (small_nought, some) (after s (still h)))
          (λ f j a. on_variable ws _ n j (λ k q h. opens (Times f 0) (a.good, some) (after s (after a.spells (still h)))) (λ _ _ _. stops_read))
      go {i} false s =
          on_most ws _ 0 3 i (λ k q h. opens Nought tt (after s (still h)))
          (λ f j a. on_most ws _ 0 3 j (λ k q h. opens Nought tt (after s (after (kind_is (none_but_nought a.good) a.spells) (still h)))) (λ _ _ _. stops_read))

  unroll_stops : (at : ℕ) → Stops (λ k q. Opens ws code.unroll UnrollIn at q) (reader.unroll ws at)
  unfolding reader.unroll UnrollIn if_read
  unroll_stops at =
      on_flag ws _ at (λ k q h. opens Default tt (still h))
      (λ has i s. on_most ws _ 10000 4 i (λ k q h. go has s h) (λ u j a. done_with has u j s))
    where
      go : {i q : ℕ} (has : Bool) → Spells ws at (letter (code.flag has)) i → Spells ws i [] q → Opens ws code.unroll UnrollIn at q
      go true s h = opens (Turns 0) (omega arith) (after s (still h))
      go false s h = opens Default tt (after s (still h))

      done_with : {i : ℕ} (has : Bool) (u j : ℕ) → Spells ws at (letter (code.flag has)) i → Stops (λ k q. Opens ws code.unroll UnrollIn at q) (if_read has (Read (Turns u) j) (if_read (eqb u 0) (Read Default j) (Bad 3 i)))
      done_with true u j s = stops_read
      done_with false u j s = stops_if (eqb u 0) _ _ (λ _. stops_read) (λ _. stops_bad (go false s nothing))

  given_stops : (at : ℕ) → Stops (λ k q. Opens ws counted (λ vs. (length vs ≤ 8) × Each (λ v. v < n) vs) at q) (reader.given ws n at)
  unfolding reader.given Each
  given_stops at =
      on_most ws _ 8 4 at (λ k q h. opens [] (omega arith, tt) (still h))
      (λ k i a.
      stops_so _ (many_stop ws (λ v. v < n) (reader.variable ws n) 0 some (variable_is ws n) (λ at. unless_stops ws _ 5 at (λ _ _ h. h)) k i)
      (λ j q f. opens f.tree (rw (sym f.size) at a.good, f.good) (after (kind_is (sym f.size) a.spells) f.starts)))

-- ---- with so many levels more

abbrev deeper : ℕ → ℕ → ℕ
deeper extra zero = extra
deeper extra (suc deep) = suc (deeper extra deep)

module _ (n extra : ℕ) where
  mutual
    deeper_event : {deep : ℕ} {e : Event} → EventIn n deep e → EventIn n (deeper extra deep) e
    deeper_event (limits.set a b c) = limits.set a b c
    deeper_event (limits.comparison a b) = limits.comparison a b
    deeper_event (limits.datum a b) = limits.datum a b
    deeper_event (limits.complement a) = limits.complement (deeper_event a)
    deeper_event (limits.intersection a) = limits.intersection (deeper_events a)

    deeper_events : {deep : ℕ} {es : Events} → EventsIn n deep es → EventsIn n (deeper extra deep) es
    deeper_events limits.no_event = limits.no_event
    deeper_events (limits.and_event a b) = limits.and_event (deeper_event a) (deeper_events b)

  mutual
    deeper_statement : {deep loops : ℕ} {c : Statement} → StatementIn n deep loops c → StatementIn n (deeper extra deep) loops c
    deeper_statement (limits.sample a b) = limits.sample a b
    deeper_statement (limits.assign a b c) = limits.assign a b c
    deeper_statement (limits.decrement a b) = limits.decrement a b
    deeper_statement (limits.branch a b c) = limits.branch (deeper_event a) (deeper_statements b) (deeper_statements c)
    deeper_statement (limits.while a b c) = limits.while a (deeper_event b) (deeper_statements c)
    deeper_statement limits.fail = limits.fail
    deeper_statement (limits.normalize a b c) = limits.normalize a b (deeper_statements c)

    deeper_statements : {deep loops : ℕ} {cs : Statements} → StatementsIn n deep loops cs → StatementsIn n (deeper extra deep) loops cs
    deeper_statements limits.no_statement = limits.no_statement
    deeper_statements (limits.and_statement a b) = limits.and_statement (deeper_statement a) (deeper_statements b)

-- the least event and statement, at any depth there is
least_event : {n : ℕ} (deep : ℕ) → 0 < deep → EventIn n deep (Intersection none)
least_event zero h = absurd (omega arith)
least_event (suc deep) h = limits.intersection limits.no_event

least_statement : {n loops : ℕ} (deep : ℕ) → 0 < deep → StatementIn n deep loops Fail
least_statement zero h = absurd (omega arith)
least_statement (suc deep) h = limits.fail

-- so many of one
abbrev events_of : ℕ → Event → Events
events_of zero e = none
events_of (suc k) e = e also events_of k e

abbrev statements_of : ℕ → Statement → Statements
statements_of zero c = done
statements_of (suc k) c = c then statements_of k c

events_of_count : (k : ℕ) (e : Event) → code.count_events (events_of k e) ≡ k
unfolding code.event
events_of_count zero e = refl
events_of_count (suc k) e = ap suc (events_of_count k e)

statements_of_count : (k : ℕ) (c : Statement) → code.count (statements_of k c) ≡ k
unfolding code.statement
statements_of_count zero c = refl
statements_of_count (suc k) c = ap suc (statements_of_count k c)

events_of_in : {n deep : ℕ} {e : Event} (k : ℕ) → EventIn n deep e → EventsIn n deep (events_of k e)
events_of_in zero g = limits.no_event
events_of_in (suc k) g = limits.and_event g (events_of_in k g)

statements_of_in : {n deep loops : ℕ} {c : Statement} (k : ℕ) → StatementIn n deep loops c → StatementsIn n deep loops (statements_of k c)
statements_of_in zero g = limits.no_statement
statements_of_in (suc k) g = limits.and_statement g (statements_of_in k g)

-- a list of events or of statements, so many, filled up
record FilledEvents (ws : List ℕ) (n deep count at q : ℕ) : Type 0 where
  tree : Events
  size : code.count_events tree ≡ count
  good : EventsIn n deep tree
  starts : Starts ws at q (code.events tree)

record FilledStatements (ws : List ℕ) (n deep loops count at q : ℕ) : Type 0 where
  tree : Statements
  size : code.count tree ≡ count
  good : StatementsIn n deep loops tree
  starts : Starts ws at q (code.list tree)

-- ---- events and statements: a refusal for depth, or at the end of the words, asks for a level more
module _ (ws : List ℕ) (n : ℕ) (some : 0 < n) (extra : ℕ) (Fine : ℕ → ℕ → Type 0) (spare_end : Fine 3 (length ws) → 0 < extra) (spare_deep : (q : ℕ) → Fine 4 q → 0 < extra) where
  abbrev OpensEvent : ℕ → ℕ → ℕ → ℕ → Type 0
  OpensEvent deep at k q = Fine k q → Opens ws code.event (EventIn n (deeper extra deep)) at q

  module _ (deep : ℕ) (h : (at : ℕ) → Stops (OpensEvent deep at) (reader.event ws n deep at)) where
    events_stop : (k at : ℕ) → Stops (λ j q. Fine j q → FilledEvents ws n (deeper extra deep) k at q) (many none ◌also◌ (reader.event ws n deep) k at)
    unfolding many code.event
    events_stop zero at = stops_read
    events_stop (suc k) at =
        stops_then _ _ (event_is ws n deep at) (h at)
        (λ j q o fine.
        let e = o fine in
        record {
          tree = events_of (suc k) e.tree;
          size = events_of_count (suc k) e.tree;
          good = events_of_in (suc k) e.good;
          starts = within (code.events (events_of k e.tree)) e.starts;
        })
        (λ e i a.
        stops_then _ _ (events_are ws n deep (reader.event ws n deep) (event_is ws n deep) k i) (events_stop k i)
        (λ j q o fine.
        let f = o fine in
        record {
          tree = e also f.tree;
          size = ap suc f.size;
          good = limits.and_event (deeper_event n extra a.good) f.good;
          starts = after a.spells f.starts;
        })
        (λ _ _ _. stops_read))

    conjunction_stops : (at : ℕ) → Stops (λ k q. Fine k q → Opens ws conjunction (EventsIn n (deeper extra deep)) at q) (reader.events ws (reader.event ws n deep) at)
    unfolding reader.events code.event
    conjunction_stops at =
        on_word ws _ at (λ h fine. opens none limits.no_event (still h))
        (λ k i s.
        stops_so _ (events_stop k i)
        (λ j q o fine.
        let f = o fine in
        opens f.tree f.good (after (kind_is (sym f.size) s) f.starts)))

  event_stops : (deep at : ℕ) → Stops (OpensEvent deep at) (reader.event ws n deep at)
  unfolding reader.event reader.set reader.comparison reader.datum code.event Kinds Each
  event_stops zero at =
      on_word ws _ at (λ h fine. opens (Intersection none) (least_event extra (spare_end fine)) (still h))
      (λ kind i s. stops_bad (λ fine. opens (Intersection none) (least_event extra (spare_deep at fine)) (still nothing)))
  event_stops (suc deep) at =
      on_word ws _ at (λ h fine. opens (Intersection none) (limits.intersection limits.no_event) (still h))
      (λ kind i s.
      each_kind (Stops (OpensEvent (suc deep) at)) kind _ _ i (
        (λ e.
            let one = kind_is e s in
            on_variable ws _ n i (λ k q h fine. opens (InSet 0 []) (limits.set some (omega arith) tt) (after one (still h)))
            (λ v j a.
            on_most ws _ 256 4 j (λ k q h fine. opens (InSet v []) (limits.set a.good (omega arith) tt) (after one (after a.spells (still h))))
            (λ k m b.
            stops_then _ _ (many_are ws Small (reader.small ws) (most_is ws ranges.top 3) k m)
            (many_stop ws Small (reader.small ws) 0 small_nought (most_is ws ranges.top 3) (λ at. unless_stops ws _ 3 at (λ _ _ h. h)) k m)
            (λ o q f fine.
            opens (InSet v f.tree) (limits.set a.good (rw (sym f.size) at b.good) f.good)
            (after one (after a.spells (after (kind_is (sym f.size) b.spells) f.starts))))
            (λ _ _ _. stops_read)))),
        (
          (λ e.
              let two = kind_is e s in
              on_variable ws _ n i (λ k q h fine. opens (VarComparison 0 0) (limits.comparison some some) (after two (still h)))
              (λ v j a.
              on_variable ws _ n j (λ k q h fine. opens (VarComparison v 0) (limits.comparison a.good some) (after two (after a.spells (still h))))
              (λ _ _ _. stops_read))),
          (
            (λ e.
                let three = kind_is e s in
                on_most ws _ ranges.top 3 i (λ k q h fine. opens (DataFromDist 0 Bernoulli) (limits.datum small_nought (bernoulli_in n)) (after three (still h)))
                (λ x j a.
                stops_then _ _ (draw_is ws n j) (draw_stops ws n some j)
                (λ k q o fine. opens (DataFromDist x o.tree) (limits.datum a.good o.good) (after three (after a.spells o.starts)))
                (λ _ _ _. stops_read))),
            (
              (λ e.
                  stops_then _ _ (event_is ws n deep i) (event_stops deep i)
                  (λ k q o fine.
                  let x = o fine in
                  opens (Complement x.tree) (limits.complement x.good) (after (kind_is e s) x.starts))
                  (λ _ _ _. stops_read)),
              (
                (λ e.
                    stops_then _ _ (all_events_are ws n deep (reader.event ws n deep) (event_is ws n deep) i) (conjunction_stops deep (event_stops deep) i)
                    (λ k q o fine.
                    let x = o fine in
                    opens (Intersection x.tree) (limits.intersection x.good) (after (kind_is e s) x.starts))
                    (λ _ _ _. stops_read)),
                tt,
              ),
            ),
          ),
        ),
      )
      (stops_bad (λ fine. opens (Intersection none) (limits.intersection limits.no_event) (still nothing))))

  abbrev OpensStatement : ℕ → ℕ → ℕ → ℕ → ℕ → Type 0
  OpensStatement deep loops at k q = Fine k q → Opens ws code.statement (StatementIn n (deeper extra deep) loops) at q

  sample_stops : (deep : ℕ) {loops at i : ℕ} → Spells ws at (letter 1) i → Stops (OpensStatement (suc deep) loops at) (reader.sample ws n i)
  unfolding reader.sample code.statement
  sample_stops deep {loops} {at} {i} s =
      on_variable ws _ n i (λ k q h fine. opens (Sample 0 false Bernoulli) (limits.sample some (bernoulli_in n)) (after s (still h)))
      (λ v j a.
      on_flag ws _ j (λ k q h fine. opens (Sample v false Bernoulli) (limits.sample a.good (bernoulli_in n)) (after s (after a.spells (still h))))
      (λ add m b.
      stops_then _ _ (draw_is ws n m) (draw_stops ws n some m)
      (λ k q o fine. opens (Sample v add o.tree) (limits.sample a.good o.good) (after s (after a.spells (after b o.starts))))
      (λ _ _ _. stops_read)))

  assign_stops : (deep : ℕ) {loops at i : ℕ} → Spells ws at (letter 2) i → Stops (OpensStatement (suc deep) loops at) (reader.assign ws n i)
  unfolding reader.assign code.statement
  assign_stops deep {loops} {at} {i} s =
      on_variable ws _ n i (λ k q h fine. opens (Assign 0 false Nought 0) (limits.assign some (nought_in n) small_nought) (after s (still h)))
      (λ v j a.
      on_flag ws _ j (λ k q h fine. opens (Assign v false Nought 0) (limits.assign a.good (nought_in n) small_nought) (after s (after a.spells (still h))))
      (λ add m b.
      stops_then _ _ (addend_is ws n m) (addend_stops ws n some m)
      (λ k q o fine. opens (Assign v add o.tree 0) (limits.assign a.good o.good small_nought) (after s (after a.spells (after b (within (0 ∷ []) o.starts)))))
      (λ x o c.
      on_most ws _ ranges.top 3 o (λ k q h fine. opens (Assign v add x 0) (limits.assign a.good c.good small_nought) (after s (after a.spells (after b (after c.spells (still h))))))
      (λ _ _ _. stops_read))))

  decrement_stops : (deep : ℕ) {loops at i : ℕ} → Spells ws at (letter 3) i → Stops (OpensStatement (suc deep) loops at) (reader.decrement ws n i)
  unfolding reader.decrement code.statement
  decrement_stops deep {loops} {at} {i} s =
      on_variable ws _ n i (λ k q h fine. opens (Decrement 0 0) (limits.decrement some small_nought) (after s (still h)))
      (λ v j a.
      on_most ws _ ranges.top 3 j (λ k q h fine. opens (Decrement v 0) (limits.decrement a.good small_nought) (after s (after a.spells (still h))))
      (λ _ _ _. stops_read))

  module _ (deep loops : ℕ) (h : (at : ℕ) → Stops (OpensStatement deep loops at) (reader.statement ws n deep loops at)) where
    list_stops : (k at : ℕ) → Stops (λ j q. Fine j q → FilledStatements ws n (deeper extra deep) loops k at q) (many done ◌then◌ (reader.statement ws n deep loops) k at)
    unfolding many code.statement
    list_stops zero at = stops_read
    list_stops (suc k) at =
        stops_then _ _ (statement_is ws n deep loops at) (h at)
        (λ j q o fine.
        let c = o fine in
        record {
          tree = statements_of (suc k) c.tree;
          size = statements_of_count (suc k) c.tree;
          good = statements_of_in (suc k) c.good;
          starts = within (code.list (statements_of k c.tree)) c.starts;
        })
        (λ c i a.
        stops_then _ _ (list_is ws n deep loops (reader.statement ws n deep loops) (statement_is ws n deep loops) k i) (list_stops k i)
        (λ j q o fine.
        let f = o fine in
        record {
          tree = c then f.tree;
          size = ap suc f.size;
          good = limits.and_statement (deeper_statement n extra a.good) f.good;
          starts = after a.spells f.starts;
        })
        (λ _ _ _. stops_read))

    block_stops : (at : ℕ) → Stops (λ k q. Fine k q → Opens ws code.program (StatementsIn n (deeper extra deep) loops) at q) (reader.block ws (reader.statement ws n deep loops) at)
    unfolding reader.block code.statement
    block_stops at =
        on_word ws _ at (λ h fine. opens done limits.no_statement (still h))
        (λ k i s.
        stops_so _ (list_stops k i)
        (λ j q o fine.
        let f = o fine in
        opens f.tree f.good (after (kind_is (sym f.size) s) f.starts)))

    abbrev block_reads : (at : ℕ) → All (Codes ws code.program (StatementsIn n deep loops) at) (reader.block ws (reader.statement ws n deep loops) at)
    block_reads = block_is ws n deep loops (reader.statement ws n deep loops) (statement_is ws n deep loops)

    branch_stops : {at i : ℕ} → Spells ws at (letter 4) i → Stops (OpensStatement (suc deep) loops at) (reader.branch ws n (reader.statement ws n deep loops) (suc deep) i)
    unfolding reader.branch code.statement
    branch_stops {at} {i} s =
        stops_then _ _ (event_is ws n (suc deep) i) (event_stops (suc deep) i)
        (λ k q o fine.
        let e = o fine in
        opens (IfThenElse e.tree done done) (limits.branch e.good limits.no_statement limits.no_statement)
        (after s (within (code.program done ++ code.program done) e.starts)))
        (λ e j a.
        stops_then _ _ (block_reads j) (block_stops j)
        (λ k q o fine.
        let t = o fine in
        opens (IfThenElse e t.tree done) (limits.branch (deeper_event n extra a.good) t.good limits.no_statement)
        (after s (after a.spells (within (code.program done) t.starts))))
        (λ t m b.
        stops_then _ _ (block_reads m) (block_stops m)
        (λ k q o fine.
        let f = o fine in
        opens (IfThenElse e t f.tree) (limits.branch (deeper_event n extra a.good) (deeper_statements n extra b.good) f.good)
        (after s (after a.spells (after b.spells f.starts))))
        (λ _ _ _. stops_read)))

    while_stops : {at i : ℕ} → Spells ws at (letter 5) i → Stops (OpensStatement (suc deep) (suc loops) at) (reader.while ws n (reader.statement ws n deep loops) (suc deep) i)
    unfolding reader.while code.statement code.event
    while_stops {at} {i} s =
        stops_then _ _ (unroll_is ws n i) (unroll_stops ws n some i)
        (λ k q u fine.
        opens (While u.tree (Intersection none) done) (limits.while u.good (limits.intersection limits.no_event) limits.no_statement)
        (after s (within (code.event (Intersection none) ++ code.program done) u.starts)))
        (λ u j a.
        stops_then _ _ (event_is ws n (suc deep) j) (event_stops (suc deep) j)
        (λ k q o fine.
        let e = o fine in
        opens (While u e.tree done) (limits.while a.good e.good limits.no_statement)
        (after s (after a.spells (within (code.program done) e.starts))))
        (λ e m b.
        stops_then _ _ (block_reads m) (block_stops m)
        (λ k q o fine.
        let t = o fine in
        opens (While u e t.tree) (limits.while a.good (deeper_event n extra b.good) t.good)
        (after s (after a.spells (after b.spells t.starts))))
        (λ _ _ _. stops_read)))

    normalize_stops : {at i : ℕ} → Spells ws at (letter 7) i → Stops (OpensStatement (suc deep) loops at) (reader.normalize ws n (reader.statement ws n deep loops) i)
    unfolding reader.normalize code.statement
    normalize_stops {at} {i} s =
        stops_then _ _ (given_is ws n i) (given_stops ws n some i)
        (λ k q o fine.
        opens (Normalize o.tree done) (limits.normalize o.good.0 o.good.1 limits.no_statement)
        (after s (within (code.program done) o.starts)))
        (λ vs j a.
        stops_then _ _ (block_reads j) (block_stops j)
        (λ k q o fine.
        let b = o fine in
        opens (Normalize vs b.tree) (limits.normalize a.good.0 a.good.1 b.good) (after s (after a.spells b.starts)))
        (λ _ _ _. stops_read))

  statement_stops : (deep loops at : ℕ) → Stops (OpensStatement deep loops at) (reader.statement ws n deep loops at)
  unfolding reader.statement code.statement Kinds
  statement_stops zero loops at =
      on_word ws _ at (λ h fine. opens Fail (least_statement extra (spare_end fine)) (still h))
      (λ kind i s. stops_bad (λ fine. opens Fail (least_statement extra (spare_deep at fine)) (still nothing)))
  statement_stops (suc deep) loops at =
      on_word ws _ at (λ h fine. opens Fail limits.fail (still h))
      (λ kind i s.
      each_kind (Stops (OpensStatement (suc deep) loops at)) kind _ _ i (
        (λ e. sample_stops deep (kind_is e s)),
        (
          (λ e. assign_stops deep (kind_is e s)),
          (
            (λ e. decrement_stops deep (kind_is e s)),
            (
              (λ e. branch_stops deep loops (statement_stops deep loops) (kind_is e s)),
              (
                (λ e.
                    stops_if (eqb loops 0) _ _ (λ _. stops_bad (λ fine. opens Fail limits.fail (still nothing)))
                    (λ z.
                    let ne = eqb-false loops 0 z in
                    let j : suc (loops - 1) ≡ loops = omega arith in
                    stops_so _ (while_stops deep (loops - 1) (statement_stops deep (loops - 1)) (kind_is e s))
                    (λ k q o fine.
                    let c = o fine in
                    opens c.tree (rw j at c.good) c.starts))),
                (
                  (λ e. stops_read),
                  (
                    (λ e. normalize_stops deep loops (statement_stops deep loops) (kind_is e s)),
                    tt,
                  ),
                ),
              ),
            ),
          ),
        ),
      )
      (stops_bad (λ fine. opens Fail limits.fail (still nothing))))

  program_stops : Stops (λ k q. Fine k q → Opens ws code.program (StatementsIn n (deeper extra 16) 3) 0 q) (reader.program ws n)
  unfolding reader.program
  program_stops =
      stops_then _ _ (block_reads 16 3 (statement_stops 16 3) 0) (block_stops 16 3 (statement_stops 16 3) 0)
      (λ _ _ x. x)
      (λ p j a.
      stops_if (eqb j (length ws)) _ _ (λ _. stops_read)
      (λ _. stops_bad (λ fine. opens p (deeper_statements n extra a.good) (record { before = code.program p; rest = []; spells = a.spells; is = sym (append-nil (code.program p)) }))))

-- the words before `at` are what is spelled up to there
before_is : (ws l : List ℕ) (at : ℕ) → Spells ws 0 l at → take at ws ≡ l
before_is ws l at s = go (leb at (length ws)) refl
  where
    go : (b : Bool) → leb at (length ws) ≡ b → take at ws ≡ l
    go true e =
        let h : at ≤ length ws = leb-true _ _ e in
        let n = simp (length-append, length-drop) at (ap length s.is) in
        let z : length l ≡ at = omega arith in
        ap (take at) s.is ∙ take_at l (drop at ws) at z
    go false e =
        let h : length ws < at = leb-false _ _ e in
        let d : drop at ws ≡ [] = drop_of_length-le ws {i = at} (omega arith) in
        take_all at ws (omega arith) ∙ s.is ∙ rw d (append-nil l)

-- a program that nests `deep` deep at most begins with the words before `at`
pub record Begun (n deep : ℕ) (ws : List ℕ) (at : ℕ) : Type 0 where
  pub tree : Statements
  pub within : StatementsIn n deep 3 tree
  pub rest : List ℕ
  pub is : code.program tree ≡ take at ws ++ rest
  pub inside : at ≤ length ws

begun : {n deep : ℕ} (ws : List ℕ) (at : ℕ) → Opens ws code.program (StatementsIn n deep 3) 0 at → Begun n deep ws at
begun ws at o =
    let t = o.starts in
    record { tree = o.tree; within = o.good; rest = t.rest; is = rw (before_is ws t.before at t.spells) t.is; inside = t.spells.inside (omega arith) }

module _ (ws : List ℕ) (n : ℕ) (some : 0 < n) {k at : ℕ} (r : reader.program ws n ≡ Bad k at) where
  -- with a level more than is allowed
  pub begun_deeper : Begun n 17 ws at
  unfolding StopsBy
  begun_deeper =
      let s = program_stops ws n some 1 (λ _ _. Unit {0}) (λ _. omega arith) (λ _ _. omega arith) in
      begun ws at ((rw r at s).holds tt)

  -- with none, unless a limit is passed or the words are short
  pub begun_within : (k ≡ 4 → ⊥) → at < length ws → Begun n 16 ws at
  unfolding StopsBy
  begun_within not_limit inside =
      let s = program_stops ws n some 0 (λ j q. (j ≡ 4 → ⊥) × (q < length ws)) (λ f. absurd (omega (arith, f.1))) (λ q f. absurd (f.0 refl)) in
      begun ws at ((rw r at s).holds (not_limit, inside))
