-- How the rules end: in a state of n variables, each range with its start at most at its end, or refused by 8, 9 or 10 at one of their words.
use Rattle.std.specs.Prelude.{Option, Some, None}
use mathlib.Core.Path.{◌≡◌, refl, ap, subst}
use mathlib.Core.Bool.{Bool, true, false, cond}
use mathlib.Core.List.{List, [], ◌∷◌}
use Prim.Native.Nat.{ℕ, zero, suc, ◌+◌, ◌-◌, ◌/◌, ◌≤◌, ◌<◌}
use native.Mathlib.Omega.{arith}
use lib.Dec.{ltb, eqb}
use lib.ListN.{length}
use borrow.Author.Tests.{ltb-true, ltb-false, le-ltb}
use Rattle.ranges.specs.declared.Range.{Range}
use Rattle.ranges.specs.declared.Range.TheVariants.{Empty, Span}
use Rattle.ranges.specs.Ranges as ranges
use Rattle.ranges.proofs.Laws as laws
use Rattle.states.specs.declared.State.{State}
use Rattle.states.specs.Answers.{Answer, Gives, Refuses, and_then}
use Rattle.states.specs.States as states
use Rattle.states.proofs.Fits.{fit_empty, fit_put, fit_join, fit_widen}
use Rattle.states.proofs.Proper.{empty_proper, put_proper, join_proper, widen_proper}
use Rattle.states.specs.declared.Cell.{Cell}
use Rattle.states.specs.Starts as starts
use Rattle.states.proofs.Sure.{Sure, sure_of}
use Rattle.states.proofs.Starts.{Begun, Said, too_many, lowest, one_empty, as_given, started_says, started_begun}
use Rattle.paper.specs.Tree.{Draw, Dirac, Bernoulli, BernoulliVarProb, BinomialVarTrials, Binomial, Categorical, NegBinomialVarSuccesses, NegBinomial, Geometric, Poisson, PoissonVarRate, Uniform}
use Rattle.paper.specs.Tree.{Event, InSet, VarComparison, DataFromDist, Complement, Intersection, Events, none, ◌also◌}
use Rattle.paper.specs.Tree.{Addend, Nought, Times, Unroll}
use Rattle.paper.specs.Tree.{Statement, Sample, Assign, Decrement, IfThenElse, While, Fail, Normalize, Statements, done, ◌then◌}
use Rattle.paper.specs.Code as code
use Rattle.paper.specs.Reader as reader
use Rattle.paper.specs.Reader.{Reading, Read}
use Rattle.paper.specs.Rules as rules
use Rattle.paper.specs.Rules.{Setting, Sides, Pass, Found, Settling, Settled, Looped}
use Rattle.paper.specs.Answers as answers
use Rattle.paper.specs.Places.{Placed, limit, short, variable, word}
use Rattle.paper.proofs.Reading.{read_is_code}
use Rattle.paper.proofs.Within.{below}
use Rattle.paper.proofs.Places.{events_length, if_length, while_length, normalize_length, list_length, Among, among}
use Rattle.paper.proofs.Numbers.{Numbered, read, ended, bad, program_numbered, unless_numbered}
use Rattle.paper.proofs.Below.{AddendBelow, EventBelow, EventsBelow, EachBelow, StatementBelow, StatementsBelow}

-- what an answer gives has a fact, and so have the number and the place of its refusal
pub data Ends {A : Type 0} (R : ℕ → ℕ → Type 0) (P : A → Type 0) : Answer A → Type 0 where
  gives : {a : A} → P a → Ends R P (Gives a)
  refuses : (number place : ℕ) → R number place → Ends R P (Refuses number place)

-- the same, by what the answer is
abbrev EndsBy : {A : Type 0} → (ℕ → ℕ → Type 0) → (A → Type 0) → Answer A → Type 0
EndsBy R P (Gives a) = P a
EndsBy R P (Refuses number place) = R number place

ends_by : {A : Type 0} {R : ℕ → ℕ → Type 0} {P : A → Type 0} (a : Answer A) → EndsBy R P a → Ends R P a
ends_by (Gives a) p = gives p
ends_by (Refuses k at) r = refuses k at r

module _ {R : ℕ → ℕ → Type 0} where
  pub ends_then : {A B : Type 0} {P : A → Type 0} {Q : B → Type 0} {a : Answer A} {f : A → Answer B} → Ends R P a → ((x : A) → P x → Ends R Q (f x)) → Ends R Q (and_then a f)
  ends_then (gives {a = x} p) h = h x p
  ends_then (refuses k at r) h = refuses k at r

  pub ends_if : {A : Type 0} {P : A → Type 0} (b : Bool) {x y : Answer A} → Ends R P x → Ends R P y → Ends R P (cond b x y)
  ends_if true h k = h
  ends_if false h k = k

  pub ends_elim : {A : Type 0} {P : A → Type 0} (b : Bool) {x y : Answer A} → Ends R P x → Ends R P y → Ends R P (elim b [ true ↦ x | false ↦ y ])
  ends_elim true h k = h
  ends_elim false h k = k

  -- the refusal of an answer that is one
  pub ends_refused : {A : Type 0} {P : A → Type 0} {a : Answer A} {number place : ℕ} → Ends R P a → a ≡ Refuses number place → R number place
  ends_refused {P = P} h e = of (subst (Ends R P) e h)
    where
      of : {number place : ℕ} → Ends R P (Refuses number place) → R number place
      of (refuses k at r) = r

-- the same of more refusals
pub ends_also : {A : Type 0} {P : A → Type 0} {R S : ℕ → ℕ → Type 0} {a : Answer A} → ((number place : ℕ) → R number place → S number place) → Ends R P a → Ends S P a
ends_also h (gives p) = gives p
ends_also h (refuses k at r) = refuses k at (h k at r)

-- the same of more words
ends_among : {A : Type 0} {P : A → Type 0} {first end from to : ℕ} {a : Answer A} → from ≤ first → end ≤ to → Ends (Among first end) P a → Ends (Among from to) P a
ends_among l m h = ends_also (λ k at r. record { low = r.low; high = r.high; from = omega (arith, r.from); before = omega (arith, r.before) }) h

-- ---- ranges

point_proper : (x : ℕ) → laws.Proper (ranges.point x)
point_proper x = le-ltb x x (omega arith)

below_proper : (a b : ℕ) → laws.Proper (rules.below a b)
below_proper a b = go (ltb a b) refl
  where
    go : (c : Bool) → ltb a b ≡ c → laws.Proper (cond c (Span a (Some (b - 1))) Empty)
    go true q = le-ltb (b - 1) a (omega (arith, ltb-true a b q))
    go false q = refl

drawn_proper : (d : Draw) → laws.Proper (rules.drawn d)
drawn_proper (Dirac p q) = point_proper (p / q)
drawn_proper Bernoulli = refl
drawn_proper (BernoulliVarProb v) = refl
drawn_proper (BinomialVarTrials v) = refl
drawn_proper (Binomial n) = le-ltb n 0 (omega arith)
drawn_proper (Categorical k) = below_proper 0 k
drawn_proper (NegBinomialVarSuccesses v) = refl
drawn_proper (NegBinomial n) = refl
drawn_proper Geometric = refl
drawn_proper Poisson = refl
drawn_proper (PoissonVarRate v) = refl
drawn_proper (Uniform a b) = below_proper a b

-- the states of an event's sides, of a pass and of a loop are such states
pub record Parted (n : ℕ) (u : Sides) : Type 0 where
  pub yes : Begun n u.yes
  pub no : Begun n u.no

pub record Passed (n : ℕ) (p : Pass) : Type 0 where
  pub next : Begun n p.next
  pub exit : Begun n p.exit

pub record Gone (n : ℕ) (l : Looped) : Type 0 where
  pub exits : Begun n l.exits
  pub turned : Begun n l.turned
  pub settled : Begun n l.settled

-- ---- states: of n variables, each start at most its end, as a starting state is

module _ (n : ℕ) (small : n ≤ 64) where
  empty_begun : Begun n states.empty
  empty_begun = record { fit = fit_empty n; proper = empty_proper n }

  put_begun : (s : State) (v : ℕ) (r : Range) → v < n → Begun n s → laws.Proper r → Begun n (states.put s v r)
  put_begun s v r lt b q = record { fit = fit_put n small s v r lt b.fit; proper = put_proper n small s v r lt b.fit b.proper q }

  join_begun : (s t : State) → Begun n s → Begun n t → Begun n (states.join n s t)
  join_begun s t b c = record { fit = fit_join n small s t b.fit c.fit; proper = join_proper n small s t b.fit c.fit b.proper c.proper }

  widen_begun : (s t : State) → Begun n s → Begun n t → Begun n (states.widen n s t)
  widen_begun s t b c = record { fit = fit_widen n small s t b.fit c.fit; proper = widen_proper n small s t b.fit c.fit b.proper c.proper }

  -- ---- loops

  module _ {R : ℕ → ℕ → Type 0} (pass : State → Answer Pass) (exit : State → Answer State) (pass_ends : (s : State) → Begun n s → Ends R (Passed n) (pass s)) (exit_ends : (s : State) → Begun n s → Ends R (Begun n) (exit s)) where
    search_ends : (k i : ℕ) (s : State) → Begun n s → Ends R (λ (f : Found). Unit {0}) (rules.search n pass exit k i s)
    unfolding rules.search
    search_ends zero i s b = gives tt
    search_ends (suc k) i s b = ends_then (pass_ends s b) (λ p P. ends_elim (states.same n s p.next) (gives tt) (search_ends k (i + 1) p.next P.next))

    unrolled_ends : (k : ℕ) (t : Pass) → Passed n t → Ends R (Passed n) (rules.unrolled n pass exit k t)
    unfolding rules.unrolled
    unrolled_ends zero t T = gives T
    unrolled_ends (suc k) t T = ends_then (pass_ends t.next T.next) (λ p P. unrolled_ends k _ (record { next = P.next; exit = join_begun t.exit p.exit T.exit P.exit }))

    growing_ends : (grow : State → State → State) → ((s t : State) → Begun n s → Begun n t → Begun n (grow s t)) → (k i : ℕ) (s : State) → Begun n s → Ends R (λ (j : Settling). Begun n j.at) (rules.growing n pass exit grow k i s)
    unfolding rules.growing
    growing_ends grow keeps zero i s b = gives b
    growing_ends grow keeps (suc k) i s b = ends_then (pass_ends s b) (λ p P. ends_elim (states.within n p.next s) (gives b) (growing_ends grow keeps k (i + 1) (grow s p.next) (keeps s p.next b P.next)))

    settle_ends : (s : State) → Begun n s → Ends R (λ (m : Settled). Begun n m.at) (rules.settle n pass exit s)
    unfolding rules.settle
    settle_ends s b =
        ends_then (growing_ends (states.join n) join_begun 100 0 s b) (λ j J.
        ends_elim j.settled (gives J) (ends_then (growing_ends (states.widen n) widen_begun (n + n + 1) 0 j.at J) (λ w W. gives W)))

    loop_ends : (u : ℕ) (s : State) → Begun n s → Ends R (Gone n) (rules.loop n pass exit u s)
    unfolding rules.loop
    loop_ends u s b =
        ends_then (search_ends 100 0 s b) (λ f _.
        ends_then (unrolled_ends (rules.unroll_passes u f) (record { next = s; exit = states.empty }) (record { next = b; exit = empty_begun })) (λ t T.
        ends_then (settle_ends t.next T.next) (λ m M.
        ends_then (exit_ends m.at M) (λ x X.
        gives (record { exits = join_begun t.exit x T.exit X; turned = T.next; settled = M })))))

  -- ---- normalize

  module _ {first end : ℕ} (body : State → Answer State) (body_ends : (s : State) → Begun n s → Ends (Among first end) (Begun n) (body s)) where
    enumerated_ends : (rest : State → Answer State) → ((s : State) → Begun n s → Ends (Among first end) (Begun n) (rest s)) → (v : ℕ) (s : State) → v < n → Begun n s → (k x : ℕ) (joined : State) → Begun n joined →
        Ends (Among first end) (Begun n) (rules.enumerated n body rest v s k x joined)
    unfolding rules.enumerated
    enumerated_ends rest h v s lt b zero x joined j = gives j
    enumerated_ends rest h v s lt b (suc k) x joined j =
        ends_then (h (states.put s v (ranges.point x)) (put_begun s v (ranges.point x) lt b (point_proper x))) (λ t T. enumerated_ends rest h v s lt b k (x + 1) (states.join n joined t) (join_begun joined t j T))

    -- 9 or 10 at the given variable's word
    values_ends : (rest : State → Answer State) → ((s : State) → Begun n s → Ends (Among first end) (Begun n) (rest s)) → (at : ℕ) → first ≤ at → at < end → (v : ℕ) (s : State) → v < n → Begun n s → (r : Range) →
        Ends (Among first end) (Begun n) (rules.values n body rest at v s r)
    values_ends rest h at from before v s lt b Empty = ends_by _ (among (omega arith) (omega arith) (omega arith) (omega arith))
    values_ends rest h at from before v s lt b (Span start None) = ends_by _ (among (omega arith) (omega arith) (omega arith) (omega arith))
    values_ends rest h at from before v s lt b (Span start (Some end)) = ends_elim (ltb 4096 (end - start + 1)) (ends_by _ (among (omega arith) (omega arith) (omega arith) (omega arith))) (enumerated_ends rest h v s lt b (end - start + 1) start states.empty empty_begun)

    normalized_ends : (vs : List ℕ) (at : ℕ) (s : State) → first ≤ at → at + length vs ≤ end → EachBelow n vs → Begun n s → Ends (Among first end) (Begun n) (rules.normalized n body at vs s)
    unfolding rules.normalized
    normalized_ends [] at s from before lt b = body_ends s b
    normalized_ends (v ∷ vs) at s from before lt b =
        ends_elim (states.is_live s) (values_ends (rules.normalized n body (at + 1) vs) (λ t. normalized_ends vs (at + 1) t (omega arith) (omega arith) lt.1) at from (omega arith) v s lt.0 b (states.get s v))
        (ends_by _ (among (omega arith) (omega arith) (omega arith) (omega arith)))

-- ---- events and statements

module _ (g : Setting) (small : g.n ≤ 64) where
  cut_ends : (at : ℕ) {end : ℕ} → at < end → (s : State) (v : ℕ) (xs : List ℕ) (q : Option Range) → v < g.n → Begun g.n s → laws.ProperBounded q → Ends (Among at end) (Parted g.n) (rules.cut at s v xs q)
  cut_ends at inside s v xs (Some r) lt b p = gives (record {
    yes = put_begun g.n small s v (ranges.retain (states.get s v) xs) lt b (laws.retain_proper (states.get s v) xs);
    no = put_begun g.n small s v r lt b p;
  })
  cut_ends at inside s v xs None lt b p = ends_if (states.is_live s) (ends_by _ (among (omega arith) (omega arith) (omega arith) (omega arith))) (gives (record { yes = b; no = b }))

  mutual
    unfolding rules.event rules.events code.event

    pub event_ends : (e : Event) (at : ℕ) (s : State) → EventBelow g.n e → Begun g.n s → Ends (Among at (at + length (code.event e))) (Parted g.n) (rules.event g at e s)
    event_ends (InSet v xs) at s lt b = cut_ends at (omega arith) s v xs (ranges.remove (states.get s v) xs) lt b (laws.remove_proper (states.get s v) xs)
    event_ends (VarComparison v w) at s lt b = gives (record { yes = b; no = b })
    event_ends (DataFromDist x d) at s lt b = gives (record { yes = b; no = b })
    event_ends (Complement e) at s lt b = ends_then (ends_among (omega arith) (omega arith) (event_ends e (at + 1) s lt b)) (λ u U. gives (record { yes = U.no; no = U.yes }))
    event_ends (Intersection es) at s lt b =
        ends_among (omega arith) (omega arith) (events_ends es (at + 2) (record { yes = s; no = states.empty }) lt (record { yes = b; no = empty_begun g.n small }))

    events_ends : (es : Events) (at : ℕ) (t : Sides) → EventsBelow g.n es → Parted g.n t → Ends (Among at (at + length (code.events es))) (Parted g.n) (rules.events g at es t)
    events_ends none at t lt T = gives T
    events_ends (e also es) at t lt T =
        let long = events_length e es in
        ends_then (ends_among (omega arith) (omega arith) (event_ends e at t.yes lt.0 T.yes)) (λ u U.
        ends_among (omega arith) (omega arith) (events_ends es (at + length (code.event e)) (record { yes = u.yes; no = states.join g.n t.no u.no }) lt.1
        (record { yes = U.yes; no = join_begun g.n small t.no u.no T.no U.no })))

  old_proper : (s : State) (v : ℕ) (add : Bool) → v < g.n → Begun g.n s → laws.Proper (rules.old s v add)
  old_proper s v true lt b = b.proper v lt
  old_proper s v false lt b = refl

  scaled_proper : (s : State) (x : Addend) → AddendBelow g.n x → Begun g.n s → laws.ProperBounded (rules.scaled s x)
  scaled_proper s Nought lt b = refl
  scaled_proper s (Times f w) lt b = laws.times_proper (states.get s w) f (b.proper w lt)

  assigned_ends : (at : ℕ) {end : ℕ} → at < end → (s : State) (v : ℕ) (add : Bool) (k : ℕ) (q : Option Range) → v < g.n → Begun g.n s → laws.ProperBounded q → Ends (Among at end) (Begun g.n) (rules.assigned at s v add k q)
  assigned_ends at inside s v add k (Some r) lt b p =
      gives (put_begun g.n small s v (ranges.sum (ranges.sum (rules.old s v add) r) (ranges.point k)) lt b
      (laws.sum_proper (ranges.sum (rules.old s v add) r) (ranges.point k) (laws.sum_proper (rules.old s v add) r (old_proper s v add lt b) p) (point_proper k)))
  assigned_ends at inside s v add k None lt b p = ends_if (states.is_live s) (ends_by _ (among (omega arith) (omega arith) (omega arith) (omega arith))) (gives b)

  -- a loop, by its event and its body
  module _ {R : ℕ → ℕ → Type 0} (event : State → Answer Sides) (body : State → Answer State) (event_fine : (s : State) → Begun g.n s → Ends R (Parted g.n) (event s)) (body_fine : (s : State) → Begun g.n s → Ends R (Begun g.n) (body s)) where
    pub looping_ends : (u : ℕ) (s : State) → Begun g.n s → Ends R (Gone g.n) (rules.looping g.n event body u s)
    looping_ends u s b = loop_ends g.n small (rules.pass_of event body) (rules.exit_of event)
        (λ h k. ends_then (event_fine h k) (λ t T. ends_then (body_fine t.yes T.yes) (λ x X. gives (record { next = X; exit = T.no }))))
        (λ h k. ends_then (event_fine h k) (λ t T. gives T.no)) u s b

  -- the loop whose kind word is at a place, by its body's list
  pub loop_from : (m : Unroll) (e : Event) (b : Statements) (at : ℕ) → EventBelow g.n e →
      ((s : State) → Begun g.n s → Ends (Among (code.body_at at e + 1) (code.body_at at e + 1 + length (code.list b))) (Begun g.n) (rules.list g (code.body_at at e + 1) b s)) → (s : State) → Begun g.n s →
      Ends (Among at (at + length (code.statement (While m e b)))) (Gone g.n) (rules.looping g.n (λ h. rules.event g (at + 3) e h) (λ h. rules.list g (code.body_at at e + 1) b h) (rules.turns g m) s)
  loop_from m e b at lt body s h =
      let long = while_length m e b in
      looping_ends (λ h. rules.event g (at + 3) e h) (λ h. rules.list g (code.body_at at e + 1) b h)
      (λ s k. ends_among (omega arith) (omega arith) (event_ends e (at + 3) s lt k)) (λ s k. ends_among (omega arith) (omega arith) (body s k)) (rules.turns g m) s h

  mutual
    unfolding rules.statement rules.list code.statement

    statement_ends : (c : Statement) (at : ℕ) (s : State) → StatementBelow g.n c → Begun g.n s → Ends (Among at (at + length (code.statement c))) (Begun g.n) (rules.statement g at c s)
    statement_ends (Sample v add d) at s lt b = gives (put_begun g.n small s v (ranges.sum (rules.old s v add) (rules.drawn d)) lt.0 b (laws.sum_proper (rules.old s v add) (rules.drawn d) (old_proper s v add lt.0 b) (drawn_proper d)))
    statement_ends (Assign v add x k) at s lt b = assigned_ends at (omega arith) s v add k (rules.scaled s x) lt.0 b (scaled_proper s x lt.1 b)
    statement_ends (Decrement v k) at s lt b = gives (put_begun g.n small s v (ranges.less (states.get s v) k) lt b (laws.less_proper (states.get s v) k (b.proper v lt)))
    statement_ends (IfThenElse e t o) at s lt b =
        let long = if_length e t o in
        ends_then (ends_among (omega arith) (omega arith) (event_ends e (at + 1) s lt.0 b)) (λ u U.
        ends_then (ends_among (omega arith) (omega arith) (list_ends t (code.then_at at e + 1) u.yes lt.1 U.yes)) (λ x X.
        ends_then (ends_among (omega arith) (omega arith) (list_ends o (code.else_at at e t + 1) u.no lt.2 U.no)) (λ y Y.
        gives (join_begun g.n small x y X Y))))
    statement_ends (While m e b) at s lt h =
        ends_then (loop_from m e b at lt.0 (λ s k. list_ends b (code.body_at at e + 1) s lt.1 k) s h) (λ l L. gives L.exits)
    statement_ends Fail at s lt b = gives (empty_begun g.n small)
    statement_ends (Normalize vs b) at s lt h =
        let long = normalize_length vs b in
        normalized_ends g.n small (λ h. rules.list g (code.normalized_at at vs + 1) b h) (λ s k. ends_among (omega arith) (omega arith) (list_ends b (code.normalized_at at vs + 1) s lt.1 k)) vs (at + 2) s (omega arith) (omega arith) lt.0 h

    pub list_ends : (p : Statements) (at : ℕ) (s : State) → StatementsBelow g.n p → Begun g.n s → Ends (Among at (at + length (code.list p))) (Begun g.n) (rules.list g at p s)
    list_ends done at s lt b = gives b
    list_ends (c then cs) at s lt b =
        let long = list_length c cs in
        ends_then (ends_among (omega arith) (omega arith) (statement_ends c at s lt.0 b)) (λ t T.
        ends_among (omega arith) (omega arith) (list_ends cs (at + length (code.statement c)) t lt.1 T))

-- ---- the answers

-- the starting state: 4 at 0, or 7 at a variable
started_ends : (n : ℕ) (cs : List Cell) → length cs ≡ 64 → (size : ℕ) → Ends (Placed size n) (Begun n) (starts.started n cs)
started_ends n cs long size = go (starts.started n cs) (started_says n cs long) (started_begun n cs long)
  where
    go : (a : Answer State) → Said n cs a → Sure (Begun n) a → Ends (Placed size n) (Begun n) a
    go a (too_many h) s = refuses 4 0 limit
    go a (lowest v small h q low) s = refuses 7 v (variable v h)
    go a (one_empty v small proper h e) s = gives (sure_of s refl)
    go a (as_given small proper filled) s = gives (sure_of s refl)

-- what is admitted, with the limit on n
record Started (n : ℕ) (s : State) : Type 0 where
  small : n ≤ 64
  begun : Begun n s

admitted_ends : (ws : List ℕ) (n u : ℕ) (cs : List Cell) → length cs ≡ 64 → Ends (Placed (length ws) n) (Started n) (answers.admitted ws n u cs)
admitted_ends ws n u cs long = ends_elim (ltb 8192 (length ws)) (refuses 4 0 limit) (wide (ltb 64 n) refl)
  where
    begun : n ≤ 64 → {a : Answer State} → Ends (Placed (length ws) n) (Begun n) a → Ends (Placed (length ws) n) (Started n) a
    begun small (gives b) = gives (record { small = small; begun = b })
    begun small (refuses k at r) = refuses k at r

    wide : (b : Bool) → ltb 64 n ≡ b → Ends (Placed (length ws) n) (Started n) (elim b [ true ↦ Refuses 4 0 | false ↦ elim (ltb 10000 u) [ true ↦ Refuses 4 0 | false ↦ starts.started n cs ] ])
    wide true q = refuses 4 0 limit
    wide false q = ends_elim (ltb 10000 u) (refuses 4 0 limit) (begun (ltb-false 64 n q) (started_ends n cs long (length ws)))

-- what is read: 3 to 6 at a word, or 3 at the end
read_ends : {A B : Type 0} {P : B → Type 0} {size n : ℕ} (r : Reading A) {f : A → Answer B} → Numbered size r → ((x : A) (i : ℕ) → r ≡ Read x i → Ends (Placed size n) P (f x)) → Ends (Placed size n) P (answers.as_answer r f)
read_ends r (read {a = x} {i = i} l) h = h x i refl
read_ends r ended h = refuses 3 _ short
read_ends r (bad k {at} l m inside) h = refuses k at (word k at (omega arith) (omega arith) (λ e. omega arith) inside)

-- by the rules: 8 to 10 at a word
ruled : {size n first end : ℕ} {A : Type 0} {P : A → Type 0} {a : Answer A} → end ≤ size → Ends (Among first end) P a → Ends (Placed size n) P a
ruled l h = ends_also (λ k at r. word k at (omega (arith, r.low)) r.high (λ e. omega (arith, r.low)) (omega (arith, r.before))) h

-- words that are read are as many as the code has
read_length : (ws : List ℕ) (n : ℕ) {p : Statements} {i : ℕ} → reader.program ws n ≡ Read p i → length ws ≡ suc (length (code.list p))
read_length ws n e = ap length (read_is_code ws n e).is

-- an answer is such a state, or is refused at such a place
pub analysed_ends : (ws : List ℕ) (n : ℕ) (cs : List Cell) (u : ℕ) → length cs ≡ 64 → Ends (Placed (length ws) n) (Begun n) (answers.analysed ws n cs u)
unfolding answers.analysed
analysed_ends ws n cs u long =
    ends_then (admitted_ends ws n u cs long) (λ s S.
    read_ends (reader.program ws n) (program_numbered ws n) (λ p i e.
    ruled (omega (arith, read_length ws n e)) (list_ends (record { n = n; unroll = u }) S.small p 1 s (below n (read_is_code ws n e).within) S.begun)))

begins_ends : (ws : List ℕ) (n : ℕ) → Ends (Placed (length ws) n) (λ _. Unit {0}) (answers.begins ws)
begins_ends ws n =
    read_ends (reader.unless ws (λ x. eqb x 1) 3 0) (unless_numbered ws (λ x. eqb x 1) 3 0 (omega arith) (omega arith)) (λ x i e.
    read_ends (reader.unless ws (λ x. eqb x 5) 3 1) (unless_numbered ws (λ x. eqb x 5) 3 1 (omega arith) (omega arith)) (λ y j f.
    gives tt))

only_ends : (g : Setting) (small : g.n ≤ 64) (p : Statements) (s : State) (size : ℕ) → size ≡ suc (length (code.list p)) → StatementsBelow g.n p → Begun g.n s → Ends (Placed size g.n) (Gone g.n) (answers.only_loop g p s)
unfolding code.statement
only_ends g small done s size long lt b = refuses 3 0 (word 3 0 (omega arith) (omega arith) (λ e. omega arith) (omega arith))
only_ends g small (c then cs) s size long lt b = of c (omega (arith, list_length c cs)) lt.0
  where
    -- 3 at the kind word of what is no loop
    other : 1 < size → Placed size g.n 3 1
    other h = word 3 1 (omega arith) (omega arith) (λ e. omega arith) h

    of : (c : Statement) → length (code.statement c) < size → StatementBelow g.n c → Ends (Placed size g.n) (Gone g.n) (answers.loop_of g c s)
    of (While u e body) long lt = ruled (omega arith) (loop_from g small u e body 1 lt.0 (λ s k. list_ends g small body (code.body_at 1 e + 1) s lt.1 k) s b)
    of (Sample v add d) long lt = refuses 3 1 (other (omega arith))
    of (Assign v add x k) long lt = refuses 3 1 (other (omega arith))
    of (Decrement v k) long lt = refuses 3 1 (other (omega arith))
    of (IfThenElse e t f) long lt = refuses 3 1 (other (omega arith))
    of Fail long lt = refuses 3 1 (other (omega arith))
    of (Normalize vs body) long lt = refuses 3 1 (other (omega arith))

-- and so are the three states of a loop's own entry
pub looped_ends : (ws : List ℕ) (n : ℕ) (cs : List Cell) (u : ℕ) → length cs ≡ 64 → Ends (Placed (length ws) n) (Gone n) (answers.looped ws n cs u)
unfolding answers.looped
looped_ends ws n cs u long =
    ends_then (admitted_ends ws n u cs long) (λ s S.
    ends_then (begins_ends ws n) (λ _ _.
    read_ends (reader.program ws n) (program_numbered ws n) (λ p i e.
    only_ends (record { n = n; unroll = u }) S.small p s (length ws) (read_length ws n e) (below n (read_is_code ws n e).within) S.begun)))

-- where a refusal lies
pub analysed_place : (ws : List ℕ) (n : ℕ) (cs : List Cell) (u : ℕ) → length cs ≡ 64 → {number place : ℕ} → answers.analysed ws n cs u ≡ Refuses number place → Placed (length ws) n number place
analysed_place ws n cs u long e = ends_refused (analysed_ends ws n cs u long) e

pub looped_place : (ws : List ℕ) (n : ℕ) (cs : List Cell) (u : ℕ) → length cs ≡ 64 → {number place : ℕ} → answers.looped ws n cs u ≡ Refuses number place → Placed (length ws) n number place
looped_place ws n cs u long e = ends_refused (looped_ends ws n cs u long) e
