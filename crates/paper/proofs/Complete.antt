-- The code of a tree within the limits is read as that tree.
use mathlib.Core.Path.{◌≡◌, refl, ap, sym, ◌∙◌}
use mathlib.Core.Bool.{Bool, true, false}
use mathlib.Core.List.{List, [], ◌∷◌, ◌++◌, append_assoc, append-nil}
use Prim.Native.Nat.{ℕ, suc, ◌+◌, ◌-◌, ◌<◌, ◌≤◌}
use native.Mathlib.Omega.{arith}
use native.Mathlib.Numerals.{add-one}
use lib.Dec.{ltb, leb}
use lib.ListN.{length, get_or, drop, length-drop}
use lib.Seq.{drop-cons}
use borrow.Author.Tests.{lt-ltb, le-leb, eq-eqb, ne_eqb}
use Rattle.ranges.specs.Ranges as ranges
use Rattle.paper.specs.Tree.{Draw, Dirac, Bernoulli, BernoulliVarProb, BinomialVarTrials, Binomial, Categorical, NegBinomialVarSuccesses, NegBinomial, Geometric, Poisson, PoissonVarRate, Uniform}
use Rattle.paper.specs.Tree.{Event, Events, none, ◌also◌}
use Rattle.paper.specs.Tree.{Addend, Nought, Times, Unroll, Default, Turns}
use Rattle.paper.specs.Tree.{Statement, Statements, done, ◌then◌}
use Rattle.paper.specs.Code as code
use Rattle.paper.specs.Reader as reader
use Rattle.paper.specs.Reader.{Reading, Read, Bad, and_read, if_read, by_kind, many, whole}
use Rattle.paper.specs.Limits as limits
use Rattle.paper.specs.Limits.{Small, Each, Whole, DrawIn, AddendIn, UnrollIn, EventIn, EventsIn, StatementIn, StatementsIn, ProgramIn}

-- l is what is left of the words at `at`
record There (ws : List ℕ) (at : ℕ) (l : List ℕ) : Type 0 where
  is : drop at ws ≡ l
  inside : at ≤ length ws

-- the reading gives a, and leaves l
record Gets {A : Type 0} (ws : List ℕ) (m : Reading A) (a : A) (l : List ℕ) : Type 0 where
  next : ℕ
  same : m ≡ Read a next
  there : There ws next l

module _ {A : Type 0} {ws : List ℕ} where
  gets : {a : A} {at : ℕ} {l : List ℕ} → There ws at l → Gets ws (Read a at) a l
  gets {a} {at} t = record { next = at; same = refl; there = t }

  gets_then : {B : Type 0} {m : Reading B} (f : B → ℕ → Reading A) {b : B} {a : A} {l r : List ℕ} → Gets ws m b l → ((i : ℕ) → There ws i l → Gets ws (f b i) a r) → Gets ws (and_read m f) a r
  unfolding and_read
  gets_then f g k = rw g.same (k g.next g.there)

module _ (ws : List ℕ) where
  gets_word : (at x : ℕ) (l : List ℕ) → There ws at (x ∷ l) → Gets ws (reader.word ws at) x l
  unfolding reader.word if_read
  gets_word at x l t =
      let n = simp length-drop at (ap length t.is) in
      let h : at < length ws = omega (arith, t.inside) in
      let d = sym (drop-cons ws at 0 h) ∙ t.is in
      let x' : get_or ws at 0 ≡ x = cc in
      let l' : drop (suc at) ws ≡ l = cc in
      record { next = at + 1; same = rw (lt-ltb _ _ h, x'); there = record { is = rw add-one l'; inside = omega arith } }

  gets_unless : (ok : ℕ → Bool) (k at x : ℕ) (l : List ℕ) → ok x ≡ true → There ws at (x ∷ l) → Gets ws (reader.unless ws ok k at) x l
  unfolding reader.unless if_read
  gets_unless ok k at x l e t = gets_then _ (gets_word at x l t) (λ i u. rw e (gets u))

  gets_most : (limit k : ℕ) {at x : ℕ} {l : List ℕ} → x ≤ limit → There ws at (x ∷ l) → Gets ws (reader.most ws limit k at) x l
  gets_most limit k {at} {x} {l} h t = gets_unless (λ y. leb y limit) k at x l (le-leb _ _ h) t

  gets_variable : (n : ℕ) {at x : ℕ} {l : List ℕ} → x < n → There ws at (x ∷ l) → Gets ws (reader.variable ws n at) x l
  gets_variable n {at} {x} {l} h t = gets_unless (λ y. ltb y n) 5 at x l (lt-ltb _ _ h) t

  gets_flag : (a : Bool) {at : ℕ} {l : List ℕ} → There ws at (code.flag a ∷ l) → Gets ws (reader.flag ws at) a l
  unfolding reader.flag
  gets_flag true t = gets_then _ (gets_most 1 3 (omega arith) t) (λ i u. gets u)
  gets_flag false t = gets_then _ (gets_most 1 3 (omega arith) t) (λ i u. gets u)

  gets_many : (Good : ℕ → Type 0) (one : ℕ → Reading ℕ) → ((at x : ℕ) (l : List ℕ) → Good x → There ws at (x ∷ l) → Gets ws (one at) x l) → (xs : List ℕ) {at : ℕ} {l : List ℕ} → Each Good xs → There ws at (xs ++ l) → Gets ws (many [] ◌∷◌ one (length xs) at) xs l
  unfolding many Each
  gets_many Good one h [] g t = gets t
  gets_many Good one h (x ∷ xs) g t = gets_then _ (h _ _ _ g.0 t) (λ i u. gets_then _ (gets_many Good one h xs g.1 u) (λ j v. gets v))

whole_is : {p q : ℕ} → Whole p q → whole p q ≡ true
whole_is w = rw (lt-ltb _ _ w.divides, eq-eqb _ _ w.exact, le-leb _ _ w.small)

module _ (ws : List ℕ) (n : ℕ) where
  draw : (d : Draw) {at : ℕ} {l : List ℕ} → DrawIn n d → There ws at (code.draw d ++ l) → Gets ws (reader.draw ws n at) d l
  unfolding reader.draw reader.ratio reader.interval by_kind DrawIn
  draw (Dirac p q) g t = gets_then _ (gets_word ws _ _ _ t) (λ i u. gets_then _ (gets_word ws _ _ _ u) (λ j v. gets_then _ (gets_unless ws (whole p) 6 _ _ _ (whole_is g) v) (λ h w. gets w)))
  draw Bernoulli g t = gets_then _ (gets_word ws _ _ _ t) (λ i u. gets u)
  draw (BernoulliVarProb v) g t = gets_then _ (gets_word ws _ _ _ t) (λ i u. gets_then _ (gets_variable ws n g u) (λ j w. gets w))
  draw (BinomialVarTrials v) g t = gets_then _ (gets_word ws _ _ _ t) (λ i u. gets_then _ (gets_variable ws n g u) (λ j w. gets w))
  draw (Binomial x) g t = gets_then _ (gets_word ws _ _ _ t) (λ i u. gets_then _ (gets_most ws ranges.top 3 g u) (λ j w. gets w))
  draw (Categorical x) g t = gets_then _ (gets_word ws _ _ _ t) (λ i u. gets_then _ (gets_most ws ranges.top 3 g u) (λ j w. gets w))
  draw (NegBinomialVarSuccesses v) g t = gets_then _ (gets_word ws _ _ _ t) (λ i u. gets_then _ (gets_variable ws n g u) (λ j w. gets w))
  draw (NegBinomial x) g t = gets_then _ (gets_word ws _ _ _ t) (λ i u. gets_then _ (gets_most ws ranges.top 3 g u) (λ j w. gets w))
  draw Geometric g t = gets_then _ (gets_word ws _ _ _ t) (λ i u. gets u)
  draw Poisson g t = gets_then _ (gets_word ws _ _ _ t) (λ i u. gets u)
  draw (PoissonVarRate v) g t = gets_then _ (gets_word ws _ _ _ t) (λ i u. gets_then _ (gets_variable ws n g u) (λ j w. gets w))
  draw (Uniform a b) g t = gets_then _ (gets_word ws _ _ _ t) (λ i u. gets_then _ (gets_most ws ranges.top 3 g.0 u) (λ j v. gets_then _ (gets_most ws ranges.top 3 g.1 v) (λ h w. gets w)))

  regroup : {at : ℕ} (a b l : List ℕ) → There ws at ((a ++ b) ++ l) → There ws at (a ++ (b ++ l))
  regroup a b l t = record { is = t.is ∙ append_assoc a b l; inside = t.inside }

  mutual
    unfolding reader.event reader.set reader.comparison reader.datum reader.events by_kind many code.event

    event : {deep : ℕ} {e : Event} → EventIn n deep e → (at : ℕ) (l : List ℕ) → There ws at (code.event e ++ l) → Gets ws (reader.event ws n deep at) e l
    event (limits.set {xs = xs} v k g) at l t =
        gets_then _ (gets_word ws _ _ _ t)
        (λ i u.
        gets_then _ (gets_variable ws n v u)
        (λ j w.
        gets_then _ (gets_most ws 256 4 k w)
        (λ h x.
        gets_then _ (gets_many ws Small (reader.small ws) (λ a y m q r. gets_most ws ranges.top 3 q r) xs g x) (λ m y. gets y))))
    event (limits.comparison v w) at l t =
        gets_then _ (gets_word ws _ _ _ t) (λ i u. gets_then _ (gets_variable ws n v u) (λ j x. gets_then _ (gets_variable ws n w x) (λ h y. gets y)))
    event (limits.datum {d = d} x g) at l t =
        gets_then _ (gets_word ws _ _ _ t) (λ i u. gets_then _ (gets_most ws ranges.top 3 x u) (λ j w. gets_then _ (draw d g w) (λ h y. gets y)))
    event (limits.complement g) at l t = gets_then _ (gets_word ws _ _ _ t) (λ i u. gets_then _ (event g i l u) (λ j w. gets w))
    event (limits.intersection g) at l t =
        gets_then _ (gets_word ws _ _ _ t) (λ i u. gets_then _ (gets_then _ (gets_word ws _ _ _ u) (λ j w. events g j l w)) (λ h y. gets y))

    events : {deep : ℕ} {es : Events} → EventsIn n deep es → (at : ℕ) (l : List ℕ) → There ws at (code.events es ++ l) → Gets ws (many none ◌also◌ (reader.event ws n deep) (code.count_events es) at) es l
    events limits.no_event at l t = gets t
    events (limits.and_event {e = e} {es = es} g h) at l t =
        gets_then _ (event g at _ (regroup (code.event e) (code.events es) l t)) (λ i u. gets_then _ (events h i l u) (λ j w. gets w))

  addend : (x : Addend) {at : ℕ} (l : List ℕ) → AddendIn n x → There ws at (code.addend x ++ l) → Gets ws (reader.addend ws n at) x l
  unfolding reader.addend AddendIn if_read
  addend Nought l g t =
      gets_then _ (gets_flag ws false t)
      (λ i u. gets_then _ (gets_most ws 0 3 (omega arith) u) (λ j v. gets_then _ (gets_most ws 0 3 (omega arith) v) (λ h w. gets w)))
  addend (Times f w) l g t =
      gets_then _ (gets_flag ws true t)
      (λ i u. gets_then _ (gets_most ws ranges.top 3 g.0 u) (λ j v. gets_then _ (gets_variable ws n g.1 v) (λ h x. gets x)))

  unroll : (x : Unroll) {at : ℕ} (l : List ℕ) → UnrollIn x → There ws at (code.unroll x ++ l) → Gets ws (reader.unroll ws at) x l
  unfolding reader.unroll UnrollIn if_read
  unroll Default l g t = gets_then _ (gets_flag ws false t) (λ i u. gets_then _ (gets_most ws 10000 4 (omega arith) u) (λ j v. gets v))
  unroll (Turns k) l g t = gets_then _ (gets_flag ws true t) (λ i u. gets_then _ (gets_most ws 10000 4 g u) (λ j v. gets v))

  block : (one : ℕ → Reading Statement) (b : Statements) {at : ℕ} (l : List ℕ) → ((i : ℕ) → There ws i (code.list b ++ l) → Gets ws (many done ◌then◌ one (code.count b) i) b l) → There ws at (code.program b ++ l) → Gets ws (reader.block ws one at) b l
  unfolding reader.block
  block one b l h t = gets_then _ (gets_word ws _ _ _ t) h

  mutual
    unfolding reader.statement reader.sample reader.assign reader.decrement reader.branch reader.while reader.normalize reader.given by_kind if_read many code.statement

    statement : {deep loops : ℕ} {c : Statement} → StatementIn n deep loops c → (at : ℕ) (l : List ℕ) → There ws at (code.statement c ++ l) → Gets ws (reader.statement ws n deep loops at) c l
    statement (limits.sample {a = a} {d = d} v g) at l t =
        gets_then _ (gets_word ws _ _ _ t)
        (λ i u. gets_then _ (gets_variable ws n v u) (λ j w. gets_then _ (gets_flag ws a w) (λ h x. gets_then _ (draw d g x) (λ m y. gets y))))
    statement (limits.assign {k = k} {a = a} {x = x} v g s) at l t =
        gets_then _ (gets_word ws _ _ _ t)
        (λ i u.
        gets_then _ (gets_variable ws n v u)
        (λ j w.
        gets_then _ (gets_flag ws a w)
        (λ h y. gets_then _ (addend x (k ∷ l) g (regroup (code.addend x) (k ∷ []) l y)) (λ m z. gets_then _ (gets_most ws ranges.top 3 s z) (λ o q. gets q)))))
    statement (limits.decrement v s) at l t =
        gets_then _ (gets_word ws _ _ _ t) (λ i u. gets_then _ (gets_variable ws n v u) (λ j w. gets_then _ (gets_most ws ranges.top 3 s w) (λ h y. gets y)))
    statement (limits.branch {deep = deep} {loops = loops} {e = e} {t = a} {f = b} g h k) at l t =
        gets_then _ (gets_word ws _ _ _ t)
        (λ i u.
        gets_then _ (event g i _ (regroup (code.event e) (code.program a ++ code.program b) l u))
        (λ j w.
        gets_then _ (block (reader.statement ws n deep loops) a _ (λ o y. statements h o _ y) (regroup (code.program a) (code.program b) l w))
        (λ m x. gets_then _ (block (reader.statement ws n deep loops) b l (λ o y. statements k o l y) x) (λ o y. gets y))))
    statement (limits.while {deep = deep} {loops = loops} {u = q} {e = e} {b = b} x g h) at l t =
        let z : suc loops - 1 ≡ loops = omega arith in
        gets_then _ (gets_word ws _ _ _ t)
        (λ i u.
        rw (ne_eqb (suc loops) 0 (λ y. omega arith), z)
        (gets_then _ (unroll q _ x (regroup (code.unroll q) (code.event e ++ code.program b) l u))
        (λ j w.
        gets_then _ (event g j _ (regroup (code.event e) (code.program b) l w))
        (λ m v. gets_then _ (block (reader.statement ws n deep loops) b l (λ o y. statements h o l y) v) (λ o y. gets y)))))
    statement limits.fail at l t = gets_then _ (gets_word ws _ _ _ t) (λ i u. gets u)
    statement (limits.normalize {deep = deep} {loops = loops} {vs = vs} {b = b} k g h) at l t =
        gets_then _ (gets_word ws _ _ _ t)
        (λ i u.
        gets_then _
        (gets_then _ (gets_most ws 8 4 k u)
        (λ j w. gets_many ws (λ v. v < n) (reader.variable ws n) (λ a y m q r. gets_variable ws n q r) vs g (regroup vs (code.program b) l w)))
        (λ j w. gets_then _ (block (reader.statement ws n deep loops) b l (λ o y. statements h o l y) w) (λ o y. gets y)))

    statements : {deep loops : ℕ} {cs : Statements} → StatementsIn n deep loops cs → (at : ℕ) (l : List ℕ) → There ws at (code.list cs ++ l) → Gets ws (many done ◌then◌ (reader.statement ws n deep loops) (code.count cs) at) cs l
    statements limits.no_statement at l t = gets t
    statements (limits.and_statement {c = c} {cs = cs} g h) at l t =
        gets_then _ (statement g at _ (regroup (code.statement c) (code.list cs) l t)) (λ i u. gets_then _ (statements h i l u) (λ j w. gets w))

pub complete : (n : ℕ) (p : Statements) → ProgramIn n p → reader.program (code.program p) n ≡ Read p (length (code.program p))
unfolding reader.program if_read and_read
complete n p g =
    let ws = code.program p in
    let t : There ws 0 (ws ++ []) = record { is = sym (append-nil ws); inside = omega arith } in
    let b = block ws n (reader.statement ws n 16 3) p [] (λ o y. statements ws n g o [] y) t in
    let d = simp length-drop at (ap length b.there.is) in
    let e : b.next ≡ length ws = omega (arith, b.there.inside) in
    rw (b.same, e, eq-eqb (length ws) (length ws) refl)
