-- What is read is spelled by the words: it is the code of a tree within the limits.
use mathlib.Core.Path.{◌≡◌, refl, ap, sym, ◌∙◌}
use mathlib.Core.Bool.{Bool, true, false, ◌&&◌}
use mathlib.Core.List.{List, [], ◌∷◌, ◌++◌, append_assoc, append-nil}
use Prim.Native.Nat.{ℕ, zero, suc, ◌+◌, ◌-◌, ◌%◌, ◌<◌, ◌≤◌}
use native.Mathlib.Omega.{arith}
use native.Mathlib.Numerals.{add-one}
use lib.Dec.{eqb, ltb, leb}
use lib.ListN.{length, drop, drop_of_length-le}
use lib.Seq.{drop-cons}
use borrow.Author.Tests.{ltb-true, leb-true, eqb-true, eqb-false}
use Rattle.ranges.specs.Ranges as ranges
use Rattle.paper.specs.Tree.{Draw}
use Rattle.paper.specs.Tree.{Event, Events, none, ◌also◌}
use Rattle.paper.specs.Tree.{Nought, Times, Default, Turns}
use Rattle.paper.specs.Tree.{Statement, Statements, done, ◌then◌}
use Rattle.paper.specs.Code as code
use Rattle.paper.specs.Reader as reader
use Rattle.paper.specs.Reader.{Reading, Read, Bad, and_read, if_read, by_kind, many, whole}
use Rattle.paper.specs.Limits as limits
use Rattle.paper.specs.Limits.{Small, Each, Whole, DrawIn, AddendIn, UnrollIn, EventIn, EventsIn, StatementIn, StatementsIn, ProgramIn}

unfoldable pub AllBy : {A : Type 0} → (A → ℕ → Type 0) → Reading A → Type 0
AllBy P (Read a j) = P a j
AllBy P (Bad k at) = Unit {0}

-- what is read, if anything is, is in P
pub record All {A : Type 0} (P : A → ℕ → Type 0) (m : Reading A) : Type 0 where
  pub holds : AllBy P m

module _ {A : Type 0} {P : A → ℕ → Type 0} where
  all_read : {a : A} {j : ℕ} → P a j → All P (Read a j)
  unfolding AllBy
  all_read h = record { holds = h }

  all_bad : {k at : ℕ} → All P (Bad k at)
  unfolding AllBy
  all_bad = record { holds = tt }

  all_if : (b : Bool) (m o : Reading A) → (b ≡ true → All P m) → (b ≡ false → All P o) → All P (if_read b m o)
  unfolding if_read
  all_if true m o h k = h refl
  all_if false m o h k = k refl

  all_then : {B : Type 0} {S : B → ℕ → Type 0} (m : Reading B) (f : B → ℕ → Reading A) → All S m → ((b : B) (j : ℕ) → S b j → All P (f b j)) → All P (and_read m f)
  unfolding AllBy and_read
  all_then (Read b j) f h k = k b j h.holds
  all_then (Bad i p) f h k = record { holds = tt }

  -- what follows from what is read
  all_so : {S : A → ℕ → Type 0} (m : Reading A) → All S m → ((a : A) (j : ℕ) → S a j → P a j) → All P m
  unfolding AllBy
  all_so (Read a j) h k = record { holds = k a j h.holds }
  all_so (Bad i p) h k = record { holds = tt }

  pub all_at : (m : Reading A) {a : A} {j : ℕ} → All P m → m ≡ Read a j → P a j
  unfolding AllBy
  all_at m {a} {j} h e =
      let k : All P (Read a j) = rw e at h in
      k.holds

-- what holds of the reading of each kind, and of any other, holds of the reading by kind
unfoldable pub Kinds : {A : Type 0} → (Reading A → Type 0) → ℕ → ℕ → List (ℕ → Reading A) → ℕ → Type 0
Kinds R kind k [] i = Unit {0}
Kinds R kind k (m ∷ ms) i = (kind ≡ k → R (m i)) × Kinds R kind (suc k) ms i

module _ {A : Type 0} (R : Reading A → Type 0) where
  kinds_from : (kind k j : ℕ) (ms : List (ℕ → Reading A)) (other : ℕ → Reading A) (i : ℕ) → kind ≡ k + j → Kinds R kind k ms i → R (other i) → R (by_kind (suc j) ms other i)
  unfolding Kinds by_kind
  kinds_from kind k j [] other i e h o = o
  kinds_from kind k zero (m ∷ ms) other i e h o = h.0 (omega arith)
  kinds_from kind k (suc j) (m ∷ ms) other i e h o = kinds_from kind (suc k) j ms other i (omega arith) h.1 o

  pub each_kind : (kind : ℕ) (ms : List (ℕ → Reading A)) (other : ℕ → Reading A) (i : ℕ) → Kinds R kind 1 ms i → R (other i) → R (by_kind kind ms other i)
  unfolding by_kind
  each_kind zero [] other i h o = o
  each_kind zero (m ∷ ms) other i h o = o
  each_kind (suc j) ms other i h o = kinds_from (suc j) 1 j ms other i (omega arith) h o

module _ (ws : List ℕ) where
  -- the words from at to j are l
  pub record Spells (at : ℕ) (l : List ℕ) (j : ℕ) : Type 0 where
    pub is : drop at ws ≡ l ++ drop j ws
    pub inside : at ≤ length ws → j ≤ length ws

infixr 40 ◌&◌
pub ◌&◌ : {ws : List ℕ} {at i j : ℕ} {l m : List ℕ} → Spells ws at l i → Spells ws i m j → Spells ws at (l ++ m) j
◌&◌ {ws} {at} {i} {j} {l} {m} a b = record {
  is = a.is ∙ ap (λ (r : List ℕ). l ++ r) b.is ∙ sym (append_assoc l m (drop j ws));
  inside = λ h. b.inside (a.inside h);
}

pub nothing : {ws : List ℕ} {at : ℕ} → Spells ws at [] at
nothing = record { is = refl; inside = λ h. h }

-- a part that spells the code of a tree within limits
pub record Codes {A : Type 0} (ws : List ℕ) (code : A → List ℕ) (Good : A → Type 0) (at : ℕ) (a : A) (j : ℕ) : Type 0 where
  pub spells : Spells ws at (code a) j
  pub good : Good a

-- one word
abbrev pub letter : ℕ → List ℕ
letter x = x ∷ []

-- lists with their counts
abbrev pub conjunction : Events → List ℕ
conjunction es = code.count_events es ∷ code.events es

abbrev pub counted : List ℕ → List ℕ
counted xs = length xs ∷ xs

module _ (ws : List ℕ) where
  pub word_is : (at : ℕ) → All (λ x j. Spells ws at (letter x) j) (reader.word ws at)
  unfolding reader.word
  word_is at =
      all_if (ltb at (length ws)) _ _
      (λ e.
      let h : at < length ws = ltb-true _ _ e in
      all_read (record { is = rw add-one (drop-cons ws at 0 h); inside = λ _. omega arith }))
      (λ e. all_bad)

  pub unless_is : (Good : ℕ → Type 0) (ok : ℕ → Bool) (k at : ℕ) → ((x : ℕ) → ok x ≡ true → Good x) → All (Codes ws letter Good at) (reader.unless ws ok k at)
  unfolding reader.unless
  unless_is Good ok k at g =
      all_then _ _ (word_is at)
      (λ x j s. all_if (ok x) _ _ (λ e. all_read (record { spells = s; good = g x e })) (λ e. all_bad))

  pub most_is : (limit k at : ℕ) → All (Codes ws letter (λ x. x ≤ limit) at) (reader.most ws limit k at)
  most_is limit k at = unless_is (λ x. x ≤ limit) (λ x. leb x limit) k at (λ x e. leb-true _ _ e)

  -- a word that is read with a limit is within it
  pub most_at_most : (limit k at : ℕ) {x i : ℕ} → reader.most ws limit k at ≡ Read x i → x ≤ limit
  most_at_most limit k at e = (all_at (reader.most ws limit k at) (most_is limit k at) e).good

  pub variable_is : (n at : ℕ) → All (Codes ws letter (λ x. x < n) at) (reader.variable ws n at)
  variable_is n at = unless_is (λ x. x < n) (λ x. ltb x n) 5 at (λ x e. ltb-true _ _ e)

  pub flag_is : (at : ℕ) → All (λ a j. Spells ws at (letter (code.flag a)) j) (reader.flag ws at)
  unfolding reader.flag
  flag_is at = all_then _ _ (most_is 1 3 at) (λ x j h. all_read (go (eqb x 1) refl h))
    where
      go : {x j : ℕ} (b : Bool) → eqb x 1 ≡ b → Codes ws letter (λ x. x ≤ 1) at x j → Spells ws at (letter (code.flag b)) j
      go {x} true e h = rw (eqb-true x 1 e) at h.spells
      go {x} false e h =
          let ne = eqb-false x 1 e in
          let z : x ≡ 0 = omega (arith, h.good) in
          rw z at h.spells

  -- as many as a count says, each of which one reads
  pub many_are : (Good : ℕ → Type 0) (one : ℕ → Reading ℕ) → ((at : ℕ) → All (Codes ws letter Good at) (one at)) → (k at : ℕ) → All (λ xs j. Spells ws at xs j × ((length xs ≡ k) × Each Good xs)) (many [] ◌∷◌ one k at)
  unfolding many Each
  many_are Good one h zero at = all_read (nothing, (refl, tt))
  many_are Good one h (suc k) at =
      all_then _ _ (h at)
      (λ x i a. all_then _ _ (many_are Good one h k i) (λ xs j b. all_read (a.spells & b.0, (ap suc b.1.0, (a.good, b.1.1)))))

and_left : (a b : Bool) → a && b ≡ true → a ≡ true
and_left true b e = refl
and_left false b e = e

and_right : (a b : Bool) → a && b ≡ true → b ≡ true
and_right true b e = e
and_right false b e = absurd (omega (arith, z))
  where
    z : ◌≡◌ {A = ℕ} 0 1
    z = cc

pub whole_true : (p q : ℕ) → whole p q ≡ true → Whole p q
whole_true p q e =
    let more = and_right (ltb 0 q) _ e in
    record { divides = ltb-true _ _ (and_left _ _ e); exact = eqb-true _ _ (and_left _ _ more); small = leb-true _ _ (and_right (eqb (p % q) 0) _ more) }

-- a kind word
pub kind_is : {ws : List ℕ} {at i x k : ℕ} → x ≡ k → Spells ws at (letter x) i → Spells ws at (letter k) i
kind_is e s = rw e at s

pub none_but_nought : {x : ℕ} → x ≤ 0 → x ≡ 0
none_but_nought h = omega arith

module _ (ws : List ℕ) (n : ℕ) where
  abbrev pub IsDraw : ℕ → Draw → ℕ → Type 0
  IsDraw = Codes ws code.draw (DrawIn n)

  ratio_is : {at i : ℕ} → Spells ws at (letter 1) i → All (IsDraw at) (reader.ratio ws i)
  unfolding reader.ratio DrawIn
  ratio_is {at} {i} s =
      all_then _ _ (word_is ws i)
      (λ p j a.
      all_then _ _ (unless_is ws (Whole p) (whole p) 6 j (whole_true p))
      (λ q h b. all_read (record { spells = s & a & b.spells; good = b.good })))

  interval_is : {at i : ℕ} → Spells ws at (letter 12) i → All (IsDraw at) (reader.interval ws i)
  unfolding reader.interval DrawIn
  interval_is {at} {i} s =
      all_then _ _ (most_is ws ranges.top 3 i)
      (λ x j a.
      all_then _ _ (most_is ws ranges.top 3 j)
      (λ y h b. all_read (record { spells = s & a.spells & b.spells; good = (a.good, b.good) })))

  pub draw_is : (at : ℕ) → All (IsDraw at) (reader.draw ws n at)
  unfolding reader.draw DrawIn Kinds
  draw_is at =
      all_then _ _ (word_is ws at)
      (λ kind i s.
      each_kind (All (IsDraw at)) kind _ _ i (
        (λ e. ratio_is (kind_is e s)),
        (
          (λ e. all_read (record { spells = kind_is e s; good = tt })),
          (
            (λ e. all_then _ _ (variable_is ws n i) (λ v j a. all_read (record { spells = kind_is e s & a.spells; good = a.good }))),
            (
              (λ e. all_then _ _ (variable_is ws n i) (λ v j a. all_read (record { spells = kind_is e s & a.spells; good = a.good }))),
              (
                (λ e. all_then _ _ (most_is ws ranges.top 3 i) (λ x j a. all_read (record { spells = kind_is e s & a.spells; good = a.good }))),
                (
                  (λ e. all_then _ _ (most_is ws ranges.top 3 i) (λ x j a. all_read (record { spells = kind_is e s & a.spells; good = a.good }))),
                  (
                    (λ e. all_then _ _ (variable_is ws n i) (λ v j a. all_read (record { spells = kind_is e s & a.spells; good = a.good }))),
                    (
                      (λ e. all_then _ _ (most_is ws ranges.top 3 i) (λ x j a. all_read (record { spells = kind_is e s & a.spells; good = a.good }))),
                      (
                        (λ e. all_read (record { spells = kind_is e s; good = tt })),
                        (
                          (λ e. all_read (record { spells = kind_is e s; good = tt })),
                          (
                            (λ e. all_then _ _ (variable_is ws n i) (λ v j a. all_read (record { spells = kind_is e s & a.spells; good = a.good }))),
                            (
                              (λ e. interval_is (kind_is e s)),
                              ((λ e. all_bad), ((λ e. all_bad), ((λ e. all_bad), tt))),
                            ),
                          ),
                        ),
                      ),
                    ),
                  ),
                ),
              ),
            ),
          ),
        ),
      )
      all_bad)

  -- events
  module _ (deep : ℕ) where
    abbrev pub IsEvent : ℕ → Event → ℕ → Type 0
    IsEvent = Codes ws code.event (EventIn n deep)

    module _ (one : ℕ → Reading Event) (h : (at : ℕ) → All (IsEvent at) (one at)) where
      pub events_are : (k at : ℕ) → All (λ es j. Spells ws at (code.events es) j × ((code.count_events es ≡ k) × EventsIn n deep es)) (many none ◌also◌ one k at)
      unfolding many code.event
      events_are zero at = all_read (nothing, (refl, limits.no_event))
      events_are (suc k) at =
          all_then _ _ (h at)
          (λ x i a. all_then _ _ (events_are k i) (λ xs j b. all_read (a.spells & b.0, (ap suc b.1.0, limits.and_event a.good b.1.1))))

      pub all_events_are : (at : ℕ) → All (Codes ws conjunction (EventsIn n deep) at) (reader.events ws one at)
      unfolding reader.events
      all_events_are at =
          all_then _ _ (word_is ws at)
          (λ k i s. all_so _ (events_are k i) (λ es j b. record { spells = kind_is (sym b.1.0) s & b.0; good = b.1.1 }))

  pub event_is : (deep at : ℕ) → All (IsEvent deep at) (reader.event ws n deep at)
  unfolding reader.event reader.set reader.comparison reader.datum code.event Kinds
  event_is zero at = all_then _ _ (word_is ws at) (λ k i s. all_bad)
  event_is (suc deep) at =
      all_then _ _ (word_is ws at)
      (λ kind i s.
      each_kind (All (IsEvent (suc deep) at)) kind _ _ i (
        (λ e.
            all_then _ _ (variable_is ws n i)
            (λ v j a.
            all_then _ _ (most_is ws 256 4 j)
            (λ k h b.
            all_then _ _ (many_are ws Small (reader.small ws) (most_is ws ranges.top 3) k h)
            (λ xs m d.
            all_read
            (record {
              spells = kind_is e s & a.spells & kind_is (sym d.1.0) b.spells & d.0;
              good = limits.set a.good (rw (sym d.1.0) at b.good) d.1.1;
            }))))),
        (
          (λ e.
              all_then _ _ (variable_is ws n i)
              (λ v j a. all_then _ _ (variable_is ws n j) (λ w h b. all_read (record { spells = kind_is e s & a.spells & b.spells; good = limits.comparison a.good b.good })))),
          (
            (λ e.
                all_then _ _ (most_is ws ranges.top 3 i)
                (λ x j a. all_then _ _ (draw_is j) (λ d h b. all_read (record { spells = kind_is e s & a.spells & b.spells; good = limits.datum a.good b.good })))),
            (
              (λ e. all_then _ _ (event_is deep i) (λ x j a. all_read (record { spells = kind_is e s & a.spells; good = limits.complement a.good }))),
              (
                (λ e.
                    all_then _ _ (all_events_are deep (reader.event ws n deep) (event_is deep) i)
                    (λ es j a. all_read (record { spells = kind_is e s & a.spells; good = limits.intersection a.good }))),
                tt,
              ),
            ),
          ),
        ),
      )
      all_bad)

  -- the parts of statements
  pub addend_is : (at : ℕ) → All (Codes ws code.addend (AddendIn n) at) (reader.addend ws n at)
  unfolding reader.addend AddendIn if_read
  addend_is at = all_then _ _ (flag_is ws at) (λ has i s. go has s)
    where
      go : {i : ℕ} (has : Bool) → Spells ws at (letter (code.flag has)) i → All (Codes ws code.addend (AddendIn n) at) (if_read has (and_read (reader.small ws i) λ f j. and_read (reader.variable ws n j) λ w h. Read (Times f w) h) (and_read (reader.nought ws i) λ f j. and_read (reader.nought ws j) λ w h. Read Nought h))
      go {i} true s =
          all_then _ _ (most_is ws ranges.top 3 i)
          (λ f j a. all_then _ _ (variable_is ws n j) (λ w h b. all_read (record { spells = s & a.spells & b.spells; good = (a.good, b.good) })))
      go {i} false s =
          all_then _ _ (most_is ws 0 3 i)
          (λ f j a. all_then _ _ (most_is ws 0 3 j) (λ w h b. all_read (record { spells = s & kind_is (none_but_nought a.good) a.spells & kind_is (none_but_nought b.good) b.spells; good = tt })))

  pub unroll_is : (at : ℕ) → All (Codes ws code.unroll UnrollIn at) (reader.unroll ws at)
  unfolding reader.unroll UnrollIn if_read
  unroll_is at = all_then _ _ (flag_is ws at) (λ has i s. all_then _ _ (most_is ws 10000 4 i) (λ u j a. go has s a))
    where
      go : {i u j : ℕ} (has : Bool) → Spells ws at (letter (code.flag has)) i → Codes ws letter (λ x. x ≤ 10000) i u j → All (Codes ws code.unroll UnrollIn at) (if_read has (Read (Turns u) j) (if_read (eqb u 0) (Read Default j) (Bad 3 i)))
      go true s a = all_read (record { spells = s & a.spells; good = a.good })
      go {i} {u} {j} false s a = all_if (eqb u 0) _ _ (λ e. all_read (record { spells = s & kind_is (eqb-true u 0 e) a.spells; good = tt })) (λ e. all_bad)

  abbrev pub IsStatement : ℕ → ℕ → ℕ → Statement → ℕ → Type 0
  IsStatement deep loops = Codes ws code.statement (StatementIn n deep loops)

  sample_is : {deep loops at i : ℕ} → Spells ws at (letter 1) i → All (IsStatement (suc deep) loops at) (reader.sample ws n i)
  unfolding reader.sample code.statement
  sample_is {deep} {loops} {at} {i} s =
      all_then _ _ (variable_is ws n i)
      (λ v j a.
      all_then _ _ (flag_is ws j)
      (λ f h b.
      all_then _ _ (draw_is h)
      (λ d m c. all_read (record { spells = s & a.spells & b & c.spells; good = limits.sample a.good c.good }))))

  assign_is : {deep loops at i : ℕ} → Spells ws at (letter 2) i → All (IsStatement (suc deep) loops at) (reader.assign ws n i)
  unfolding reader.assign code.statement
  assign_is {deep} {loops} {at} {i} s =
      all_then _ _ (variable_is ws n i)
      (λ v j a.
      all_then _ _ (flag_is ws j)
      (λ f h b.
      all_then _ _ (addend_is h)
      (λ x m c.
      all_then _ _ (most_is ws ranges.top 3 m)
      (λ k o d. all_read (record { spells = s & a.spells & b & c.spells & d.spells; good = limits.assign a.good c.good d.good })))))

  decrement_is : {deep loops at i : ℕ} → Spells ws at (letter 3) i → All (IsStatement (suc deep) loops at) (reader.decrement ws n i)
  unfolding reader.decrement code.statement
  decrement_is {deep} {loops} {at} {i} s =
      all_then _ _ (variable_is ws n i)
      (λ v j a. all_then _ _ (most_is ws ranges.top 3 j) (λ k h b. all_read (record { spells = s & a.spells & b.spells; good = limits.decrement a.good b.good })))

  pub given_is : (at : ℕ) → All (Codes ws counted (λ vs. (length vs ≤ 8) × Each (λ v. v < n) vs) at) (reader.given ws n at)
  unfolding reader.given
  given_is at =
      all_then _ _ (most_is ws 8 4 at)
      (λ k i a.
      all_so _ (many_are ws (λ v. v < n) (reader.variable ws n) (variable_is ws n) k i)
      (λ vs j b. record { spells = kind_is (sym b.1.0) a.spells & b.0; good = (rw (sym b.1.0) at a.good, b.1.1) }))

  -- statements
  module _ (deep loops : ℕ) (one : ℕ → Reading Statement) (h : (at : ℕ) → All (IsStatement deep loops at) (one at)) where
    pub list_is : (k at : ℕ) → All (λ cs j. Spells ws at (code.list cs) j × ((code.count cs ≡ k) × StatementsIn n deep loops cs)) (many done ◌then◌ one k at)
    unfolding many code.statement
    list_is zero at = all_read (nothing, (refl, limits.no_statement))
    list_is (suc k) at =
        all_then _ _ (h at)
        (λ x i a. all_then _ _ (list_is k i) (λ xs j b. all_read (a.spells & b.0, (ap suc b.1.0, limits.and_statement a.good b.1.1))))

    pub block_is : (at : ℕ) → All (Codes ws code.program (StatementsIn n deep loops) at) (reader.block ws one at)
    unfolding reader.block
    block_is at =
        all_then _ _ (word_is ws at)
        (λ k i s. all_so _ (list_is k i) (λ cs j b. record { spells = kind_is (sym b.1.0) s & b.0; good = b.1.1 }))

    branch_is : {at i : ℕ} → Spells ws at (letter 4) i → All (IsStatement (suc deep) loops at) (reader.branch ws n one (suc deep) i)
    unfolding reader.branch code.statement
    branch_is {at} {i} s =
        all_then _ _ (event_is (suc deep) i)
        (λ e j a.
        all_then _ _ (block_is j)
        (λ t m b.
        all_then _ _ (block_is m)
        (λ f o c. all_read (record { spells = s & a.spells & b.spells & c.spells; good = limits.branch a.good b.good c.good }))))

    while_is : {at i : ℕ} → Spells ws at (letter 5) i → All (IsStatement (suc deep) (suc loops) at) (reader.while ws n one (suc deep) i)
    unfolding reader.while code.statement
    while_is {at} {i} s =
        all_then _ _ (unroll_is i)
        (λ u j a.
        all_then _ _ (event_is (suc deep) j)
        (λ e m b.
        all_then _ _ (block_is m)
        (λ t o c. all_read (record { spells = s & a.spells & b.spells & c.spells; good = limits.while a.good b.good c.good }))))

    normalize_is : {at i : ℕ} → Spells ws at (letter 7) i → All (IsStatement (suc deep) loops at) (reader.normalize ws n one i)
    unfolding reader.normalize code.statement
    normalize_is {at} {i} s =
        all_then _ _ (given_is i)
        (λ vs j a.
        all_then _ _ (block_is j)
        (λ b m c. all_read (record { spells = s & a.spells & c.spells; good = limits.normalize a.good.0 a.good.1 c.good })))

  pub statement_is : (deep loops at : ℕ) → All (IsStatement deep loops at) (reader.statement ws n deep loops at)
  unfolding reader.statement code.statement Kinds
  statement_is zero loops at = all_then _ _ (word_is ws at) (λ k i s. all_bad)
  statement_is (suc deep) loops at =
      all_then _ _ (word_is ws at)
      (λ kind i s.
      each_kind (All (IsStatement (suc deep) loops at)) kind _ _ i (
        (λ e. sample_is (kind_is e s)),
        (
          (λ e. assign_is (kind_is e s)),
          (
            (λ e. decrement_is (kind_is e s)),
            (
              (λ e. branch_is deep loops (reader.statement ws n deep loops) (statement_is deep loops) (kind_is e s)),
              (
                (λ e.
                    all_if (eqb loops 0) _ _ (λ _. all_bad)
                    (λ z.
                    let ne = eqb-false loops 0 z in
                    let j : suc (loops - 1) ≡ loops = omega arith in
                    all_so _ (while_is deep (loops - 1) (reader.statement ws n deep (loops - 1)) (statement_is deep (loops - 1)) (kind_is e s))
                    (λ c j' b. record { spells = b.spells; good = rw j at b.good }))),
                (
                  (λ e. all_read (record { spells = kind_is e s; good = limits.fail })),
                  (
                    (λ e. normalize_is deep loops (reader.statement ws n deep loops) (statement_is deep loops) (kind_is e s)),
                    tt,
                  ),
                ),
              ),
            ),
          ),
        ),
      )
      all_bad)

  -- the words are the whole code of a tree within the limits
  pub record Told (p : Statements) (j : ℕ) : Type 0 where
    pub is : ws ≡ code.program p
    pub within : ProgramIn n p
    pub end : j ≡ length ws

  pub program_is : All Told (reader.program ws n)
  unfolding reader.program
  program_is =
      all_then _ _ (block_is 16 3 (reader.statement ws n 16 3) (statement_is 16 3) 0)
      (λ p j a.
      all_if (eqb j (length ws)) _ _
      (λ e.
      let z : j ≡ length ws = eqb-true _ _ e in
      let d : drop j ws ≡ [] = drop_of_length-le ws {i = j} (omega arith) in
      all_read (record { is = a.spells.is ∙ rw d (append-nil (code.program p)); within = a.good; end = z }))
      (λ e. all_bad))
