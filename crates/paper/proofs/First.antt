-- Whatever follows a refused word, the answer is the same.
use mathlib.Core.Path.{◌≡◌, refl}
use mathlib.Core.Bool.{Bool, true, false}
use mathlib.Core.List.{List, [], ◌∷◌}
use Prim.Native.Nat.{ℕ, zero, suc, ◌+◌, ◌-◌, ◌<◌, ◌≤◌}
use native.Mathlib.Omega.{arith}
use lib.Dec.{eqb, ltb, leb}
use lib.ListN.{length, get_or}
use borrow.Author.Tests.{lt-ltb, ltb-true, ne_eqb}
use Rattle.paper.specs.Tree.{Event, none, ◌also◌, Statement, Statements, done, ◌then◌}
use Rattle.paper.specs.Reader as reader
use Rattle.paper.specs.Reader.{Reading, Read, Bad, and_read, if_read, by_kind, many, whole}

-- vs has the words of ws below b
pub record Agree (ws vs : List ℕ) (b : ℕ) : Type 0 where
  pub same : (i : ℕ) → i < b → i < length ws → (i < length vs) × (get_or vs i 0 ≡ get_or ws i 0)

-- from i on, o is what m is, as long as m goes by words below b alone
unfoldable SameBy : {A : Type 0} → List ℕ → ℕ → ℕ → Reading A → Reading A → Type 0
SameBy ws b i (Read a j) o = (i ≤ j) × (j ≤ b → o ≡ Read a j)
SameBy ws b i (Bad k p) o = p < length ws → (i ≤ suc p) × (p < b → o ≡ Bad k p)

record Same {A : Type 0} (ws : List ℕ) (b i : ℕ) (m o : Reading A) : Type 0 where
  holds : SameBy ws b i m o

module _ {A : Type 0} {ws : List ℕ} {b i : ℕ} where
  same_read : {a : A} {j : ℕ} → i ≤ j → Same ws b i (Read a j) (Read a j)
  unfolding SameBy
  same_read h = record { holds = (h, λ _. refl) }

  same_bad : {k p : ℕ} → i ≤ suc p → Same {A = A} ws b i (Bad k p) (Bad k p)
  unfolding SameBy
  same_bad h = record { holds = λ _. (h, λ _. refl) }

  same_if : (c : Bool) {m o m' o' : Reading A} → Same ws b i m m' → Same ws b i o o' → Same ws b i (if_read c m o) (if_read c m' o')
  unfolding if_read
  same_if true h k = h
  same_if false h k = k

  carry : {B : Type 0} (j : ℕ) (m : Reading B) (o : Reading A) (f : A → ℕ → Reading B) (a : A) → i ≤ j → (j ≤ b → o ≡ Read a j) → Same ws b j m (f a j) → Same ws b i m (and_read o f)
  unfolding SameBy and_read
  carry j (Read c l) o f a h e s =
      let jl : j ≤ l = s.holds.0 in
      record {
        holds = (
          omega arith,
          λ lb.
              let jb : j ≤ b = omega arith in
              rw (e jb) (s.holds.1 lb),
        );
      }
  carry j (Bad k p) o f a h e s =
      record {
        holds =
            λ pl.
            let jp : j ≤ suc p = (s.holds pl).0 in (
              omega arith,
              λ pb.
                  let jb : j ≤ b = omega arith in
                  rw (e jb) ((s.holds pl).1 pb),
            );
      }

  same_then : {B : Type 0} (m o : Reading A) (f g : A → ℕ → Reading B) → Same ws b i m o → ((a : A) (j : ℕ) → Same ws b j (f a j) (g a j)) → Same ws b i (and_read m f) (and_read o g)
  unfolding SameBy and_read
  same_then (Read a j) o f g s k = carry j (f a j) o g a s.holds.0 s.holds.1 (k a j)
  same_then (Bad q p) o f g s k =
      record {
        holds =
            λ pl. (
              (s.holds pl).0,
              λ pb. rw ((s.holds pl).1 pb),
            );
      }

-- readings one after the other, from the left or from the right
pub then_then : {A B C : Type 0} (m : Reading A) (p : A → ℕ → Reading B) (q : B → ℕ → Reading C) → and_read (and_read m p) q ≡ and_read m (λ a i. and_read (p a i) q)
unfolding and_read
then_then (Read a i) p q = refl
then_then (Bad k at) p q = refl

unfoldable Pairs : {A : Type 0} → List ℕ → ℕ → ℕ → List (ℕ → Reading A) → List (ℕ → Reading A) → Type 0
Pairs ws b i [] [] = Unit {0}
Pairs ws b i [] (o ∷ os) = ⊥
Pairs ws b i (m ∷ ms) [] = ⊥
Pairs ws b i (m ∷ ms) (o ∷ os) = Same ws b i (m i) (o i) × Pairs ws b i ms os

same_kind : {A : Type 0} {ws : List ℕ} {b i : ℕ} (kind : ℕ) (ms os : List (ℕ → Reading A)) (f g : ℕ → Reading A) → Pairs ws b i ms os → Same ws b i (f i) (g i) → Same ws b i (by_kind kind ms f i) (by_kind kind os g i)
unfolding Pairs by_kind
same_kind kind [] [] f g h s = s
same_kind kind [] (o ∷ os) f g h s = absurd h
same_kind kind (m ∷ ms) [] f g h s = absurd h
same_kind zero (m ∷ ms) (o ∷ os) f g h s = s
same_kind (suc zero) (m ∷ ms) (o ∷ os) f g h s = h.0
same_kind (suc (suc k)) (m ∷ ms) (o ∷ os) f g h s = same_kind (suc k) ms os f g h.1 s

same_many : {A T : Type 0} {ws : List ℕ} {b : ℕ} (nil : T) (cons : A → T → T) (one two : ℕ → Reading A) → ((i : ℕ) → Same ws b i (one i) (two i)) → (k i : ℕ) → Same ws b i (many nil cons one k i) (many nil cons two k i)
unfolding many
same_many nil cons one two h zero i = same_read (omega arith)
same_many nil cons one two h (suc k) i =
    same_then (one i) (two i) _ _ (h i)
    (λ a j. same_then (many nil cons one k j) (many nil cons two k j) _ _ (same_many nil cons one two h k j) (λ t l. same_read (omega arith)))

module _ (ws vs : List ℕ) (b : ℕ) (agree : Agree ws vs b) where
  same_word : (at : ℕ) → Same ws b at (reader.word ws at) (reader.word vs at)
  unfolding reader.word SameBy if_read
  same_word at = go (ltb at (length ws)) refl
    where
      go : (c : Bool) → ltb at (length ws) ≡ c → Same ws b at (if_read c (Read (get_or ws at 0) (at + 1)) (Bad 3 (length ws))) (reader.word vs at)
      go true e =
          record {
            holds = (
              omega arith,
              λ h.
                  let s = agree.same at (omega arith) (ltb-true _ _ e) in
                  rw (lt-ltb _ _ s.0, s.1),
            );
          }
      go false e = record { holds = λ h. absurd (omega arith) }

  word_then : {A : Type 0} (at : ℕ) (f g : ℕ → ℕ → Reading A) → ((x : ℕ) → Same ws b (at + 1) (f x (at + 1)) (g x (at + 1))) → Same ws b at (and_read (reader.word ws at) f) (and_read (reader.word vs at) g)
  unfolding reader.word SameBy if_read and_read
  word_then {A} at f g k = go (ltb at (length ws)) refl
    where
      go : (c : Bool) → ltb at (length ws) ≡ c → Same ws b at (and_read (if_read c (Read (get_or ws at 0) (at + 1)) (Bad 3 (length ws))) f) (and_read (reader.word vs at) g)
      go true e =
          carry (at + 1) (f (get_or ws at 0) (at + 1)) (reader.word vs at) g (get_or ws at 0) (omega arith)
          (λ h.
          let s = agree.same at (omega arith) (ltb-true _ _ e) in
          rw (lt-ltb _ _ s.0, s.1))
          (k (get_or ws at 0))
      go false e = record { holds = λ h. absurd (omega arith) }

  same_unless : (ok : ℕ → Bool) (k at : ℕ) → Same ws b at (reader.unless ws ok k at) (reader.unless vs ok k at)
  unfolding reader.unless
  same_unless ok k at = word_then at _ _ (λ x. same_if (ok x) (same_read (omega arith)) (same_bad (omega arith)))

  same_flag : (at : ℕ) → Same ws b at (reader.flag ws at) (reader.flag vs at)
  unfolding reader.flag
  same_flag at = same_then _ _ _ _ (same_unless _ 3 at) (λ x i. same_read (omega arith))

  -- where the next place matters
  most_then : {A : Type 0} (limit k at : ℕ) (f g : ℕ → ℕ → Reading A) → ((x : ℕ) → Same ws b (at + 1) (f x (at + 1)) (g x (at + 1))) → Same ws b at (and_read (reader.most ws limit k at) f) (and_read (reader.most vs limit k at) g)
  unfolding reader.unless and_read if_read
  most_then {A} limit k at f g h =
      rw (then_then (reader.word ws at) _ f, then_then (reader.word vs at) _ g)
      (word_then at _ _ (λ x. pass (leb x limit) x (h x)))
    where
      pass : (c : Bool) (x : ℕ) → Same ws b (at + 1) (f x (at + 1)) (g x (at + 1)) → Same ws b (at + 1) (and_read (if_read c (Read x (at + 1)) (Bad k at)) f) (and_read (if_read c (Read x (at + 1)) (Bad k at)) g)
      pass true x s = s
      pass false x s = same_bad (omega arith)

  same_unroll : (at : ℕ) → Same ws b at (reader.unroll ws at) (reader.unroll vs at)
  unfolding reader.unroll
  same_unroll at =
      same_then _ _ _ _ (same_flag at)
      (λ has i.
      most_then 10000 4 i _ _
      (λ u. same_if has (same_read (omega arith)) (same_if (eqb u 0) (same_read (omega arith)) (same_bad (omega arith)))))

  same_block : (one two : ℕ → Reading Statement) → ((i : ℕ) → Same ws b i (one i) (two i)) → (at : ℕ) → Same ws b at (reader.block ws one at) (reader.block vs two at)
  unfolding reader.block
  same_block one two h at = same_then _ _ _ _ (same_word at) (λ k i. same_many done ◌then◌ one two h k i)

  same_events : (one two : ℕ → Reading Event) → ((i : ℕ) → Same ws b i (one i) (two i)) → (at : ℕ) → Same ws b at (reader.events ws one at) (reader.events vs two at)
  unfolding reader.events
  same_events one two h at = same_then _ _ _ _ (same_word at) (λ k i. same_many none ◌also◌ one two h k i)

  module _ (n : ℕ) where
    end : {A : Type 0} {a : A} {j : ℕ} → Same ws b j (Read a j) (Read a j)
    end = same_read (omega arith)

    same_draw : (at : ℕ) → Same ws b at (reader.draw ws n at) (reader.draw vs n at)
    unfolding reader.draw reader.ratio reader.interval Pairs
    same_draw at =
        word_then at _ _
        (λ kind.
        same_kind kind _ _ _ _ (
          same_then _ _ _ _ (same_word (at + 1)) (λ p i. same_then _ _ _ _ (same_unless (whole p) 6 i) (λ q j. end)),
          (
            end,
            (
              same_then _ _ _ _ (same_unless _ 5 (at + 1)) (λ v i. end),
              (
                same_then _ _ _ _ (same_unless _ 5 (at + 1)) (λ v i. end),
                (
                  same_then _ _ _ _ (same_unless _ 3 (at + 1)) (λ v i. end),
                  (
                    same_then _ _ _ _ (same_unless _ 3 (at + 1)) (λ v i. end),
                    (
                      same_then _ _ _ _ (same_unless _ 5 (at + 1)) (λ v i. end),
                      (
                        same_then _ _ _ _ (same_unless _ 3 (at + 1)) (λ v i. end),
                        (
                          end,
                          (
                            end,
                            (
                              same_then _ _ _ _ (same_unless _ 5 (at + 1)) (λ v i. end),
                              (
                                same_then _ _ _ _ (same_unless _ 3 (at + 1)) (λ x i. same_then _ _ _ _ (same_unless _ 3 i) (λ y j. end)),
                                (same_bad (omega arith), (same_bad (omega arith), (same_bad (omega arith), tt))),
                              ),
                            ),
                          ),
                        ),
                      ),
                    ),
                  ),
                ),
              ),
            ),
          ),
        )
        (same_bad (omega arith)))

    same_event : (deep at : ℕ) → Same ws b at (reader.event ws n deep at) (reader.event vs n deep at)
    unfolding reader.event reader.set reader.comparison reader.datum Pairs
    same_event zero at = word_then at _ _ (λ kind. same_bad (omega arith))
    same_event (suc deep) at =
        word_then at _ _
        (λ kind.
        same_kind kind _ _ _ _ (
          same_then _ _ _ _ (same_unless _ 5 (at + 1))
              (λ v i.
              same_then _ _ _ _ (same_unless _ 4 i)
              (λ k j. same_then _ _ _ _ (same_many [] ◌∷◌ (reader.small ws) (reader.small vs) (same_unless _ 3) k j) (λ xs h. end))),
          (
            same_then _ _ _ _ (same_unless _ 5 (at + 1)) (λ v i. same_then _ _ _ _ (same_unless _ 5 i) (λ w j. end)),
            (
              same_then _ _ _ _ (same_unless _ 3 (at + 1)) (λ x i. same_then _ _ _ _ (same_draw i) (λ d j. end)),
              (
                same_then _ _ _ _ (same_event deep (at + 1)) (λ e i. end),
                (
                  same_then _ _ _ _ (same_events (reader.event ws n deep) (reader.event vs n deep) (same_event deep) (at + 1)) (λ es i. end),
                  tt,
                ),
              ),
            ),
          ),
        )
        (same_bad (omega arith)))

    same_addend : (at : ℕ) → Same ws b at (reader.addend ws n at) (reader.addend vs n at)
    unfolding reader.addend
    same_addend at =
        same_then _ _ _ _ (same_flag at)
        (λ has i.
        same_if has
        (same_then _ _ _ _ (same_unless _ 3 i) (λ f j. same_then _ _ _ _ (same_unless _ 5 j) (λ w h. end)))
        (same_then _ _ _ _ (same_unless _ 3 i) (λ f j. same_then _ _ _ _ (same_unless _ 3 j) (λ w h. end))))

    same_statement : (deep loops at : ℕ) → Same ws b at (reader.statement ws n deep loops at) (reader.statement vs n deep loops at)
    unfolding reader.statement reader.sample reader.assign reader.decrement reader.branch reader.while reader.normalize reader.given Pairs
    same_statement zero loops at = word_then at _ _ (λ kind. same_bad (omega arith))
    same_statement (suc deep) loops at =
        let one = same_block (reader.statement ws n deep loops) (reader.statement vs n deep loops) (same_statement deep loops) in
        let body = same_block (reader.statement ws n deep (loops - 1)) (reader.statement vs n deep (loops - 1)) (same_statement deep (loops - 1)) in
        word_then at _ _
        (λ kind.
        same_kind kind _ _ _ _ (
          same_then _ _ _ _ (same_unless _ 5 (at + 1)) (λ v i. same_then _ _ _ _ (same_flag i) (λ a j. same_then _ _ _ _ (same_draw j) (λ d h. end))),
          (
            same_then _ _ _ _ (same_unless _ 5 (at + 1))
                (λ v i. same_then _ _ _ _ (same_flag i) (λ a j. same_then _ _ _ _ (same_addend j) (λ x h. same_then _ _ _ _ (same_unless _ 3 h) (λ k m. end)))),
            (
              same_then _ _ _ _ (same_unless _ 5 (at + 1)) (λ v i. same_then _ _ _ _ (same_unless _ 3 i) (λ k j. end)),
              (
                same_then _ _ _ _ (same_event (suc deep) (at + 1)) (λ e i. same_then _ _ _ _ (one i) (λ t j. same_then _ _ _ _ (one j) (λ f h. end))),
                (
                  same_if (eqb loops 0) (same_bad (omega arith))
                      (same_then _ _ _ _ (same_unroll (at + 1)) (λ u i. same_then _ _ _ _ (same_event (suc deep) i) (λ e j. same_then _ _ _ _ (body j) (λ t h. end)))),
                  (
                    end,
                    (
                      same_then _ _ _ _
                          (same_then _ _ _ _ (same_unless _ 4 (at + 1)) (λ k i. same_many [] ◌∷◌ (reader.variable ws n) (reader.variable vs n) (same_unless _ 5) k i))
                          (λ us i. same_then _ _ _ _ (one i) (λ c j. end)),
                      tt,
                    ),
                  ),
                ),
              ),
            ),
          ),
        )
        (same_bad (omega arith)))

-- a list with the same words as far as the refused one is refused there too
module _ (ws vs : List ℕ) (n k at : ℕ) (r : reader.program ws n ≡ Bad k at) (inside : at < length ws) (agree : Agree ws vs (suc at)) where
  pub refused_alike : reader.program vs n ≡ Bad k at
  unfolding reader.program SameBy and_read if_read
  refused_alike = go (reader.block ws (reader.statement ws n 16 3) 0) (same_block ws vs (suc at) agree _ _ (same_statement ws vs (suc at) agree n 16 3) 0) r
    where
      go : (m : Reading Statements) → Same ws (suc at) 0 m (reader.block vs (reader.statement vs n 16 3) 0) → and_read m (λ p j. if_read (eqb j (length ws)) (Read p j) (Bad 3 j)) ≡ Bad k at → reader.program vs n ≡ Bad k at
      go (Read p j) s e = ends (eqb j (length ws)) refl e
        where
          ends : (c : Bool) → eqb j (length ws) ≡ c → if_read c (Read p j) (Bad 3 j) ≡ Bad k at → reader.program vs n ≡ Bad k at
          ends true q e = absurd (omega (arith, never))
            where
              never : ◌≡◌ {A = ℕ} 0 1
              never = cc
          ends false q e =
              let jat : j ≡ at = cc in
              let h = agree.same j (omega arith) (omega arith) in
              let ne : eqb j (length vs) ≡ false = ne_eqb j (length vs) (λ z. omega (arith, h.0)) in
              rw (s.holds.1 (omega arith), ne) e
      go (Bad q p) s e =
          let pat : p ≡ at = cc in
          rw ((s.holds (omega arith)).1 (omega arith)) e
