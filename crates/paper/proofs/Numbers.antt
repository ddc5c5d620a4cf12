-- The numbers by which words are refused, 3 to 6, and where: at a word, or by 3 at the end.
use mathlib.Core.Path.{◌≡◌, refl}
use mathlib.Core.Bool.{Bool, true, false}
use mathlib.Core.List.{List, [], ◌∷◌}
use Prim.Native.Nat.{ℕ, zero, suc, ◌+◌, ◌-◌, ◌≤◌, ◌<◌}
use native.Mathlib.Omega.{arith}
use lib.Dec.{eqb, ltb}
use lib.ListN.{length, get_or}
use borrow.Author.Tests.{ltb-true, eqb-false}
use Rattle.paper.specs.Tree.{Event, Statement, Statements}
use Rattle.paper.specs.Reader as reader
use Rattle.paper.specs.Reader.{Reading, Read, Bad, and_read, if_read, by_kind, many, whole}
use Rattle.paper.proofs.First.{then_then}

-- of so many words: a reading goes on at one of them or at their end; one that is refused is refused by one of these at a word, or the words are short
pub data Numbered {A : Type 0} (size : ℕ) : Reading A → Type 0 where
  read : {a : A} {i : ℕ} → i ≤ size → Numbered size (Read a i)
  ended : Numbered size (Bad 3 size)
  bad : (k : ℕ) {at : ℕ} → 3 ≤ k → k ≤ 6 → at < size → Numbered size (Bad k at)

-- each of the readings by kind, from a place on
data Each {A : Type 0} (size i : ℕ) : List (ℕ → Reading A) → Type 0 where
  no_more : Each size i []
  and : {m : ℕ → Reading A} {ms : List (ℕ → Reading A)} → Numbered size (m i) → Each size i ms → Each size i (m ∷ ms)

module _ {size : ℕ} where
  and_numbered : {A B : Type 0} (m : Reading A) (f : A → ℕ → Reading B) → Numbered size m → ((a : A) (i : ℕ) → i ≤ size → Numbered size (f a i)) → Numbered size (and_read m f)
  unfolding and_read
  and_numbered m f (read {a = a} {i = i} l) h = h a i l
  and_numbered m f ended h = ended
  and_numbered m f (bad k low high inside) h = bad k low high inside

  if_numbered : {A : Type 0} (b : Bool) (m o : Reading A) → Numbered size m → Numbered size o → Numbered size (if_read b m o)
  unfolding if_read
  if_numbered true m o h k = h
  if_numbered false m o h k = k

  kind_numbered : {A : Type 0} (i kind : ℕ) (ms : List (ℕ → Reading A)) (other : ℕ → Reading A) → Each size i ms → Numbered size (other i) → Numbered size (by_kind kind ms other i)
  unfolding by_kind
  kind_numbered i kind ms other no_more o = o
  kind_numbered i zero ms other (and h hs) o = o
  kind_numbered i (suc zero) ms other (and h hs) o = h
  kind_numbered i (suc (suc k)) ms other (and h hs) o = kind_numbered i (suc k) _ other hs o

  many_numbered : {A T : Type 0} (nil : T) (cons : A → T → T) (one : ℕ → Reading A) → ((i : ℕ) → i ≤ size → Numbered size (one i)) → (k at : ℕ) → at ≤ size → Numbered size (many nil cons one k at)
  unfolding many
  many_numbered nil cons one h zero at l = read l
  many_numbered nil cons one h (suc k) at l = and_numbered _ _ (h at l) (λ a i m. and_numbered _ _ (many_numbered nil cons one h k i m) (λ t j o. read o))

  bad_3 : {A : Type 0} {at : ℕ} → at < size → Numbered {A = A} size (Bad 3 at)
  bad_3 h = bad 3 (omega arith) (omega arith) h

  bad_4 : {A : Type 0} {at : ℕ} → at < size → Numbered {A = A} size (Bad 4 at)
  bad_4 h = bad 4 (omega arith) (omega arith) h

  bad_6 : {A : Type 0} {at : ℕ} → at < size → Numbered {A = A} size (Bad 6 at)
  bad_6 h = bad 6 (omega arith) (omega arith) h

module _ (ws : List ℕ) where
  -- what follows a word knows that it is there
  word_then : {A : Type 0} (at : ℕ) (f : ℕ → ℕ → Reading A) → ((x : ℕ) → at < length ws → Numbered (length ws) (f x (at + 1))) → Numbered (length ws) (and_read (reader.word ws at) f)
  unfolding reader.word if_read and_read
  word_then {A} at f h = go (ltb at (length ws)) refl
    where
      go : (c : Bool) → ltb at (length ws) ≡ c → Numbered (length ws) (and_read (if_read c (Read (get_or ws at 0) (at + 1)) (Bad 3 (length ws))) f)
      go true e = h (get_or ws at 0) (ltb-true at (length ws) e)
      go false e = ended

  -- and so does what follows a word that passed a test
  unless_then : {A : Type 0} (ok : ℕ → Bool) (k at : ℕ) → 3 ≤ k → k ≤ 6 → (f : ℕ → ℕ → Reading A) → ((x : ℕ) → at < length ws → Numbered (length ws) (f x (at + 1))) → Numbered (length ws) (and_read (reader.unless ws ok k at) f)
  unfolding reader.unless and_read if_read
  unless_then {A} ok k at low high f h = rw (then_then (reader.word ws at) _ f) (word_then at _ (λ x inside. pass (ok x) x inside))
    where
      pass : (c : Bool) (x : ℕ) → at < length ws → Numbered (length ws) (and_read (if_read c (Read x (at + 1)) (Bad k at)) f)
      pass true x inside = h x inside
      pass false x inside = bad k low high inside

  pub unless_numbered : (ok : ℕ → Bool) (k at : ℕ) → 3 ≤ k → k ≤ 6 → Numbered (length ws) (reader.unless ws ok k at)
  unfolding reader.unless
  unless_numbered ok k at low high = word_then at _ (λ x inside. if_numbered (ok x) _ _ (read (omega arith)) (bad k low high inside))

  small_numbered : (at : ℕ) → Numbered (length ws) (reader.small ws at)
  small_numbered at = unless_numbered _ 3 at (omega arith) (omega arith)

  nought_numbered : (at : ℕ) → Numbered (length ws) (reader.nought ws at)
  nought_numbered at = unless_numbered _ 3 at (omega arith) (omega arith)

  limit_numbered : (limit at : ℕ) → Numbered (length ws) (reader.most ws limit 4 at)
  limit_numbered limit at = unless_numbered _ 4 at (omega arith) (omega arith)

  flag_numbered : (at : ℕ) → Numbered (length ws) (reader.flag ws at)
  unfolding reader.flag
  flag_numbered at = and_numbered _ _ (unless_numbered _ 3 at (omega arith) (omega arith)) (λ x i l. read l)

  ratio_numbered : (at : ℕ) → Numbered (length ws) (reader.ratio ws at)
  unfolding reader.ratio
  ratio_numbered at = word_then at _ (λ p _. and_numbered _ _ (unless_numbered (whole p) 6 (at + 1) (omega arith) (omega arith)) (λ q j l. read l))

  interval_numbered : (at : ℕ) → Numbered (length ws) (reader.interval ws at)
  unfolding reader.interval
  interval_numbered at = and_numbered _ _ (small_numbered at) (λ a i _. and_numbered _ _ (small_numbered i) (λ b j l. read l))

  unroll_numbered : (at : ℕ) → Numbered (length ws) (reader.unroll ws at)
  unfolding reader.unroll
  unroll_numbered at = and_numbered _ _ (flag_numbered at) (λ has i _. unless_then _ 4 i (omega arith) (omega arith) _ (λ u inside. if_numbered has _ _ (read (omega arith)) (if_numbered (eqb u 0) _ _ (read (omega arith)) (bad_3 inside))))

  events_numbered : (one : ℕ → Reading Event) → ((i : ℕ) → i ≤ length ws → Numbered (length ws) (one i)) → (at : ℕ) → Numbered (length ws) (reader.events ws one at)
  unfolding reader.events
  events_numbered one h at = word_then at _ (λ k inside. many_numbered _ _ _ h k (at + 1) (omega arith))

  block_numbered : (one : ℕ → Reading Statement) → ((i : ℕ) → i ≤ length ws → Numbered (length ws) (one i)) → (at : ℕ) → Numbered (length ws) (reader.block ws one at)
  unfolding reader.block
  block_numbered one h at = word_then at _ (λ k inside. many_numbered _ _ _ h k (at + 1) (omega arith))

module _ (ws : List ℕ) (n : ℕ) where
  variable_numbered : (at : ℕ) → Numbered (length ws) (reader.variable ws n at)
  variable_numbered at = unless_numbered ws _ 5 at (omega arith) (omega arith)

  of_variable_numbered : {A : Type 0} (make : ℕ → A) (at : ℕ) → Numbered (length ws) (reader.of_variable ws n make at)
  of_variable_numbered make at = and_numbered _ _ (variable_numbered at) (λ v i l. read l)

  of_small_numbered : {A : Type 0} (make : ℕ → A) (at : ℕ) → Numbered (length ws) (reader.of_small ws n make at)
  of_small_numbered make at = and_numbered _ _ (small_numbered ws at) (λ x i l. read l)

  draw_numbered : (at : ℕ) → Numbered (length ws) (reader.draw ws n at)
  unfolding reader.draw
  draw_numbered at = word_then ws at _ (λ kind inside. kind_numbered (at + 1) kind _ _
      (and (ratio_numbered ws (at + 1))
      (and (read (omega arith))
      (and (of_variable_numbered _ (at + 1))
      (and (of_variable_numbered _ (at + 1))
      (and (of_small_numbered _ (at + 1))
      (and (of_small_numbered _ (at + 1))
      (and (of_variable_numbered _ (at + 1))
      (and (of_small_numbered _ (at + 1))
      (and (read (omega arith))
      (and (read (omega arith))
      (and (of_variable_numbered _ (at + 1))
      (and (interval_numbered ws (at + 1))
      (and (bad_6 inside)
      (and (bad_6 inside)
      (and (bad_6 inside)
      no_more))))))))))))))) (bad_3 inside))

  set_numbered : (at : ℕ) → Numbered (length ws) (reader.set ws n at)
  unfolding reader.set
  set_numbered at = and_numbered _ _ (variable_numbered at) (λ v i _. and_numbered _ _ (limit_numbered ws 256 i) (λ k j l. and_numbered _ _ (many_numbered _ _ _ (λ i _. small_numbered ws i) k j l) (λ xs h l. read l)))

  comparison_numbered : (at : ℕ) → Numbered (length ws) (reader.comparison ws n at)
  unfolding reader.comparison
  comparison_numbered at = and_numbered _ _ (variable_numbered at) (λ v i _. and_numbered _ _ (variable_numbered i) (λ w j l. read l))

  datum_numbered : (at : ℕ) → Numbered (length ws) (reader.datum ws n at)
  unfolding reader.datum
  datum_numbered at = and_numbered _ _ (small_numbered ws at) (λ x i _. and_numbered _ _ (draw_numbered i) (λ d j l. read l))

  event_numbered : (deep at : ℕ) → Numbered (length ws) (reader.event ws n deep at)
  unfolding reader.event
  event_numbered zero at = word_then ws at _ (λ kind inside. bad_4 inside)
  event_numbered (suc deep) at = word_then ws at _ (λ kind inside. kind_numbered (at + 1) kind _ _
      (and (set_numbered (at + 1))
      (and (comparison_numbered (at + 1))
      (and (datum_numbered (at + 1))
      (and (and_numbered _ _ (event_numbered deep (at + 1)) (λ e h l. read l))
      (and (and_numbered _ _ (events_numbered ws (reader.event ws n deep) (λ i _. event_numbered deep i) (at + 1)) (λ es h l. read l))
      no_more))))) (bad_3 inside))

  addend_numbered : (at : ℕ) → Numbered (length ws) (reader.addend ws n at)
  unfolding reader.addend
  addend_numbered at = and_numbered _ _ (flag_numbered ws at) (λ has i _. if_numbered has _ _
      (and_numbered _ _ (small_numbered ws i) (λ f j _. and_numbered _ _ (variable_numbered j) (λ w h l. read l)))
      (and_numbered _ _ (nought_numbered ws i) (λ f j _. and_numbered _ _ (nought_numbered ws j) (λ w h l. read l))))

  sample_numbered : (at : ℕ) → Numbered (length ws) (reader.sample ws n at)
  unfolding reader.sample
  sample_numbered at = and_numbered _ _ (variable_numbered at) (λ v i _. and_numbered _ _ (flag_numbered ws i) (λ a j _. and_numbered _ _ (draw_numbered j) (λ d h l. read l)))

  assign_numbered : (at : ℕ) → Numbered (length ws) (reader.assign ws n at)
  unfolding reader.assign
  assign_numbered at = and_numbered _ _ (variable_numbered at) (λ v i _. and_numbered _ _ (flag_numbered ws i) (λ a j _. and_numbered _ _ (addend_numbered j) (λ x h _. and_numbered _ _ (small_numbered ws h) (λ k m l. read l))))

  decrement_numbered : (at : ℕ) → Numbered (length ws) (reader.decrement ws n at)
  unfolding reader.decrement
  decrement_numbered at = and_numbered _ _ (variable_numbered at) (λ v i _. and_numbered _ _ (small_numbered ws i) (λ k j l. read l))

  given_numbered : (at : ℕ) → Numbered (length ws) (reader.given ws n at)
  unfolding reader.given
  given_numbered at = and_numbered _ _ (limit_numbered ws 8 at) (λ k i l. many_numbered _ _ _ (λ j _. variable_numbered j) k i l)

  -- the kinds of statements that hold lists, by how those are read
  module _ (one : ℕ → Reading Statement) (h : (i : ℕ) → i ≤ length ws → Numbered (length ws) (one i)) where
    branch_numbered : (deep at : ℕ) → Numbered (length ws) (reader.branch ws n one deep at)
    unfolding reader.branch
    branch_numbered deep at = and_numbered _ _ (event_numbered deep at) (λ e i _. and_numbered _ _ (block_numbered ws one h i) (λ t j _. and_numbered _ _ (block_numbered ws one h j) (λ f k l. read l)))

    while_numbered : (deep at : ℕ) → Numbered (length ws) (reader.while ws n one deep at)
    unfolding reader.while
    while_numbered deep at = and_numbered _ _ (unroll_numbered ws at) (λ u i _. and_numbered _ _ (event_numbered deep i) (λ e j _. and_numbered _ _ (block_numbered ws one h j) (λ b k l. read l)))

    normalize_numbered : (at : ℕ) → Numbered (length ws) (reader.normalize ws n one at)
    unfolding reader.normalize
    normalize_numbered at = and_numbered _ _ (given_numbered at) (λ vs i _. and_numbered _ _ (block_numbered ws one h i) (λ b j l. read l))

  statement_numbered : (deep loops at : ℕ) → Numbered (length ws) (reader.statement ws n deep loops at)
  unfolding reader.statement
  statement_numbered zero loops at = word_then ws at _ (λ kind inside. bad_4 inside)
  statement_numbered (suc deep) loops at = word_then ws at _ (λ kind inside. kind_numbered (at + 1) kind _ _
      (and (sample_numbered (at + 1))
      (and (assign_numbered (at + 1))
      (and (decrement_numbered (at + 1))
      (and (branch_numbered (reader.statement ws n deep loops) (λ i _. statement_numbered deep loops i) (suc deep) (at + 1))
      (and (if_numbered (eqb loops 0) _ _ (bad_4 inside) (while_numbered (reader.statement ws n deep (loops - 1)) (λ i _. statement_numbered deep (loops - 1) i) (suc deep) (at + 1)))
      (and (read (omega arith))
      (and (normalize_numbered (reader.statement ws n deep loops) (λ i _. statement_numbered deep loops i) (at + 1))
      no_more))))))) (bad_3 inside))

  pub program_numbered : Numbered (length ws) (reader.program ws n)
  unfolding reader.program if_read
  program_numbered = and_numbered _ _ (block_numbered ws (reader.statement ws n 16 3) (λ i _. statement_numbered 16 3 i) 0) (λ p j l. ends p j l (eqb j (length ws)) refl)
    where
      -- a word after the program
      ends : (p : Statements) (j : ℕ) → j ≤ length ws → (c : Bool) → eqb j (length ws) ≡ c → Numbered (length ws) (if_read c (Read p j) (Bad 3 j))
      ends p j l true e = read l
      ends p j l false e = bad_3 (omega (arith, eqb-false j (length ws) e))
