-- What the code's answer says of a reading and of what follows it.
use Rattle.std.proofs.Common.{◌≡◌, Bool, true, false, List, [], ◌∷◌, ℕ, zero, suc, ◌+◌, ◌-◌, ◌<◌, length, arith, max, Result, Ok, Err, refl, sym, ap}
use Rattle.paper.specs.Code as code
use Rattle.paper.specs.Tree.{Statement, While}
use Rattle.paper.specs.Reader as reader
use Rattle.paper.specs.Reader.{Reading, Read, Bad, and_read, by_kind, word, unroll, block, event, event_kinds, statement, statement_kinds}
use Rattle.paper.specs.Used.{used_event, used_statement}
use Rattle.states.specs.declared.Refusal.{Refusal}
use Rattle.states.specs.Answers.{refusal}
use Rattle.words.specs.Words.{seen, itself}

-- ---- a word

module _ {s : Result (ℕ × ℕ) Refusal} (m : Reading ℕ) where
  pub is_word : {x i : ℕ} → s ≡ seen itself m → s ≡ Ok (i, x) → m ≡ Read x i
  unfolding seen
  is_word {x} {i} h e = go m h
    where
      go : (m : Reading ℕ) → s ≡ seen itself m → m ≡ Read x i
      go (Read y j) h =
          let q : ◌≡◌ {A = ℕ × ℕ} (i, x) (j, y) = cc in
          let place : i ≡ j = ap (λ (p : ℕ × ℕ). p.0) q in
          let same : x ≡ y = ap (λ (p : ℕ × ℕ). p.1) q in
          rw (place, same)
      go (Bad k p) h = let z : ◌≡◌ {A = ℕ} 0 1 = cc in absurd (omega arith)

  pub on_word : {B : Type 0} (to : B → ℕ) (f : ℕ → ℕ → Reading B) {x i : ℕ} {r : Result (ℕ × ℕ) Refusal} → s ≡ seen itself m → s ≡ Ok (i, x) → r ≡ seen to (f x i) → r ≡ seen to (and_read m f)
  unfolding and_read
  on_word to f h e g = rw (is_word h e) g

-- ---- flags

pub flag_set : (a : Bool) {x : ℕ} → code.flag a ≡ x → x ≡ 1 → a ≡ true
flag_set true h e = refl
flag_set false h e = absurd (omega arith)

pub flag_clear : (a : Bool) {x : ℕ} → code.flag a ≡ x → (x ≡ 1 → ⊥) → a ≡ false
flag_clear true h e = absurd (e (sym h))
flag_clear false h e = refl

-- ---- kinds

-- what the `_` of a match on 1, 2, .., k knows
unfoldable pub Other : ℕ → ℕ → Type 0
Other zero x = Unit {0}
Other (suc k) x = Other k x × (x ≡ suc k → ⊥)

pub above : (k x : ℕ) → Other k x → 0 < x → k < x
unfolding Other
above zero x o h = h
above (suc k) x o h =
    let a : k < x = above k x o.0 h in
    let b : x ≡ suc k → ⊥ = o.1 in
    omega arith

-- a kind that no reading has
pub no_kind : {A : Type 0} (kind : ℕ) (ms : List (ℕ → Reading A)) (other : ℕ → Reading A) (i : ℕ) → (0 < kind → length ms < kind) → by_kind kind ms other i ≡ other i
unfolding by_kind
no_kind kind [] other i h = refl
no_kind zero (m ∷ ms) other i h = refl
no_kind (suc zero) (m ∷ ms) other i h = absurd (omega (arith, h (omega arith)))
no_kind (suc (suc k)) (m ∷ ms) other i h = no_kind (suc k) ms other i (λ _. omega (arith, h (omega arith)))

-- an event, by the word at its start
module _ (ws : List ℕ) (n deep at d : ℕ) {s : Result (ℕ × ℕ) Refusal} (h : s ≡ seen itself (word ws at)) (j : deep ≡ suc d) {kind i : ℕ} (e : s ≡ Ok (i, kind)) where
  pub event_kind : (k : ℕ) {r : Result (ℕ × ℕ) Refusal} → kind ≡ k → r ≡ seen used_event (by_kind k (event_kinds ws n (event ws n d)) (λ j. Bad 3 at) i) → r ≡ seen used_event (event ws n deep at)
  unfolding event
  event_kind k q g = rw j (on_word (word ws at) _ _ h e (rw q g))

  pub event_no_kind : (0 < kind → 5 < kind) → Err (refusal 3 at) ≡ seen used_event (event ws n deep at)
  unfolding seen
  event_no_kind q = event_kind kind refl (ap (seen used_event) (sym (no_kind kind (event_kinds ws n (event ws n d)) (λ j. Bad 3 at) i q)))

-- a statement, by the word at its start
module _ (ws : List ℕ) (n deep loops at d : ℕ) {s : Result (ℕ × ℕ) Refusal} (h : s ≡ seen itself (word ws at)) (j : deep ≡ suc d) {kind i : ℕ} (e : s ≡ Ok (i, kind)) where
  pub statement_kind : (k : ℕ) {r : Result (ℕ × ℕ) Refusal} → kind ≡ k → r ≡ seen used_statement (by_kind k (statement_kinds ws n deep loops at (statement ws n d loops) (statement ws n d (loops - 1))) (λ j. Bad 3 at) i) → r ≡ seen used_statement (statement ws n deep loops at)
  unfolding statement
  statement_kind k q g = rw j (on_word (word ws at) _ _ h e (rw (q, ← j) g))

  pub statement_no_kind : (0 < kind → 7 < kind) → Err (refusal 3 at) ≡ seen used_statement (statement ws n deep loops at)
  unfolding seen
  statement_no_kind q = statement_kind kind refl (ap (seen used_statement) (sym (no_kind kind (statement_kinds ws n deep loops at (statement ws n d loops) (statement ws n d (loops - 1))) (λ j. Bad 3 at) i q)))

-- ---- loops

-- a loop's reading is what it holds, one after the other; an attribute on the code cannot name `while` itself
pub while_is : (ws : List ℕ) (n : ℕ) (one : ℕ → Reading Statement) (deep at : ℕ) → reader.while ws n one deep at ≡ and_read (unroll ws at) (λ u i. and_read (event ws n deep i) λ e j. and_read (block ws one j) λ b h. Read (While u e b) h)
unfolding reader.while
while_is ws n one deep at = refl

-- what is used so far, and what the rest uses
unfoldable pub raised : ℕ → Result (ℕ × ℕ) Refusal → Result (ℕ × ℕ) Refusal
raised top (Ok (i, u)) = Ok (i, max top u)
raised top (Err r) = Err r

-- while there is one to go, the rest is one less
pub one_less : (count i : ℕ) → i < count → count - i ≡ suc (count - (i + 1))
one_less count i h = omega arith
