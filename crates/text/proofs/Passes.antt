-- A pass over a text, turn by turn, and the outcome that each way of `read` leads to.
use mathlib.Core.Path.{◌≡◌, refl, sym, ap, ap₂, ◌∙◌, subst}
use mathlib.Core.Logic.{◌⊎◌, inl, inr}
use mathlib.Core.Bool.{Bool, true, false, cond}
use mathlib.Core.List.{List, [], ◌∷◌, ◌++◌, append-nil}
use Prim.Native.Nat.{ℕ, suc, ◌+◌, ◌≤◌, ◌<◌}
use native.Mathlib.Omega.{arith}
use native.Mathlib.Numerals.{add-one}
use lib.Dec.{ltb}
use lib.ListN.{length, take, drop, set, length-set, take-append-drop}
use lib.Seq.{take-suc-set, drop-set-lt, append_snoc}
use borrow.Author.Tests.{lt-ltb, le-ltb}
use Rattle.std.specs.Prelude.{Result, Ok, Err}
use Rattle.states.specs.declared.Refusal.{Refusal}
use Rattle.states.specs.Answers.{Gives, Refuses, refusal, answer_of}
use Rattle.text.specs.declared.reader.Mode.{Mode}
use Rattle.text.specs.declared.reader.Mode.TheVariants.{Start}
use Rattle.text.specs.declared.reader.Move.{Move}
use Rattle.text.specs.declared.reader.Move.TheVariants.{Stop, To, Push}
use Rattle.text.specs.Machine.{class_of, step, Contents, holds, breaks, later, push, whole, follow, contents, numbers_by, numbers, stored, found, put, FitsIn, settle, outcome}
use Rattle.text.specs.Answers.{leaves, refused, done}

-- ---- what a pass finds

-- what it answers after i bytes and n numbers, where the rest says r
abbrev pub resumed : ℕ → ℕ → Contents → Result ℕ Refusal
resumed i n (holds vs) = Ok (n + length vs)
resumed i n (breaks k) = Err (refusal 1 (i + k))

-- ---- what it stores

-- numbers that fit stand in front
stored_at : (vs w : List ℕ) (n : ℕ) → n + length vs ≤ length w → stored n vs w ≡ take n w ++ vs ++ drop (n + length vs) w
stored_at [] w n h =
    let e : n ≡ n + 0 = omega arith in
    sym (take-append-drop n w) ∙ ap₂ (λ (a b : List ℕ). a ++ b) (sym (append-nil (take n w))) (ap (λ (k : ℕ). drop k w) e)
stored_at (v ∷ vs) w n h =
    let e : n + 1 + length vs ≡ n + suc (length vs) = omega arith in
    let room : n + 1 + length vs ≤ length (set w n v) = rw length-set (omega arith) in
    stored_at vs (set w n v) (n + 1) room
    ∙ ap₂ (λ (a b : List ℕ). a ++ b)
    (ap (λ (l : List ℕ). l ++ vs) (ap (λ (k : ℕ). take k (set w n v)) (add-one n) ∙ take-suc-set w n v (omega arith)) ∙ append_snoc (take n w) v vs)
    (drop-set-lt (n + 1 + length vs) w n v (omega arith) ∙ ap (λ (k : ℕ). drop k w) e)

-- a text that holds numbers has them met: one byte, where that is so of the rest
module _ (t vs : List ℕ) (rest : (q : Mode) (ws : List ℕ) → contents t q ≡ holds ws → numbers t q ≡ ws) where
  held_later : (q : Mode) (x : Contents) → contents t q ≡ x → later x ≡ holds vs → numbers t q ≡ vs
  held_later q (holds ws) h k = let same : ws ≡ vs = cc in rest q ws h ∙ same
  held_later q (breaks j) h k = absurd cc

  held_push : (v : ℕ) (q : Mode) (x : Contents) → contents t q ≡ x → push v x ≡ holds vs → v ∷ numbers t q ≡ vs
  held_push v q (holds ws) h k = let same : v ∷ ws ≡ vs = cc in ap (λ (l : List ℕ). v ∷ l) (rest q ws h) ∙ same
  held_push v q (breaks j) h k = absurd cc

  held_by : (x : Move) → follow (contents t) x ≡ holds vs → numbers_by (numbers t) x ≡ vs
  held_by Stop h = absurd cc
  held_by (To q) h = held_later q (contents t q) refl h
  held_by (Push v q) h = held_push v q (contents t q) refl h

held_end : (b : Bool) (vs : List ℕ) → cond b (holds []) (breaks 0) ≡ holds vs → [] ≡ vs
held_end true vs e = cc
held_end false vs e = absurd cc

held : (t : List ℕ) (m : Mode) (vs : List ℕ) → contents t m ≡ holds vs → numbers t m ≡ vs
held [] m vs e = held_end (whole m) vs e
held (b ∷ t) m vs e = held_by t vs (λ q ws h. held t q ws h) (step m (class_of b) b) e

pub stored_put : (t w : List ℕ) → FitsIn (contents t Start) (length w) → stored 0 (numbers t Start) w ≡ put (contents t Start) w
stored_put t w h = go (contents t Start) refl h
  where
    go : (x : Contents) → contents t Start ≡ x → FitsIn x (length w) → stored 0 (numbers t Start) w ≡ put x w
    go (holds vs) e f =
        let k : 0 + length vs ≡ length vs = omega arith in
        ap (λ (l : List ℕ). stored 0 l w) (held t Start vs e) ∙ stored_at vs w 0 (omega arith) ∙ ap (λ (j : ℕ). vs ++ drop j w) k
    go (breaks j) e f = absurd f

-- ---- a pass

-- what holds of the words w and of where a pass is, w₀ being the words at the start
pub record Passing (t w₀ w : List ℕ) (m : Mode) (n i : ℕ) : Type 0 where
  pub count : n ≤ i
  pub same : length w ≡ length w₀
  pub finds : found (contents t Start) ≡ resumed i n (contents (drop i t) m)
  pub stores : stored 0 (numbers t Start) w₀ ≡ stored n (numbers (drop i t) m) w

-- ---- what each way of `read` leads to

pub too_long : (t w : List ℕ) → 65536 < length t → outcome t w ≡ refused 2 0 w
too_long t w h = rw (lt-ltb _ _ h)

pub not_long : (t w : List ℕ) → length t ≤ 65536 → outcome t w ≡ settle w (contents t Start)
not_long t w h = rw (le-ltb _ _ h)

pub settle_over : (w vs : List ℕ) → (8192 < length vs) ⊎ (length w < length vs) → settle w (holds vs) ≡ refused 2 0 w
settle_over w vs (inl h) = rw (lt-ltb 8192 (length vs) h)
settle_over w vs (inr h) = go (ltb 8192 (length vs))
  where
    go : (x : Bool) → cond x (refused 2 0 w) (cond (ltb (length w) (length vs)) (refused 2 0 w) (done vs w)) ≡ refused 2 0 w
    go true = refl
    go false = rw (lt-ltb (length w) (length vs) h)

pub settle_done : (w vs : List ℕ) → length vs ≤ 8192 → length vs ≤ length w → settle w (holds vs) ≡ done vs w
settle_done w vs h l = rw (le-ltb 8192 (length vs) h, le-ltb (length w) (length vs) l)

settle_breaks : (w : List ℕ) (x : Contents) (r : Refusal) → Err r ≡ found x → settle w x ≡ leaves (Refuses r.number r.place) w
settle_breaks w (holds vs) r e = absurd cc
settle_breaks w (breaks k) r e = let p : r ≡ refusal 1 k = cc in rw p

settle_many : (w : List ℕ) (x : Contents) (n : ℕ) → Ok n ≡ found x → (8192 < n) ⊎ (length w < n) → settle w x ≡ refused 2 0 w
settle_many w (holds vs) n e h = let p : n ≡ length vs = cc in settle_over w vs (subst (λ (k : ℕ). (8192 < k) ⊎ (length w < k)) p h)
settle_many w (breaks k) n e h = absurd cc

settle_read : (w : List ℕ) (x : Contents) (n : ℕ) → Ok n ≡ found x → n ≤ 8192 → n ≤ length w → settle w x ≡ leaves (Gives n) (put x w)
settle_read w (holds vs) n e h l = let p : n ≡ length vs = cc in rw p (settle_done w vs (omega arith) (omega arith))
settle_read w (breaks k) n e h l = absurd cc

found_fits : (x : Contents) (n l : ℕ) → Ok n ≡ found x → n ≤ l → FitsIn x l
found_fits (holds vs) n l e h = let p : n ≡ length vs = cc in omega arith
found_fits (breaks k) n l e h = absurd cc

module _ (t w : List ℕ) (s : length t ≤ 65536) where
  pub left_breaks : (r : Refusal) → Err r ≡ found (contents t Start) → leaves (answer_of (Err r)) w ≡ outcome t w
  left_breaks r e = sym (not_long t w s ∙ settle_breaks w (contents t Start) r e)

  pub left_many : (n : ℕ) → Ok n ≡ found (contents t Start) → (8192 < n) ⊎ (length w < n) → refused 2 0 w ≡ outcome t w
  left_many n e h = sym (not_long t w s ∙ settle_many w (contents t Start) n e h)

  -- the words are those that a pass leaves
  pub left_stored : (n : ℕ) (r : Result ℕ Refusal) (x : List ℕ) → Ok n ≡ found (contents t Start) → n ≤ 8192 → n ≤ length w → r ≡ found (contents t Start) → x ≡ stored 0 (numbers t Start) w
      → leaves (answer_of r) x ≡ outcome t w
  left_stored n r x e h l q p =
      rw (q ∙ sym e, p ∙ stored_put t w (found_fits (contents t Start) n (length w) e l)) (sym (not_long t w s ∙ settle_read w (contents t Start) n e h l))
