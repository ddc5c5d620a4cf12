-- Laws of `Begins`: where a part of a program stands among the words.
use mathlib.Core.Path.{◌≡◌, ap, sym, ◌∙◌}
use mathlib.Core.List.{List, [], ◌∷◌, ◌++◌}
use Prim.Native.Nat.{ℕ, ◌+◌, ◌-◌, ◌<◌, ◌≤◌}
use native.Mathlib.Nat.{add-zero, le-add_right}
use native.Mathlib.Omega.{arith}
use lib.ListN.{length, get_or, take, drop, length-append, length-take, length-drop}
use lib.Seq.{take-take, take-append_seam, drop-append_seam, take-add, drop-drop, get_or-take, get_or-drop, take-length}
use Rattle.words.specs.Parts.{Begins}

-- a list stands whole at 0
pub begins_whole : {ws l : List ℕ} → ws ≡ l → Begins ws 0 l
begins_whole {ws} {l} e = record { taken = rw e (take-length l) }

-- the same place said in another way
pub begins_at : {ws l : List ℕ} {i j : ℕ} → i ≡ j → Begins ws i l → Begins ws j l
begins_at e h = rw e at h

module _ {ws : List ℕ} {at : ℕ} where
  -- what stands there fits
  pub begins_fits : {l : List ℕ} → Begins ws at l → length l ≤ length ws - at
  begins_fits {l} h =
      let e : length (take (length l) (drop at ws)) ≡ length l = ap length h.taken in
      let f = simp (length-take, length-drop) at e in
      omega arith

  -- the first of two lists stands there
  pub begins_left : (a b : List ℕ) → Begins ws at (a ++ b) → Begins ws at a
  begins_left a b h = record {
    taken =
        let le : length a ≤ length (a ++ b) = simp length-append (le-add_right (length a) (length b)) in
        sym (take-take (length a) (length (a ++ b)) (drop at ws) le) ∙ ap (take (length a)) h.taken ∙ take-append_seam a b;
  }

  -- the second stands after it
  pub begins_right : (a b : List ℕ) → Begins ws at (a ++ b) → Begins ws (at + length a) b
  begins_right a b h =
      let rest = drop at ws in
      let after = take (length b) (drop (length a) rest) in
      let left : take (length a) rest ≡ a = (begins_left a b h).taken in
      let whole : take (length a + length b) rest ≡ a ++ b = rw (← length-append a b) h.taken in
      let two : take (length a) rest ++ after ≡ a ++ b = sym (take-add (length a) (length b) rest) ∙ whole in
      let same : a ++ after ≡ a ++ b = rw left at two in
      record {
        taken =
            rw (← drop-drop (length a) at ws)
            (sym (drop-append_seam a after) ∙ ap (drop (length a)) same ∙ drop-append_seam a b);
      }

  -- its first word is the word there
  pub begins_head : {x : ℕ} {l : List ℕ} → Begins ws at (x ∷ l) → get_or ws at 0 ≡ x
  begins_head {x} {l} h =
      let e : take 1 (drop at ws) ≡ x ∷ [] = (begins_left (x ∷ []) l h).taken in
      let f : get_or (take 1 (drop at ws)) 0 0 ≡ x = rw e in
      let g : get_or (take 1 (drop at ws)) 0 0 ≡ get_or (drop at ws) 0 0 = get_or-take 1 (drop at ws) 0 0 (omega arith) in
      let k : get_or (drop at ws) 0 0 ≡ get_or ws (at + 0) 0 = get_or-drop at ws 0 0 in
      ap (λ (i : ℕ). get_or ws i 0) (sym (add-zero at)) ∙ sym k ∙ sym g ∙ f

  -- the rest stands after it
  pub begins_tail : {x : ℕ} {l : List ℕ} → Begins ws at (x ∷ l) → Begins ws (at + 1) l
  begins_tail {x} {l} h = begins_right (x ∷ []) l h

  -- a list with a word in it ends within the words
  pub begins_ends : {l : List ℕ} → Begins ws at l → 0 < length l → at + length l ≤ length ws
  begins_ends h k = omega (arith, begins_fits h)

-- a middle part of the words that begins there, and is as long, is that list
pub part_is : (k : ℕ) {ws l : List ℕ} {at : ℕ} → Begins ws at l → k ≡ length l → take k (drop at ws) ≡ l
part_is k h e = rw e h.taken
