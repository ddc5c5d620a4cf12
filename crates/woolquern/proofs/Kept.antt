-- The marks beside the line are those of the rules' trace, a byte for each word.
use Rattle.std.proofs.Common.{◌≡◌, refl, sym, ap, ◌∙◌, List, [], ◌∷◌, ℕ, zero, suc, ◌≤◌, length, take, replicate, arith}
use Rattle.std.proofs.Math.ListN.{set, length-set}
use Rattle.paper.specs.Trace.{mark}

-- marks behind the first k leave those as they are
take_mark : (k : ℕ) (places marks : List ℕ) → take k (mark places marks) ≡ mark places (take k marks)
unfolding mark
take_mark k [] marks = refl
take_mark k (at ∷ places) marks = take_mark k places (set marks at 1) ∙ ap (mark places) (take_set k at marks)
  where
    take_set : (k at : ℕ) (l : List ℕ) → take k (set l at 1) ≡ set (take k l) at 1
    take_set zero at l = refl
    take_set (suc k) at [] = refl
    take_set (suc k) zero (x ∷ l) = refl
    take_set (suc k) (suc at) (x ∷ l) = ap (λ (m : List ℕ). x ∷ m) (take_set k at l)

take_replicate : (k m : ℕ) → k ≤ m → take {A = ℕ} k (replicate m 0) ≡ replicate k 0
take_replicate zero m h = refl
take_replicate (suc k) zero h = absurd (omega arith)
take_replicate (suc k) (suc m) h = ap (λ (l : List ℕ). 0 ∷ l) (take_replicate k m (omega arith))

-- the marks of k words are the first k of 8,192
pub marks_kept : (places : List ℕ) (k : ℕ) → k ≤ 8192 → mark places (replicate k 0) ≡ take k (mark places (replicate 8192 0))
marks_kept places k h = sym (take_mark k places (replicate 8192 0) ∙ ap (mark places) (take_replicate k 8192 h))

-- a mark leaves as many
pub mark_length : (places marks : List ℕ) → length (mark places marks) ≡ length marks
unfolding mark
mark_length [] marks = refl
mark_length (at ∷ places) marks = mark_length places (set marks at 1) ∙ length-set marks at 1
