-- Bytes that were put into a buffer stand in it from their place on, and what is in front and behind is as it was.
use Rattle.std.proofs.Common.{◌≡◌, refl, sym, ap, ap₂, ◌∙◌, subst, Bool, true, false, cond, Option, Some, List, [], ◌∷◌, ◌++◌, ℕ, suc, ◌+◌, ◌≤◌, length, take, drop, length-append, arith}
use borrow.Rule.Slice.PartMut.{put_mid}
use lib.Dec.{ltb}
use lib.ListN.{set, take-append-drop}
use lib.Seq.{sets, length-sets, sets-eq, take_at, length-take-le}
use Rattle.std.proofs.lemmas.Slice.{take-put_mid, drop-put_mid}
use borrow.Author.Tests.{le-ltb}
use Rattle.states.specs.Answers.{Answer, Gives, Refuses}
use Rattle.text.specs.Answers.{Outcome, leaves, refused, done, of_printed}
use Rattle.text.specs.Draft.{Put}
use Rattle.text.specs.Line.{printed}

-- a part of so many bytes that is written over
pub put_part : (before bytes : List ℕ) (at k : ℕ) → at + length bytes ≤ length before → length bytes ≡ k → put_mid at k before bytes ≡ sets before at bytes
put_part before bytes at k h e =
    sym (take-append-drop (at + length bytes) (put_mid at k before bytes))
    ∙ ap₂ (λ (a b : List ℕ). a ++ b) (take-put_mid at k before bytes (at + length bytes) refl (omega arith)) (drop-put_mid at k before bytes (at + length bytes) (omega arith) (omega arith) e)
    ∙ sym (sets-eq bytes before at h)

-- what was there up to the place, and then the bytes
pub put_behind : {before after bytes : List ℕ} {at end : ℕ} → at + length bytes ≤ length before → Put before at bytes end after → take end after ≡ take at before ++ bytes
put_behind {before} {after} {bytes} {at} {end} h x =
    rw (x.draft, x.place, sets-eq bytes before at h)
    (take_at (take at before ++ bytes) (drop (at + length bytes) before) (at + length bytes) (omega (arith, length-append (take at before) bytes, length-take-le at before (omega arith))))

-- bytes put behind bytes
sets_append : (l : List ℕ) (i : ℕ) (a b : List ℕ) → sets (sets l i a) (i + length a) b ≡ sets l i (a ++ b)
sets_append l i [] b = let e : i + 0 ≡ i = omega arith in ap (λ (k : ℕ). sets l k b) e
sets_append l i (x ∷ a) b = let e : i + suc (length a) ≡ suc i + length a = omega arith in ap (λ (k : ℕ). sets (sets (set l i x) (suc i) a) k b) e ∙ sets_append (set l i x) (suc i) a b

-- nothing put
pub put_none : (d : List ℕ) (at : ℕ) → Put d at [] at d
put_none d at = record { place = omega arith; draft = refl }

-- one byte stored
pub put_one : (d : List ℕ) (at x : ℕ) → Put d at (x ∷ []) (at + 1) (set d at x)
put_one d at x = record { place = refl; draft = refl }

-- one after the other
pub and_then : {d e f a b : List ℕ} {at p q : ℕ} → Put d at a p e → Put e p b q f → Put d at (a ++ b) q f
and_then {d} {e} {f} {a} {b} {at} x y = record {
  place = omega (arith, x.place, y.place, length-append a b);
  draft = y.draft ∙ rw (x.draft, x.place) (sets_append d at a b);
}

-- a draft keeps its length
pub put_length : {d e a : List ℕ} {at p : ℕ} → Put d at a p e → length e ≡ length d
put_length {d} {e} {a} {at} x = ap length x.draft ∙ length-sets d at a

-- bytes put from the front stand there, and the rest is as it was
pub put_front : {d e : List ℕ} {p : ℕ} (s : List ℕ) → length s ≤ length d → Put d 0 s p e → e ≡ s ++ drop (length s) d
put_front {d} s h x = let e : 0 + length s ≡ length s = omega arith in x.draft ∙ sets-eq s d 0 (omega arith) ∙ ap (λ (k : ℕ). s ++ drop k d) e

pub put_taken : {d e : List ℕ} {p : ℕ} (s : List ℕ) → p ≤ length d → Put d 0 s p e → take p e ≡ s
put_taken {d} {e} {p} s h x = ap (take p) (put_front s (omega (arith, x.place)) x) ∙ take_at s (drop (length s) d) p (omega (arith, x.place))

-- so a line that fits is printed
pub put_printed : {out after bytes : List ℕ} {end : ℕ} → length bytes ≤ length out → Put out 0 bytes end after → leaves (Gives (length bytes)) after ≡ printed bytes out
put_printed {out} {bytes = bytes} h x = rw (le-ltb (length out) (length bytes) h) (ap (leaves (Gives (length bytes))) (put_front bytes h x))

-- what was written stands in the buffer
pub printed_fits : (bytes out : List ℕ) (r : Option ℕ) (after : List ℕ) {count : ℕ} → leaves (of_printed r) after ≡ printed bytes out → r ≡ Some count → count ≤ length after
printed_fits bytes out r after {count} e is = go (ltb (length out) (length bytes)) (subst (λ (q : Option ℕ). leaves (of_printed q) after ≡ printed bytes out) is e)
  where
    go : (b : Bool) → leaves (Gives count) after ≡ cond b (refused 2 0 out) (done bytes out) → count ≤ length after
    go true q = let a : ◌≡◌ {A = Answer ℕ} (Gives count) (Refuses 2 0) = ap (λ (o : Outcome). o.answer) q in let z : ◌≡◌ {A = ℕ} 0 1 = cc in absurd (omega arith)
    go false q =
        let a : ◌≡◌ {A = Answer ℕ} (Gives count) (Gives (length bytes)) = ap (λ (o : Outcome). o.answer) q in
        let k : count ≡ length bytes = cc in
        let l : length after ≡ length (bytes ++ drop (length bytes) out) = ap (λ (o : Outcome). length o.buffer) q in
        omega (arith, k, l, length-append bytes (drop (length bytes) out))
