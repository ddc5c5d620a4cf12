-- What going over the lines of a list uses.
use Rattle.std.proofs.Common.{◌≡◌, refl, sym, ap, ◌∙◌, subst, Bool, true, false, cond, ◌==◌, Option, Some, None, List, ◌++◌, ℕ, ◌+◌, ◌-◌, ◌≤◌, ◌<◌, length, take, drop, get_or, get_or-drop, get_or-take, length-take-le, length-drop, arith}
use borrow.Author.Tests.{ltb-true, ltb-false, eqb-true, eqb-false}
use lib.Dec.{eqb, ltb}
use lib.Seq.{take-append_seam}
use Rattle.std.specs.List.{position, position_or_len}
use Rattle.std.proofs.lemmas.List.Quantifiers.{position-Some}
use Rattle.std.proofs.lemmas.List.Sums.{fails_before_first}
use Rattle.std.specs.Bool.{Decides}
use Rattle.std.specs.Cmp.Lexicographic.{pointwise}
use Rattle.std.proofs.lemmas.Bool.Decides.{Decides-eqb}
use Rattle.std.proofs.lemmas.Slice.Eq.{slice_eq-Decides}
use Rattle.states.specs.Answers.{Answer, Gives, Refuses}
use Rattle.text.specs.Answers.{Outcome, leaves, of_printed, refused, done}
use Rattle.text.specs.Line.{printed}
use Rattle.replay.specs.Records.{Unbroken, Line, Prints, Record, Replayed, begin, agrees, differs, next, part}

-- One byte more that is no line feed.
pub one_further : (list : List ℕ) (from at : ℕ) → Unbroken list from at → (get_or list at 0 ≡ 0x0A → ⊥) → Unbroken list from (at + 1)
one_further list from at before here i low high is = by_test (ltb i at) refl
  where
    by_test : (b : Bool) → ltb i at ≡ b → ⊥
    by_test true e = before i low (ltb-true i at e) is
    by_test false e =
        let same : i ≡ at = omega (arith, ltb-false i at e) in
        here (rw (← same) is)

-- A line ends at the first line feed from where it begins on, or with the list.
module _ (list : List ℕ) (from : ℕ) (h : from ≤ length list) where
  -- the bytes from there on
  rest : List ℕ
  rest = part list from (length list)

  long : length rest ≡ length list - from
  unfolding rest
  long = length-take-le (length list - from) (drop from list) (omega (arith, length-drop from list))

  at : (k : ℕ) → k < length rest → get_or rest k 0 ≡ get_or list (from + k) 0
  unfolding rest
  at k low = get_or-take (length list - from) (drop from list) k 0 (omega (arith, long)) ∙ get_or-drop from list k 0

  unbroken : (to : ℕ) → ((k : ℕ) → k < to - from → eqb (get_or rest k 0) 0x0A ≡ false) → to ≤ length list → Unbroken list from to
  unbroken to none within i low high is =
      let there : from + (i - from) ≡ i = omega arith in
      eqb-false (get_or rest (i - from) 0) 0x0A (none (i - from) (omega arith)) (at (i - from) (omega (arith, long)) ∙ ap (λ k. get_or list k 0) there ∙ is)

  pub line_found : (n : ℕ) → position (λ b. b == 0x0A) (part list from (length list)) ≡ Some n → Line list from (from + n)
  unfolding rest
  line_found n e =
      let p = position-Some (λ b. b == 0x0A) rest n 0 e in
      record {
        begins = omega arith;
        within = omega (arith, long, p.0);
        inside = unbroken (from + n) (λ k low. p.2 k (omega arith)) (omega (arith, long, p.0));
        ends = λ _. sym (at n p.0) ∙ eqb-true (get_or rest n 0) 0x0A p.1;
      }

  pub line_last : position (λ b. b == 0x0A) (part list from (length list)) ≡ None → Line list from (length list)
  unfolding rest
  line_last e = record { begins = h; within = omega arith; inside = unbroken (length list) none (omega arith); ends = λ low. absurd (omega arith) }
    where
      feed : ℕ
      feed = position_or_len (λ b. b == 0x0A) rest

      past : (b : Bool) → ltb feed (length rest) ≡ b → cond b (Some feed) None ≡ None → length rest ≤ feed
      past true q e = absurd cc
      past false q e = ltb-false feed (length rest) q

      none : (k : ℕ) → k < length list - from → eqb (get_or rest k 0) 0x0A ≡ false
      none k low = let all = past (ltb feed (length rest)) refl e in fails_before_first (λ b. b == 0x0A) rest k 0 (omega (arith, long))

-- The place after a line: beyond where the line begins, unless the list ends there, and not beyond the list.
record Follows (list : List ℕ) (from to : ℕ) : Type 0 where
  above : from < length list → from < to
  not_below : from ≤ to
  within : to ≤ length list

follows : (list : List ℕ) (from end to : ℕ) → Line list from end → to ≡ next list end → Follows list from to
follows list from end to line is = by_test (ltb end (length list)) refl
  where
    by_test : (b : Bool) → ltb end (length list) ≡ b → Follows list from to
    by_test true e =
        let one : to ≡ end + 1 = cc (ap (λ (b : Bool). cond b (end + 1) end) e) in
        record { above = λ _. omega arith; not_below = omega arith; within = omega (arith, ltb-true end (length list) e) }
    by_test false e =
        let none : to ≡ end = cc (ap (λ (b : Bool). cond b (end + 1) end) e) in
        record { above = λ low. omega (arith, ltb-false end (length list) e); not_below = omega arith; within = omega arith }

-- The records before `at` were replayed, of which there is at most one for each byte.
pub record Passed (list : List ℕ) (at agree differ : ℕ) : Type 0 where
  pub within : at ≤ length list
  pub few : agree + differ ≤ at
  pub records : Replayed list at agree differ

pub none_passed : (list : List ℕ) → Passed list 0 0 0
none_passed list = record { within = omega arith; few = omega arith; records = begin }

-- One more, of two lines.
module _ (list : List ℕ) {at text_end line line_end then agree differ : ℕ} (p : Passed list at agree differ) (there : at < length list)
    (first : Line list at text_end) (is_line : line ≡ next list text_end) (second : Line list line line_end) (is_then : then ≡ next list line_end) where
  recorded : Record list at (part list at text_end) (part list line then) then
  recorded =
      record {
        text_end = text_end;
        line_end = line_end;
        there = there;
        first = first;
        second = rw is_line at second;
        is_text = refl;
        is_line = cc;
        is_then = is_then;
      }

  pub one_agrees : Prints (part list at text_end) (part list line then) → Passed list then (agree + 1) differ
  one_agrees h =
      let l = follows list at text_end line first is_line in
      let t = follows list line line_end then second is_then in
      record { within = t.within; few = omega (arith, l.above there, t.not_below, p.few); records = agrees p.records recorded h }

  pub one_differs : (Prints (part list at text_end) (part list line then) → ⊥) → Passed list then agree (differ + 1)
  one_differs h =
      let l = follows list at text_end line first is_line in
      let t = follows list line line_end then second is_then in
      record { within = t.within; few = omega (arith, l.above there, t.not_below, p.few); records = differs p.records recorded h }

-- What was written is the line.
wrote : (bytes out : List ℕ) (r : Option ℕ) (after : List ℕ) {count : ℕ} → leaves (of_printed r) after ≡ printed bytes out → r ≡ Some count → take count after ≡ bytes
wrote bytes out r after {count} e is = go (ltb (length out) (length bytes)) (subst (λ (q : Option ℕ). leaves (of_printed q) after ≡ printed bytes out) is e)
  where
    go : (b : Bool) → leaves (Gives count) after ≡ cond b (refused 2 0 out) (done bytes out) → take count after ≡ bytes
    go true q = let a : ◌≡◌ {A = Answer ℕ} (Gives count) (Refuses 2 0) = ap (λ (o : Outcome). o.answer) q in let z : ◌≡◌ {A = ℕ} 0 1 = cc in absurd (omega arith)
    go false q =
        let a : ◌≡◌ {A = Answer ℕ} (Gives count) (Gives (length bytes)) = ap (λ (o : Outcome). o.answer) q in
        let k : count ≡ length bytes = cc in
        let l : after ≡ bytes ++ drop (length bytes) out = ap (λ (o : Outcome). o.buffer) q in
        rw (k, l) (take-append_seam bytes (drop (length bytes) out))

-- To compare with what was written is to compare with the line.
pub compares : (bytes out line : List ℕ) (r : Option ℕ) (after : List ℕ) {count : ℕ} (same : Bool) → leaves (of_printed r) after ≡ printed bytes out → r ≡ Some count → same ≡ pointwise eqb (take count after) line → Decides same (bytes ≡ line)
compares bytes out line r after {count} same e is test = rw (wrote bytes out r after e is) at (slice_eq-Decides Decides-eqb (take count after) line same test)
