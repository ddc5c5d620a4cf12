-- A line determines its answer: a number ends where a byte that is no digit begins, and each range ends with a byte of its own.
use mathlib.Core.Path.{◌≡◌, refl, sym, ap, ap₂, ◌∙◌, subst}
use mathlib.Core.Bool.{Bool, true, false, cond, ◌&&◌, false≢true}
use mathlib.Core.List.{List, [], ◌∷◌, ◌++◌, map, append_assoc, head-eq_of_cons-eq, tail-eq_of_cons-eq}
use Rattle.std.specs.Prelude.{Option, Some, None}
use Prim.Native.Nat.{ℕ, ◌+◌, ◌*◌, ◌-◌, ◌≤◌, ◌<◌}
use native.Mathlib.Omega.{arith}
use lib.Dec.{leb, eqb}
use lib.ListN.{get_or, take, get_or-map}
use lib.Seq.{get_or-take}
use borrow.Author.Tests.{le-leb, eqb-true}
use Rattle.ranges.specs.declared.Range.{Range}
use Rattle.ranges.specs.declared.Range.TheVariants.{Empty, Span}
use Rattle.ranges.specs.Ranges.{point}
use Rattle.states.specs.declared.Cell.{Cell}
use Rattle.states.specs.declared.State.{State}
use Rattle.states.specs.Answers.{Answer, Gives, Refuses, outcome, answer_of}
use Rattle.states.specs.States as states
use Rattle.states.specs.States.{Fit}
use Rattle.states.proofs.Fits.{alike}
use Rattle.text.specs.Grammar.{digit_is, both, left, right, Many, none, next, DIGIT, Int, decimal}
use Rattle.text.specs.Line.{ascii, digits, to_end, range, further, joined, cell, refusal, line}
use Rattle.text.specs.Tells.{Told, refuses, nothing, ranges, ranges_of, told}
use Rattle.text.proofs.Digits.{writes}

-- ---- numbers: digits read from the front, and what is left behind them

abbrev is_digit : ℕ → Bool
is_digit c = leb 0x30 c && leb c 0x39

abbrev value_of : ℕ → List ℕ → ℕ
value_of n [] = n
value_of n (c ∷ s) = cond (is_digit c) (value_of (n * 10 + (c - 0x30)) s) n

abbrev rest_of : List ℕ → List ℕ
rest_of [] = []
rest_of (c ∷ s) = cond (is_digit c) (rest_of s) (c ∷ s)

-- bytes that do not begin with a digit
record Stops (s : List ℕ) : Type 0 where
  value : (n : ℕ) → value_of n s ≡ n
  rest : rest_of s ≡ s

-- digits in front of t are read off
record Reads (n m : ℕ) (s t : List ℕ) : Type 0 where
  value : value_of n s ≡ value_of m t
  rest : rest_of s ≡ rest_of t

reads_many : {s ds : List ℕ} (n : ℕ) (t : List ℕ) → Many DIGIT s ds → Reads n (decimal n ds) (s ++ t) t
reads_many n t none = record { value = refl; rest = refl }
reads_many n t (next (digit_is {c} lo hi) q) =
    let r = reads_many (n * 10 + (c - 0x30)) t q in
    record { value = rw (le-leb 0x30 c lo, le-leb c 0x39 hi) r.value; rest = rw (le-leb 0x30 c lo, le-leb c 0x39 hi) r.rest }

int_many : {s ds : List ℕ} → Int s ds → Many DIGIT s ds
int_many (left (digit_is {c} lo hi)) = next (digit_is {c = c} lo (omega arith)) none
int_many (right (both (digit_is {c} lo hi) q)) = next (digit_is {c = c} (omega arith) hi) q

reads_digits : (x : ℕ) (t : List ℕ) → Reads 0 x (digits x ++ t) t
reads_digits x t = let w = writes x in subst (λ (m : ℕ). Reads 0 m (digits x ++ t) t) w.value (reads_many 0 t (int_many w.fits))

-- a number that no digit follows is told from what is printed, and so is what follows
digits_once : (x y : ℕ) (t u : List ℕ) → Stops t → Stops u → digits x ++ t ≡ digits y ++ u → (x ≡ y) × (t ≡ u)
digits_once x y t u p q e =
    let a = reads_digits x t in
    let b = reads_digits y u in (
      sym (a.value ∙ p.value x) ∙ ap (value_of 0) e ∙ b.value ∙ q.value y,
      sym (a.rest ∙ p.rest) ∙ ap rest_of e ∙ b.rest ∙ q.rest,
    )

-- ---- ranges

end_stops : (start : ℕ) (end : Option ℕ) (t : List ℕ) → Stops (to_end start end ++ t)
unfolding to_end
end_stops start None t = record { value = λ n. refl; rest = refl }
end_stops start (Some end) t = go (eqb start end)
  where
    go : (same : Bool) → Stops (cond same (ascii "}") (ascii ", ..., " ++ digits end ++ ascii "}") ++ t)
    go true = record { value = λ n. refl; rest = refl }
    go false = record { value = λ n. refl; rest = refl }

-- what stands behind a start whose end is a number, the start or another
abbrev closing : Bool → ℕ → List ℕ
closing same end = cond same (ascii "}") (ascii ", ..., " ++ digits end ++ ascii "}")

open_once : (same : Bool) (end : ℕ) (t u : List ℕ) → ascii ", ...}" ++ t ≡ closing same end ++ u → ⊥
open_once true end t u h = let z : ◌≡◌ {A = ℕ} 0x2C 0x7D = head-eq_of_cons-eq h in omega arith
open_once false end t u h = let z : ◌≡◌ {A = ℕ} 0x7D 0x2C = cc in omega arith

closing_once : (b c : Bool) (start x y : ℕ) → eqb start x ≡ b → eqb start y ≡ c → (t u : List ℕ) → closing b x ++ t ≡ closing c y ++ u → (x ≡ y) × (t ≡ u)
closing_once true true start x y p q t u h = (sym (eqb-true start x p) ∙ eqb-true start y q, tail-eq_of_cons-eq h)
closing_once true false start x y p q t u h = let z : ◌≡◌ {A = ℕ} 0x7D 0x2C = head-eq_of_cons-eq h in absurd (omega arith)
closing_once false true start x y p q t u h = let z : ◌≡◌ {A = ℕ} 0x2C 0x7D = head-eq_of_cons-eq h in absurd (omega arith)
closing_once false false start x y p q t u h =
    let k : digits x ++ ascii "}" ++ t ≡ digits y ++ ascii "}" ++ u = cc in
    let r = digits_once x y (ascii "}" ++ t) (ascii "}" ++ u) (record { value = λ n. refl; rest = refl }) (record { value = λ n. refl; rest = refl }) (sym (append_assoc (digits x) (ascii "}") t) ∙ k ∙ append_assoc (digits y) (ascii "}") u) in
    (r.0, tail-eq_of_cons-eq r.1)

end_once : (start : ℕ) (e f : Option ℕ) (t u : List ℕ) → to_end start e ++ t ≡ to_end start f ++ u → (e ≡ f) × (t ≡ u)
unfolding to_end
end_once start None None t u h = (refl, cc)
end_once start None (Some y) t u h = absurd (open_once (eqb start y) y t u h)
end_once start (Some x) None t u h = absurd (open_once (eqb start x) x u t (sym h))
end_once start (Some x) (Some y) t u h = let r = closing_once (eqb start x) (eqb start y) start x y refl refl t u h in (ap Some r.0, r.1)

-- a range is told from what is printed, and so is what follows
range_once : (r q : Range) (t u : List ℕ) → range r ++ t ≡ range q ++ u → (r ≡ q) × (t ≡ u)
unfolding range
range_once Empty Empty t u h = (refl, cc)
range_once Empty (Span b f) t u h = let z : ◌≡◌ {A = ℕ} 0xE2 0x7B = head-eq_of_cons-eq h in absurd (omega arith)
range_once (Span a e) Empty t u h = let z : ◌≡◌ {A = ℕ} 0x7B 0xE2 = head-eq_of_cons-eq h in absurd (omega arith)
range_once (Span a e) (Span b f) t u h =
    let k : digits a ++ to_end a e ++ t ≡ digits b ++ to_end b f ++ u = tail-eq_of_cons-eq h in
    let r = digits_once a b (to_end a e ++ t) (to_end b f ++ u) (end_stops a e t) (end_stops b f u) (sym (append_assoc (digits a) (to_end a e) t) ∙ k ∙ append_assoc (digits b) (to_end b f) u) in
    let s = end_once a e f t u (r.1 ∙ ap (λ (x : ℕ). to_end x f ++ u) (sym r.0)) in
    (ap₂ Span r.0 s.0, s.1)

further_once : (rs qs : List Range) → further (map range rs) ++ ascii "\n" ≡ further (map range qs) ++ ascii "\n" → rs ≡ qs
unfolding further
further_once [] [] h = refl
further_once [] (q ∷ qs) h = let z : ◌≡◌ {A = ℕ} 0x0A 0x2C = head-eq_of_cons-eq h in absurd (omega arith)
further_once (r ∷ rs) [] h = let z : ◌≡◌ {A = ℕ} 0x2C 0x0A = head-eq_of_cons-eq h in absurd (omega arith)
further_once (r ∷ rs) (q ∷ qs) h =
    let k : range r ++ further (map range rs) ++ ascii "\n" ≡ range q ++ further (map range qs) ++ ascii "\n" = tail-eq_of_cons-eq (tail-eq_of_cons-eq h) in
    let s = range_once r q (further (map range rs) ++ ascii "\n") (further (map range qs) ++ ascii "\n") (sym (append_assoc (range r) (further (map range rs)) (ascii "\n")) ∙ k ∙ append_assoc (range q) (further (map range qs)) (ascii "\n")) in
    ap₂ (λ (x : Range) (l : List Range). x ∷ l) s.0 (further_once rs qs s.1)

-- ---- whole lines

abbrev printing : Told → List ℕ
printing (refuses number place) = refusal number place ++ ascii "\n"
printing nothing = ascii "empty\n"
printing (ranges rs) = joined (map range rs) ++ ascii "\n"

map_cells : (cs : List Cell) → map cell cs ≡ map range (map (λ c. c.range) cs)
map_cells [] = refl
map_cells (c ∷ cs) = ap (λ (l : List (List ℕ)). range c.range ∷ l) (map_cells cs)

line_printing : (n : ℕ) (a : Answer State) → line n a ≡ printing (told n a)
line_printing n (Refuses number place) = refl
line_printing n (Gives s) = go (states.is_live s)
  where
    go : (b : Bool) → cond b (joined (map cell (take n (states.cells s)))) (ascii "empty") ++ ascii "\n" ≡ printing (cond b (ranges (ranges_of n s)) nothing)
    go true = ap (λ (l : List (List ℕ)). joined l ++ ascii "\n") (map_cells (take n (states.cells s)))
    go false = refl

-- a line of ranges begins with `{` or a byte over it, and so with no letter
range_begins : (r : Range) (rs : List Range) {c : ℕ} {s : List ℕ} → c ∷ s ≡ printing (ranges (r ∷ rs)) → 0x7B ≤ c
unfolding range joined
range_begins Empty rs h = omega (arith, head-eq_of_cons-eq h)
range_begins (Span a e) rs h = omega (arith, head-eq_of_cons-eq h)

no_letter : (rs : List Range) {c : ℕ} {s : List ℕ} → 0x61 ≤ c → c ≤ 0x7A → c ∷ s ≡ printing (ranges rs) → ⊥
unfolding joined
no_letter [] lo hi h = omega (arith, head-eq_of_cons-eq h)
no_letter (r ∷ rs) lo hi h = omega (arith, range_begins r rs h)

joined_once : (rs qs : List Range) → printing (ranges rs) ≡ printing (ranges qs) → rs ≡ qs
unfolding further joined
joined_once [] [] h = refl
joined_once [] (q ∷ qs) h = absurd (omega (arith, range_begins q qs h))
joined_once (r ∷ rs) [] h = absurd (omega (arith, range_begins r rs (sym h)))
joined_once (r ∷ rs) (q ∷ qs) h = further_once (r ∷ rs) (q ∷ qs) (ap (λ (l : List ℕ). ascii ", " ++ l) h)

printing_once : (a b : Told) → printing a ≡ printing b → a ≡ b
printing_once (refuses x p) (refuses y q) h =
    let k : digits x ++ ascii " at " ++ digits p ++ ascii "\n" ≡ digits y ++ ascii " at " ++ digits q ++ ascii "\n" = cc in
    let r = digits_once x y (ascii " at " ++ digits p ++ ascii "\n") (ascii " at " ++ digits q ++ ascii "\n") (record { value = λ n. refl; rest = refl }) (record { value = λ n. refl; rest = refl }) (simp append_assoc at k) in
    let l : digits p ++ ascii "\n" ≡ digits q ++ ascii "\n" = cc r.1 in
    let s = digits_once p q (ascii "\n") (ascii "\n") (record { value = λ n. refl; rest = refl }) (record { value = λ n. refl; rest = refl }) l in
    ap₂ refuses r.0 s.0
printing_once (refuses x p) nothing h = let z : ◌≡◌ {A = ℕ} 0x72 0x65 = head-eq_of_cons-eq h in absurd (omega arith)
printing_once (refuses x p) (ranges qs) h = absurd (no_letter qs (omega arith) (omega arith) h)
printing_once nothing (refuses y q) h = let z : ◌≡◌ {A = ℕ} 0x65 0x72 = head-eq_of_cons-eq h in absurd (omega arith)
printing_once nothing nothing h = refl
printing_once nothing (ranges qs) h = absurd (no_letter qs (omega arith) (omega arith) h)
printing_once (ranges rs) (refuses y q) h = absurd (no_letter rs (omega arith) (omega arith) (sym h))
printing_once (ranges rs) nothing h = absurd (no_letter rs (omega arith) (omega arith) (sym h))
printing_once (ranges rs) (ranges qs) h = ap ranges (joined_once rs qs h)

-- two answers with the same line are the same refusal, or both empty states, or states of the same ranges
pub line_told : (n : ℕ) (a b : Answer State) → line n a ≡ line n b → told n a ≡ told n b
line_told n a b h = printing_once (told n a) (told n b) (sym (line_printing n a) ∙ h ∙ line_printing n b)

-- ---- states

told_once : (b c : Bool) (rs qs : List Range) → cond b (ranges rs) nothing ≡ cond c (ranges qs) nothing → (b ≡ c) × (b ≡ true → rs ≡ qs)
told_once true true rs qs h = (refl, λ _. cc)
told_once true false rs qs h = absurd cc
told_once false true rs qs h = absurd cc
told_once false false rs qs h = (refl, λ e. absurd (false≢true e))

get_of : (n v : ℕ) (s : State) → v < n → get_or (ranges_of n s) v (point 0) ≡ states.get s v
get_of n v s h = get_or-map (λ c. c.range) (take n (states.cells s)) v (states.cell (point 0)) ∙ ap (λ (c : Cell). c.range) (get_or-take n (states.cells s) v (states.cell (point 0)) h)

-- the line of a state determines whether it is empty, and the range of each variable
pub line_ranges : (n : ℕ) (s t : State) → line n (Gives s) ≡ line n (Gives t) → (states.is_live s ≡ states.is_live t) × (states.is_live s ≡ true → (v : ℕ) → v < n → states.get s v ≡ states.get t v)
line_ranges n s t h =
    let r = told_once (states.is_live s) (states.is_live t) (ranges_of n s) (ranges_of n t) (line_told n (Gives s) (Gives t) h) in
    (r.0, λ l v k. sym (get_of n v s k) ∙ ap (λ (rs : List Range). get_or rs v (point 0)) (r.1 l) ∙ get_of n v t k)

-- two different states of n variables print different lines
pub line_state : (n : ℕ) (s t : State) → Fit n s → Fit n t → line n (Gives s) ≡ line n (Gives t) → s ≡ t
line_state n s t f g h = let r = line_ranges n s t h in alike n s t f g r.0 r.1

-- an answer as the code has it is printed as that answer
pub of_outcome : (a : Answer State) → answer_of (outcome a) ≡ a
of_outcome (Gives s) = refl
of_outcome (Refuses number place) = refl
