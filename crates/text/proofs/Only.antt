-- No two answers satisfy the contract of `read`, nor that of `line`.
use mathlib.Core.Path.{◌≡◌, refl, sym, ap, ap₂, ◌∙◌}
use mathlib.Core.List.{List}
use Prim.Native.Nat.{ℕ}
use Rattle.states.specs.declared.State.{State}
use Rattle.std.specs.Prelude.{Option, Some, None, Result, Ok, Err}
use Rattle.states.specs.declared.Refusal.{Refusal}
use Rattle.states.specs.Answers.{answer_of, refusal}
use Rattle.text.specs.Answers.{of_printed, Outcome, leaves}
use Rattle.text.specs.Says.{Says}
use Rattle.text.specs.Line as lines
use Rattle.text.proofs.Agree.{only}

-- an answer of the code is known by its answer in document 01's terms
pub reading_once : (r q : Result ℕ Refusal) → answer_of r ≡ answer_of q → r ≡ q
reading_once (Ok n) (Ok m) e = cc
reading_once (Ok n) (Err y) e = cc
reading_once (Err x) (Ok m) e = cc
reading_once (Err x) (Err y) e =
    let number : x.number ≡ y.number = cc in
    let place : x.place ≡ y.place = cc in
    ap₂ (λ (n p : ℕ). Err (refusal n p)) number place

pub printed_once : (r q : Option ℕ) → of_printed r ≡ of_printed q → r ≡ q
printed_once (Some n) (Some m) e = cc
printed_once (Some n) None e = cc
printed_once None (Some m) e = cc
printed_once None None e = refl

pub read : (text words : List ℕ) (r q : Result ℕ Refusal) (x y : List ℕ) → Says text words (leaves (answer_of r) x) → Says text words (leaves (answer_of q) y) → (r ≡ q) × (x ≡ y)
read text words r q x y a b =
    let e : leaves (answer_of r) x ≡ leaves (answer_of q) y = only text words _ a ∙ sym (only text words _ b) in
    (reading_once r q (ap (λ (o : Outcome). o.answer) e), ap (λ (o : Outcome). o.buffer) e)

-- what a printing leaves determines its answer and the buffer
pub printing : (o : Outcome) (r q : Option ℕ) (x y : List ℕ) → leaves (of_printed r) x ≡ o → leaves (of_printed q) y ≡ o → (r ≡ q) × (x ≡ y)
printing o r q x y a b =
    let e : leaves (of_printed r) x ≡ leaves (of_printed q) y = a ∙ sym b in
    (printed_once r q (ap (λ (o : Outcome). o.answer) e), ap (λ (o : Outcome). o.buffer) e)

pub line : (answer : Result State Refusal) (n : ℕ) (out : List ℕ) (r q : Option ℕ) (x y : List ℕ) →
    leaves (of_printed r) x ≡ lines.printed (lines.line n (answer_of answer)) out → leaves (of_printed q) y ≡ lines.printed (lines.line n (answer_of answer)) out → (r ≡ q) × (x ≡ y)
line answer n out r q x y a b = printing (lines.printed (lines.line n (answer_of answer)) out) r q x y a b
