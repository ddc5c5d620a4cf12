-- Laws of noted answers: going on with what a callee gave, or stopping at its refusal.
use mathlib.Core.Path.{◌≡◌, refl, sym, ap, ◌∙◌, subst}
use mathlib.Core.List.{List, [], ◌∷◌, ◌++◌, append-nil}
use Prim.Native.Nat.{ℕ}
use lib.ListN.{set}
use Rattle.std.specs.Prelude.{Result, Ok, Err, IsErrAnd}
use Rattle.states.specs.declared.Refusal.{Refusal}
use Rattle.states.specs.Answers.{Answer, Gives, Refuses, and_then, outcome, refusal}
use Rattle.paper.specs.Rules as rules
use Rattle.paper.specs.Trace.{after, mark}
use Rattle.analysis.specs.declared.LoopAnswer.{LoopAnswer}
use Rattle.analysis.specs.Outcomes.{answer_by, a_loop, looped}
use Rattle.analysis.specs.Noted.{Noted, plain, then_noted, from, ending, Says}

pub mark_append : (p q m : List ℕ) → mark (p ++ q) m ≡ mark q (mark p m)
unfolding mark
mark_append [] q m = refl
mark_append (at ∷ p) q m = mark_append p q (set m at 1)

-- what x answers from the marks m on, x₀ answers from m₀ on
pub record Leads {A : Type 0} (x₀ : Noted A) (m₀ : List ℕ) (x : Noted A) (m : List ℕ) : Type 0 where
  pub on : {a : Answer A} {m' : List ℕ} → Says x a m m' → Says x₀ a m₀ m'

pub leads_self : {A : Type 0} {x : Noted A} {m : List ℕ} → Leads x m x m
leads_self = record { on = λ s. s }

pub leads_then : {A : Type 0} {x y z : Noted A} {l m o : List ℕ} → Leads x l y m → Leads y m z o → Leads x l z o
leads_then p q = record { on = λ s. p.on (q.on s) }

-- the same answer by an equation
pub leads_by : {A : Type 0} {x y : Noted A} {m : List ℕ} → x ≡ y → Leads x m y m
leads_by {x = x} {m = m} e = subst (λ y. Leads x m y m) e leads_self

pub says_plain : {A : Type 0} (a : Answer A) (m : List ℕ) → Says (plain a) a m m
unfolding mark
says_plain a m = record { out = refl; marks = refl }

-- after an answer that no list was entered for
module _ {A B : Type 0} (a : Answer A) (f : A → Noted B) (m : List ℕ) where
  pub from_good : {x : A} → a ≡ Gives x → Leads (from a f) m (f x) m
  from_good {x} e = subst (λ (b : Answer A). Leads (from b f) m (f x) m) (sym e) leads_self

  pub from_refused : {number place : ℕ} → a ≡ Refuses number place → Says (from a f) (Refuses number place) m m
  from_refused {number} {place} e = subst (λ (b : Answer A). Says (from b f) (Refuses number place) m m) (sym e) (says_plain (Refuses number place) m)

-- after a callee, from the marks m to m₁
module _ {A B : Type 0} {x : Noted A} {m m₁ : List ℕ} where
  module _ (f : A → Noted B) where
    pub then_good : {v : A} → Says x (Gives v) m m₁ → Leads (then_noted x f) m (f v) m₁
    then_good {v} s = record {
      on = λ t. record {
        out = t.out ∙ ap (λ (b : Answer A). and_then b (λ y. (f y).answer)) s.out;
        marks =
            t.marks
            ∙ ap (mark (f v).places) s.marks
            ∙ sym (mark_append x.places (f v).places m)
            ∙ ap (λ (b : Answer A). mark (x.places ++ after b (λ y. (f y).places)) m) s.out;
      };
    }

    pub then_refused : {number place : ℕ} → Says x (Refuses number place) m m₁ → Says (then_noted x f) (Refuses number place) m m₁
    then_refused s = record {
      out = ap (λ (b : Answer A). and_then b (λ y. (f y).answer)) s.out;
      marks =
          s.marks
          ∙ ap (λ (l : List ℕ). mark l m) (sym (append-nil x.places))
          ∙ ap (λ (b : Answer A). mark (x.places ++ after b (λ y. (f y).places)) m) s.out;
    }

  module _ (f : A → Answer B) where
    pub ending_good : {v : A} → Says x (Gives v) m m₁ → Says (ending x f) (f v) m m₁
    ending_good s = record { out = ap (λ (b : Answer A). and_then b f) s.out; marks = s.marks }

    pub ending_refused : {number place : ℕ} → Says x (Refuses number place) m m₁ → Says (ending x f) (Refuses number place) m m₁
    ending_refused s = record { out = ap (λ (b : Answer A). and_then b f) s.out; marks = s.marks }

-- a refusal that the code hands on
pub stopped : {A C : Type 0} {x : Noted A} (f : C → A) (r : Result C Refusal) {d : Refusal} {m m₁ : List ℕ} → IsErrAnd r (λ y. y ≡ d) → Says x (Refuses d.number d.place) m m₁ → Says x (answer_by f r) m m₁
stopped f (Err y) e s = rw e s
stopped f (Ok y) e s = absurd e

-- what the code's result says of the rules' answer
pub answered_good : {A : Type 0} (a : Answer A) {x : A} → Ok x ≡ outcome a → a ≡ Gives x
answered_good (Gives y) e = cc
answered_good (Refuses number place) e = cc

pub answered_refused : {A : Type 0} (a : Answer A) {d : Refusal} → Err d ≡ outcome a → a ≡ Refuses d.number d.place
answered_refused (Gives y) e = cc
answered_refused (Refuses number place) {d} e = let same : d ≡ refusal number place = cc in rw same

pub looped_good : (a : Answer rules.Looped) {l : LoopAnswer} → Ok l ≡ looped a → a ≡ Gives (a_loop l)
looped_good (Gives x) {l} e = cc
looped_good (Refuses number place) e = cc

pub looped_refused : (a : Answer rules.Looped) {d : Refusal} → Err d ≡ looped a → a ≡ Refuses d.number d.place
looped_refused (Gives x) e = cc
looped_refused (Refuses number place) {d} e = let same : d ≡ refusal number place = cc in rw same
