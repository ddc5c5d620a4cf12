-- One law for each way that the code of normalize goes.
use mathlib.Core.Path.{◌≡◌, refl, sym, ap, subst, ◌∙◌}
use mathlib.Core.Bool.{Bool, true, false, cond}
use mathlib.Core.List.{List, [], ◌∷◌}
use Prim.Native.Nat.{ℕ, suc, max, ◌+◌, ◌-◌, ◌<◌, ◌≤◌}
use native.Mathlib.Omega.{arith}
use lib.Dec.{ltb}
use borrow.Author.Tests.{eqb-true, eqb-false}
use lib.ListN.{length, get_or, drop}
use Rattle.std.specs.Prelude.{◌==◌, Some, None, Result, Ok, Err}
use Rattle.ranges.specs.declared.Range.{Range}
use Rattle.ranges.specs.declared.Range.TheVariants.{Empty, Span}
use Rattle.ranges.specs.Ranges as ranges
use Rattle.states.specs.declared.Refusal.{Refusal}
use Rattle.states.specs.declared.State.{State}
use Rattle.states.specs.Answers.{Answer, Gives, Refuses, refusal}
use Rattle.states.specs.States as states
use Rattle.paper.specs.Limits.{Each}
use Rattle.paper.specs.Rules as rules
use Rattle.paper.specs.Rules.{Setting}
use Rattle.paper.specs.Trace as trace
use Rattle.paper.specs.Tree.{Statement, Normalize, Statements}
use Rattle.analysis.specs.declared.parts.Normalize as normalizes
use Rattle.analysis.specs.Loops as loops
use Rattle.analysis.specs.Noted as noted
use Rattle.analysis.specs.Noted.{Noted, plain, then_noted, Says}
use Rattle.analysis.specs.Parts.{GivenAre, NormalizeOf}
use Rattle.analysis.proofs.Says.{Leads, leads_then, leads_by, says_plain, then_good, then_refused}

-- a normalize is its given variables and its body
pub normalize_whole : (g : Setting) {base size : ℕ} {c : Statement} {parts : normalizes.Normalize} (k : NormalizeOf base size c parts) (s : State) {a : Answer State} {m m₁ : List ℕ} →
    Says (noted.normalized g parts.given.base parts.given.words.now parts.body.base k.body s) a m m₁ → Says (noted.statement g base c s) a m m₁
unfolding rules.statement trace.statement
normalize_whole g {base} {parts = parts} k s {a} {m} {m₁} h =
    subst (λ (d : Statement). Says (noted.statement g base d s) a m m₁) (sym k.same)
    (subst (λ (x : Noted State). Says x a m m₁) placed h)
  where
    placed : noted.normalized g parts.given.base parts.given.words.now parts.body.base k.body s ≡ noted.statement g base (Normalize k.given k.body) s
    placed = λ i. noted.normalized g (k.given_base i) (k.given_words i) (k.body_base i) k.body s

module _ (g : Setting) (at body_at : ℕ) (b : Statements) (s : State) where
  module _ (v : ℕ) (vs : List ℕ) where
    -- by the values that the first given variable can take
    by_values : Result (ℕ × ℕ) Refusal → Noted State
    by_values (Err d) = plain (Refuses d.number d.place)
    by_values (Ok p) = noted.enumerated g at v vs body_at b s (p.1 + 1 - p.0) p.0 states.empty

    abbrev first_of : Bool → Range → Noted State
    first_of live r = record {
      answer = elim live [ true ↦ rules.values g.n (λ h. rules.list g (body_at + 1) b h) (rules.normalized g.n (λ h. rules.list g (body_at + 1) b h) (at + 1) vs) at v s r | false ↦ Refuses 9 at ];
      places = elim live [
        | true ↦
            trace.values g.n (λ h. rules.list g (body_at + 1) b h) (λ h. trace.list g (body_at + 1) b h)
            (rules.normalized g.n (λ h. rules.list g (body_at + 1) b h) (at + 1) vs)
            (trace.normalized g.n (λ h. rules.list g (body_at + 1) b h) (λ h. trace.list g (body_at + 1) b h) (at + 1) vs) v s r
        | false ↦ []
      ];
    }

    first_is : (live : Bool) (r : Range) → first_of live r ≡ by_values (loops.values at live r)
    unfolding by_values
    first_is false r = refl
    first_is true Empty = refl
    first_is true (Span start None) = refl
    first_is true (Span start (Some end)) = go (ltb 4096 (end - start + 1))
      where
        many : ℕ → Noted State
        many k = noted.enumerated g at v vs body_at b s k start states.empty

        go : (c : Bool) → record {
          answer = elim c [ true ↦ Refuses 10 at | false ↦ (many (end - start + 1)).answer ];
          places = elim c [ true ↦ [] | false ↦ (many (end - start + 1)).places ];
        } ≡ by_values (cond c (Err (refusal 10 at)) (Ok (start, max end start)))
        go true = refl
        go false = ap many (let e : end - start + 1 ≡ max end start + 1 - start = omega arith in e)

    by_first : noted.normalized g at (v ∷ vs) body_at b s ≡ by_values (loops.values at (states.is_live s) (states.get s v))
    unfolding rules.normalized trace.normalized
    by_first = first_is (states.is_live s) (states.get s v)

  -- one value further: x of those up to the last
  module _ (v : ℕ) (vs : List ℕ) (x last : ℕ) where
    one_value : x < last + 1 → (joined : State) {m : List ℕ} →
        Leads (noted.enumerated g at v vs body_at b s (last + 1 - x) x joined) m
        (then_noted (noted.normalized g (at + 1) vs body_at b (states.put s v (ranges.point x))) (λ t. noted.enumerated g at v vs body_at b s (last + 1 - (x + 1)) (x + 1) (states.join g.n joined t))) m
    unfolding rules.enumerated trace.enumerated
    one_value some joined = leads_by (ap (λ (k : ℕ). noted.enumerated g at v vs body_at b s k x joined) (let e : last + 1 - x ≡ suc (last + 1 - (x + 1)) = omega arith in e))

    pub no_value : last + 1 ≤ x → {joined : State} {m : List ℕ} → Says (noted.enumerated g at v vs body_at b s (last + 1 - x) x joined) (Gives joined) m m
    unfolding rules.enumerated trace.enumerated
    no_value none {joined} {m} =
        (leads_by (ap (λ (k : ℕ). noted.enumerated g at v vs body_at b s k x joined) (let e : last + 1 - x ≡ 0 = omega arith in e))).on (says_plain (Gives joined) m)

    -- what the code answers of this value, by its own place, words and state
    module _ {place : ℕ} {words : List ℕ} {one : State} (here : place ≡ at + 1) (left : words ≡ vs) (set : one ≡ states.put s v (ranges.point x)) (some : x < last + 1) (joined : State) where
      this : {a : Answer State} {m m₁ : List ℕ} → Says (noted.normalized g place words body_at b one) a m m₁ → Says (noted.normalized g (at + 1) vs body_at b (states.put s v (ranges.point x))) a m m₁
      this {a} {m} {m₁} q = subst (λ (y : Noted State). Says y a m m₁) (λ i. noted.normalized g (here i) (left i) body_at b (set i)) q

      pub value_on : {t : State} {m m₁ : List ℕ} → Says (noted.normalized g place words body_at b one) (Gives t) m m₁ →
          Leads (noted.enumerated g at v vs body_at b s (last + 1 - x) x joined) m (noted.enumerated g at v vs body_at b s (last + 1 - (x + 1)) (x + 1) (states.join g.n joined t)) m₁
      value_on q = leads_then (one_value some joined) (then_good _ (this q))

      pub value_refused : {number at_fault : ℕ} {m m₁ : List ℕ} → Says (noted.normalized g place words body_at b one) (Refuses number at_fault) m m₁ →
          Says (noted.enumerated g at v vs body_at b s (last + 1 - x) x joined) (Refuses number at_fault) m m₁
      value_refused q = (one_value some joined).on (then_refused _ (this q))

-- ---- the given variables as a list

-- whether there are any
pub none_given : (l : List ℕ) {b : Bool} → b ≡ (length l == 0) → b ≡ true → length l ≡ 0
none_given l e f = eqb-true (length l) 0 (sym e ∙ f)

pub some_given : (l : List ℕ) {b : Bool} → b ≡ (length l == 0) → b ≡ false → 0 < length l
some_given l e f = let none : length l ≡ 0 → ⊥ = eqb-false (length l) 0 (sym e ∙ f) in omega arith

-- with none given, the body
pub nothing_given : (g : Setting) (place base : ℕ) (b : Statements) (s : State) (l : List ℕ) → length l ≡ 0 → {a : Answer State} {m m₁ : List ℕ} →
    Says (noted.list g (base + 1) b s) a m m₁ → Says (noted.normalized g place l base b s) a m m₁
unfolding rules.normalized trace.normalized
nothing_given g place base b s [] e h = h
nothing_given g place base b s (v ∷ vs) e h = absurd (omega arith)

-- the first of some given variables, and the rest
pub first_and_rest : (l : List ℕ) → 0 < length l → (get_or l 0 0 ∷ drop 1 l) ≡ l
first_and_rest [] h = absurd (omega arith)
first_and_rest (v ∷ vs) h = refl

pub first_given : {n : ℕ} (l : List ℕ) → GivenAre n l → 0 < length l → get_or l 0 0 < n
unfolding Each
first_given [] h k = absurd (omega arith)
first_given (v ∷ vs) h k = h.each.0

pub rest_given : {n : ℕ} (l : List ℕ) → GivenAre n l → 0 < length l → GivenAre n (drop 1 l)
unfolding Each
rest_given [] h k = absurd (omega arith)
rest_given (v ∷ vs) h k = record { each = h.each.1 }

-- the values of the first
module _ (g : Setting) (at body_at : ℕ) (b : Statements) (s : State) (l : List ℕ) (some : 0 < length l) where
  abbrev given_values : Result (ℕ × ℕ) Refusal
  given_values = loops.values at (states.is_live s) (states.get s (get_or l 0 0))

  one_given : {m : List ℕ} → Leads (noted.normalized g at l body_at b s) m (by_values g at body_at b s (get_or l 0 0) (drop 1 l) given_values) m
  one_given {m} = subst (λ (k : List ℕ). Leads (noted.normalized g at k body_at b s) m (by_values g at body_at b s (get_or l 0 0) (drop 1 l) given_values) m) (first_and_rest l some)
      (leads_by (by_first g at body_at b s (get_or l 0 0) (drop 1 l)))

  pub given_refused : {d : Refusal} {m : List ℕ} → Err d ≡ given_values → Says (noted.normalized g at l body_at b s) (Refuses d.number d.place) m m
  unfolding by_values
  given_refused {d} {m} e = one_given.on (subst (λ (r : Result (ℕ × ℕ) Refusal). Says (by_values g at body_at b s (get_or l 0 0) (drop 1 l) r) (Refuses d.number d.place) m m) e (says_plain (Refuses d.number d.place) m))

  pub given_leads : {p : ℕ × ℕ} {m : List ℕ} → Ok p ≡ given_values → Leads (noted.normalized g at l body_at b s) m (noted.enumerated g at (get_or l 0 0) (drop 1 l) body_at b s (p.1 + 1 - p.0) p.0 states.empty) m
  unfolding by_values
  given_leads e = leads_then one_given (leads_by (ap (by_values g at body_at b s (get_or l 0 0) (drop 1 l)) (sym e)))

-- values that are enumerated are those of a state that is not empty
pub values_live : (at : ℕ) (live : Bool) (r : Range) {p : ℕ × ℕ} → Ok p ≡ loops.values at live r → live ≡ true
values_live at true r e = refl
values_live at false r e = cc
