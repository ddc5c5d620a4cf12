-- A fact about what an answer gives, where it does not refuse.
use mathlib.Core.Path.{◌≡◌, refl, sym, subst}
use mathlib.Core.Bool.{Bool, true, false, cond}
use native.Mathlib.Omega.{arith}
use Prim.Native.Nat.{ℕ}
use Rattle.states.specs.Answers.{Answer, Gives, Refuses, and_then}

pub data Sure {A : Type 0} (P : A → Type 0) : Answer A → Type 0 where
  given : {a : A} → P a → Sure P (Gives a)
  refused : {k at : ℕ} → Sure P (Refuses k at)

-- of what is done with a given answer
pub sure_then : {A B : Type 0} {P : A → Type 0} {Q : B → Type 0} {a : Answer A} {f : A → Answer B} → Sure P a → ((x : A) → P x → Sure Q (f x)) → Sure Q (and_then a f)
sure_then (given {a = x} p) h = h x p
sure_then refused h = refused

-- the same, with the equation
pub sure_by : {A B : Type 0} {Q : B → Type 0} (a : Answer A) {f : A → Answer B} → ((x : A) → a ≡ Gives x → Sure Q (f x)) → Sure Q (and_then a f)
sure_by (Gives x) h = h x refl
sure_by (Refuses k at) h = refused

pub sure_if : {A : Type 0} {Q : A → Type 0} (b : Bool) {x y : Answer A} → (b ≡ true → Sure Q x) → (b ≡ false → Sure Q y) → Sure Q (cond b x y)
sure_if true h k = h refl
sure_if false h k = k refl

-- the same, where the test is taken by `elim`
pub sure_elim : {A : Type 0} {Q : A → Type 0} (b : Bool) {x y : Answer A} → (b ≡ true → Sure Q x) → (b ≡ false → Sure Q y) → Sure Q (elim b [ true ↦ x | false ↦ y ])
sure_elim true h k = h refl
sure_elim false h k = k refl

pub sure_map : {A : Type 0} {P Q : A → Type 0} {a : Answer A} → Sure P a → ((x : A) → P x → Q x) → Sure Q a
sure_map (given {a = x} p) h = given (h x p)
sure_map refused h = refused

-- an answer gives one thing
pub gives_one : {A : Type 0} {a b : A} → Gives a ≡ Gives b → a ≡ b
gives_one e = cc

same_gives : {A : Type 0} {a : A} {k at : ℕ} → Refuses k at ≡ Gives a → ⊥
same_gives e = let z : ◌≡◌ {A = ℕ} 0 1 = cc in omega arith

-- what it gives has the fact
pub sure_of : {A : Type 0} {P : A → Type 0} {a : Answer A} {x : A} → Sure P a → a ≡ Gives x → P x
sure_of {P = P} (given p) e = subst P (gives_one e) p
sure_of refused e = absurd (same_gives e)

-- what is known of the given thing, where the answer is known
pub sure_eq : {A : Type 0} {P : A → Type 0} {a : Answer A} {x : A} → a ≡ Gives x → P x → Sure P a
sure_eq {P = P} e p = subst (Sure P) (sym e) (given p)

pub sure_both : {A : Type 0} {P Q : A → Type 0} {a : Answer A} → Sure P a → Sure Q a → Sure (λ x. P x × Q x) a
sure_both (given p) (given q) = given (p, q)
sure_both refused refused = refused
