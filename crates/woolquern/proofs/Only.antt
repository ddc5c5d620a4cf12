-- No two answers satisfy the contract of `run`, `run_marked` or `run_loop`. (Those of the C functions, in crate woolquern_c, are equations for all that they leave.)
use mathlib.Core.Path.{◌≡◌, refl, sym, ap, ◌∙◌}
use mathlib.Core.List.{List}
use Prim.Native.Nat.{ℕ}
use Rattle.std.specs.Prelude.{Option}
use Rattle.text.specs.Answers.{leaves, of_printed}
use Rattle.text.proofs.Only.{printing}
use Rattle.woolquern.specs.Job as job
use Rattle.woolquern.specs.Job.{Marking, Looping, left, all_left}

pub run : (text out : List ℕ) (r q : Option ℕ) (x y : List ℕ) → leaves (of_printed r) x ≡ job.run text out → leaves (of_printed q) y ≡ job.run text out → (r ≡ q) × (x ≡ y)
run text out r q x y a b = printing (job.run text out) r q x y a b

pub run_marked : (text marks out : List ℕ) (r q : Option ℕ) (m k x y : List ℕ) → left (of_printed r) m x ≡ job.run_marked text marks out → left (of_printed q) k y ≡ job.run_marked text marks out → (r ≡ q) × (m ≡ k) × (x ≡ y)
run_marked text marks out r q m k x y a b =
    let e : left (of_printed r) m x ≡ left (of_printed q) k y = a ∙ sym b in
    let p = printing (left (of_printed q) k y).printing r q x y (ap (λ (l : Marking). l.printing) e) refl in
    (p.0, ap (λ (l : Marking). l.marks) e, p.1)

pub run_loop : (text : List ℕ) (unroll : ℕ) (counts settled out : List ℕ) (r q : Option ℕ) (c d m k x y : List ℕ) →
    all_left (of_printed r) c m x ≡ job.run_loop text unroll counts settled out → all_left (of_printed q) d k y ≡ job.run_loop text unroll counts settled out → (r ≡ q) × (c ≡ d) × (m ≡ k) × (x ≡ y)
run_loop text unroll counts settled out r q c d m k x y a b =
    let e : all_left (of_printed r) c m x ≡ all_left (of_printed q) d k y = a ∙ sym b in
    let p = printing (all_left (of_printed q) d k y).printing r q x y (ap (λ (l : Looping). l.printing) e) refl in
    (p.0, ap (λ (l : Looping). l.counts) e, ap (λ (l : Looping). l.settled) e, p.1)
