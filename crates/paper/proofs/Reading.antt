-- The reader reads exactly the codes of the trees within the limits, and a refusal is at the first bad word.
use mathlib.Core.Path.{◌≡◌}
use mathlib.Core.List.{List, ◌++◌}
use Prim.Native.Nat.{ℕ, suc, ◌+◌, ◌<◌}
use native.Mathlib.Omega.{arith}
use lib.ListN.{length, take, length-append, length-take, get_or-append}
use lib.Seq.{get_or-take}
use Rattle.paper.specs.Tree.{Statements}
use Rattle.paper.specs.Code as code
use Rattle.paper.specs.Reader.{Read, Bad, program}
use Rattle.paper.specs.Limits.{ProgramIn}
use Rattle.paper.proofs.Spelled.{Told, all_at, program_is}
use Rattle.paper.proofs.Complete.{complete}
use Rattle.paper.proofs.First.{Agree, refused_alike}
use Rattle.paper.proofs.Begun.{Begun, begun_within, begun_deeper}

-- words that are read are the code of what is read, which is within the limits
pub read_is_code : (ws : List ℕ) (n : ℕ) {p : Statements} {j : ℕ} → program ws n ≡ Read p j → Told ws n p j
read_is_code ws n e = all_at (program ws n) (program_is ws n) e

-- the code of a tree within the limits is read as that tree
pub code_is_read : (n : ℕ) (p : Statements) → ProgramIn n p → program (code.program p) n ≡ Read p (length (code.program p))
code_is_read n p g = complete n p g

agree : (ws vs rest : List ℕ) (at : ℕ) → at < length ws → vs ≡ take (at + 1) ws ++ rest → Agree ws vs (suc at)
agree ws vs rest at inside e = record {
  same = λ i h l.
      let size : length (take (at + 1) ws) ≡ at + 1 = simp length-take (omega arith) in
      let here : i < length (take (at + 1) ws) = omega arith in (
        rw e (simp length-append (omega arith)),
        rw (e, get_or-append (take (at + 1) ws) rest 0 i here) (get_or-take (at + 1) ws i 0 (omega arith)),
      );
}

-- a refusal is at the first bad word
pub record FirstBad (n : ℕ) (ws : List ℕ) (k at : ℕ) : Type 0 where
  -- no program begins with the words up to and including it, if it is not the list's length
  pub none_beyond : at < length ws → (p : Statements) (rest : List ℕ) → ProgramIn n p → code.program p ≡ take (at + 1) ws ++ rest → ⊥
  -- some program begins with those before it
  pub some_before : 0 < n → (k ≡ 4 → ⊥) → at < length ws → Begun n 16 ws at
  -- at a limit, or the list's length, it may have to nest a level deeper than allowed: the words may end where only that could follow
  pub some_deeper : 0 < n → Begun n 17 ws at

pub first_bad_word : (ws : List ℕ) (n : ℕ) {k at : ℕ} → program ws n ≡ Bad k at → FirstBad n ws k at
first_bad_word ws n {k} {at} r = record {
  none_beyond = λ inside p rest g e.
      let a = refused_alike ws (code.program p) n k at r inside (agree ws (code.program p) rest at inside e) in
      let b = complete n p g in
      let z : ◌≡◌ {A = ℕ} 0 1 = cc in
      omega arith;
  some_before = λ some. begun_within ws n some r;
  some_deeper = λ some. begun_deeper ws n some r;
}
