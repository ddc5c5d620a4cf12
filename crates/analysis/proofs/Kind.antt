-- The kind of a statement, by its first word.
use mathlib.Core.Path.{◌≡◌, refl, ap}
use mathlib.Core.List.{List}
use Prim.Native.Nat.{ℕ, ◌<◌}
use native.Mathlib.Omega.{arith}
use lib.ListN.{length, get_or}
use Rattle.std.proofs.Common.{inl, inr}
use Rattle.std.specs.Prelude.{Option, Some, None, IsSome}
use Rattle.words.specs.Kinds.{SaysStatement, statement_word}
use Rattle.words.specs.declared.kinds.StatementKind.{StatementKind}
use Rattle.words.specs.declared.kinds.StatementKind.TheVariants.{Sample, Assign, Decrement, IfThenElse, While, Fail, Normalize}
use Rattle.words.specs.Parts.{StatementIs}
use Rattle.words.proofs.Nodes.{statement_kind, statement_some}
use Rattle.words.proofs.Parts.{begins_whole}

pub statement_filled : {n : ℕ} {ws : List ℕ} → StatementIs n ws → 0 < length ws
statement_filled h = omega (arith, ap length h.is, statement_some h.tree)

-- its first word says one
pub kind_known : {n : ℕ} {ws : List ℕ} → StatementIs n ws → (o : Option StatementKind) → SaysStatement (get_or ws 0 0) o → IsSome o
kind_known h (Some kind) e = refl
kind_known h None e = let k = statement_kind h.tree (begins_whole h.is) in elim e [ inl z ↦ absurd (omega arith) | inr z ↦ absurd (omega arith) ]

-- the word of a plain one
pub plain_word : {w : ℕ} (kind : StatementKind) → w ≡ statement_word kind → (kind ≡ IfThenElse → ⊥) → (kind ≡ While → ⊥) → (kind ≡ Fail → ⊥) → (kind ≡ Normalize → ⊥) → w < 4
plain_word Sample e a b c d = omega arith
plain_word Assign e a b c d = omega arith
plain_word Decrement e a b c d = omega arith
plain_word IfThenElse e a b c d = absurd (a refl)
plain_word While e a b c d = absurd (b refl)
plain_word Fail e a b c d = absurd (c refl)
plain_word Normalize e a b c d = absurd (d refl)
