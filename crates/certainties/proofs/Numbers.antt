-- An input for each number by which the analysis refuses.
use mathlib.Core.Path.{refl, subst}
use mathlib.Core.List.{List, [], ◌∷◌}
use Prim.Native.Nat.{ℕ, zero, suc, ◌+◌, ◌-◌, ◌≤◌}
use native.Mathlib.Omega.{arith}
use Rattle.std.specs.Prelude.{Some, Err}
use Rattle.ranges.specs.declared.Range.{Range}
use Rattle.ranges.specs.declared.Range.TheVariants.{Span}
use Rattle.ranges.specs.Ranges as ranges
use Rattle.states.specs.Answers.{refusal}
use Rattle.states.specs.Starts as starts
use Rattle.paper.specs.Reader as reader
use Rattle.paper.specs.Rules as rules
use Rattle.paper.specs.Answers as answers
use Rattle.paper.specs.Table.{one}
use Rattle.certainties.specs.Certainties.{Input, Analyse}

-- refused by a number, somewhere
abbrev Occurs : ℕ → Type 0
Occurs number = (i : Input) × (place : ℕ) × Analyse i (Err (refusal number place))

-- these words over n variables, the first of them in a range
abbrev input : List ℕ → ℕ → Range → Input
input ws n r = record { words = ws; n = n; start = record { cells = one r }; unroll = 0; sixty_four = refl }

-- normalize with the first variable given
abbrev given : List ℕ
given = 1 ∷ 7 ∷ 1 ∷ 0 ∷ 0 ∷ []

occurs : (k : ℕ) → k ≤ 7 → Occurs (3 + k)
unfolding answers.analysed starts.started starts.starting reader.program reader.statement reader.block reader.normalize reader.given reader.sample reader.assign reader.decrement reader.addend reader.draw reader.flag reader.unless reader.word reader.many reader.by_kind reader.if_read reader.and_read rules.statement rules.list rules.normalized
-- no words at all; 65 variables; a variable where there is none; a continuous draw
occurs zero h = (input [] 0 (ranges.point 0), 0, refl)
occurs (suc zero) h = (input [] 65 (ranges.point 0), 0, refl)
occurs (suc (suc zero)) h = (input (1 ∷ 3 ∷ 0 ∷ 0 ∷ []) 0 (ranges.point 0), 2, refl)
occurs (suc (suc (suc zero))) h = (input (1 ∷ 1 ∷ 0 ∷ 0 ∷ 13 ∷ []) 1 (ranges.point 0), 4, refl)
-- [1,0]; 2 times [2147483648,2147483648]; [0,–) given; [0,4096] given
occurs (suc (suc (suc (suc zero)))) h = (input (0 ∷ []) 1 (Span 1 (Some 0)), 0, refl)
occurs (suc (suc (suc (suc (suc zero))))) h = (input (1 ∷ 2 ∷ 0 ∷ 0 ∷ 1 ∷ 2 ∷ 0 ∷ 0 ∷ []) 1 (ranges.point 2147483648), 1, refl)
occurs (suc (suc (suc (suc (suc (suc zero)))))) h = (input given 1 ranges.naturals, 3, refl)
occurs (suc (suc (suc (suc (suc (suc (suc zero))))))) h = (input given 1 (Span 0 (Some 4096)), 3, refl)
occurs (suc (suc (suc (suc (suc (suc (suc (suc k)))))))) h = absurd (omega arith)

pub every_number : (number : ℕ) → 3 ≤ number → number ≤ 10 → Occurs number
every_number number low high = subst Occurs (omega arith) (occurs (number - 3) (omega arith))
