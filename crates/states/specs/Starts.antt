-- The caller's starting ranges as a state.
use Rattle.std.specs.Prelude.{true, false, cond, List, [], ◌∷◌, ◌++◌, ℕ, zero, suc, ◌+◌, ◌-◌, ltb, take, replicate}
use Rattle.ranges.specs.Ranges as ranges
use Rattle.states.specs.declared.State.{State}
use Rattle.states.specs.declared.Cell.{Cell}
use Rattle.states.specs.States as states
use Rattle.states.specs.Answers.{Answer, Gives, Refuses}

-- the next k ranges, from variable v on: 7 at the first whose start is over its end; one Empty makes the state empty, and 7 still applies to the others
unfoldable pub starting : ℕ → ℕ → List Cell → State → Answer State
starting zero v cs s = Gives s
starting (suc k) v [] s = Gives s
starting (suc k) v (c ∷ cs) s =
    elim (ranges.crossed c.range) [
      | true ↦ Refuses 7 v
      | false ↦ starting k (v + 1) cs (cond (ranges.is_empty c.range) states.empty s)
    ]

-- the caller's first n ranges; the cells after them are [0,0] whatever the caller has there
abbrev pub first_cells : ℕ → List Cell → List Cell
first_cells n cs = take n cs ++ replicate (64 - n) states.blank

-- a starting state is n ranges, n being the caller's; over 64 variables is 4 at 0
unfoldable pub started : ℕ → List Cell → Answer State
started n cs = elim (ltb 64 n) [ true ↦ Refuses 4 0 | false ↦ starting n 0 cs (states.live (first_cells n cs)) ]
