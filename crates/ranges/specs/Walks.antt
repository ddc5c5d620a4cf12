-- What one walk over a set gives: the code cuts a range's ends by such walks until one changes nothing.
use Rattle.std.specs.Prelude.{cond, List, reverse, fold, ℕ, ◌+◌, ◌-◌, eqb}

-- x steps up past y if it equals it
abbrev pub step_up : ℕ → ℕ → ℕ
step_up x y = cond (eqb x y) (x + 1) x

-- x steps down past y if it equals it
abbrev pub step_down : ℕ → ℕ → ℕ
step_down x y = cond (eqb x y) (x - 1) x

-- the set is walked from its first value on: x steps up past each value that it equals
abbrev pub raised : List ℕ → ℕ → ℕ
raised set x = fold step_up x set

-- the set is walked from its last value back: x steps down past each value that it equals
abbrev pub lowered : List ℕ → ℕ → ℕ
lowered set x = fold step_down x (reverse set)
