-- What the proofs of functions share: a state or a start that a function is passed has 64 cells, and join's ways past an empty state.
use mathlib.Core.Path.{◌≡◌, refl, sym}
use mathlib.Core.Bool.{true, false, false≢true}
use Prim.Native.Nat.{ℕ}
use lib.ListN.{length}
use denote.Laws.{Is}
use denote.Enum.Laws.{vals as state_vals, owed}
use denote.Struct.Laws.{vals}
use Rattle.states.specs.declared.State.{State}
use Rattle.states.specs.declared.Start.{Start}
use Rattle.states.specs.contracts.State as state_type
use Rattle.states.proofs.State.TheLaws as state_laws
use Rattle.states.specs.contracts.Start as start
use Rattle.states.proofs.Start.TheLaws as start_laws
use Rattle.states.specs.declared.State.TheVariants as state
use Rattle.states.specs.States as states

pub state_long : (s : State) → Is state_type.the_row s (state_vals state_type.the_type state_laws.the_laws s) → length (states.cells s) ≡ 64
state_long state.Empty told = refl
state_long (state.Live cs) told = (owed state_type.the_type state_laws.the_laws (state.Live cs) _ told).0.1.0.1

pub start_long : (s : Start) → Is start.the_row s (vals start.the_type start_laws.the_laws s) → length s.cells ≡ 64
start_long s told = told.1.1.0.1.0.1

-- an empty state with t gives t, and t with an empty one stays t
pub join_from_empty : (n : ℕ) (s t : State) → states.is_live s ≡ false → t ≡ states.join n s t
join_from_empty n state.Empty t e = refl
join_from_empty n (state.Live cs) t e = absurd (false≢true (sym e))

pub join_with_empty : (n : ℕ) (s t : State) → states.is_live s ≡ true → states.is_live t ≡ false → s ≡ states.join n s t
join_with_empty n state.Empty t e f = absurd (false≢true e)
join_with_empty n (state.Live cs) state.Empty e f = refl
join_with_empty n (state.Live cs) (state.Live ds) e f = absurd (false≢true (sym f))
