-- The search as the code makes it: it keeps the state that each pass sets out from and joins the exits, so that a loop that comes to rest need not be gone over again.
use Rattle.std.specs.Prelude.{true, false, ℕ, zero, suc, ◌+◌}
use Rattle.states.specs.declared.State.{State}
use Rattle.states.specs.Answers.{Answer, Gives, and_then}
use Rattle.states.specs.States as states
use Rattle.paper.specs.Rules as rules

-- where the search stopped, the state that its last pass set out from, and the exits of all passes joined
pub record Sought : Type 0 where
  pub found : rules.Found
  pub turned : State
  pub exits : State

-- a loop over n variables, by its pass
module _ (n : ℕ) (pass : State → Answer rules.Pass) where
  -- up to k passes from the state and the exits of t, the first of index i: stop at the first whose new state equals the old
  unfoldable pub sought : ℕ → ℕ → rules.Pass → Answer Sought
  sought zero i t = Gives (record { found = rules.Nowhere; turned = t.next; exits = t.exit })
  sought (suc k) i t =
      and_then (pass t.next) (λ p.
      elim (states.same n t.next p.next) [
        | true ↦ Gives (record { found = rules.AtPass i; turned = t.next; exits = states.join n t.exit p.exit })
        | false ↦ sought k (i + 1) (record { next = p.next; exit = states.join n t.exit p.exit })
      ])

-- a loop at rest: a pass from the settled state gives it again, so joining settles after one pass, with the search's states and exits
abbrev pub at_rest : ℕ → Sought → rules.Looped
at_rest i r = record {
  exits = r.exits;
  turned = r.turned;
  settled = r.turned;
  searched = i + 1;
  unrolls = i;
  joined = 1;
  widened = 0;
}
