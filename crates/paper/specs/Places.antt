-- Where a refusal lies: document 01, "Answers by number", the column "Place".
use Rattle.std.specs.Prelude.{◌≡◌, ℕ, ◌≤◌, ◌<◌}

-- the refusals of a list of so many words over n variables, by number and place
pub data Placed (size n : ℕ) : ℕ → ℕ → Type 0 where
  -- "0 for n, default unroll or list length"
  limit : Placed size n 4 0
  -- "list length if short"
  short : Placed size n 3 size
  -- "lowest such variable"
  variable : (v : ℕ) → v < n → Placed size n 7 v
  -- any other is at a word
  word : (number place : ℕ) → 3 ≤ number → number ≤ 10 → (number ≡ 7 → ⊥) → place < size → Placed size n number place
