-- How bytes are put into a buffer.
use Rattle.std.specs.Prelude.{◌≡◌, ℕ, ◌+◌, List, length}
use Rattle.std.proofs.lemmas.List.Edits.{sets}

-- These bytes were put into a draft from a place on: the place after them, and the draft with them in it.
pub record Put (before : List ℕ) (at : ℕ) (bytes : List ℕ) (end : ℕ) (after : List ℕ) : Type 0 where
  pub place : end ≡ at + length bytes
  pub draft : after ≡ sets before at bytes
