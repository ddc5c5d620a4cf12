-- What replaying a list of recorded lines finds.
use Rattle.std.specs.Prelude.{◌≡◌, cond, List, ℕ, ◌+◌, ◌-◌, ◌≤◌, ◌<◌, ltb, length, take, drop, get_or}
use Rattle.woolquern.specs.Job.{line_of, answer}

-- No line feed stands from `from` to below `to`.
abbrev pub Unbroken : List ℕ → ℕ → ℕ → Type 0
Unbroken list from to = (i : ℕ) → from ≤ i → i < to → get_or list i 0 ≡ 0x0A → ⊥

-- The line that begins at `from` ends at `end`: at its line feed, or with the list.
pub record Line (list : List ℕ) (from end : ℕ) : Type 0 where
  pub begins : from ≤ end
  pub within : end ≤ length list
  pub inside : Unbroken list from end
  pub ends : end < length list → get_or list end 0 ≡ 0x0A

-- Where the next line begins.
abbrev pub next : List ℕ → ℕ → ℕ
next list end = cond (ltb end (length list)) (end + 1) end

-- The bytes from `from` to below `to`.
abbrev pub part : List ℕ → ℕ → ℕ → List ℕ
part list from to = take (to - from) (drop from list)

-- `line` is the line of the answer to `text`.
abbrev pub Prints : List ℕ → List ℕ → Type 0
Prints text line = line_of (answer text) ≡ line

-- A record at `at`: a line that is the text, and one that is to be printed, with its line feed.
pub record Record (list : List ℕ) (at : ℕ) (text line : List ℕ) (then : ℕ) : Type 0 where
  pub text_end : ℕ
  pub line_end : ℕ
  pub there : at < length list
  pub first : Line list at text_end
  pub second : Line list (next list text_end) line_end
  pub is_text : text ≡ part list at text_end
  pub is_line : line ≡ part list (next list text_end) (next list line_end)
  pub is_then : then ≡ next list line_end

-- Of the records before `at`, so many have the line that is printed, and so many have not.
pub data Replayed (list : List ℕ) : ℕ → ℕ → ℕ → Type 0 where
  begin : Replayed list 0 0 0
  agrees : {at agree differ then : ℕ} {text line : List ℕ} → Replayed list at agree differ → Record list at text line then → Prints text line → Replayed list then (agree + 1) differ
  differs : {at agree differ then : ℕ} {text line : List ℕ} → Replayed list at agree differ → Record list at text line then → (Prints text line → ⊥) → Replayed list then agree (differ + 1)
