-- The line that the program prints, byte by byte.
use Rattle.std.specs.Prelude.{◌≡◌, true, false, cond, List, [], ◌∷◌, ◌++◌, map, Option, Some, None, ℕ, zero, suc, ◌+◌, ◌/◌, ◌%◌, ltb, eqb, length, take}
use Prim.Native.Char.{code}
use Prim.Native.String.{String, [] as nothing, ◌∷◌ as ◌before◌}
use Rattle.ranges.specs.declared.Range.{Range}
use Rattle.ranges.specs.declared.Range.TheVariants.{Empty, Span}
use Rattle.states.specs.declared.Cell.{Cell}
use Rattle.states.specs.declared.State.{State}
use Rattle.states.specs.States.{is_live, cells}
use Rattle.states.specs.Answers.{Answer, Gives, Refuses}
use Rattle.text.specs.Grammar.{Int, decimal}
use Rattle.text.specs.Answers.{Outcome, refused, done}

-- The bytes of a text in ASCII.
abbrev pub ascii : String → List ℕ
ascii nothing = []
ascii (c before s) = code c ∷ ascii s

-- A number below 10^k in decimal: its last digit, behind the digits of the number without it.
unfoldable pub last_digits : ℕ → ℕ → List ℕ
last_digits zero x = []
last_digits (suc k) x = elim (ltb x 10) [ true ↦ (0x30 + x) ∷ [] | false ↦ last_digits k (x / 10) ++ ((0x30 + x % 10) ∷ []) ]

-- A number in decimal; x is below 10^(x + 1).
unfoldable pub digits : ℕ → List ℕ
digits x = last_digits (suc x) x

-- s writes x in decimal with no leading zero: it fits the grammar's `int`, and its digits have the value x.
pub record Writes (s : List ℕ) (x : ℕ) : Type 0 where
  pub values : List ℕ
  pub fits : Int s values
  pub value : decimal 0 values ≡ x

-- What follows a range's start: "{a}, {a, ..., b} or {a, ...}".
unfoldable pub to_end : ℕ → Option ℕ → List ℕ
to_end start (Some end) = cond (eqb start end) (ascii "}") (ascii ", ..., " ++ digits end ++ ascii "}")
to_end start None = ascii ", ...}"

-- A range; an Empty one, which no state that is not empty has, is genfer's ∅ in UTF-8.
unfoldable pub range : Range → List ℕ
range Empty = 0xE2 ∷ 0x88 ∷ 0x85 ∷ []
range (Span start end) = ascii "{" ++ digits start ++ to_end start end

-- Each with ", " in front.
unfoldable pub further : List (List ℕ) → List ℕ
further [] = []
further (x ∷ l) = ascii ", " ++ x ++ further l

-- "joined by ', '"
unfoldable pub joined : List (List ℕ) → List ℕ
joined [] = []
joined (x ∷ l) = x ++ further l

-- A variable's range.
abbrev pub cell : Cell → List ℕ
cell c = range c.range

-- "the ranges in order" of the first n cells, or of all where n is more than there are
abbrev pub ranges : ℕ → List Cell → List ℕ
ranges n cs = joined (map cell (take n cs))

-- "`empty` for an empty state, also where n = 0; an empty line for any other state of no variables"
abbrev pub state : ℕ → State → List ℕ
state n s = cond (is_live s) (ranges n (cells s)) (ascii "empty")

-- "or `refused N at P`"
abbrev pub refusal : ℕ → ℕ → List ℕ
refusal number place = ascii "refused " ++ digits number ++ ascii " at " ++ digits place

-- The line without its line feed.
abbrev pub body : ℕ → Answer State → List ℕ
body n (Gives s) = state n s
body n (Refuses number place) = refusal number place

-- "It prints one line, its line feed counted in its length."
abbrev pub line : ℕ → Answer State → List ℕ
line n answer = body n answer ++ ascii "\n"

-- Printing these bytes into a buffer: more than it holds are refused, and leave it as it was.
abbrev pub printed : List ℕ → List ℕ → Outcome
printed bytes buffer = cond (ltb (length buffer) (length bytes)) (refused 2 0 buffer) (done bytes buffer)
