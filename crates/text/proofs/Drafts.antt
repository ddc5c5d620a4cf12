-- What the printer pushes into its draft is what the definition of the line says, and the draft has room for it.
use mathlib.Core.Path.{◌≡◌, refl, sym, ap, ◌∙◌}
use mathlib.Core.List.{List, [], ◌∷◌, ◌++◌, map, map-append, append_assoc, append-nil}
use Prim.Native.Nat.{ℕ, zero, suc, ◌+◌, ◌*◌, ◌^◌, ◌≤◌, ◌<◌, min}
use Rattle.std.proofs.lemmas.List.{take_min}
use native.Mathlib.Omega.{arith}
use native.Mathlib.Numerals.{add-one}
use lib.ListN.{length, get_or, take, length-map, length-append}
use lib.Seq.{take-suc, take_all, length-take-le}
use Rattle.states.specs.declared.Cell.{Cell}
use Rattle.text.specs.Line.{ascii, digits, further, joined, cell, ranges}
use Rattle.text.proofs.Digits.{width}

-- a u32 has at most 10 digits
pub width_32 : (x : ℕ) → x < 2 ^ 32 → length (digits x) ≤ 10
width_32 x h = width 9 x (omega arith)

-- a u64 has at most 20 digits
pub width_64 : (x : ℕ) → x < 2 ^ 64 → length (digits x) ≤ 20
width_64 x h = width 19 x (omega arith)

-- what is pushed in parts, and how long it is
pub ruleset room = (length-append, append_assoc, width_32, width_64)

-- what stands before number i in a list
abbrev pub gap : ℕ → List ℕ
gap zero = []
gap (suc i) = ascii ", "

pub gap_first : (i : ℕ) → i ≤ 0 → gap i ≡ []
gap_first zero h = refl
gap_first (suc i) h = absurd (omega arith)

pub gap_later : (i : ℕ) → 0 < i → gap i ≡ ascii ", "
gap_later zero h = absurd (omega arith)
gap_later (suc i) h = refl

further_snoc : (l : List (List ℕ)) (x : List ℕ) → further (l ++ (x ∷ [])) ≡ further l ++ (ascii ", " ++ x)
unfolding further
further_snoc [] x = append-nil (ascii ", " ++ x)
further_snoc (y ∷ l) x = rw (further_snoc l x) (sym (append_assoc (ascii ", " ++ y) (further l) (ascii ", " ++ x)))

joined_snoc : (l : List (List ℕ)) (x : List ℕ) → joined (l ++ (x ∷ [])) ≡ joined l ++ (gap (length l) ++ x)
unfolding joined further
joined_snoc [] x = append-nil x
joined_snoc (y ∷ l) x = rw (further_snoc l x) (sym (append_assoc y (further l) (ascii ", " ++ x)))

ranges_next : (i : ℕ) (cells : List Cell) (other : Cell) → i < length cells → ranges (i + 1) cells ≡ ranges i cells ++ (gap i ++ cell (get_or cells i other))
ranges_next i cells other h =
    let e : length (map cell (take i cells)) ≡ i = length-map (take i cells) cell ∙ length-take-le i cells (omega arith) in
    rw (add-one, take-suc cells i other, map-append)
    (joined_snoc (map cell (take i cells)) (cell (get_or cells i other)) ∙ ap (λ (k : ℕ). ranges i cells ++ (gap k ++ cell (get_or cells i other))) e)

-- the ranges of the first i cells were pushed behind a start, each of at most 29 bytes
pub record Listing (start : List ℕ) (cells : List Cell) (i : ℕ) (draft : List ℕ) : Type 0 where
  pub pushed : draft ≡ start ++ ranges i cells
  pub short : length (ranges i cells) ≤ 31 * i

pub listing_start : (start : List ℕ) (cells : List Cell) → Listing start cells 0 start
unfolding joined
listing_start start cells = record { pushed = sym (append-nil start); short = omega arith }

-- one range more
pub listing_next : {start d e f : List ℕ} {cells : List Cell} {i : ℕ} (other : Cell) → i < length cells → Listing start cells i d → e ≡ d ++ gap i → f ≡ e ++ cell (get_or cells i other) → length (cell (get_or cells i other)) ≤ 29
    → Listing start cells (i + 1) f
listing_next {start} {d} {e} {f} {cells} {i} other h x p q small = record {
  pushed = rw (ranges_next i cells other h) (grind (arith, append_assoc));
  short = rw (ranges_next i cells other h) (omega (arith, x.short, gap_short i, length-append (ranges i cells) (gap i ++ cell (get_or cells i other)), length-append (gap i) (cell (get_or cells i other))));
}
  where
    gap_short : (k : ℕ) → length (gap k) ≤ 2
    gap_short zero = omega arith
    gap_short (suc k) = omega arith

-- the ranges of all of the first n cells are those of the first n
pub ranges_all : (n : ℕ) (cells : List Cell) → ranges (length (take (min n (length cells)) cells)) (take (min n (length cells)) cells) ≡ ranges n cells
ranges_all n cells = rw (take_min n cells, take_all (length (take n cells)) (take n cells) (omega arith)) refl
