-- A text has two bytes at least for each of its words.
use Rattle.std.proofs.Common.{◌≡◌, Bool, true, false, cond, List, ◌-◌, [], ◌∷◌, ℕ, ◌+◌, ◌*◌, ◌^◌, ◌≤◌, length, add-one, arith}
use lib.Dec.{ltb}
use Rattle.text.specs.declared.reader.Mode.{Mode}
use Rattle.text.specs.declared.reader.Mode.TheVariants.{Start, Opened, Digits, Ended, Parted, Closed}
use Rattle.text.specs.declared.reader.Move.{Move}
use Rattle.text.specs.declared.reader.Move.TheVariants.{Stop, To, Push}
use Rattle.text.specs.Machine.{Class, Blank, Zero, Digit, Open, Close, Comma, Other, class_of, more, step, Contents, holds, breaks, later, push, follow, contents}

-- Read from a mode on, bytes hold so few words that twice their number and one is at most the bytes and so many more: in a number its first byte counts too, after one the byte behind it is to come.
abbrev spare : Mode → ℕ
spare Start = 1
spare Opened = 1
spare (Digits v) = 2
spare Ended = 0
spare Parted = 1
spare Closed = 1

-- what a byte does keeps to this
abbrev Keeps : ℕ → Move → Type 0
Keeps most Stop = Unit {0}
Keeps most (To m) = spare m ≤ most + 1
Keeps most (Push v m) = spare m + 1 ≤ most

more_keeps : (v d : ℕ) → Keeps 2 (more v d)
more_keeps v d = go (ltb (v * 10 + d) (2 ^ 64))
  where
    go : (b : Bool) → Keeps 2 (cond b (To (Digits (v * 10 + d))) Stop)
    go true = omega arith
    go false = tt

step_keeps : (m : Mode) (k : Class) (b : ℕ) → Keeps (spare m) (step m k b)
step_keeps Start k b = elim k as (λ k. Keeps 1 (step Start k b)) [ Blank ↦ omega arith | Open ↦ omega arith | Zero ↦ tt | Digit ↦ tt | Close ↦ tt | Comma ↦ tt | Other ↦ tt ]
step_keeps Opened k b = elim k as (λ k. Keeps 1 (step Opened k b)) [ Blank ↦ omega arith | Close ↦ omega arith | Zero ↦ omega arith | Digit ↦ omega arith | Open ↦ tt | Comma ↦ tt | Other ↦ tt ]
step_keeps (Digits v) k b = elim k as (λ k. Keeps 2 (step (Digits v) k b)) [ Blank ↦ omega arith | Comma ↦ omega arith | Close ↦ omega arith | Zero ↦ more_keeps v 0 | Digit ↦ more_keeps v (b - 48) | Open ↦ tt | Other ↦ tt ]
step_keeps Ended k b = elim k as (λ k. Keeps 0 (step Ended k b)) [ Blank ↦ omega arith | Comma ↦ omega arith | Close ↦ omega arith | Zero ↦ tt | Digit ↦ tt | Open ↦ tt | Other ↦ tt ]
step_keeps Parted k b = elim k as (λ k. Keeps 1 (step Parted k b)) [ Blank ↦ omega arith | Zero ↦ omega arith | Digit ↦ omega arith | Open ↦ tt | Close ↦ tt | Comma ↦ tt | Other ↦ tt ]
step_keeps Closed k b = elim k as (λ k. Keeps 1 (step Closed k b)) [ Blank ↦ omega arith | Zero ↦ tt | Digit ↦ tt | Open ↦ tt | Close ↦ tt | Comma ↦ tt | Other ↦ tt ]

-- bytes hold so few words, or break off
abbrev Within : ℕ → Contents → Type 0
Within most (holds ws) = 2 * length ws + 1 ≤ most
Within most (breaks place) = Unit {0}

-- one byte more
within_later : (len most few : ℕ) (x : Contents) → few ≤ most + 1 → Within (len + few) x → Within (len + 1 + most) (later x)
within_later len most few (holds ws) h w = omega arith
within_later len most few (breaks place) h w = tt

-- one that ends a number
within_push : (len most few v : ℕ) (x : Contents) → few + 1 ≤ most → Within (len + few) x → Within (len + 1 + most) (push v x)
within_push len most few v (holds ws) h w = omega arith
within_push len most few v (breaks place) h w = tt

within_follow : (text : List ℕ) (most : ℕ) → ((m : Mode) → Within (length text + spare m) (contents text m)) → (v : Move) → Keeps most v → Within (length text + 1 + most) (follow (contents text) v)
within_follow text most rest Stop h = tt
within_follow text most rest (To m) h = within_later (length text) most (spare m) (contents text m) h (rest m)
within_follow text most rest (Push v m) h = within_push (length text) most (spare m) v (contents text m) h (rest m)

within : (text : List ℕ) (m : Mode) → Within (length text + spare m) (contents text m)
within [] m = elim m as (λ m. Within (0 + spare m) (contents [] m)) [ Start ↦ tt | Opened ↦ tt | Digits v ↦ tt | Ended ↦ tt | Parted ↦ tt | Closed ↦ omega arith ]
within (b ∷ text) m = rw add-one at (within_follow text (spare m) (within text) (step m (class_of b) b) (step_keeps m (class_of b) b))

pub two_bytes : (text ws : List ℕ) → contents text Start ≡ holds ws → 2 * length ws ≤ length text
two_bytes text ws e = let w : Within (length text + 1) (contents text Start) = within text Start in let k = rw e at w in omega arith
