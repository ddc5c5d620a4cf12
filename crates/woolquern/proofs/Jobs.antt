-- What each way of the code comes to is what the job says.
use Rattle.std.proofs.Common.{◌≡◌, refl, ap, ◌∙◌, List, ◌++◌, ℕ, ◌*◌, ◌≤◌, ◌<◌, min, length, take, drop, Ok, Err, arith}
use lib.Seq.{take-append_seam}
use borrow.Author.Tests.{lt-ltb, le-ltb}
use Rattle.states.specs.declared.Refusal.{Refusal}
use Rattle.states.specs.States.{zeros}
use Rattle.states.specs.Answers.{Answer, Gives, Refuses, and_then}
use Rattle.paper.specs.Answers.{Outcome, as_answer, analysed, ran}
use Rattle.paper.specs.Reader as reader
use Rattle.paper.specs.Reader.{Reading, Read, Bad}
use Rattle.paper.specs.Tree.{Statements}
use Rattle.paper.specs.Used.{used}
use Rattle.text.specs.Machine.{Contents, holds, breaks, contents, found, numbers, stored, put}
use Rattle.text.specs.declared.reader.Mode.TheVariants.{Start}
use Rattle.text.proofs.Passes.{stored_put}
use Rattle.words.specs.Words.{checked}
use Rattle.woolquern.specs.Job.{words_of}
use Rattle.woolquern.proofs.Room.{two_bytes}

-- ---- the words of a text

-- after a pass they stand in front, where there is room for all
module _ (text before : List ℕ) (count : ℕ) (short : length text ≤ 65536) (room : min (length text) 16384 ≤ 2 * length before) (few : count ≤ 8192) (value : Ok count ≡ found (contents text Start)) where
  record Front : Type 0 where
    long : length (take count (stored 0 (numbers text Start) before)) ≡ count
    words : Gives (take count (stored 0 (numbers text Start) before)) ≡ words_of text

  front : Front
  front = go (contents text Start) refl
    where
      go : (x : Contents) → contents text Start ≡ x → Front
      go (holds ws) e =
          let same : count ≡ length ws = cc in
          let fits : length ws ≤ length before = omega (arith, two_bytes text ws e) in
          let is : stored 0 (numbers text Start) before ≡ ws ++ drop (length ws) before = stored_put text before (rw e fits) ∙ ap (λ x. put x before) e in
          let taken : take (length ws) (ws ++ drop (length ws) before) ≡ ws = take-append_seam ws (drop (length ws) before) in
          record {
            long = rw (is, same, taken);
            words = rw (le-ltb 65536 (length text) short, e, le-ltb 8192 (length ws) (omega arith), is, same, taken);
          }
      go (breaks place) e = absurd cc

  pub front_count : length (take count (stored 0 (numbers text Start) before)) ≡ count
  front_count = front.long

  pub front_words : Gives (take count (stored 0 (numbers text Start) before)) ≡ words_of text
  front_words = front.words

-- ---- their answer

-- the answer for n variables
abbrev ran_with : List ℕ → ℕ → Answer Outcome
ran_with ws n = and_then (analysed ws n zeros 0) (λ s. Gives (record { n = n; state = s }))

pub ran_long : (ws : List ℕ) → 8192 < length ws → ran ws ≡ Refuses 4 0
unfolding ran
ran_long ws h = rw (lt-ltb 8192 (length ws) h, ran)

pub ran_bad : (ws : List ℕ) {r : Refusal} → length ws ≤ 8192 → Err r ≡ checked (reader.program ws 64) → ran ws ≡ Refuses r.number r.place
unfolding ran checked
ran_bad ws {r} h e = rw (le-ltb 8192 (length ws) h, ran) (go (reader.program ws 64) e)
  where
    go : (x : Reading Statements) → Err r ≡ checked x → as_answer x (λ p. ran_with ws (used p)) ≡ Refuses r.number r.place
    go (Read p i) e = absurd cc
    go (Bad number place) e = cc

pub ran_sound : (ws : List ℕ) {n : ℕ} → length ws ≤ 8192 → Ok n ≡ checked (reader.program ws 64) → ran ws ≡ and_then (analysed ws n zeros 0) (λ s. Gives (record { n = n; state = s }))
unfolding ran checked
ran_sound ws {n} h e = rw (le-ltb 8192 (length ws) h, ran) (go (reader.program ws 64) e)
  where
    go : (x : Reading Statements) → Ok n ≡ checked x → as_answer x (λ p. ran_with ws (used p)) ≡ ran_with ws n
    go (Read p i) e = cc
    go (Bad number place) e = absurd cc
