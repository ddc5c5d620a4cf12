-- Each way that the job of a loop can go, and what the line of its ranges leaves.
use Rattle.std.specs.Prelude.{Option, Result, Ok, Err}
use mathlib.Core.Path.{◌≡◌, refl, ap, ◌∙◌}
use mathlib.Core.List.{List, ◌++◌}
use Prim.Native.Nat.{ℕ, ◌≤◌, ◌<◌}
use lib.ListN.{length, drop}
use borrow.Author.Tests.{lt-ltb, le-ltb}
use Rattle.states.specs.declared.Refusal.{Refusal}
use Rattle.states.specs.States.{zeros}
use Rattle.states.specs.Answers.{Answer, Gives, Refuses, and_then, answer_of}
use Rattle.paper.specs.Reader as reader
use Rattle.paper.specs.Rules.{Looped}
use Rattle.paper.specs.Answers as answers
use Rattle.words.specs.Words.{checked}
use Rattle.analysis.specs.declared.LoopAnswer.{LoopAnswer}
use Rattle.analysis.specs.Outcomes as outcomes
use Rattle.analysis.specs.Outcomes.{a_loop}
use Rattle.text.specs.Answers as texts
use Rattle.text.specs.Answers.{leaves, of_printed}
use Rattle.text.specs.Line.{line, printed}
use Rattle.woolquern.specs.Job.{Loop, ran_loop, with_room, settled_line, counts_of, refusal, beside, all_left, looping}
use Rattle.woolquern.proofs.Ways.{words_sound, Prints, prints}

-- what a loop gave, for n variables
abbrev pub loop_of : Result LoopAnswer Refusal → ℕ → Answer Loop
loop_of found n = and_then (answer_of found) (λ l. Gives (record { n = n; looped = a_loop l }))

-- what the job says of a program of n variables
abbrev loop_with : List ℕ → ℕ → ℕ → Answer Loop
loop_with ws unroll n = and_then (answers.looped ws n zeros unroll) (λ l. Gives (record { n = n; looped = l }))

pub loop_sound : (ws : List ℕ) (unroll : ℕ) {n : ℕ} → length ws ≤ 8192 → Ok n ≡ checked (reader.program ws 64) → loop_of (outcomes.looped (answers.looped ws n zeros unroll)) n ≡ ran_loop ws unroll
loop_sound ws unroll {n} h e = told (answers.looped ws n zeros unroll) ∙ words_sound ws (loop_with ws unroll) h e
  where
    told : (a : Answer Looped) → loop_of (outcomes.looped a) n ≡ and_then a (λ l. Gives (record { n = n; looped = l }))
    told (Gives l) = refl
    told (Refuses number place) = refl

-- with room for its counts and its settled state
module _ {found : Result LoopAnswer Refusal} (n counts settled : ℕ) where
  pub loop_refused : {r : Refusal} → found ≡ Err r → Refuses r.number r.place ≡ and_then (loop_of found n) (with_room counts settled)
  loop_refused e = rw e refl

  pub few_counts : {l : LoopAnswer} → found ≡ Ok l → counts < 4 → Refuses 2 0 ≡ and_then (loop_of found n) (with_room counts settled)
  few_counts e h = rw (e, lt-ltb counts 4 h) refl

  pub short_line : {l : LoopAnswer} → found ≡ Ok l → 4 ≤ counts → settled < length (settled_line (record { n = n; looped = a_loop l })) → Refuses 2 0 ≡ and_then (loop_of found n) (with_room counts settled)
  short_line {l} e h s = rw (e, le-ltb counts 4 h, lt-ltb settled (length (settled_line (record { n = n; looped = a_loop l }))) s) refl

  pub room_for : {l : LoopAnswer} → found ≡ Ok l → 4 ≤ counts → length (settled_line (record { n = n; looped = a_loop l })) ≤ settled → Gives (record { n = n; looped = a_loop l }) ≡ and_then (loop_of found n) (with_room counts settled)
  room_for {l} e h s = rw (e, le-ltb counts 4 h, le-ltb settled (length (settled_line (record { n = n; looped = a_loop l }))) s) refl

-- a refusal's line, and the rest as it was
pub refused_by : (counts settled out : List ℕ) (r : Option ℕ) {number place : ℕ} {a : Answer Loop} {rest : List ℕ} → Refuses number place ≡ a → leaves (of_printed r) rest ≡ printed (refusal number place) out →
    all_left (of_printed r) counts settled rest ≡ looping a counts settled out
refused_by counts settled out r is p = rw (← is, ← p) refl

-- the line of the ranges, and the counts and the settled state's line beside it
pub kept_by : (l : Loop) (counts settled out : List ℕ) (r : Option ℕ) {counted rested rest : List ℕ} {a : Answer Loop} → Gives l ≡ a → leaves (of_printed r) rest ≡ printed (line l.n (Gives l.looped.exits)) out →
    counted ≡ beside (of_printed r) (counts_of l) counts → rested ≡ beside (of_printed r) (settled_line l) settled → all_left (of_printed r) counted rested rest ≡ looping a counts settled out
kept_by l counts settled out r is p c s = rw (← is, ← p, c, s) refl

-- a line that fits stands in front
pub printed_all : (bytes out : List ℕ) (r : Option ℕ) {after : List ℕ} → length bytes ≤ length out → leaves (of_printed r) after ≡ printed bytes out → after ≡ bytes ++ drop (length bytes) out
printed_all bytes out r h e = ap (λ (o : texts.Outcome). o.buffer) e ∙ rw (le-ltb (length out) (length bytes) h) refl

-- whatever the answer, a line is printed
pub prints_loop : (a : Answer Loop) (counts settled out : List ℕ) → Prints out (looping a counts settled out).printing
prints_loop (Gives l) counts settled out = prints l.n (Gives l.looped.exits) out
prints_loop (Refuses number place) counts settled out = prints 0 (Refuses number place) out
