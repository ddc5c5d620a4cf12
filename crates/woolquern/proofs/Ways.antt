-- Each way that the job can go, by the answer of the function that decides it, and what the line beside it leaves.
use Rattle.std.specs.Prelude.{Option, Some, None, Result, Ok, Err}
use mathlib.Core.Path.{◌≡◌, refl, sym, ap, ◌∙◌, subst}
use mathlib.Core.Bool.{Bool, true, false, cond}
use mathlib.Core.List.{List, ◌++◌}
use Prim.Native.Nat.{ℕ, ◌≤◌, ◌<◌}
use native.Mathlib.Omega.{arith}
use lib.Dec.{ltb}
use lib.ListN.{length, take, drop, length-append, replicate, length-replicate}
use lib.Seq.{take-append_seam}
use borrow.Author.Tests.{lt-ltb, le-ltb, ltb-true, ltb-false}
use Rattle.states.specs.declared.Cell.{Cell}
use Rattle.states.specs.declared.State.{State}
use Rattle.states.specs.declared.Refusal.{Refusal}
use Rattle.states.specs.States.{zeros}
use Rattle.states.specs.Answers.{Answer, Gives, Refuses, and_then, outcome as result_of, answer_of, refusal as refusal_at}
use Rattle.paper.specs.Tree.{Statements}
use Rattle.paper.specs.Used.{used}
use Rattle.paper.specs.Reader as reader
use Rattle.paper.specs.Reader.{Reading, Read, Bad}
use Rattle.paper.specs.Answers as answers
use Rattle.paper.specs.Answers.{Outcome, as_answer, analysed, ran}
use Rattle.paper.specs.Trace.{mark}
use Rattle.words.specs.Words.{checked}
use Rattle.analysis.specs.declared.Marked.{Marked}
use Rattle.analysis.specs.Entries.{marked}
use Rattle.text.specs.Answers as texts
use Rattle.text.specs.Answers.{leaves, of_printed}
use Rattle.text.specs.Machine.{Contents, holds, breaks, contents, numbers, stored, found, put, FitsIn, outcome, settle}
use Rattle.text.proofs.Passes.{stored_put}
use Rattle.text.specs.declared.reader.Mode.TheVariants.{Start}
use Rattle.text.specs.Line.{ascii, body, line, printed}
use Rattle.woolquern.specs.Job.{words_in, words_of, line_of, written, Entered, entered_by, refusal, left, beside, marking}
use Rattle.woolquern.proofs.Jobs.{ran_sound}
use Rattle.woolquern.proofs.Kept.{mark_length, marks_kept}

-- ---- the words of a text

-- an answer's words stand in front of a buffer
pub record WordsRead (count : ℕ) (buffer : List ℕ) (a : Answer (List ℕ)) : Type 0 where
  pub words : Gives (take count buffer) ≡ a
  pub room : count ≤ length buffer

-- so do words that were put there
put_read : (ws before : List ℕ) → WordsRead (length ws) (ws ++ drop (length ws) before) (Gives ws)
put_read ws before = record { words = ap Gives (take-append_seam ws (drop (length ws) before)); room = omega (arith, length-append ws (drop (length ws) before)) }

-- what a reading tells of the text: the words read, or the refusal
abbrev Heard : Answer ℕ → List ℕ → Answer (List ℕ) → Type 0
Heard (Gives count) buffer a = WordsRead count buffer a
Heard (Refuses number place) buffer a = Refuses number place ≡ a

hears : (text words : List ℕ) → 8192 ≤ length words → Heard (outcome text words).answer (outcome text words).buffer (words_of text)
hears text words room = go (ltb 65536 (length text)) (contents text Start)
  where
    fits : (ws : List ℕ) (b c : Bool) → ltb 8192 (length ws) ≡ b → ltb (length words) (length ws) ≡ c →
        Heard (cond b (texts.refused 2 0 words) (cond c (texts.refused 2 0 words) (texts.done ws words))).answer (cond b (texts.refused 2 0 words) (cond c (texts.refused 2 0 words) (texts.done ws words))).buffer (cond b (Refuses 2 0) (Gives ws))
    fits ws true c p q = refl
    fits ws false true p q = absurd (omega (arith, ltb-false 8192 (length ws) p, ltb-true (length words) (length ws) q))
    fits ws false false p q = put_read ws words

    go : (b : Bool) (x : Contents) → Heard (cond b (texts.refused 2 0 words) (settle words x)).answer (cond b (texts.refused 2 0 words) (settle words x)).buffer (cond b (Refuses 2 0) (words_in x))
    go true x = refl
    go false (breaks place) = refl
    go false (holds ws) = fits ws (ltb 8192 (length ws)) (ltb (length words) (length ws)) refl refl

-- what `read` answers, and leaves in the words, of which there are 8,192 at least
module _ (text before : List ℕ) (room : 8192 ≤ length before) {r : Result ℕ Refusal} {after : List ℕ} (e : leaves (answer_of r) after ≡ outcome text before) where
  heard : {q : Result ℕ Refusal} → r ≡ q → Heard (answer_of q) after (words_of text)
  heard is =
      subst (λ (q : Result ℕ Refusal). Heard (answer_of q) after (words_of text)) is
      (subst (λ (o : texts.Outcome). Heard o.answer o.buffer (words_of text)) (sym e) (hears text before room))

  pub read_refused : {number place : ℕ} → r ≡ Err (refusal_at number place) → Refuses number place ≡ words_of text
  read_refused is = heard is

  pub read_words : {count : ℕ} → r ≡ Ok count → WordsRead count after (words_of text)
  read_words is = heard is

-- what `pass` answers of a text that is not too long
module _ (text : List ℕ) (short : length text ≤ 65536) {r : Result ℕ Refusal} (e : r ≡ found (contents text Start)) where
  of_contents : words_in (contents text Start) ≡ words_of text
  of_contents = sym (rw (le-ltb 65536 (length text) short) refl)

  pub text_breaks : {place : ℕ} → r ≡ Err (refusal_at 1 place) → Refuses 1 place ≡ words_of text
  text_breaks {place} is = go (contents text Start) (sym is ∙ e) ∙ of_contents
    where
      go : (x : Contents) → Err (refusal_at 1 place) ≡ found x → Refuses 1 place ≡ words_in x
      go (holds ws) q = absurd cc
      go (breaks k) q = let same : refusal_at 1 place ≡ refusal_at 1 k = cc in ap (λ (r : Refusal). Refuses 1 r.place) same

  pub text_many : {count : ℕ} → r ≡ Ok count → 8192 < count → Refuses 2 0 ≡ words_of text
  text_many {count} is h = go (contents text Start) (sym is ∙ e) ∙ of_contents
    where
      go : (x : Contents) → Ok count ≡ found x → Refuses 2 0 ≡ words_in x
      go (holds ws) q = let same : count ≡ length ws = cc in rw (lt-ltb 8192 (length ws) (omega arith)) refl
      go (breaks k) q = absurd cc

  -- into so many words, where there is room for all
  pub text_words : {count : ℕ} (room : ℕ) {after : List ℕ} → r ≡ Ok count → room ≤ 8192 → count ≤ room → after ≡ stored 0 (numbers text Start) (replicate room 0) → WordsRead count after (words_of text)
  text_words {count} room {after} is few fits h = subst (WordsRead count after) of_contents (go (contents text Start) (sym is ∙ e) (λ f. h ∙ stored_put text (replicate room 0) f))
    where
      go : (x : Contents) → Ok count ≡ found x → (FitsIn x (length (replicate {A = ℕ} room 0)) → after ≡ put x (replicate room 0)) → WordsRead count after (words_in x)
      go (holds ws) q f =
          let same : count ≡ length ws = cc in
          rw (same, f (omega (arith, length-replicate {A = ℕ} room 0)), le-ltb 8192 (length ws) (omega arith)) (put_read ws (replicate room 0))
      go (breaks k) q f = absurd cc

pub text_over : (text : List ℕ) → 65536 < length text → Refuses 2 0 ≡ words_of text
text_over text h = sym (rw (lt-ltb 65536 (length text) h) refl)

-- ---- their answer

module _ {A : Type 0} (ws : List ℕ) (given : ℕ → Answer A) where
  -- what is given for as many variables as the words use, once they are checked with 64
  abbrev pub of_words : Answer A
  of_words = cond (ltb 8192 (length ws)) (Refuses 4 0) (as_answer (reader.program ws 64) (λ p. given (used p)))

  pub words_long : 8192 < length ws → Refuses 4 0 ≡ of_words
  words_long h = rw (lt-ltb 8192 (length ws) h) refl

  pub words_bad : {number place : ℕ} → length ws ≤ 8192 → Err (refusal_at number place) ≡ checked (reader.program ws 64) → Refuses number place ≡ of_words
  unfolding checked
  words_bad {number} {place} h e = rw (le-ltb 8192 (length ws) h) (go (reader.program ws 64) e)
    where
      told_by : Result ℕ Refusal → Answer A
      told_by (Ok n) = given n
      told_by (Err r) = Refuses r.number r.place

      go : (r : Reading Statements) → Err (refusal_at number place) ≡ checked r → Refuses number place ≡ as_answer r (λ p. given (used p))
      go (Read p i) q = let z : ◌≡◌ {A = ℕ} 0 1 = cc in absurd (omega arith)
      go (Bad k at) q = ap told_by q

  pub words_sound : {n : ℕ} → length ws ≤ 8192 → Ok n ≡ checked (reader.program ws 64) → given n ≡ of_words
  unfolding checked
  words_sound {n} h e = rw (le-ltb 8192 (length ws) h) (go (reader.program ws 64) e)
    where
      go : (r : Reading Statements) → Ok n ≡ checked r → given n ≡ as_answer r (λ p. given (used p))
      go (Bad k at) q = let z : ◌≡◌ {A = ℕ} 0 1 = cc in absurd (omega arith)
      go (Read p i) q = let same : n ≡ used p = cc in ap given same

pub ran_line : (ws : List ℕ) {n : ℕ} → length ws ≤ 8192 → Ok n ≡ checked (reader.program ws 64) → line n (answer_of (result_of (analysed ws n zeros 0))) ≡ line_of (ran ws)
ran_line ws {n} h e = go (analysed ws n zeros 0) ∙ ap line_of (sym (ran_sound ws h e))
  where
    go : (a : Answer State) → line n (answer_of (result_of a)) ≡ line_of (and_then a (λ s. Gives (record { n = n; state = s })))
    go (Gives s) = refl
    go (Refuses number place) = refl

-- ---- the number of bytes written

-- every line has a byte
some_body : (n : ℕ) (a : Answer State) → 0 < length (line n a)
some_body n a = omega (arith, length-append (body n a) (ascii "\n"))

pub some_byte : (a : Answer Outcome) → 0 < length (line_of a)
some_byte (Gives o) = some_body o.n (Gives o.state)
some_byte (Refuses number place) = some_body 0 (Refuses number place)

-- a printing of such a line
pub record Prints (out : List ℕ) (o : texts.Outcome) : Type 0 where
  pub bytes : List ℕ
  pub some : 0 < length bytes
  pub is : o ≡ printed bytes out

pub prints : (n : ℕ) (a : Answer State) (out : List ℕ) → Prints out (printed (line n a) out)
prints n a out = record { bytes = line n a; some = some_body n a; is = refl }

pub prints_answer : (a : Answer Outcome) (out : List ℕ) → Prints out (printed (line_of a) out)
prints_answer a out = record { bytes = line_of a; some = some_byte a; is = refl }

-- none written says that the buffer was too short
pub nothing_short : {out : List ℕ} (o : texts.Outcome) (r : Option ℕ) {after : List ℕ} → Prints out o → leaves (of_printed r) after ≡ o → written (of_printed r) ≡ 0 → r ≡ None
nothing_short o None p e none = refl
nothing_short {out} o (Some count) p e none = absurd (go (ltb (length out) (length p.bytes)) (ap (λ (o : texts.Outcome). o.answer) (e ∙ p.is)))
  where
    go : (b : Bool) → ◌≡◌ {A = Answer ℕ} (Gives count) (cond b (texts.refused 2 0 out) (texts.done p.bytes out)).answer → ⊥
    go true q = let z : ◌≡◌ {A = ℕ} 0 1 = cc in omega arith
    go false q = let z : count ≡ length p.bytes = cc in omega (arith, p.some)

-- ---- with the lists that were entered

-- the answer for n variables and the marks of so many words, with room for so many
abbrev pub found_in : Result Marked Refusal → ℕ → ℕ → ℕ → Answer Entered
found_in found n count room =
    and_then (answer_of found) (λ m.
    cond (ltb room count) (Refuses 2 0) (Gives (record { outcome = record { n = n; state = m.state }; marks = take count m.marks })))

-- what the job says of words that were answered
abbrev told : List ℕ → ℕ → Outcome → Answer Entered
told ws room o = cond (ltb room (length ws)) (Refuses 2 0) (Gives (record { outcome = o; marks = mark (answers.entered ws o.n zeros 0) (replicate (length ws) 0) }))

-- what is found for words is what the job says of them
pub found_words : (ws : List ℕ) {n : ℕ} (room : ℕ) → length ws ≤ 8192 → Ok n ≡ checked (reader.program ws 64) → found_in (marked ws n zeros 0) n (length ws) room ≡ entered_by ws room
found_words ws {n} room h e = go (analysed ws n zeros 0) ∙ ap (λ (a : Answer Outcome). and_then a (told ws room)) (sym (ran_sound ws h e))
  where
    go : (a : Answer State) →
        found_in (result_of (and_then a (λ s. Gives (record { state = s; marks = mark (answers.entered ws n zeros 0) (replicate 8192 0) })))) n (length ws) room ≡
        and_then (and_then a (λ s. Gives (record { n = n; state = s }))) (told ws room)
    go (Gives s) = ap (λ (m : List ℕ). cond (ltb room (length ws)) (Refuses 2 0) (Gives (record { outcome = record { n = n; state = s }; marks = m }))) (sym (marks_kept (answers.entered ws n zeros 0) (length ws) h))
    go (Refuses number place) = refl

-- there is a mark for each word
pub found_room : (ws : List ℕ) (n : ℕ) (cs : List Cell) (found : Marked) → length ws ≤ 8192 → Ok found ≡ marked ws n cs 0 → length ws ≤ length found.marks
found_room ws n cs found h e = go (analysed ws n cs 0) e
  where
    go : (a : Answer State) → Ok found ≡ result_of (and_then a (λ s. Gives (record { state = s; marks = mark (answers.entered ws n cs 0) (replicate 8192 0) }))) → length ws ≤ length found.marks
    go (Gives s) q =
        let is : ◌≡◌ {A = Marked} found (record { state = s; marks = mark (answers.entered ws n cs 0) (replicate 8192 0) }) = cc in
        let k : length found.marks ≡ 8192 = ap (λ (m : Marked). length m.marks) is ∙ mark_length (answers.entered ws n cs 0) (replicate 8192 0) in
        omega (arith, k)
    go (Refuses number place) q = absurd cc

-- words that are refused
pub entered_refused : (ws : List ℕ) (room : ℕ) {number place : ℕ} → ran ws ≡ Refuses number place → Refuses number place ≡ entered_by ws room
entered_refused ws room e = sym (ap (λ (a : Answer Outcome). and_then a (told ws room)) e)

module _ {found : Result Marked Refusal} (n count room : ℕ) where
  pub found_refused : {r : Refusal} → found ≡ Err r → Refuses r.number r.place ≡ found_in found n count room
  found_refused e = rw e refl

  pub found_more : {m : Marked} → found ≡ Ok m → room < count → Refuses 2 0 ≡ found_in found n count room
  found_more e h = rw (e, lt-ltb room count h) refl

-- what stands beside goes by how the printing ended
pub beside_by : (r : Option ℕ) (bytes buffer : List ℕ) {q : Option ℕ} → r ≡ q → beside (of_printed q) bytes buffer ≡ beside (of_printed r) bytes buffer
beside_by r bytes buffer is = sym (ap (λ (q : Option ℕ). beside (of_printed q) bytes buffer) is)

-- a refusal's line, and the marks as they were
pub refused_by : (marks out : List ℕ) (r : Option ℕ) {number place : ℕ} {a : Answer Entered} {rest : List ℕ} → Refuses number place ≡ a → leaves (of_printed r) rest ≡ printed (refusal number place) out → left (of_printed r) marks rest ≡ marking a marks out
refused_by marks out r is p = rw (← is, ← p) refl

-- the line of a state, and the marks beside it
pub kept_by : (found : Marked) (n count : ℕ) (marks after out : List ℕ) (r : Option ℕ) {rest : List ℕ} → count ≤ length marks →
    leaves (of_printed r) rest ≡ printed (line n (Gives found.state)) out → after ≡ beside (of_printed r) (take count found.marks) marks →
    left (of_printed r) after rest ≡ marking (found_in (Ok found) n count (length marks)) marks out
kept_by found n count marks after out r h p q = rw (le-ltb (length marks) count h, ← p, q) refl

-- whatever the answer, a line is printed
pub prints_marked : (a : Answer Entered) (marks out : List ℕ) → Prints out (marking a marks out).printing
prints_marked (Gives e) marks out = prints e.outcome.n (Gives e.outcome.state) out
prints_marked (Refuses number place) marks out = prints 0 (Refuses number place) out
