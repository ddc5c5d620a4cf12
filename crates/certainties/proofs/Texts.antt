-- What `read`, `line` and the whole job answer, from the theorems of the crates that have them.
use mathlib.Core.Path.{◌≡◌, refl, sym, ap, ◌∙◌, subst}
use mathlib.Core.Bool.{Bool, true, false, cond}
use mathlib.Core.List.{List, ◌++◌}
use mathlib.Core.Logic.{inl, inr}
use Prim.Native.Nat.{ℕ, ◌≤◌, ◌<◌}
use native.Mathlib.Omega.{arith}
use native.Mathlib.Decide.{dec_le}
use lib.Dec.{ltb}
use lib.ListN.{length, drop}
use Rattle.std.specs.Prelude.{Some, None, Ok, Err}
use borrow.Author.Tests.{ltb-true, ltb-false, lt-ltb, le-ltb}
use Rattle.ranges.specs.declared.Range.{Range}
use Rattle.ranges.specs.Ranges as ranges
use Rattle.states.specs.declared.State.{State}
use Rattle.states.specs.Answers.{Answer, Gives, Refuses, and_then, outcome as result_of, answer_of, refusal}
use Rattle.states.specs.States as states
use Rattle.states.specs.Starts as starts
use Rattle.states.proofs.Fits.{blank_at}
use Rattle.states.proofs.Starts.{Begun, started_begun}
use Rattle.states.proofs.Sure.{sure_of}
use Rattle.paper.specs.Tree.{Statements}
use Rattle.paper.specs.Reader as reader
use Rattle.paper.specs.Runs.{Store, Holds}
use Rattle.paper.specs.Answers as answers
use Rattle.paper.specs.Places as places
use Rattle.paper.specs.Places.{Placed}
use Rattle.paper.proofs.Reading.{read_is_code}
use Rattle.paper.proofs.Places.{Among}
use Rattle.paper.proofs.Numbers.{Numbered, read, ended, bad, program_numbered}
use Rattle.paper.proofs.Within.{below}
use Rattle.paper.proofs.Ends.{Ends, gives, refuses, list_ends, analysed_place}
use Rattle.paper.proofs.Certain.{certain}
use Rattle.words.specs.Words.{checked}
use Rattle.analysis.proofs.Entries.{too_wide, let_in, analysed_unadmitted, analysed_bad, analysed_read}
use Rattle.text.specs.Answers as outcomes
use Rattle.text.specs.Answers.{Outcome, leaves, of_printed}
use Rattle.text.specs.Line as lines
use Rattle.text.specs.Says.{Says}
use Rattle.text.specs.Grammar.{Text}
use Rattle.text.specs.Machine.{Contents, contents, outcome}
use Rattle.text.specs.declared.reader.Mode.TheVariants.{Start}
use Rattle.text.proofs.Agree.{text_or_place, says, accepts, refuses as breaks_off}
use Rattle.text.proofs.Only as only
use Rattle.text.proofs.Only.{reading_once, printed_once}
use Rattle.woolquern.specs.Job as job
use Rattle.woolquern.proofs.Jobs.{ran_bad, ran_sound}
use Rattle.woolquern.proofs.Only as only_job
use Rattle.certainties.specs.Certainties as page_of
use Rattle.certainties.specs.Certainties.{One}
use Rattle.certainties.specs.Texts as page
use Rattle.certainties.specs.Texts.{Reading, Printed, Read, Line, Run, RunMarked, RunLoop, JobAnswer, TextAnswered, JobAnswered, TextCertain}
use Rattle.certainties.proofs.Certainties.{back, is_state, certainties}

read_answered : (text words : List ℕ) (r : Reading) (after : List ℕ) → Read text words r after → page.ReadAnswered text words r after
read_answered text words r after s = size (dec_le (length text) 65536)
  where
    of : (q : Reading) (x : List ℕ) → leaves (answer_of r) after ≡ leaves (answer_of q) x → page.ReadAnswered text words q x → page.ReadAnswered text words r after
    of q x e h = subst (λ (p : Reading). page.ReadAnswered text words p after) (sym (reading_once r q (ap (λ (o : Outcome). o.answer) e))) (subst (page.ReadAnswered text words q) (sym (ap (λ (o : Outcome). o.buffer) e)) h)

    fits : length text ≤ 65536 → (vs : List ℕ) → Text text vs → Dec (length vs ≤ 8192) → Dec (length vs ≤ length words) → page.ReadAnswered text words r after
    fits h vs t (yes a) (yes b) = of (Ok (length vs)) (vs ++ drop (length vs) words) (s.fits h vs t a b) (page.numbers t)
    fits h vs t (no a) b = of (Err (refusal 2 0)) words (s.many h vs t (inl (omega arith))) page.too_much
    fits h vs t (yes a) (no b) = of (Err (refusal 2 0)) words (s.many h vs t (inr (omega arith))) page.too_much

    size : Dec (length text ≤ 65536) → page.ReadAnswered text words r after
    size (no h) = of (Err (refusal 2 0)) words (s.long (omega arith)) page.too_much
    size (yes h) = elim (text_or_place text) [
      | inl t ↦ fits h t.0 t.1 (dec_le (length t.0) 8192) (dec_le (length t.0) (length words))
      | inr p ↦ of (Err (refusal 1 p.0)) words (s.broken h p.1 p.0 p.2) (page.no_text p.1 p.2)
    ]

-- what printing a line leaves
printed_answered : (line out : List ℕ) (r : Printed) (after : List ℕ) → leaves (of_printed r) after ≡ lines.printed line out → page.LineAnswered line out r after
printed_answered line out r after e = go (ltb (length out) (length line)) refl e
  where
    of : (q : Printed) (x : List ℕ) → leaves (of_printed r) after ≡ leaves (of_printed q) x → page.LineAnswered line out q x → page.LineAnswered line out r after
    of q x e h = subst (λ (p : Printed). page.LineAnswered line out p after) (sym (printed_once r q (ap (λ (o : Outcome). o.answer) e))) (subst (page.LineAnswered line out q) (sym (ap (λ (o : Outcome). o.buffer) e)) h)

    go : (b : Bool) → ltb (length out) (length line) ≡ b → leaves (of_printed r) after ≡ cond b (outcomes.refused 2 0 out) (outcomes.done line out) → page.LineAnswered line out r after
    go true q e = of None out e (page.short (ltb-true (length out) (length line) q))
    go false q e = of (Some (length line)) (line ++ drop (length line) out) e (page.written (ltb-false (length out) (length line) q))

read_one : (text words : List ℕ) → One (λ (x : Reading × List ℕ). Read text words x.0 x.1)
read_one text words =
    let o = outcome text words in
    let s : Read text words (result_of o.answer) o.buffer = subst (λ (a : Answer ℕ). Says text words (leaves a o.buffer)) (sym (back o.answer)) (says text words) in
    record {
      answer = (result_of o.answer, o.buffer);
      is = s;
      only = λ x t. let e = only.read text words x.0 (result_of o.answer) x.1 o.buffer t s in λ i. (e.0 i, e.1 i);
    }

-- a printing's answer as the code has it: it refuses by 2 at 0 alone
made : (line out : List ℕ) → (x : Printed × List ℕ) × (leaves (of_printed x.0) x.1 ≡ lines.printed line out)
made line out = go (ltb (length out) (length line))
  where
    go : (b : Bool) → (x : Printed × List ℕ) × (leaves (of_printed x.0) x.1 ≡ cond b (outcomes.refused 2 0 out) (outcomes.done line out))
    go true = ((None, out), refl)
    go false = ((Some (length line), (outcomes.done line out).buffer), refl)

line_one : (answer : page_of.Answer) (n : ℕ) (out : List ℕ) → One (λ (x : Printed × List ℕ). Line answer n out x.0 x.1)
line_one answer n out =
    let s = made (lines.line n (answer_of answer)) out in
    record {
      answer = s.0;
      is = s.1;
      only = λ x t. let e = only.line answer n out x.0 s.0.0 x.1 s.0.1 t s.1 in λ i. (e.0 i, e.1 i);
    }

-- ---- the answer to a text

-- by whether it is too long, and by what is found in it
abbrev answer_by : Bool → Contents → JobAnswer
answer_by long found = and_then (cond long (Refuses 2 0) (job.words_in found)) answers.ran

module _ (text : List ℕ) where
  short_text : length text ≤ 65536 → {c : Contents} → contents text Start ≡ c → job.answer text ≡ answer_by false c
  short_text h e = ap (λ (b : Bool). answer_by b (contents text Start)) (le-ltb 65536 (length text) h) ∙ ap (answer_by false) e

  -- what the grammar says is what the job says
  text_is : (a : JobAnswer) → TextAnswered text a → a ≡ job.answer text
  text_is a (page.too_long h) = sym (ap (λ (b : Bool). answer_by b (contents text Start)) (lt-ltb 65536 (length text) (omega arith)))
  text_is a (page.no_text {place = place} h none longest) = sym (short_text h ((breaks_off text place).1 (none, longest)))
  text_is a (page.too_many {vs = vs} h t many) = sym (short_text h ((accepts text vs).0 t) ∙ ap (λ (b : Bool). and_then (cond b (Refuses 2 0) (Gives vs)) answers.ran) (lt-ltb 8192 (length vs) many))
  text_is a (page.words {vs = vs} h t few) = sym (short_text h ((accepts text vs).0 t) ∙ ap (λ (b : Bool). and_then (cond b (Refuses 2 0) (Gives vs)) answers.ran) (le-ltb 8192 (length vs) few))

  text_answered : TextAnswered text (job.answer text)
  text_answered = size (dec_le (length text) 65536)
    where
      of : {a : JobAnswer} → TextAnswered text a → TextAnswered text (job.answer text)
      of {a} t = subst (TextAnswered text) (text_is a t) t

      count : length text ≤ 65536 → (vs : List ℕ) → Text text vs → Dec (length vs ≤ 8192) → TextAnswered text (job.answer text)
      count h vs t (yes few) = of (page.words h t few)
      count h vs t (no many) = of (page.too_many h t (omega arith))

      size : Dec (length text ≤ 65536) → TextAnswered text (job.answer text)
      size (no h) = of (page.too_long (omega arith))
      size (yes h) = elim (text_or_place text) [
        | inl t ↦ count h t.0 t.1 (dec_le (length t.0) 8192)
        | inr p ↦ of (page.no_text h p.1 p.2)
      ]

-- ---- what it is

-- a state for n variables, where every variable starts at [0,0]
abbrev for : ℕ → Answer State → JobAnswer
for n a = and_then a (λ s. Gives (record { n = n; state = s }))

module _ {text ws : List ℕ} (t : Text text ws) (n : ℕ) where
  refused : {number : ℕ} (place : ℕ) → answers.analysed ws n states.zeros 0 ≡ Refuses number place → 1 ≤ number → number ≤ 10 → (number ≡ 7 → ⊥) → JobAnswered text (for n (answers.analysed ws n states.zeros 0))
  refused {number} place e low high other = subst (λ (a : Answer State). JobAnswered text (for n a)) (sym e) (page.refusal number place low high other (page.among t (analysed_place ws n states.zeros 0 refl e)))

  by_the_rules : {first end : ℕ} (a : Answer State) → answers.analysed ws n states.zeros 0 ≡ a → Ends (Among first end) (Begun n) a → JobAnswered text (for n (answers.analysed ws n states.zeros 0))
  by_the_rules a e (gives {a = s} b) = subst (λ (a : Answer State). JobAnswered text (for n a)) (sym e) (page.state (is_state s b))
  by_the_rules a e (refuses k at r) = refused at e (omega (arith, r.low)) r.high (λ e. omega (arith, r.low))

  module _ (few : length ws ≤ 8192) (small : n ≤ 64) where
    abbrev start : State
    start = states.live (starts.first_cells n states.zeros)

    -- no zero has its start over its end
    admitted : answers.admitted ws n 0 states.zeros ≡ Gives start
    admitted = certainties.as_document_01_says.as_given (record { words = ws; n = n; start = record { cells = states.zeros }; unroll = 0; sixty_four = refl }) (record { words = few; variables = small; unroll = omega arith })
        (λ v h. (ap ranges.crossed (blank_at 64 v), ap ranges.is_empty (blank_at 64 v)))

    begun : Begun n start
    begun = sure_of (started_begun n states.zeros refl) (let_in ws n 0 states.zeros few small (omega arith) ∙ admitted)

    from_there : (m : reader.Reading Statements) → reader.program ws n ≡ m → Numbered (length ws) m → JobAnswered text (for n (answers.analysed ws n states.zeros 0))
    from_there m e ended = refused (length ws) (analysed_bad ws n 0 states.zeros admitted e) (omega arith) (omega arith) (λ e. omega arith)
    from_there m e (bad k {at} l h inside) = refused at (analysed_bad ws n 0 states.zeros admitted e) (omega arith) (omega arith) (λ e. omega arith)
    from_there m e (read {a = p} l) = by_the_rules _ (analysed_read ws n 0 states.zeros admitted e)
        (list_ends (record { n = n; unroll = 0 }) small p 1 start (below n (read_is_code ws n e).within) begun)

  zeros_answered : length ws ≤ 8192 → JobAnswered text (for n (answers.analysed ws n states.zeros 0))
  zeros_answered few = size (dec_le n 64)
    where
      size : Dec (n ≤ 64) → JobAnswered text (for n (answers.analysed ws n states.zeros 0))
      size (yes small) = from_there few small (reader.program ws n) refl (program_numbered ws n)
      size (no large) = refused 0 (analysed_unadmitted ws n 0 states.zeros (sym (too_wide ws n 0 states.zeros few (omega arith)))) (omega arith) (omega arith) (λ e. omega arith)

ran_answered : {text ws : List ℕ} → Text text ws → length ws ≤ 8192 → JobAnswered text (answers.ran ws)
unfolding checked
ran_answered {text} {ws} t few = go (reader.program ws 64) refl (program_numbered ws 64)
  where
    unread : {k at : ℕ} → answers.ran ws ≡ Refuses k at → 3 ≤ k → k ≤ 6 → Placed (length ws) 64 k at → JobAnswered text (answers.ran ws)
    unread {k} {at} e low high p = subst (JobAnswered text) (sym e) (page.refusal k at (omega arith) (omega arith) (λ e. omega arith) (page.among t p))

    go : (m : reader.Reading Statements) → reader.program ws 64 ≡ m → Numbered (length ws) m → JobAnswered text (answers.ran ws)
    go m e ended = unread (ran_bad ws few (sym (ap checked e))) (omega arith) (omega arith) places.short
    go m e (bad k {at} l h inside) = unread (ran_bad ws few (sym (ap checked e))) (omega arith) (omega arith) (places.word k at (omega arith) (omega arith) (λ e. omega arith) inside)
    go m e (read l) = subst (JobAnswered text) (sym (ran_sound ws few (sym (ap checked e)))) (zeros_answered t _ few)

job_answered : (text : List ℕ) (a : JobAnswer) → TextAnswered text a → JobAnswered text a
job_answered text a (page.too_long h) = page.refusal 2 0 (omega arith) (omega arith) (λ e. omega arith) page.too_much
job_answered text a (page.no_text {place = place} h none longest) = page.refusal 1 place (omega arith) (omega arith) (λ e. omega arith) (page.broken longest)
job_answered text a (page.too_many h t many) = page.refusal 2 0 (omega arith) (omega arith) (λ e. omega arith) page.too_much
job_answered text a (page.words {vs = vs} h t few) = ran_answered t few

-- ---- every run ends inside

zeros_hold : (n : ℕ) (σ : Store) → ((v : ℕ) → v < n → σ v ≡ 0) → Holds n (states.live states.zeros) σ
zeros_hold n σ zero = record { live = refl; each = λ v h. subst (λ (r : Range). ranges.holds r (σ v) ≡ true) (sym (blank_at 64 v)) (ap (ranges.holds (ranges.point 0)) (zero v h)) }

text_certain : (text : List ℕ) (o : answers.Outcome) → TextAnswered text (Gives o) → TextCertain text o
text_certain text o = go (Gives o) refl
  where
    never : {number place : ℕ} → ◌≡◌ {A = JobAnswer} (Refuses number place) (Gives o) → TextCertain text o
    never e = let z : ◌≡◌ {A = ℕ} 0 1 = cc in absurd (omega arith)

    go : (a : JobAnswer) → a ≡ Gives o → TextAnswered text a → TextCertain text o
    go a e (page.too_long h) = never e
    go a e (page.no_text h none longest) = never e
    go a e (page.too_many h t many) = never e
    go a e (page.words {vs = vs} h t few) =
        let c = certain.ran vs o e in
        record {
          numbers = vs;
          holds = t;
          program = c.program;
          ends_inside = λ σ τ zero run. c.covers σ τ (zeros_hold o.n σ zero) run;
          none_ends = λ empty σ τ zero run. c.none_ends (ap states.is_live empty) σ τ (zeros_hold o.n σ zero) run;
        }

-- ---- the line

run_one : (text out : List ℕ) → One (λ (x : Printed × List ℕ). Run text out x.0 x.1)
run_one text out =
    let s = made (job.line_of (job.answer text)) out in
    record {
      answer = s.0;
      is = s.1;
      only = λ x t. let e = only_job.run text out x.0 s.0.0 x.1 s.0.1 t s.1 in λ i. (e.0 i, e.1 i);
    }

-- the marks of a line that is printed, and of one that is not
run_marked_one : (text marks out : List ℕ) → One (λ (x : Printed × List ℕ × List ℕ). RunMarked text marks out x.0 x.1 x.2)
run_marked_one text marks out =
    let s = go (job.entered text (length marks)) in
    record {
      answer = s.0;
      is = s.1;
      only = λ x t. let e = only_job.run_marked text marks out x.0 s.0.0 x.1 s.0.1 x.2 s.0.2 t s.1 in λ i. (e.0 i, e.1 i, e.2 i);
    }
  where
    go : (a : Answer job.Entered) → (x : Printed × List ℕ × List ℕ) × (job.left (of_printed x.0) x.1 x.2 ≡ job.marking a marks out)
    go (Refuses number place) = let s = made (job.refusal number place) out in ((s.0.0, marks, s.0.1), ap (λ (o : Outcome). record { printing = o; marks = marks }) s.1)
    go (Gives e) =
        let s = made (job.line_of (Gives e.outcome)) out in
        ((s.0.0, job.beside (of_printed s.0.0) e.marks marks, s.0.1), ap (λ (o : Outcome). record { printing = o; marks = job.beside o.answer e.marks marks }) s.1)

-- and the counts and the settled state's line
run_loop_one : (text : List ℕ) (unroll : ℕ) (counts settled out : List ℕ) → One (λ (x : Printed × List ℕ × List ℕ × List ℕ). RunLoop text unroll counts settled out x.0 x.1 x.2 x.3)
run_loop_one text unroll counts settled out =
    let s = go (job.loop_in text unroll (length counts) (length settled)) in
    record {
      answer = s.0;
      is = s.1;
      only = λ x t. let e = only_job.run_loop text unroll counts settled out x.0 s.0.0 x.1 s.0.1 x.2 s.0.2 x.3 s.0.3 t s.1 in λ i. (e.0 i, e.1 i, e.2 i, e.3 i);
    }
  where
    go : (a : Answer job.Loop) → (x : Printed × List ℕ × List ℕ × List ℕ) × (job.all_left (of_printed x.0) x.1 x.2 x.3 ≡ job.looping a counts settled out)
    go (Refuses number place) = let s = made (job.refusal number place) out in ((s.0.0, counts, settled, s.0.1), ap (λ (o : Outcome). record { printing = o; counts = counts; settled = settled }) s.1)
    go (Gives l) =
        let s = made (lines.line l.n (Gives l.looped.exits)) out in (
          (s.0.0, job.beside (of_printed s.0.0) (job.counts_of l) counts, job.beside (of_printed s.0.0) (job.settled_line l) settled, s.0.1),
          ap (λ (o : Outcome). record { printing = o; counts = job.beside o.answer (job.counts_of l) counts; settled = job.beside o.answer (job.settled_line l) settled }) s.1,
        )

pub of_texts : page.OfTexts
of_texts = record {
  read = read_answered;
  line = λ answer n out. printed_answered (lines.line n (answer_of answer)) out;
  answer = λ text. record { answer = job.answer text; is = text_answered text; only = text_is text };
  answered = job_answered;
  run = λ text out r after a e t. printed_answered (job.line_of a) out r after (e ∙ ap (λ (a : JobAnswer). lines.printed (job.line_of a) out) (sym (text_is text a t)));
  certain = text_certain;
  one_read = read_one;
  one_line = line_one;
  one_run = run_one;
  one_run_marked = run_marked_one;
  one_run_loop = run_loop_one;
}
