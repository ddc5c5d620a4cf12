-- One more is read, or refused.
use Rattle.std.proofs.Common.{◌≡◌, ℕ, ◌+◌, ◌-◌, ◌<◌, List, [], ◌∷◌, Ok, Err, arith, ◌∙◌, rules}
use Rattle.paper.specs.Reader.{Reading, many, and_read}
use Rattle.states.specs.declared.Refusal.{Refusal}
use Rattle.words.specs.Words.{after}
use Rattle.words.proofs.Readings.{one_less}
use Rattle.words.proofs.single.many.Goals as goal

goes_on : (one : ℕ → Reading ℕ) (count i p next : ℕ) → i < count → Ok next ≡ after (one p) → after {A = List ℕ} (many [] ◌∷◌ one (count - i) p) ≡ after {A = List ℕ} (many [] ◌∷◌ one (count - (i + 1)) next)
unfolding after and_read many
goes_on one count i p next h e = grind (arith, one_less)

stops : (one : ℕ → Reading ℕ) (count i p : ℕ) (r : Refusal) → i < count → Err r ≡ after (one p) → after {A = List ℕ} (many [] ◌∷◌ one (count - i) p) ≡ Err r
unfolding after and_read many
stops one count i p r h e = grind (arith, one_less)

pub returns-in_err-next : goal.returns-in_err-next
returns-in_err-next g c = λ read reads.
    let e = c.loop.invariant read reads ∙ stops _ _ _ _ _ c.loop-test.true (reads _ _ c.in_err-next.ensures) in
    search rules

pub loop-preserved : goal.loop-preserved
loop-preserved g c = λ read reads.
    c.loop.invariant read reads ∙ goes_on _ _ _ _ _ c.loop-test.true (reads _ _ c.in_ok-next.ensures)
