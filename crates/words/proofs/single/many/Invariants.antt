-- What reads from the start on reads as what is read from here on.
use Rattle.std.proofs.Common.{◌≡◌, ◌-◌, List, [], ◌∷◌, ℕ}
use Rattle.paper.specs.Reader as reader
use Rattle.paper.specs.Reader.{Reading}
use Rattle.words.specs.Words.{after, Reads}
use Rattle.words.proofs.single.many.Given as goal

abbrev pub invariant-loop : goal.invariant-loop
invariant-loop g l =
    (read : ℕ → Reading ℕ)
    → Reads (goal.F-post g l.one) read
    → after {A = List ℕ} (reader.many [] ◌∷◌ read l.count l.at) ≡ after {A = List ℕ} (reader.many [] ◌∷◌ read (l.count - l.counter) l.next)
