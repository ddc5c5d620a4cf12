-- What is read into the rest of a buffer stands behind what stood at its start.
use Rattle.std.proofs.Common.{◌≡◌, ◌∙◌, sym, ap, ℕ, ◌+◌, ◌≤◌, List, ◌++◌, Option, length, take}
use Rattle.std.proofs.Math.Seq.{take-append-add, length-take-le}
use Rattle.std.proofs.lemmas.List.{take-append-le}
use Rattle.std.proofs.KnownBytes.{Consumes-trans}
use Rattle.std.specs.Io.KnownBytes.{Consumes}
use borrow.Rule.Slice.PartMut.{put_mid, post_of}

taken_more : (done count k : ℕ) (old new : List ℕ) → done ≤ length old → count ≤ length new → take (done + count) (put_mid done k old new) ≡ take done old ++ take count new
taken_more done count k old new h few =
    let front : length (take done old) ≡ done = length-take-le done old h in
    ap (λ n. take (n + count) (put_mid done k old new)) (sym front) ∙ take-append-add (take done old) (new ++ post_of done k old) count ∙ ap (λ l. take done old ++ l) (take-append-le count new (post_of done k old) few)

pub taken : (was is then : Option (List ℕ)) (done count k : ℕ) (old new : List ℕ) → done ≤ length old → count ≤ length new → Consumes was is (take done old) → Consumes is then (take count new) →
    Consumes was then (take (done + count) (put_mid done k old new))
taken was is then done count k old new h few p q = rw (taken_more done count k old new h few) (Consumes-trans was is then (take done old) (take count new) p q)
