-- The next statement stands where those before it end.
use Rattle.std.proofs.Common.{arith}
use Rattle.words.proofs.Parts.{begins_ends}
use Rattle.words.proofs.Held.{list_count, next_statement_at}
use Rattle.words.proofs.ends.+list_ends.Goals as goal

pub list_end-statement_end-next-requires : goal.list_end-statement_end-next-requires
list_end-statement_end-next-requires t c =
    let p = c.requires in
    let e = c.loop.invariant p.tree p.is in
    (omega (arith, begins_ends p.is (omega arith)), next_statement_at p (omega (arith, list_count p.tree p.is)) e)
