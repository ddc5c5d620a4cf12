-- What is left is the outcome, and so what the grammar says. The second pass finds what the first one did, and the words have room for it.
use Rattle.std.proofs.Common.{rules, arith}
use Rattle.text.proofs.Agree.{says_left}
use Rattle.text.proofs.Passes.{left_breaks, left_stored}
use Rattle.text.proofs.reader.read.Goals as goal

pub returns-in_err-count-clause-says : goal.returns-in_err-count-clause-says
returns-in_err-count-clause-says c = search (rules, says_left, left_breaks)

pub returns : goal.returns
returns c =
    let e = left_stored _ _ c.if-text-gt65536.false _ _ _ c.in_ok-count.ensures.value (omega arith) c.if-words-count.false c.pass-2.ensures.value c.pass-2.ensures.words_after in
    record { says = says_left _ _ _ e; what_is_left = e }
